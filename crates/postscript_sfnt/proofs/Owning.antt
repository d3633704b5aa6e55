-- The owners of characters, and the links over those that are held.
use Rattle.std.proofs.Common.{◌≡◌, ◌≢◌, sym, subst, inl, inr, ℕ, ◌+◌, ◌<◌, ◌≤◌, List, length, get_or, set, arith}
use Rattle.std.proofs.lemmas.List.{get_or-set_same, get_or-set_other, length-set}
use Rattle.std.proofs.lemmas.Bool.{cases_eq, cases_lt}
use Rattle.postscript_sfnt.specs.CharacterMap.{Holds, IsFirst, IsGlyphOf}
use Rattle.postscript_sfnt.proofs.Searching.{glyph_there, lost}
use Rattle.postscript_sfnt.specs.Owners.{IsHeld, IsOwner, AreOwners, IsHeldTo, AreLinks, AreOf, IsChain, IsFree}

-- what holds of each place of a list in which one is changed
at_set : (P : ℕ → Type 0) (xs : List ℕ) (i v j : ℕ) → i < length xs → (j ≡ i → P v) → ((j ≡ i → ⊥) → P (get_or xs j 0)) →
    P (get_or (set xs i v) j 0)
at_set P xs i v j below here there = elim (cases_eq j i) [
  | inl same ↦ subst (λ k. P (get_or (set xs i v) k 0)) (sym same) (subst P (sym (get_or-set_same xs i v 0 below)) (here same))
  | inr other ↦ subst P (sym (get_or-set_other xs i j v 0 other)) (there other)
]

-- links of each number to itself
pub identity_chain : (links : List ℕ) → length links ≡ 0x110001 → ((k : ℕ) → k < 0x110001 → get_or links k 0 ≡ k) → IsChain links
identity_chain links all each = record {
  all = all;
  onward = λ char up. omega (arith, each char (omega (arith, up)));
  within = λ char up. omega (arith, up, each char (omega (arith, up)));
}

pub identity_links : (links : List ℕ) → length links ≡ 0x110001 → ((k : ℕ) → k < 0x110001 → get_or links k 0 ≡ k) → (first last : ℕ → ℕ) →
    AreLinks first last 0 0 links
identity_links links all each first last = record {
  over = λ char k up behind below. absurd (omega (arith, behind, below, each char (omega (arith, up))));
  free = λ char there _ held. elim held [ inl h ↦ absurd (omega (arith, h.1.listed)) | inr h ↦ absurd (omega (arith, h.2)) ];
}

pub no_owners : (owners : List ℕ) → length owners ≡ 0x110000 → ((k : ℕ) → k < 0x110000 → get_or owners k 0 ≡ 4294967295) →
    (first last : ℕ → ℕ) → AreOwners first last 0 owners
no_owners owners all each first last = record {
  all = all;
  each = λ char there. inr (each char there, λ held. omega (arith, held.1.listed));
}

-- a link that is made to lead as far as the one at its end
pub halved_chain : (links : List ℕ) (char next v : ℕ) → IsChain links → char ≤ 0x110000 → next ≡ get_or links char 0 →
    v ≡ get_or links next 0 → IsChain (set links char v)
halved_chain links char next v chain up is value =
    let onward = chain.onward char up in
    let within = chain.within char up in
    let further = chain.onward next (omega (arith, is, within)) in
    let most = chain.within next (omega (arith, is, within)) in
    let there : char < length links = omega (arith, up, chain.all) in
    record {
      all = subst (λ n. n ≡ 0x110001) (sym (length-set links char v)) chain.all;
      onward = λ k below. at_set (λ n. k ≤ n) links char v k there (λ same. omega (arith, same, onward, is, further, value))
          (λ _. chain.onward k below);
      within = λ k below. at_set (λ n. n ≤ 0x110000) links char v k there (λ same. omega (arith, most, value)) (λ _. chain.within k below);
    }

pub halved_links : (links : List ℕ) (char next v : ℕ) → IsChain links → char ≤ 0x110000 → next ≡ get_or links char 0 →
    v ≡ get_or links next 0 → next ≢ char → (first last : ℕ → ℕ) (count to : ℕ)
    → AreLinks first last count to links → AreLinks first last count to (set links char v)
halved_links links char next v chain up is value other first last count to are =
    let onward = chain.onward char up in
    let within = chain.within char up in
    let small : next ≤ 0x110000 = omega (arith, is, within) in
    let further = chain.onward next small in
    let there : char < length links = omega (arith, up, chain.all) in
    record {
      over = λ k j below behind. at_set (λ n. j < n → IsHeldTo first last count to j) links char v k there
          (λ same less. elim (cases_lt j next) [
            | inl before ↦ are.over char j up (omega (arith, behind, same)) (omega (arith, before, is))
            | inr past ↦ are.over next j small past (omega (arith, less, value))
          ])
          (λ _ less. are.over k j below behind less);
      free = λ k below. at_set (λ n. n ≡ k → IsHeldTo first last count to k → ⊥) links char v k there
          (λ same equal _. omega (arith, same, equal, value, further, onward, is, other))
          (λ _ equal. are.free k below equal);
    }

-- the owner of a character that a segment more does not hold
skipped_owner : (first last : ℕ → ℕ) (i char owner : ℕ) → (first i ≤ char → char ≤ last i → ⊥) → IsOwner first last i char owner →
    IsOwner first last (i + 1) char owner
skipped_owner first last i char owner outside (inl is) = inl (record {
  holds = record { listed = omega (arith, is.holds.listed); from = is.holds.from; to = is.holds.to };
  before = λ k below held. is.before k below (record { listed = omega (arith, below, is.holds.listed); from = held.from; to = held.to });
})
skipped_owner first last i char owner outside (inr is) = inr (
  is.0,
  λ held. elim (cases_eq held.0 i) [
    | inl same ↦ outside (subst (λ n. first n ≤ char) same held.1.from) (subst (λ n. char ≤ last n) same held.1.to)
    | inr other ↦ is.1 (held.0, record { listed = omega (arith, other, held.1.listed); from = held.1.from; to = held.1.to })
  ],
)

-- the owner of one that is held
held_owner : (first last : ℕ → ℕ) (i char owner : ℕ) → IsHeld first last i char → IsOwner first last i char owner →
    IsOwner first last (i + 1) char owner
held_owner first last i char owner held (inl is) = inl (record {
  holds = record { listed = omega (arith, is.holds.listed); from = is.holds.from; to = is.holds.to };
  before = λ k below h. is.before k below (record { listed = omega (arith, below, is.holds.listed); from = h.from; to = h.to });
})
held_owner first last i char owner held (inr is) = absurd (is.1 held)

-- the owner of one that is not, and that the segment holds
new_owner : (first last : ℕ → ℕ) (i char : ℕ) → (IsHeld first last i char → ⊥) → first i ≤ char → char ≤ last i →
    IsOwner first last (i + 1) char i
new_owner first last i char none from to = inl (record {
  holds = record { listed = omega arith; from = from; to = to };
  before = λ k below h. none (k, record { listed = below; from = h.from; to = h.to });
})

-- How far a segment has its characters: up to one, which no segment before holds.
pub record IsPainted (first last : ℕ → ℕ) (i char : ℕ) (owners links : List ℕ) : Type 0 where
  pub within : char ≤ 0x110000
  pub from : char < 0x110000 → first i ≤ char
  pub all : length owners ≡ 0x110000
  pub done : (k : ℕ) → k < 0x110000 → k < char → IsOwner first last (i + 1) k (get_or owners k 0)
  pub left : (k : ℕ) → k < 0x110000 → char ≤ k → IsOwner first last i k (get_or owners k 0)
  pub chain : IsChain links
  pub linked : AreLinks first last i char links
  pub free : char < 0x110000 → IsHeld first last i char → ⊥

not_yet : (first last : ℕ → ℕ) (i to char : ℕ) → to ≤ char → IsHeldTo first last i to char → IsHeld first last i char
not_yet first last i to char behind (inl held) = held
not_yet first last i to char behind (inr h) = absurd (omega (arith, behind, h.2))

-- links that hold as far as one character do so as far as a later one, where those between them are held or not the segment's
onward_links : (first last : ℕ → ℕ) (i a b : ℕ) (links : List ℕ) → a ≤ b →
    ((k : ℕ) → a ≤ k → k < b → first i ≤ k → k ≤ last i → IsHeldTo first last i a k) → AreLinks first last i a links →
    AreLinks first last i b links
onward_links first last i a b links up between are = record {
  over = λ char k below behind less. elim
      (are.over char k below behind less) [ inl h ↦ inl h | inr h ↦ inr (h.0, h.1, omega (arith, h.2, up)) ];
  free = λ char below same held. are.free char below same (elim held [
    | inl h ↦ inl h
    | inr h ↦ elim (cases_lt char a) [ inl before ↦ inr (h.0, h.1, before) | inr past ↦ between char past h.2 h.0 h.1 ]
  ]);
}

-- the next character that is free
pub painted_on : (first last : ℕ → ℕ) (i a from char : ℕ) (owners links new : List ℕ) → a ≤ from → char ≤ 0x110000 →
    (from < 0x110000 → first i ≤ from)
    → length owners ≡ 0x110000 → ((k : ℕ) → k < 0x110000 → k < from → IsOwner first last (i + 1) k
    (get_or owners k 0)) → ((k : ℕ) → k < 0x110000 → from ≤ k → IsOwner first last i k (get_or owners k 0))
    → ((k : ℕ) → a ≤ k → k < from → first i ≤ k → k ≤ last i → IsHeldTo first last i a k)
    → IsChain new → AreLinks first last i a new → IsFree first last i a from char → IsPainted first last i char owners new
painted_on first last i a from char owners links new near within begins all done left between chain are free = record {
  within = within;
  from = λ there. omega (arith, begins, free.behind, there);
  all = all;
  done = λ k below before. elim (cases_lt k from) [
    | inl b ↦ done k below b
    | inr past ↦ held_owner first last i k (get_or owners k 0)
        (not_yet first last i a k (omega (arith, near, past)) (free.over k past before)) (left k below past)
  ];
  left = λ k below behind. left k below (omega (arith, behind, free.behind));
  chain = chain;
  linked = onward_links first last i a char new (omega (arith, near, free.behind))
      (λ k up below low high. elim (cases_lt k from) [ inl b ↦ between k up b low high | inr past ↦ free.over k past below ]) are;
  free = λ there held. free.none there (inl held);
}

-- at first
pub painted_first : (first last : ℕ → ℕ) (i from char : ℕ) (owners links new : List ℕ) → char ≤ 0x110000 → from ≤ first i →
    (from < 0x110000 → from ≡ first i) → (0x110000 ≤ from → 0x110000 ≤ first i)
    → AreOwners first last i owners → IsChain new → AreLinks first last i 0 new → IsFree first last i 0 from char → IsPainted first last i
    char owners new
painted_first first last i from char owners links new within low same past are chain linked free =
    painted_on first last i 0 from char owners links new (omega arith) within (λ there. omega (arith, same there)) are.all
    (λ k below before. skipped_owner first last i k (get_or owners k 0) (λ begins _. omega (arith, begins, before, low)) (are.each k below))
    (λ k below _. are.each k below)
    (λ k _ below begins _. absurd (omega (arith, begins, below, low)))
    chain linked free

-- one character more
set_links : (first last : ℕ → ℕ) (i char v : ℕ) (links : List ℕ) → IsChain links → char < 0x110000 → first i ≤ char → char ≤ last i →
    v ≡ char + 1 → AreLinks first last i char links → AreLinks first last i (char + 1) (set links char v)
set_links first last i char v links chain there from to value are =
    let inside : char < length links = omega (arith, there, chain.all) in
    record {
      over = λ k j below behind. at_set (λ n. j < n → IsHeldTo first last i (char + 1) j) links char v k inside
          (λ same less. let here : char ≡ j = omega (arith, same, less, value, behind) in
          subst (λ n. IsHeldTo first last i (char + 1) n) here (inr (from, to, omega arith)))
          (λ _ less. elim (are.over k j below behind less) [ inl h ↦ inl h | inr h ↦ inr (h.0, h.1, omega (arith, h.2)) ]);
      free = λ k below. at_set (λ n. n ≡ k → IsHeldTo first last i (char + 1) k → ⊥) links char v k inside
          (λ same equal _. omega (arith, same, equal, value))
          (λ other equal held. are.free k below equal (elim held [ inl h ↦ inl h | inr h ↦ inr (h.0, h.1, omega (arith, h.2, other)) ]));
    }

pub set_chain : (char v : ℕ) (links : List ℕ) → IsChain links → char < 0x110000 → v ≡ char + 1 → IsChain (set links char v)
set_chain char v links chain there value =
    let inside : char < length links = omega (arith, there, chain.all) in
    record {
      all = subst (λ n. n ≡ 0x110001) (sym (length-set links char v)) chain.all;
      onward = λ k below. at_set (λ n. k ≤ n) links char v k inside (λ same. omega (arith, same, value)) (λ _. chain.onward k below);
      within = λ k below. at_set (λ n. n ≤ 0x110000) links char v k inside (λ same. omega (arith, value, there))
          (λ _. chain.within k below);
    }

pub set_links_here : (first last : ℕ → ℕ) (i char v : ℕ) (owners links : List ℕ) → IsPainted first last i char owners links →
    char < 0x110000 → char ≤ last i → v ≡ char + 1 → AreLinks first last i (char + 1) (set links char v)
set_links_here first last i char v owners links is there to value =
    set_links first last i char v links is.chain there (is.from there) to value is.linked

pub painted_more : (first last : ℕ → ℕ) (i char v next : ℕ) (owners links new : List ℕ) → IsPainted first last i char owners links →
    char < 0x110000 → char ≤ last i → v ≡ i → next ≤ 0x110000
    → IsChain new → AreLinks first last i (char + 1) new → IsFree first last i (char + 1) (char + 1) next → IsPainted first last i next
    (set owners char v) new
painted_more first last i char v next owners links new is there to value within chain are free =
    let from = is.from there in
    let inside : char < length owners = omega (arith, there, is.all) in
    painted_on first last i (char + 1) (char + 1) next (set owners char v) links new (omega arith) within (λ _. omega (arith, from))
    (subst (λ n. n ≡ 0x110000) (sym (length-set owners char v)) is.all)
    (λ k below before. at_set (λ n. IsOwner first last (i + 1) k n) owners char v k inside
    (λ same. subst (λ n. IsOwner first last (i + 1) n v) (sym same)
    (subst (λ n. IsOwner first last (i + 1) char n) (sym value) (new_owner first last i char (is.free there) from to)))
    (λ other. is.done k below (omega (arith, before, other))))
    (λ k below behind. at_set (λ n. IsOwner first last i k n) owners char v k inside (λ same. absurd (omega (arith, same, behind)))
    (λ _. is.left k below (omega (arith, behind))))
    (λ k up below _ _. absurd (omega (arith, up, below)))
    chain are free

-- at last
pub painted_owners : (first last : ℕ → ℕ) (i char : ℕ) (owners links : List ℕ) → IsPainted first last i char owners links →
    (char < 0x110000 → last i < char) → AreOwners first last (i + 1) owners
painted_owners first last i char owners links is past = record {
  all = is.all;
  each = λ k below. elim (cases_lt k char) [
    | inl before ↦ is.done k below before
    | inr behind ↦ skipped_owner first last i k (get_or owners k 0)
        (λ _ to. omega (arith, to, behind, below, past (omega (arith, behind, below)))) (is.left k below behind)
  ];
}

pub painted_links : (first last : ℕ → ℕ) (i char : ℕ) (owners links : List ℕ) → IsPainted first last i char owners links →
    (char < 0x110000 → last i < char) → AreLinks first last (i + 1) 0 links
painted_links first last i char owners links is past = record {
  over = λ k j below behind less. elim (is.linked.over k j below behind less) [
    | inl h ↦ inl (h.0, record { listed = omega (arith, h.1.listed); from = h.1.from; to = h.1.to })
    | inr h ↦ inl (i, record { listed = omega arith; from = h.0; to = h.1 })
  ];
  free = λ k below same held. is.linked.free k below same (elim held [
    | inl h ↦ elim (cases_eq h.0 i) [
      | inl equal ↦ inr (
        subst (λ n. first n ≤ k) equal h.1.from,
        subst (λ n. k ≤ last n) equal h.1.to,
        within k below (subst (λ n. k ≤ last n) equal h.1.to),
      )
      | inr other ↦ inl (h.0, record { listed = omega (arith, other, h.1.listed); from = h.1.from; to = h.1.to })
    ]
    | inr h ↦ absurd (omega (arith, h.2))
  ]);
} where
  within : (k : ℕ) → k < 0x110000 → k ≤ last i → k < char
  within k below to =
      elim (cases_lt k char) [ inl before ↦ before | inr behind ↦ absurd (omega (arith, to, behind, past (omega (arith, behind, below)))) ]

-- the same of segments that are listed
listed_holds : (first last : ℕ → ℕ) (firsts lasts : List ℕ) (count i char : ℕ) → AreOf first count firsts → AreOf last count lasts →
    Holds (λ k. get_or firsts k 0) (λ k. get_or lasts k 0) count i char → Holds first last count i char
listed_holds first last firsts lasts count i char a b held = record {
  listed = held.listed;
  from = omega (arith, held.from, a.each i held.listed);
  to = omega (arith, held.to, b.each i held.listed);
}

told_holds : (first last : ℕ → ℕ) (firsts lasts : List ℕ) (count i char : ℕ) → AreOf first count firsts → AreOf last count lasts →
    Holds first last count i char → Holds (λ k. get_or firsts k 0) (λ k. get_or lasts k 0) count i char
told_holds first last firsts lasts count i char a b held = record {
  listed = held.listed;
  from = omega (arith, held.from, a.each i held.listed);
  to = omega (arith, held.to, b.each i held.listed);
}

listed_owner : (first last : ℕ → ℕ) (firsts lasts : List ℕ) (count char owner : ℕ) → AreOf first count firsts → AreOf last count lasts →
    IsOwner (λ k. get_or firsts k 0) (λ k. get_or lasts k 0) count char owner → IsOwner first last count char owner
listed_owner first last firsts lasts count char owner a b (inl is) = inl (record {
  holds = listed_holds first last firsts lasts count owner char a b is.holds;
  before = λ k below held. is.before k below (told_holds first last firsts lasts count k char a b held);
})
listed_owner first last firsts lasts count char owner a b (inr is) =
    inr (is.0, λ held. is.1 (held.0, told_holds first last firsts lasts count held.0 char a b held.1))

pub listed_owners : (first last : ℕ → ℕ) (firsts lasts xs ys owners : List ℕ) (count : ℕ) → xs ≡ firsts → ys ≡ lasts →
    AreOf first count firsts → AreOf last count lasts → AreOwners (λ k. get_or xs k 0) (λ k. get_or ys k 0) (length xs) owners →
    AreOwners first last count owners
listed_owners first last firsts lasts xs ys owners count is_firsts is_lasts a b are =
    let all : length xs ≡ count = subst (λ (zs : List ℕ). length zs ≡ count) (sym is_firsts) a.all in
    let a' : AreOf first count xs = subst (λ (zs : List ℕ). AreOf first count zs) (sym is_firsts) a in
    let b' : AreOf last count ys = subst (λ (zs : List ℕ). AreOf last count zs) (sym is_lasts) b in
    record {
      all = are.all;
      each = λ char there. listed_owner first last xs ys count char (get_or owners char 0) a' b'
          (subst (λ k. IsOwner (λ j. get_or xs j 0) (λ j. get_or ys j 0) k char (get_or owners char 0)) all (are.each char there));
    }

-- an owner that is one of the segments is the first that holds the character
pub owner_first : (first last : ℕ → ℕ) (count char owner : ℕ) → count < 4294967296 → owner < count → IsOwner first last count char owner →
    IsFirst first last count char owner
owner_first first last count char owner small listed (inl is) = is
owner_first first last count char owner small listed (inr is) = absurd (omega (arith, small, listed, is.0))

pub owned_glyph : (first last : ℕ → ℕ) (gives : (i char : ℕ) → ℕ) (count char owner : ℕ) → count < 4294967296 → owner < count →
    IsOwner first last count char owner → IsGlyphOf first last gives count char (gives owner char)
owned_glyph first last gives count char owner small listed is =
    glyph_there first last gives count char owner (owner_first first last count char owner small listed is)

pub no_glyph : (first last : ℕ → ℕ) (gives : (i char : ℕ) → ℕ) (count char owner : ℕ) → count ≤ owner →
    IsOwner first last count char owner → IsGlyphOf first last gives count char 0
no_glyph first last gives count char owner past (inl is) = absurd (omega (arith, past, is.holds.listed))
no_glyph first last gives count char owner past (inr is) = lost first last gives count char (λ i held. is.1 (i, held))
