-- The characters that are kept, of all that a map has.
use Rattle.std.proofs.Common.{◌≡◌, refl, sym, ap, subst, ◌∙◌, inl, inr, ℕ, zero, suc, ◌+◌, ◌<◌, ◌≤◌, List, [], ◌∷◌, ◌++◌, length, drop, get_or, append_assoc, append-nil, arith, Bool, true, false}
use Rattle.std.specs.Prelude.{◌⊎◌, ◌||◌, Result, Ok, Err, IfOk, OnOk, Vec}
use Rattle.std.specs.List.{All}
use Rattle.std.proofs.lemmas.List.Elements.{All-head, All-tail}
use Rattle.std.specs.declared.alloc.Global.{Global}
use Rattle.std.proofs.lemmas.Bool.{cases_eq, cases_lt}
use Rattle.std.proofs.lemmas.List.{at_drop_all, at_drop_more, get_or_default}
use Rattle.postscript_sfnt.specs.Maps.{AreAll, IsNext, Maps}
use Rattle.postscript_sfnt.specs.declared.character_map.CharacterMap.{CharacterMap}
use Rattle.postscript_sfnt_write.specs.Mappings.{CharsRise, IsMapping}
use Rattle.postscript_sfnt_write.specs.declared.mapping.Mapping.{Mapping}
use Rattle.postscript_files.specs.Choices.{AreKeptPairs, AreMarks, HasGlyph, filtered, keeps, kept_if}
use Rattle.postscript_files.specs.declared.choice.Choice.{Choice}
use Rattle.postscript_files.specs.declared.error.Error.{Error}
use Rattle.postscript_files.proofs.OneGlyph.{one-glyph}

-- the mapping of a pair, if it is kept, and those of later pairs
abbrev Begun : Bool → (ℕ × ℕ) → List Mapping → List Mapping
Begun kept pair rest = kept_if kept pair ++ rest

bounded-step : (kept : Bool) (pair : ℕ × ℕ) (rest : List Mapping) (from : ℕ) → from ≤ pair.0 →
    ((i : ℕ) (m : Mapping) → IsMapping rest i m → pair.0 + 1 ≤ m.char) →
    (i : ℕ) (m : Mapping) → IsMapping (Begun kept pair rest) i m → from ≤ m.char
bounded-step true pair rest from low ih zero m h = let e : pair.0 ≡ m.char = cc in omega (arith, e)
bounded-step true pair rest from low ih (suc i) m h = let p = ih i m h in omega (arith, p)
bounded-step false pair rest from low ih i m h = let p = ih i m h in omega (arith, p)

bounded : (map : CharacterMap) (chars glyphs : List Bool) (from : ℕ) (xs : List (ℕ × ℕ)) → AreAll map from xs →
    (i : ℕ) (m : Mapping) → IsMapping (filtered chars glyphs xs) i m → from ≤ m.char
unfolding filtered
bounded map chars glyphs from [] all i m h = absurd (cc)
bounded map chars glyphs from (x ∷ xs) all i m h =
    bounded-step (keeps chars glyphs x) x (filtered chars glyphs xs) from all.0.behind
    (bounded map chars glyphs (x.0 + 1) xs all.1) i m h

rise-step : (kept : Bool) (pair : ℕ × ℕ) (rest : List Mapping) →
    ((i : ℕ) (m : Mapping) → IsMapping rest i m → pair.0 + 1 ≤ m.char) → CharsRise rest → CharsRise (Begun kept pair rest)
rise-step true pair rest low ih zero zero a b less x y = absurd (omega (arith, less))
rise-step true pair rest low ih (suc i) zero a b less x y = absurd (omega (arith, less))
rise-step true pair rest low ih zero (suc j) a b less x y =
    let e : pair.0 ≡ a.char = cc in let p = low j b y in omega (arith, e, p)
rise-step true pair rest low ih (suc i) (suc j) a b less x y = ih i j a b (omega (arith, less)) x y
rise-step false pair rest low ih i j a b less x y = ih i j a b less x y

rises : (map : CharacterMap) (chars glyphs : List Bool) (from : ℕ) (xs : List (ℕ × ℕ)) → AreAll map from xs →
    CharsRise (filtered chars glyphs xs)
unfolding filtered
rises map chars glyphs from [] all = λ i j a b less x y. absurd (cc)
rises map chars glyphs from (x ∷ xs) all =
    rise-step (keeps chars glyphs x) x (filtered chars glyphs xs)
    (bounded map chars glyphs (x.0 + 1) xs all.1) (rises map chars glyphs (x.0 + 1) xs all.1)

-- a mapping is of a pair of the list that is kept
record IsOfPair (map : CharacterMap) (chars glyphs : List Bool) (m : Mapping) : Type 0 where
  has : HasGlyph map m.char m.glyph
  kept : keeps chars glyphs (m.char, m.glyph) ≡ true

of-pair-step : (map : CharacterMap) (chars glyphs : List Bool) (kept : Bool) (pair : ℕ × ℕ) (rest : List Mapping) →
    keeps chars glyphs pair ≡ kept → HasGlyph map pair.0 pair.1 →
    ((i : ℕ) (m : Mapping) → IsMapping rest i m → IsOfPair map chars glyphs m) →
    (i : ℕ) (m : Mapping) → IsMapping (Begun kept pair rest) i m → IsOfPair map chars glyphs m
of-pair-step map chars glyphs true pair rest is has ih zero m h =
    let same : record { char = pair.0; glyph = pair.1 } ≡ m = cc in
    subst (λ (n : Mapping). IsOfPair map chars glyphs n) same (record { has = has; kept = is })
of-pair-step map chars glyphs true pair rest is has ih (suc i) m h = ih i m h
of-pair-step map chars glyphs false pair rest is has ih i m h = ih i m h

has-here : (map : CharacterMap) (from : ℕ) (x : ℕ × ℕ) → IsNext map from x.0 x.1 → HasGlyph map x.0 x.1
has-here map from x next = record { unicode = next.within; maps = next.maps; some = next.mapped }

of-pairs : (map : CharacterMap) (chars glyphs : List Bool) (from : ℕ) (xs : List (ℕ × ℕ)) → AreAll map from xs →
    (i : ℕ) (m : Mapping) → IsMapping (filtered chars glyphs xs) i m → IsOfPair map chars glyphs m
unfolding filtered
of-pairs map chars glyphs from [] all i m h = absurd (cc)
of-pairs map chars glyphs from (x ∷ xs) all i m h =
    of-pair-step map chars glyphs (keeps chars glyphs x) x (filtered chars glyphs xs) refl (has-here map from x all.0)
    (of-pairs map chars glyphs (x.0 + 1) xs all.1) i m h

-- a mapping of a character with its glyph is there
abbrev IsThere : List Mapping → (char glyph : ℕ) → Type 0
IsThere rest char glyph = (i : ℕ) × (pair : Mapping) × IsMapping rest i pair × (pair.char ≡ char) × (pair.glyph ≡ glyph)

there-more : (kept : Bool) (pair : ℕ × ℕ) (rest : List Mapping) (char glyph : ℕ) → IsThere rest char glyph →
    IsThere (Begun kept pair rest) char glyph
there-more true pair rest char glyph h = (suc h.0, h.1, h.2, h.3, h.4)
there-more false pair rest char glyph h = h

there-here : (kept : Bool) (pair : ℕ × ℕ) (rest : List Mapping) (char glyph : ℕ) → kept ≡ true → pair.0 ≡ char → pair.1 ≡ glyph →
    IsThere (Begun kept pair rest) char glyph
there-here true pair rest char glyph kept a b = (zero, record { char = pair.0; glyph = pair.1 }, refl, a, b)
there-here false pair rest char glyph kept a b = absurd (cc)

lacking : (map : CharacterMap) (char glyph : ℕ) → Maps map char 0 → HasGlyph map char glyph → ⊥
lacking map char glyph none has = let e = one-glyph map char glyph 0 has.maps none in omega (arith, e, has.some)

all-there : (map : CharacterMap) (chars glyphs : List Bool) (from : ℕ) (xs : List (ℕ × ℕ)) → AreAll map from xs →
    (char glyph : ℕ) → from ≤ char → HasGlyph map char glyph → keeps chars glyphs (char, glyph) ≡ true →
    IsThere (filtered chars glyphs xs) char glyph
unfolding filtered
all-there map chars glyphs from [] all char glyph low has kept =
    absurd (lacking map char glyph (all char low has.unicode) has)
all-there map chars glyphs from (x ∷ xs) all char glyph low has kept = elim (cases_lt char x.0) [
  | inl less ↦ absurd (lacking map char glyph (all.0.before char low less) has)
  | inr more ↦ elim (cases_eq x.0 char) [
    | inl same ↦
        let maps : Maps map char x.1 = subst (λ c. Maps map c x.1) same all.0.maps in
        let glyphs-same : x.1 ≡ glyph = one-glyph map char x.1 glyph maps has.maps in
        let is : keeps chars glyphs x ≡ true = cc in
        there-here (keeps chars glyphs x) x (filtered chars glyphs xs) char glyph is same glyphs-same
    | inr other ↦ there-more (keeps chars glyphs x) x (filtered chars glyphs xs) char glyph
        (all-there map chars glyphs (x.0 + 1) xs all.1 char glyph (omega (arith, more, other)) has kept)
  ]
]

-- the glyphs of a map have two bytes if those of the list do
low-glyph : (map : CharacterMap) (from : ℕ) (xs : List (ℕ × ℕ)) → AreAll map from xs → All (λ p. p.1 < 65536) xs →
    (char glyph : ℕ) → from ≤ char → HasGlyph map char glyph → glyph < 65536
low-glyph map from [] all low char glyph at has = absurd (lacking map char glyph (all char at has.unicode) has)
low-glyph map from (x ∷ xs) all low char glyph at has = elim (cases_lt char x.0) [
  | inl less ↦ absurd (lacking map char glyph (all.0.before char at less) has)
  | inr more ↦ elim (cases_eq x.0 char) [
    | inl same ↦
        let maps : Maps map char x.1 = subst (λ c. Maps map c x.1) same all.0.maps in
        let e : x.1 ≡ glyph = one-glyph map char x.1 glyph maps has.maps in
        let p : x.1 < 65536 = All-head (λ (q : ℕ × ℕ). q.1 < 65536) x xs low in omega (arith, e, p)
    | inr other ↦ low-glyph map (x.0 + 1) xs all.1 (All-tail (λ (q : ℕ × ℕ). q.1 < 65536) x xs low) char glyph
        (omega (arith, more, other)) has
  ]
]

either : (a b : Bool) → (a || b) ≡ true → (a ≡ true) ⊎ (b ≡ true)
either true b h = inl refl
either false b h = inr h

pub left-set : (a b : Bool) → a ≡ true → (a || b) ≡ true
left-set true b h = refl
left-set false b h = absurd (cc)

pub right-set : (a b : Bool) → b ≡ true → (a || b) ≡ true
right-set true b h = refl
right-set false b h = h

pub are-kept : (choice : Choice) (map : CharacterMap) (chars glyphs : List Bool) (xs : List (ℕ × ℕ)) →
    AreMarks choice.chars.now 0x110000 chars → AreMarks choice.glyphs.now 0x10000 glyphs → AreAll map 0 xs →
    All (λ p. p.1 < 65536) xs → AreKeptPairs choice map (filtered chars glyphs xs)
are-kept choice map chars glyphs xs of-chars of-glyphs all low = record {
  rise = rises map chars glyphs 0 xs all;
  each = λ i pair h.
      let it = of-pairs map chars glyphs 0 xs all i pair h in
      record {
        has = it.has;
        asked = elim (either (get_or chars pair.char false) (get_or glyphs pair.glyph false) it.kept) [
          | inl set ↦ inl (of-chars.sound pair.char set)
          | inr set ↦ inr (of-glyphs.sound pair.glyph set)
        ];
      };
  all = λ char glyph h.
      all-there map chars glyphs 0 xs all char glyph (omega arith) h.has (elim h.asked [
        | inl asked ↦ left-set (get_or chars char false) (get_or glyphs glyph false) (of-chars.all char h.has.unicode asked)
        | inr asked ↦ right-set (get_or chars char false) (get_or glyphs glyph false)
            (of-glyphs.all glyph (low-glyph map 0 xs all low char glyph (omega arith) h.has) asked)
      ]);
}

-- one more of a list
pub filtered-step : (chars glyphs : List Bool) (all : List (ℕ × ℕ)) (i : ℕ) (d : ℕ × ℕ) (pairs more : List Mapping) (kept : Bool) →
    i < length all → kept ≡ keeps chars glyphs (get_or all i d) → more ≡ pairs ++ kept_if kept (get_or all i d) →
    pairs ++ filtered chars glyphs (drop i all) ≡ filtered chars glyphs all →
    more ++ filtered chars glyphs (drop (i + 1) all) ≡ filtered chars glyphs all
unfolding filtered
filtered-step chars glyphs all i d pairs more kept there is pushed before =
    let x : ℕ × ℕ = get_or all i d in
    let rest : List Mapping = filtered chars glyphs (drop (i + 1) all) in
    let step = at_drop_more (filtered chars glyphs) all i d there in
    ap (λ ms. ms ++ filtered chars glyphs (drop (i + 1) all)) pushed
    ∙ append_assoc pairs (kept_if kept (get_or all i d)) (filtered chars glyphs (drop (i + 1) all))
    ∙ ap (λ b. pairs ++ (kept_if b (get_or all i d) ++ filtered chars glyphs (drop (i + 1) all))) is
    ∙ ap (λ ms. pairs ++ ms) (sym step) ∙ before

pub filtered-end : (chars glyphs : List Bool) (all : List (ℕ × ℕ)) (i : ℕ) (pairs : List Mapping) → length all ≤ i →
    pairs ++ filtered chars glyphs (drop i all) ≡ filtered chars glyphs all → pairs ≡ filtered chars glyphs all
unfolding filtered
filtered-end chars glyphs all i pairs past before =
    sym (append-nil pairs) ∙ ap (λ ms. pairs ++ ms) (sym (at_drop_all (filtered chars glyphs) all i past)) ∙ before

pub low-step : (all : List (ℕ × ℕ)) (i : ℕ) (d : ℕ × ℕ) → i < length all → (get_or all i d).1 < 65536 →
    ((k : ℕ) (e : ℕ × ℕ) → k < i → (get_or all k e).1 < 65536) → (k : ℕ) (e : ℕ × ℕ) → k < i + 1 → (get_or all k e).1 < 65536
low-step all i d there low before k e below = elim (cases_eq k i) [
  | inl same ↦
      let p : get_or all k e ≡ get_or all i d = ap (λ j. get_or all j e) same ∙ get_or_default all i e d there in
      let q : (get_or all k e).1 ≡ (get_or all i d).1 = ap (λ (z : ℕ × ℕ). z.1) p in omega (arith, q, low)
  | inr other ↦ before k e (omega (arith, below, other))
]

pub kept-so : (r : Result (Vec Mapping Global) Error) (choice : Choice) (map : CharacterMap) (chars glyphs cs gs : List Bool)
    (xs all : List (ℕ × ℕ)) → cs ≡ chars → gs ≡ glyphs → all ≡ xs →
    AreMarks choice.chars.now 0x110000 chars → AreMarks choice.glyphs.now 0x10000 glyphs → AreAll map 0 xs →
    IfOk r (λ pairs. pairs.items ≡ filtered cs gs all) → OnOk r (All (λ p. p.1 < 65536) all) →
    IfOk r (λ pairs. AreKeptPairs choice map pairs.items)
kept-so (Ok pairs) choice map chars glyphs cs gs xs all a b c of-chars of-glyphs every is low =
    let e : pairs.items ≡ filtered chars glyphs xs =
    is ∙ ap (λ zs. filtered zs gs all) a ∙ ap (λ zs. filtered chars zs all) b ∙ ap (filtered chars glyphs) c in
    subst (λ (ms : List Mapping). AreKeptPairs choice map ms) (sym e) (are-kept choice map chars glyphs xs of-chars of-glyphs every
    (subst (λ (zs : List (ℕ × ℕ)). All (λ p. p.1 < 65536) zs) c low))
kept-so (Err e) choice map chars glyphs cs gs xs all a b c of-chars of-glyphs every is low = tt
