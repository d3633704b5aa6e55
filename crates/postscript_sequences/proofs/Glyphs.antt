-- The sequences in the parts of a table are those of the table.
use Rattle.std.proofs.Common.{◌≡◌, ◌⊎◌, ℕ, zero, suc, ◌<◌, ◌≤◌, List, [], ◌∷◌, ◌++◌, length, append-nil, drop, map, flat_map, inl, inr, arith, refl, sym, ap, subst, ◌∙◌}
use Rattle.std.specs.Prelude.{◌↔◌}
use Rattle.std.specs.List.{Contains}
use Rattle.std.proofs.lemmas.Bool.{cases_lt}
use Rattle.std.proofs.lemmas.List.{at_drop_all}
use Rattle.std.proofs.lemmas.List.Elements.{Contains-append_cases, Contains-append_left, Contains-append_right, Contains-push, Contains-push_cases}
use Rattle.postscript_sequences.specs.Parts.{AreParts, AreSaid, Counts, IsPart, default, glyph, neither, no_part, nothing, part, skipped}
use Rattle.postscript_sequences.specs.Sequences.{HasDefault, HasGlyph, IsGlyphOf, IsRecord}
use Rattle.postscript_sequences.specs.Tables.{glyph_at, other_at, records_of, selector_at}
use Rattle.postscript_sequences.specs.declared.parts.Part.{Part}
use Rattle.postscript_sequences.proofs.Finding.{same_mapping}

pub none_there : {X : Type 0} (x : X) → Contains [] x → ⊥
none_there x h = let less = h.1 in absurd (omega (arith, less))

same_glyph : (table : List ℕ) (i char g h : ℕ) → HasGlyph table i char g → HasGlyph table i char h → g ≡ h
same_glyph table i char g h a b =
    sym a.is ∙ ap (λ k. glyph_at table (other_at table i) k) (same_mapping table (other_at table i) char a.k b.k a.mapping b.mapping) ∙ b.is

-- the default sequences of a record
pub default_there : (table : List ℕ) (i : ℕ) (cs ds : List ℕ) (ms : List (ℕ × ℕ)) → AreSaid table i cs ds ms → (char : ℕ) →
    Contains ds char → Contains cs char × HasDefault table i char
default_there table i _ _ _ nothing char h = absurd (none_there char h)
default_there table i _ _ _ (default cs ds ms c said has) char h = elim (Contains-push_cases ds c char h) [
  | inl old ↦ let w = default_there table i cs ds ms said char old in (Contains-append_left cs (c ∷ []) char w.0, w.1)
  | inr is ↦ (subst (λ x. Contains (cs ++ c ∷ []) x) is (Contains-push cs c), subst (λ x. HasDefault table i x) is has)
]
default_there table i _ _ _ (glyph cs ds ms c g said has) char h =
    let w = default_there table i cs ds ms said char h in (Contains-append_left cs (c ∷ []) char w.0, w.1)
default_there table i _ _ _ (neither cs ds ms c said none) char h =
    let w = default_there table i cs ds ms said char h in (Contains-append_left cs (c ∷ []) char w.0, w.1)

pub there_default : (table : List ℕ) (i : ℕ) (cs ds : List ℕ) (ms : List (ℕ × ℕ)) → AreSaid table i cs ds ms → (char : ℕ) →
    Contains cs char → HasDefault table i char → Contains ds char
there_default table i _ _ _ nothing char h has = absurd (none_there char h)
there_default table i _ _ _ (default cs ds ms c said _) char h has = elim (Contains-push_cases cs c char h) [
  | inl old ↦ Contains-append_left ds (c ∷ []) char (there_default table i cs ds ms said char old has)
  | inr is ↦ subst (λ x. Contains (ds ++ c ∷ []) x) is (Contains-push ds c)
]
there_default table i _ _ _ (glyph cs ds ms c g said own) char h has = elim (Contains-push_cases cs c char h) [
  | inl old ↦ there_default table i cs ds ms said char old has
  | inr is ↦ absurd (own.not_default (subst (λ x. HasDefault table i x) (sym is) has))
]
there_default table i _ _ _ (neither cs ds ms c said none) char h has = elim (Contains-push_cases cs c char h) [
  | inl old ↦ there_default table i cs ds ms said char old has
  | inr is ↦ absurd (none.0 (subst (λ x. HasDefault table i x) (sym is) has))
]

-- the other sequences of a record, with their glyphs
pub glyph_there : (table : List ℕ) (i : ℕ) (cs ds : List ℕ) (ms : List (ℕ × ℕ)) → AreSaid table i cs ds ms → (each : ℕ × ℕ) →
    Contains ms each → Contains cs each.0 × HasGlyph table i each.0 each.1
glyph_there table i _ _ _ nothing each h = absurd (none_there each h)
glyph_there table i _ _ _ (default cs ds ms c said has) each h =
    let w = glyph_there table i cs ds ms said each h in (Contains-append_left cs (c ∷ []) each.0 w.0, w.1)
glyph_there table i _ _ _ (glyph cs ds ms c g said own) each h = elim (Contains-push_cases ms (c, g) each h) [
  | inl old ↦ let w = glyph_there table i cs ds ms said each old in (Contains-append_left cs (c ∷ []) each.0 w.0, w.1)
  | inr is ↦ subst (λ (x : ℕ × ℕ). Contains (cs ++ c ∷ []) x.0 × HasGlyph table i x.0 x.1) is (Contains-push cs c, own)
]
glyph_there table i _ _ _ (neither cs ds ms c said none) each h =
    let w = glyph_there table i cs ds ms said each h in (Contains-append_left cs (c ∷ []) each.0 w.0, w.1)

pub there_glyph : (table : List ℕ) (i : ℕ) (cs ds : List ℕ) (ms : List (ℕ × ℕ)) → AreSaid table i cs ds ms → (char g : ℕ) →
    Contains cs char → HasGlyph table i char g → Contains ms (char, g)
there_glyph table i _ _ _ nothing char g h has = absurd (none_there char h)
there_glyph table i _ _ _ (default cs ds ms c said own) char g h has = elim (Contains-push_cases cs c char h) [
  | inl old ↦ there_glyph table i cs ds ms said char g old has
  | inr is ↦ absurd (has.not_default (subst (λ x. HasDefault table i x) is own))
]
there_glyph table i _ _ _ (glyph cs ds ms c g' said own) char g h has = elim (Contains-push_cases cs c char h) [
  | inl old ↦ Contains-append_left ms ((c, g') ∷ []) (char, g) (there_glyph table i cs ds ms said char g old has)
  | inr is ↦
      let here : HasGlyph table i char g' = subst (λ x. HasGlyph table i x g') is own in
      let same : (c, g') ≡ (char, g) = ap (λ x. (x, g')) is ∙ ap (λ x. (char, x)) (same_glyph table i char g' g here has) in
      subst (λ (x : ℕ × ℕ). Contains (ms ++ (c, g') ∷ []) x) same (Contains-push ms (c, g'))
]
there_glyph table i _ _ _ (neither cs ds ms c said none) char g h has = elim (Contains-push_cases cs c char h) [
  | inl old ↦ there_glyph table i cs ds ms said char g old has
  | inr is ↦ absurd (none.1 g (subst (λ x. HasGlyph table i x g) (sym is) has))
]

-- the record of a part
pub part_there : (table chars : List ℕ) (count : ℕ) (parts : List Part) → AreParts table chars count parts → (one : Part) →
    Contains parts one → (i : ℕ) × (i < count) × Counts table i × IsPart table i chars one
part_there table chars _ _ no_part one h = absurd (none_there one h)
part_there table chars _ _ (part count parts last are counts is) one h = elim (Contains-push_cases parts last one h) [
  | inl old ↦ let w = part_there table chars count parts are one old in (w.0, let less = w.1 in omega (arith, less), w.2, w.3)
  | inr same ↦ (count, omega arith, counts, subst (λ (x : Part). IsPart table count chars x) same is)
]
part_there table chars _ _ (skipped count parts are none) one h =
    let w = part_there table chars count parts are one h in (w.0, let less = w.1 in omega (arith, less), w.2, w.3)

-- the part of a record
pub there_part : (table chars : List ℕ) (count : ℕ) (parts : List Part) → AreParts table chars count parts → (i : ℕ) → i < count →
    Counts table i → (one : Part) × Contains parts one × IsPart table i chars one
there_part table chars _ _ no_part i less counts = absurd (omega (arith, less))
there_part table chars _ _ (part count parts last are _ is) i less counts = elim (cases_lt i count) [
  | inl before ↦ let w = there_part table chars count parts are i before counts in
      (w.0, Contains-append_left parts (last ∷ []) w.0 w.1, w.2)
  | inr from ↦ let same : count ≡ i = omega (arith, from, less) in
      (last, Contains-push parts last, subst (λ k. IsPart table k chars last) same is)
]
there_part table chars _ _ (skipped count parts are none) i less counts = elim (cases_lt i count) [
  | inl before ↦ there_part table chars count parts are i before counts
  | inr from ↦ let same : i ≡ count = omega (arith, from, less) in absurd (none (subst (λ k. Counts table k) same counts))
]

-- the record of a selector is one that counts
pub record_counts : (table : List ℕ) (selector i : ℕ) → IsRecord table selector i → Counts table i
record_counts table selector i is = λ k less. let low = is.before k less in let same = is.is in omega (arith, low, same)

pub counts_record : (table : List ℕ) (selector i : ℕ) → i < records_of table → Counts table i → selector_at table i ≡ selector →
    IsRecord table selector i
counts_record table selector i less counts is = record {
  listed = less;
  is = is;
  before = λ k below. let low = counts k below in omega (arith, low, is);
}

-- elements of lists that are made of others
cons_first : {X : Type 0} (y : X) (ys : List X) (x : X) → y ≡ x → Contains (y ∷ ys) x
cons_first y ys x is = (0, omega arith, is)

cons_later : {X : Type 0} (y : X) (ys : List X) (x : X) → Contains ys x → Contains (y ∷ ys) x
cons_later y ys x h = (suc h.0, let less = h.1 in omega (arith, less), h.2)

cons_cases : {X : Type 0} (y : X) (ys : List X) (x : X) → Contains (y ∷ ys) x → (y ≡ x) ⊎ Contains ys x
cons_cases y ys x (zero, less, is) = inl is
cons_cases y ys x (suc k, less, is) = inr (k, omega (arith, less), is)

pub there_map : (xs : List (ℕ × ℕ)) (x : ℕ × ℕ) → Contains xs x → Contains (map (λ each. each.1) xs) x.1
there_map [] x h = absurd (none_there x h)
there_map (y ∷ ys) x h = elim (cons_cases y ys x h) [
  | inl is ↦ cons_first y.1 (map (λ each. each.1) ys) x.1 (ap (λ each. each.1) is)
  | inr later ↦ cons_later y.1 (map (λ each. each.1) ys) x.1 (there_map ys x later)
]

pub map_there : (xs : List (ℕ × ℕ)) (g : ℕ) → Contains (map (λ each. each.1) xs) g → (x : ℕ × ℕ) × Contains xs x × (x.1 ≡ g)
map_there [] g h = absurd (none_there g h)
map_there (y ∷ ys) g h = elim (cons_cases y.1 (map (λ each. each.1) ys) g h) [
  | inl is ↦ (y, cons_first y ys y refl, is)
  | inr later ↦ let w = map_there ys g later in (w.0, cons_later y ys w.0 w.1, w.2)
]

pub there_flat : (f : Part → List ℕ) (xs : List Part) (x : Part) (y : ℕ) → Contains xs x → Contains (f x) y → Contains (flat_map f xs) y
there_flat f [] x y h t = absurd (none_there x h)
there_flat f (z ∷ zs) x y h t = elim (cons_cases z zs x h) [
  | inl is ↦ Contains-append_left (f z) (flat_map f zs) y (subst (λ (w : Part). Contains (f w) y) (sym is) t)
  | inr later ↦ Contains-append_right (f z) (flat_map f zs) y (there_flat f zs x y later t)
]

pub flat_there : (f : Part → List ℕ) (xs : List Part) (y : ℕ) → Contains (flat_map f xs) y → (x : Part) × Contains xs x × Contains (f x) y
flat_there f [] y h = absurd (none_there y h)
flat_there f (z ∷ zs) y h = elim (Contains-append_cases (f z) (flat_map f zs) y h) [
  | inl here ↦ (z, cons_first z zs z refl, here)
  | inr later ↦ let w = flat_there f zs y later in (w.0, cons_later z zs w.0 w.1, w.2)
]

-- the glyphs of the sequences of a part
abbrev pub glyphs_in : Part → List ℕ
glyphs_in one = map (λ each. each.1) one.mapped.items

-- the glyphs of all parts are those of sequences of the characters
pub glyphs_are : (table chars : List ℕ) (parts : List Part) (glyphs : List ℕ) → AreParts table chars (records_of table) parts →
    glyphs ≡ flat_map glyphs_in parts → (g : ℕ) → Contains glyphs g ↔ IsGlyphOf table chars g
glyphs_are table chars parts glyphs are is g = (
  λ h.
      let flat = flat_there glyphs_in parts g (subst (λ xs. Contains xs g) is h) in
      let own = part_there table chars (records_of table) parts are flat.0 flat.1 in
      let each = map_there flat.0.mapped.items g flat.2 in
      let has = glyph_there table own.0 chars flat.0.defaults.items flat.0.mapped.items own.3.said each.0 each.1 in (
        each.0.0,
        selector_at table own.0,
        has.0,
        (
          own.0,
          counts_record table (selector_at table own.0) own.0 own.1 own.2 refl,
          subst (λ x. HasGlyph table own.0 each.0.0 x) each.2 has.1,
        ),
      ),
  λ h.
      let mapped = h.3 in
      let own = there_part table chars (records_of table) parts are mapped.0 mapped.1.listed (record_counts table h.1 mapped.0 mapped.1) in
      let has = there_glyph table mapped.0 chars own.0.defaults.items own.0.mapped.items own.2.said h.0 g h.2 mapped.2 in
      subst (λ xs. Contains xs g) (sym is)
      (there_flat glyphs_in parts own.0 g own.1 (there_map own.0.mapped.items (h.0, g) has)),
)

-- after the last part the glyphs are those of all parts
pub all_done : (glyphs : List ℕ) (index : ℕ) (items parts : List Part) →
    glyphs ++ flat_map glyphs_in (drop index items) ≡ flat_map glyphs_in items → length items ≤ index → items ≡ parts →
    glyphs ≡ flat_map glyphs_in parts
all_done glyphs index items parts so_far past same =
    let none : flat_map glyphs_in (drop index items) ≡ [] = at_drop_all (flat_map glyphs_in) items index past in
    sym (append-nil glyphs) ∙ ap (λ xs. glyphs ++ xs) (sym none) ∙ so_far ∙ ap (flat_map glyphs_in) same
