-- Parts under new numbers, and their records.
use Rattle.std.proofs.Common.{◌≡◌, ◌⊎◌, ℕ, ◌<◌, List, [], ◌∷◌, ◌++◌, length, length-append, get_or, arith, refl, sym, ap, subst, ◌∙◌, inl, inr}
use Rattle.std.specs.Prelude.{None, Some}
use Rattle.std.specs.List.{Contains}
use Rattle.std.proofs.lemmas.Bool.{cases_lt}
use Rattle.std.proofs.lemmas.List.{get_or_append_left, get_or_at}
use Rattle.std.proofs.lemmas.List.Elements.{Contains-append_left, Contains-push, Contains-push_cases}
use Rattle.postscript_sequences.specs.Keeping.{AreKept, AreRenumbered, IsEmpty, IsRenumbered}
use Rattle.postscript_sequences.specs.Keeping as keeping
use Rattle.postscript_sequences.specs.Numbers.{new_number}
use Rattle.postscript_sequences.specs.Parts.{AreParts, AreSaid, Counts, IsPart}
use Rattle.postscript_sequences.specs.Parts as parts
use Rattle.postscript_sequences.specs.Rows.{AreRows, IsRowOf, no_row, row}
use Rattle.postscript_sequences.specs.declared.parts.Part.{Part}
use Rattle.postscript_sequences.specs.declared.writing.Row.{Row}
use Rattle.postscript_sequences.proofs.Glyphs.{default_there, glyph_there, none_there, part_there}
use Rattle.postscript_sequences.proofs.Rising.{Rises, rises_front, rises_last, rises_none, rises_push}

-- mappings under new numbers
pub renumbered_there : (glyphs : List ℕ) (old new : List (ℕ × ℕ)) → AreRenumbered glyphs old new → (each : ℕ × ℕ) → Contains new each →
    (glyph : ℕ) × Contains old (each.0, glyph) × (new_number glyphs glyph ≡ Some each.1)
renumbered_there glyphs _ _ keeping.nothing each h = absurd (none_there each h)
renumbered_there glyphs _ _ (keeping.kept old new char glyph number are is) each h = elim (Contains-push_cases new (char, number) each h) [
  | inl before ↦ let w = renumbered_there glyphs old new are each before in
      (w.0, Contains-append_left old ((char, glyph) ∷ []) (each.0, w.0) w.1, w.2)
  | inr same ↦ (
    glyph,
    subst (λ (x : ℕ × ℕ). Contains (old ++ (char, glyph) ∷ []) (x.0, glyph)) same (Contains-push old (char, glyph)),
    subst (λ (x : ℕ × ℕ). new_number glyphs glyph ≡ Some x.1) same is,
  )
]
renumbered_there glyphs _ _ (keeping.dropped old new char glyph are is) each h =
    let w = renumbered_there glyphs old new are each h in (w.0, Contains-append_left old ((char, glyph) ∷ []) (each.0, w.0) w.1, w.2)

some_same : (a b : ℕ) → Some a ≡ Some b → a ≡ b
some_same a b e = cc

none_some : (b : ℕ) → None ≡ Some b → ⊥
none_some b e = cc

pub there_renumbered : (glyphs : List ℕ) (old new : List (ℕ × ℕ)) → AreRenumbered glyphs old new → (char glyph number : ℕ) →
    Contains old (char, glyph) → new_number glyphs glyph ≡ Some number → Contains new (char, number)
there_renumbered glyphs _ _ keeping.nothing char glyph number h e = absurd (none_there (char, glyph) h)
there_renumbered glyphs _ _ (keeping.kept old new c g n are is) char glyph number h e = elim (Contains-push_cases old (c, g) (char, glyph) h) [
  | inl before ↦ Contains-append_left new ((c, n) ∷ []) (char, number) (there_renumbered glyphs old new are char glyph number before e)
  | inr same ↦
      let a : c ≡ char = ap (λ (x : ℕ × ℕ). x.0) same in
      let b : g ≡ glyph = ap (λ (x : ℕ × ℕ). x.1) same in
      let f : n ≡ number = some_same n number (sym is ∙ ap (new_number glyphs) b ∙ e) in
      let all : (c, n) ≡ (char, number) = ap (λ x. (x, n)) a ∙ ap (λ x. (char, x)) f in
      subst (λ (x : ℕ × ℕ). Contains (new ++ (c, n) ∷ []) x) all (Contains-push new (c, n))
]
there_renumbered glyphs _ _ (keeping.dropped old new c g are is) char glyph number h e = elim (Contains-push_cases old (c, g) (char, glyph) h) [
  | inl before ↦ there_renumbered glyphs old new are char glyph number before e
  | inr same ↦ absurd (none_some number (sym is ∙ ap (new_number glyphs) (ap (λ (x : ℕ × ℕ). x.1) same) ∙ e))
]

pub renumbered_rises : (glyphs : List ℕ) (old new : List (ℕ × ℕ)) → AreRenumbered glyphs old new → Rises (λ each. each.0) old →
    Rises (λ each. each.0) new
renumbered_rises glyphs _ _ keeping.nothing h = rises_none (λ each. each.0)
renumbered_rises glyphs _ _ (keeping.kept old new c g n are is) h =
    rises_push (λ each. each.0) new (c, n)
    (renumbered_rises glyphs old new are (rises_front (λ each. each.0) old (c, g) h))
    (λ each there. let w = renumbered_there glyphs old new are each there in
    rises_last (λ each. each.0) old (c, g) h (each.0, w.0) w.1)
renumbered_rises glyphs _ _ (keeping.dropped old new c g are is) h =
    renumbered_rises glyphs old new are (rises_front (λ each. each.0) old (c, g) h)

-- kept parts
pub kept_there : (glyphs : List ℕ) (old new : List Part) → AreKept glyphs old new → (own : Part) → Contains new own →
    (one : Part) × Contains old one × IsRenumbered glyphs one own
kept_there glyphs _ _ keeping.nothing own h = absurd (none_there own h)
kept_there glyphs _ _ (keeping.kept old new one last are is some) own h = elim (Contains-push_cases new last own h) [
  | inl before ↦ let w = kept_there glyphs old new are own before in (w.0, Contains-append_left old (one ∷ []) w.0 w.1, w.2)
  | inr same ↦ (one, Contains-push old one, subst (λ (x : Part). IsRenumbered glyphs one x) same is)
]
kept_there glyphs _ _ (keeping.dropped old new one last are is none) own h =
    let w = kept_there glyphs old new are own h in (w.0, Contains-append_left old (one ∷ []) w.0 w.1, w.2)

-- each kept part has sequences
pub kept_some : (glyphs : List ℕ) (old new : List Part) → AreKept glyphs old new → (own : Part) → Contains new own → IsEmpty own → ⊥
kept_some glyphs _ _ keeping.nothing own h none = none_there own h
kept_some glyphs _ _ (keeping.kept old new one last are is some) own h none = elim (Contains-push_cases new last own h) [
  | inl before ↦ kept_some glyphs old new are own before none
  | inr same ↦ some (subst (λ (x : Part). IsEmpty x) (sym same) none)
]
kept_some glyphs _ _ (keeping.dropped old new one last are is empty) own h none = kept_some glyphs old new are own h none

pub there_kept : (glyphs : List ℕ) (old new : List Part) → AreKept glyphs old new → (one : Part) → Contains old one →
    (own : Part) × IsRenumbered glyphs one own × (Contains new own ⊎ IsEmpty own)
there_kept glyphs _ _ keeping.nothing one h = absurd (none_there one h)
there_kept glyphs _ _ (keeping.kept old new last own are is some) one h = elim (Contains-push_cases old last one h) [
  | inl before ↦ let w = there_kept glyphs old new are one before in (
    w.0,
    w.1,
    elim w.2 [
      | inl there ↦ inl (Contains-append_left new (own ∷ []) w.0 there)
      | inr none ↦ inr none
    ],
  )
  | inr same ↦ (own, subst (λ (x : Part). IsRenumbered glyphs x own) same is, inl (Contains-push new own))
]
there_kept glyphs _ _ (keeping.dropped old new last own are is none) one h = elim (Contains-push_cases old last one h) [
  | inl before ↦ there_kept glyphs old new are one before
  | inr same ↦ (own, subst (λ (x : Part). IsRenumbered glyphs x own) same is, inr none)
]

pub kept_rises : (glyphs : List ℕ) (old new : List Part) → AreKept glyphs old new → Rises (λ one. one.selector) old →
    Rises (λ one. one.selector) new
kept_rises glyphs _ _ keeping.nothing h = rises_none (λ one. one.selector)
kept_rises glyphs _ _ (keeping.kept old new last own are is some) h =
    rises_push (λ one. one.selector) new own (kept_rises glyphs old new are (rises_front (λ one. one.selector) old last h))
    (λ one there.
    let w = kept_there glyphs old new are one there in
    let low = rises_last (λ one. one.selector) old last h w.0 w.1 in
    let a = w.2.selector in let b = is.selector in
    omega (arith, low, a, b))
kept_rises glyphs _ _ (keeping.dropped old new last own are is none) h =
    kept_rises glyphs old new are (rises_front (λ one. one.selector) old last h)

-- the parts of a table
pub parts_rise : (table chars : List ℕ) (count : ℕ) (all : List Part) → AreParts table chars count all → Rises (λ one. one.selector) all
parts_rise table chars _ _ parts.no_part = rises_none (λ one. one.selector)
parts_rise table chars _ _ (parts.part count all last are counts is) =
    rises_push (λ one. one.selector) all last (parts_rise table chars count all are)
    (λ one there.
    let w = part_there table chars count all are one there in
    let low = counts w.0 w.1 in
    let a = w.3.selector in let b = is.selector in
    omega (arith, low, a, b))
parts_rise table chars _ _ (parts.skipped count all are none) = parts_rise table chars count all are

pub defaults_rise : (table : List ℕ) (i : ℕ) (cs ds : List ℕ) (ms : List (ℕ × ℕ)) → AreSaid table i cs ds ms → Rises (λ x. x) cs →
    Rises (λ x. x) ds
defaults_rise table i _ _ _ parts.nothing h = rises_none (λ x. x)
defaults_rise table i _ _ _ (parts.default cs ds ms c said has) h =
    rises_push (λ x. x) ds c (defaults_rise table i cs ds ms said (rises_front (λ x. x) cs c h))
    (λ x there. rises_last (λ x. x) cs c h x (default_there table i cs ds ms said x there).0)
defaults_rise table i _ _ _ (parts.glyph cs ds ms c g said own) h = defaults_rise table i cs ds ms said (rises_front (λ x. x) cs c h)
defaults_rise table i _ _ _ (parts.neither cs ds ms c said none) h = defaults_rise table i cs ds ms said (rises_front (λ x. x) cs c h)

pub mapped_rise : (table : List ℕ) (i : ℕ) (cs ds : List ℕ) (ms : List (ℕ × ℕ)) → AreSaid table i cs ds ms → Rises (λ x. x) cs →
    Rises (λ each. each.0) ms
mapped_rise table i _ _ _ parts.nothing h = rises_none (λ each. each.0)
mapped_rise table i _ _ _ (parts.default cs ds ms c said has) h = mapped_rise table i cs ds ms said (rises_front (λ x. x) cs c h)
mapped_rise table i _ _ _ (parts.glyph cs ds ms c g said own) h =
    rises_push (λ each. each.0) ms (c, g) (mapped_rise table i cs ds ms said (rises_front (λ x. x) cs c h))
    (λ each there. rises_last (λ x. x) cs c h each.0 (glyph_there table i cs ds ms said each there).0)
mapped_rise table i _ _ _ (parts.neither cs ds ms c said none) h = mapped_rise table i cs ds ms said (rises_front (λ x. x) cs c h)

-- records and parts
pub same_count : (bytes : List ℕ) (all : List Part) (rows : List Row) → AreRows bytes all rows → length rows ≡ length all
same_count bytes _ _ no_row = refl
same_count bytes _ _ (row all rows one own are is) =
    let e = same_count bytes all rows are in omega (arith, e, length-append rows (own ∷ []), length-append all (one ∷ []))

pub row_part : (bytes : List ℕ) (all : List Part) (rows : List Row) → AreRows bytes all rows → (k : ℕ) → k < length rows →
    (one : Part) × Contains all one × ((d : Row) → IsRowOf bytes one (get_or rows k d))
row_part bytes _ _ no_row k less = absurd (omega (arith, less))
row_part bytes _ _ (row all rows one own are is) k less = elim (cases_lt k (length rows)) [
  | inl early ↦ let w = row_part bytes all rows are k early in (
    w.0,
    Contains-append_left all (one ∷ []) w.0 w.1,
    λ d. subst (λ (x : Row). IsRowOf bytes w.0 x) (sym (get_or_append_left rows (own ∷ []) d k early)) (w.2 d),
  )
  | inr late ↦
      let end : length rows ≡ k = omega (arith, late, less, length-append rows (own ∷ [])) in
      (one, Contains-push all one, λ d. subst (λ (x : Row). IsRowOf bytes one x) (sym (get_or_at rows own [] d k end)) is)
]

pub part_row : (bytes : List ℕ) (all : List Part) (rows : List Row) → AreRows bytes all rows → (one : Part) → Contains all one →
    (k : ℕ) × (k < length rows) × ((d : Row) → IsRowOf bytes one (get_or rows k d))
part_row bytes _ _ no_row one h = absurd (none_there one h)
part_row bytes _ _ (row all rows last own are is) one h = elim (Contains-push_cases all last one h) [
  | inl before ↦ let w = part_row bytes all rows are one before in (
    w.0,
    let less = w.1 in omega (arith, less, length-append rows (own ∷ [])),
    λ d. subst (λ (x : Row). IsRowOf bytes one x) (sym (get_or_append_left rows (own ∷ []) d w.0 w.1)) (w.2 d),
  )
  | inr same ↦ (
    length rows,
    omega (arith, length-append rows (own ∷ [])),
    λ d. subst (λ (x : Row). IsRowOf bytes one x) (sym (get_or_at rows own [] d (length rows) refl))
        (subst (λ (x : Part). IsRowOf bytes x own) same is),
  )
]

pub rows_rise : (bytes : List ℕ) (all : List Part) (rows : List Row) → AreRows bytes all rows → Rises (λ one. one.selector) all →
    Rises (λ own. own.selector) rows
rows_rise bytes _ _ no_row h = rises_none (λ own. own.selector)
rows_rise bytes _ _ (row all rows one own are is) h =
    rises_push (λ own. own.selector) rows own (rows_rise bytes all rows are (rises_front (λ one. one.selector) all one h))
    (λ other there.
    let w = row_part bytes all rows are there.0 there.1 in
    let same = ap (λ (x : Row). x.selector) there.2 in
    let a = (w.2 other).selector in
    let b = is.selector in
    let low = rises_last (λ one. one.selector) all one h w.0 w.1 in
    omega (arith, same, a, b, low))
