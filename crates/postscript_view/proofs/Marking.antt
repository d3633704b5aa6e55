-- Marks before ranges.
use Rattle.std.proofs.Common.{◌≡◌, ap, sym, subst, ◌∙◌, inl, inr, ℕ, ◌+◌, ◌<◌, List, [], length, get_or, set, arith}
use Rattle.std.proofs.lemmas.List.{get_or-set_same, get_or-set_other}
use Rattle.std.proofs.lemmas.Bool.{cases_eq}
use Rattle.postscript_view.specs.CharSet.{covered}
use Rattle.postscript_view.specs.Marks.{AreMarks, AreSet}
use Rattle.postscript_view.specs.declared.char_set.Identifiers.{Identifiers}
use Rattle.postscript_view.specs.declared.char_set.Identifiers.TheVariants.{ISOAdobe, Expert, ExpertSubset, Listed, Ranges1, Ranges2}
use Rattle.postscript_view.specs.declared.marks.Marks.{Marks}

-- one mark more
pub marked_more : (ranges : List ℕ) (size : ℕ) (places covers : List ℕ) (n place here : ℕ) → AreSet ranges size places covers n →
    n < length places → n < length covers → here ≡ covered ranges size place →
    AreSet ranges size (set places n place) (set covers n here) (n + 1)
marked_more ranges size places covers n place here are room rooms is m below = elim (cases_eq m n) [
  | inl same ↦
      let a : get_or (set covers n here) m 0 ≡ here = subst (λ k. get_or (set covers n here) k 0 ≡ here) (sym same)
      (get_or-set_same covers n here 0 rooms) in
      let b : get_or (set places n place) m 0 ≡ place = subst (λ k. get_or (set places n place) k 0 ≡ place) (sym same)
      (get_or-set_same places n place 0 room) in
      a ∙ is ∙ ap (covered ranges size) (sym b)
  | inr other ↦
      let a = get_or-set_other covers n m here 0 other in
      let b = get_or-set_other places n m place 0 other in
      a ∙ are m (omega (arith, below, other)) ∙ ap (covered ranges size) (sym b)
]

-- no mark is before any
abbrev pub no_marks : Marks
no_marks = record { places = []; covers = []; set = 0; most = omega arith }

pub unmarked : (identifiers : Identifiers) → AreMarks identifiers no_marks
unmarked ISOAdobe = tt
unmarked Expert = tt
unmarked ExpertSubset = tt
unmarked (Listed identifiers) = tt
unmarked (Ranges1 ranges) = λ m below. absurd (omega (arith, below))
unmarked (Ranges2 ranges) = λ m below. absurd (omega (arith, below))
