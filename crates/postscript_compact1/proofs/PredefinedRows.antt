-- Known values of the predefined char sets.
use Rattle.std.proofs.Common.{◌≡◌, refl, ℕ, map, List, [], ◌∷◌, Option, Some, None, true, length}
use Rattle.std.specs.Prelude.{codes}
use Rattle.postscript_compact1.specs.CharSets.Predefined.{are_runs, identifier_of, identifiers, name_of_glyph, runs_of}
use Rattle.postscript_compact1.specs.declared.char_set.CharSet.{CharSet}
use Rattle.postscript_compact1.specs.declared.char_set.CharSet.TheVariants.{ISOAdobe, Expert, ExpertSubset}

sizes : map (λ (set : CharSet). length (identifiers (runs_of set))) (ISOAdobe ∷ Expert ∷ ExpertSubset ∷ []) ≡ 228 ∷ 165 ∷ 86 ∷ []
sizes = refl

abbrev names : List (CharSet × ℕ × Option (List ℕ))
names =
    (Expert, 2, Some (codes "exclamsmall")) ∷
    (Expert, 12, Some (codes "comma")) ∷
    (Expert, 165, Some (codes "Ydieresissmall")) ∷
    (Expert, 166, None) ∷
    (ExpertSubset, 2, Some (codes "dollaroldstyle")) ∷
    (ISOAdobe, 0, None) ∷
    []

names_hold : map (λ row. name_of_glyph row.0 row.1) names ≡ map (λ row. row.2) names
unfolding identifier_of
names_hold = refl

rise : are_runs (runs_of ExpertSubset) ≡ true
rise = refl
