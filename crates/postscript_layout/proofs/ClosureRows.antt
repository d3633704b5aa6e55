-- Substitutions and costs of small tables, computed by hand.
use Rattle.std.proofs.Common.{◌≡◌, refl, ℕ, List, [], ◌∷◌, arith}
use Rattle.std.proofs.lemmas.List.Elements.{All-contains_itself}
use Rattle.postscript_base.specs.Index.{number_at}
use Rattle.postscript_layout.specs.Costs.{round_cost}
use Rattle.postscript_layout.specs.Rounds.{IsCompleteAfter, Suffices}
use Rattle.postscript_layout.specs.Substitutions.{Substitutes, every_lookup, by_list, by_range, by_delta, by_ligature}

-- one lookup of type 1, whose subtable of format 1 adds 5 to glyphs 1 and 3
abbrev single : List ℕ
single =
    0 ∷ 1 ∷ 0 ∷ 0 ∷ 0 ∷ 0 ∷ 0 ∷ 0 ∷ 0 ∷ 10 ∷ 0 ∷ 1 ∷ 0 ∷ 4 ∷ 0 ∷ 1 ∷ 0 ∷ 0 ∷ 0 ∷ 1 ∷ 0 ∷ 8 ∷
    0 ∷ 1 ∷ 0 ∷ 6 ∷ 0 ∷ 5 ∷ 0 ∷ 1 ∷ 0 ∷ 2 ∷ 0 ∷ 1 ∷ 0 ∷ 3 ∷ []

three_becomes_eight : Substitutes single (0 ∷ []) (3 ∷ []) (8 ∷ [])
unfolding number_at
three_becomes_eight = (0, (0, omega arith, refl), (omega arith, (0, omega arith, (1, 3, by_list 1 refl (omega arith), by_delta refl refl))))

-- the round, the lookup, the subtable and two glyphs
single_costs : round_cost single (0 ∷ []) ≡ 5
unfolding number_at
single_costs = refl

-- one lookup of type 4, whose subtable makes ligature 20 of glyphs 1 and 2; the coverage table has the range from 1 to 1
abbrev ligature : List ℕ
ligature =
    0 ∷ 1 ∷ 0 ∷ 0 ∷ 0 ∷ 0 ∷ 0 ∷ 0 ∷ 0 ∷ 10 ∷ 0 ∷ 1 ∷ 0 ∷ 4 ∷ 0 ∷ 4 ∷ 0 ∷ 0 ∷ 0 ∷ 1 ∷ 0 ∷ 8 ∷
    0 ∷ 1 ∷ 0 ∷ 8 ∷ 0 ∷ 1 ∷ 0 ∷ 18 ∷ 0 ∷ 2 ∷ 0 ∷ 1 ∷ 0 ∷ 1 ∷ 0 ∷ 1 ∷ 0 ∷ 0 ∷ 0 ∷ 1 ∷ 0 ∷ 4 ∷ 0 ∷ 20 ∷ 0 ∷ 2 ∷ 0 ∷ 2 ∷ []

one_and_two_become_twenty : Substitutes ligature (every_lookup ligature) (1 ∷ 2 ∷ []) (20 ∷ [])
unfolding number_at
one_and_two_become_twenty = (
  0,
  (0, omega arith, refl),
  (
    omega arith,
    (
      0,
      omega arith,
      (
        0,
        1,
        by_range 0 1 refl (omega arith) (omega arith) (omega arith),
        by_ligature 0 refl refl (omega arith) (omega arith),
      ),
    ),
  ),
)

-- the round, the lookup, the subtable, the range, the glyph, the ligature and its second component
ligature_costs : round_cost ligature (every_lookup ligature) ≡ 7
unfolding number_at
ligature_costs = refl

-- the empty table has no substitutions, and a limit of 1 suffices
none_in_empty : (lookups ins outs : List ℕ) → Substitutes [] lookups ins outs → ⊥
none_in_empty lookups ins outs is = let less = is.2.0 in omega (arith, less)

empty_is_complete : (lookups given : List ℕ) → IsCompleteAfter [] lookups given 0
empty_is_complete lookups given = record {
  glyphs = given;
  closure = record {
    holds = All-contains_itself given;
    closed = λ ins outs is h. absurd (none_in_empty lookups ins outs is);
    least = λ other holds closed. holds;
  };
  reached = All-contains_itself given;
}

one_suffices : (given : List ℕ) → Suffices [] (every_lookup []) given 1
one_suffices given = record { rounds = 0; complete = empty_is_complete (every_lookup []) given; pays = omega arith }
