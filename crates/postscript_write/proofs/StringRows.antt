-- Known strings of a font, and of a subset of it that has the second one alone (Technical Note 5176, sections 10 and 13).
use Rattle.std.proofs.Common.{◌≡◌, refl, arith, ℕ, List, [], ◌∷◌, Some, None}
use Rattle.postscript_view.specs.Strings.{string_of}
use Rattle.postscript_write.specs.Strings.{SameString, own_string}

-- alpha and beta
abbrev both : List (List ℕ)
both = (97 ∷ 108 ∷ 112 ∷ 104 ∷ 97 ∷ []) ∷ (98 ∷ 101 ∷ 116 ∷ 97 ∷ []) ∷ []

abbrev second_alone : List (List ℕ)
second_alone = (98 ∷ 101 ∷ 116 ∷ 97 ∷ []) ∷ []

-- the identifiers of a font's own strings begin with 391
of_the_second : own_string both 392 ≡ Some (98 ∷ 101 ∷ 116 ∷ 97 ∷ [])
unfolding own_string string_of
of_the_second = refl

none_of_a_standard_string : own_string both 34 ≡ None
unfolding own_string
none_of_a_standard_string = refl

none_behind_the_last : own_string both 393 ≡ None
unfolding own_string string_of
none_behind_the_last = refl

-- the second string moves to the first place, and a standard string stays
second_moves : SameString both 392 second_alone 391
unfolding own_string string_of
second_moves = record { string = refl; identifier = λ none. grind (arith, of_the_second, none) }

standard_stays : SameString both 34 second_alone 34
unfolding own_string
standard_stays = record { string = refl; identifier = search }

-- another string than the one that was named
first_is_lost : SameString both 391 second_alone 391 → ⊥
unfolding own_string string_of
first_is_lost same = grind (arith, same.string)
