-- Known texts and offsets of a new font (Technical Note 5176, sections 5, 10, 13, 18 and 19).
use Rattle.std.proofs.Common.{◌≡◌, refl, ap, ℕ, List, [], ◌∷◌, length, true, false, Vec, if◌then◌else◌, arith}
use Rattle.postscript_write.proofs.Distinct.{not_among}
use Rattle.postscript_write.proofs.Pieces.{behind_all, texts_in}
use Rattle.std.specs.Prelude.{Option, Some, None, slice_index_or}
use Rattle.std.specs.Option.{unwrap_or}
use Rattle.std.specs.declared.alloc.Global.{Global}
use Rattle.postscript_base.specs.declared.compact1.operator.Operator.TheVariants.{CharSet, CharStrings, Encoding, FullName, Private, ROS}
use Rattle.postscript_write.specs.Once.{AreDistinct, HasNoLaterRos}
use Rattle.postscript_write.specs.Pieces.{Piece, is_listed, listed_set, place_at, places, ranges_set}
use Rattle.postscript_write.specs.NewStrings.{left_of}
use Rattle.postscript_write.specs.Renumbered.{new_identifier, renamed}
use Rattle.postscript_write.specs.Room.{index_room}
use Rattle.postscript_write.specs.Firsts.{LiesInOne}
use Rattle.postscript_write.specs.Selected.{HaveSame, listed_text, ranges_text}
use Rattle.postscript_write.specs.SetTexts.{names_text, spans_text}
use Rattle.postscript_write.specs.Texts.{number_text}
use Rattle.postscript_write.specs.declared.strings.Strings.{Strings}

-- FDSelect of five glyphs, two of them with the font dictionary 0, by bytes and by ranges
select_by_bytes : listed_text (0 ∷ 0 ∷ 1 ∷ 1 ∷ 1 ∷ []) ≡ 0 ∷ 0 ∷ 0 ∷ 1 ∷ 1 ∷ 1 ∷ []
unfolding number_text
select_by_bytes = refl

select_by_ranges : ranges_text (0 ∷ 0 ∷ 1 ∷ 1 ∷ 1 ∷ []) (0 ∷ 2 ∷ []) ≡ 3 ∷ 0 ∷ 2 ∷ 0 ∷ 0 ∷ 0 ∷ 0 ∷ 2 ∷ 1 ∷ 0 ∷ 5 ∷ []
unfolding number_text
select_by_ranges = refl

-- alpha and beta
abbrev both : List (List ℕ)
both = (97 ∷ 108 ∷ 112 ∷ 104 ∷ 97 ∷ []) ∷ (98 ∷ 101 ∷ 116 ∷ 97 ∷ []) ∷ []

-- beta alone stays, under the first identifier of the font's own strings
abbrev beta_stays : List (Option ℕ)
beta_stays = None ∷ Some 391 ∷ []

alpha_is_left : left_of beta_stays both ≡ (97 ∷ 108 ∷ 112 ∷ 104 ∷ 97 ∷ []) ∷ []
unfolding left_of
alpha_is_left = refl

beta_moves : (strings : Strings) → strings.renumbered.items ≡ beta_stays → new_identifier strings 392 ≡ 391
beta_moves strings is = ap (λ (rs : List (Option ℕ)). unwrap_or (slice_index_or rs 1 None) 392) is

-- the letter A, and beta: 391 is 1 times 256 and 135
names_of_two : names_text (34 ∷ 391 ∷ []) ≡ 0 ∷ 0 ∷ 34 ∷ 1 ∷ 135 ∷ []
unfolding number_text
names_of_two = refl

-- the letters A to C, and beta
spans_of_four : spans_text (34 ∷ 35 ∷ 36 ∷ 391 ∷ []) (0 ∷ 3 ∷ []) ≡ 1 ∷ 0 ∷ 34 ∷ 2 ∷ 1 ∷ 135 ∷ 0 ∷ []
unfolding number_text
spans_of_four = refl

operator_moves : renamed FullName 392 391 ≡ place_at FullName 391 ∷ []
operator_moves = refl

operator_stays : renamed FullName 34 34 ≡ []
operator_stays = refl

-- the count, the size of offsets, three offsets of four bytes, and nine bytes of items
room_of_two : index_room both ≡ 24
room_of_two = refl

-- An encoding of 4 bytes, char strings of 30, a private dictionary of 12, and a char set of 7, behind 100 bytes.
one_behind_the_other : (e c p s : List ℕ) → length e ≡ 4 → length c ≡ 30 → length p ≡ 12 → length s ≡ 7 →
    let pieces : List Piece =
    record { operator = Encoding; named = true; counted = false; text = e }
    ∷ record { operator = CharStrings; named = true; counted = false; text = c }
    ∷ record { operator = Private; named = true; counted = true; text = p }
    ∷ record { operator = CharSet; named = true; counted = false; text = s } ∷ [] in
    (places 100 pieces ≡ place_at Encoding 100 ∷ place_at CharStrings 104
    ∷ record { operator = Private; size = Some 12; offset = 134 } ∷ place_at CharSet 146 ∷ []) × (behind_all 100 (texts_in pieces) ≡ 153)
one_behind_the_other e c p s is_e is_c is_p is_s = rw (is_e, is_c, is_p, is_s) (refl, refl)

-- glyph 3 of the five lies in the second range, which begins with glyph 2
third_in_second : LiesInOne (HaveSame (0 ∷ 0 ∷ 1 ∷ 1 ∷ 1 ∷ [])) (0 ∷ 2 ∷ []) 5 3
third_in_second = record { range = 1; there = omega arith; from = omega arith; to = omega arith; goes = refl }

-- a charset of the letters A and B: format 0 is before the charstrings, and format 1 is last
letters_listed : (set : Vec ℕ Global) → set.items ≡ 0 ∷ 0 ∷ 34 ∷ 0 ∷ 35 ∷ [] → (listed_set (Some set) ≡ Some set) × (ranges_set (Some set) ≡ None)
letters_listed set is = (
  ap (λ (xs : List ℕ). if is_listed xs then Some set else None) is,
  ap (λ (xs : List ℕ). if is_listed xs then None else Some set) is,
)

letters_in_a_range : (set : Vec ℕ Global) → set.items ≡ 1 ∷ 0 ∷ 34 ∷ 1 ∷ [] → (listed_set (Some set) ≡ None) × (ranges_set (Some set) ≡ Some set)
letters_in_a_range set is = (
  ap (λ (xs : List ℕ). if is_listed xs then Some set else None) is,
  ap (λ (xs : List ℕ). if is_listed xs then None else Some set) is,
)

-- an operator that occurs twice, and ROS after another operator
once_each : AreDistinct (ROS ∷ CharStrings ∷ Private ∷ [])
once_each =
    (not_among ROS (CharStrings ∷ Private ∷ []) refl, (not_among CharStrings (Private ∷ []) refl, (not_among Private [] refl, tt)))

private_twice : AreDistinct (Private ∷ CharStrings ∷ Private ∷ []) → ⊥
private_twice distinct = distinct.0 (1, omega arith, refl)

ros_first : HasNoLaterRos (ROS ∷ CharStrings ∷ [])
ros_first = not_among ROS (CharStrings ∷ []) refl

ros_later : HasNoLaterRos (CharStrings ∷ ROS ∷ []) → ⊥
ros_later first = first (0, omega arith, refl)
