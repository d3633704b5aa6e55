-- The SIDs of the written strings, and the Top DICT with them (Technical Note 5176, sections 9, 10 and 18).
use Rattle.std.specs.Prelude.{◌≡◌, ◌≢◌, ℕ, ◌-◌, ◌==◌, nat_lt, if◌then◌else◌, List, [], ◌∷◌, Option, Some, None, flat_map, map, slice_index_or}
use Rattle.std.specs.Option.{unwrap_or}
use Rattle.postscript_base.specs.Compact1.Defaults.{look}
use Rattle.postscript_base.specs.Compact1.Dictionary.{Dictionary}
use Rattle.postscript_base.specs.declared.compact1.operator.Operator.{Operator}
use Rattle.postscript_base.specs.declared.compact1.operator.Operator.TheVariants.{FDArray, FDSelect, Private}
use Rattle.postscript_view.specs.Sizes.{IsKeyed}
use Rattle.postscript_write.specs.Pieces.{place_at}
use Rattle.postscript_write.specs.Dictionaries.{IsPlaced}
use Rattle.postscript_write.specs.Parts.{naming}
use Rattle.postscript_write.specs.Strings.{identifier_in}
use Rattle.postscript_write.specs.declared.dictionaries.Place.{Place}
use Rattle.postscript_write.specs.declared.strings.Strings.{Strings}

-- The new SID for an old one. It is the same unless the string is written with another one. SIDs below 391 are those of standard strings.
abbrev pub new_identifier : Strings → (old : ℕ) → ℕ
new_identifier strings old =
    if nat_lt old 391 then old else unwrap_or (slice_index_or strings.renumbered.items (old - 391) None) old

-- the new SIDs for old ones
abbrev pub new_identifiers : Strings → (old : List ℕ) → List ℕ
new_identifiers strings old = map (new_identifier strings) old

-- an operator has the new SID, if it differs from the old one
abbrev pub renamed : Operator → (old new : ℕ) → List Place
renamed operator old new = if new == old then [] else place_at operator new ∷ []

abbrev pub renamed_if : Strings → Operator → Option ℕ → List Place
renamed_if strings operator (Some old) = renamed operator old (new_identifier strings old)
renamed_if strings operator None = []

-- the operators of a DICT with new SIDs
abbrev pub all_renamed : Strings → Dictionary → List Place
all_renamed strings map = flat_map (λ operator. renamed_if strings operator (identifier_in map operator)) naming

-- an operator that stays: all but Private in a CID-keyed font, and all but FDArray and FDSelect in any other font
pub record IsKept (old : Dictionary) (operator : Operator) : Type 0 where
  pub private : IsKeyed old → operator ≢ Private
  pub select : (IsKeyed old → ⊥) → (operator ≢ FDArray) × (operator ≢ FDSelect)

-- The Top DICT of a CID-keyed font has no Private DICT: its Font DICTs have them. The Top DICT of any other font has neither Font DICTs nor
-- FDSelect. All other operators have the same operands.
pub record IsUnnamed (old new : Dictionary) : Type 0 where
  pub same : (operator : Operator) → IsKept old operator → look new operator ≡ look old operator
  pub gone : IsKeyed old → look new Private ≡ None
  pub plain : (IsKeyed old → ⊥) → (look new FDArray ≡ None) × (look new FDSelect ≡ None)

-- such a DICT, with new SIDs
pub record IsRenamed (old : Dictionary) (places : List Place) (new : Dictionary) : Type 0 where
  pub kept : Dictionary
  pub unnamed : IsUnnamed old kept
  pub placed : IsPlaced kept places new
