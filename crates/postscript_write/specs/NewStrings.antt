-- The strings of a new font with new SIDs, each once (Technical Note 5176, section 10, "String INDEX").
use Rattle.std.specs.Prelude.{◌≡◌, ◌⊎◌, ℕ, ◌+◌, ◌<◌, List, [], ◌∷◌, Option, Some, None, IsSome, length, slice_index_or}
use Rattle.std.specs.List.{filter_map}
use Rattle.postscript_base.specs.Compact1.Dictionary.{Dictionary}
use Rattle.postscript_write.specs.Parts.{naming}
use Rattle.postscript_write.specs.Sizes.{bytes_in}
use Rattle.postscript_write.specs.Strings.{identifier_in}

-- the strings without a new SID
unfoldable pub left_of : List (Option ℕ) → (old : List (List ℕ)) → List (List ℕ)
left_of [] old = []
left_of (renumbered ∷ others) [] = []
left_of (None ∷ others) (string ∷ old) = string ∷ left_of others old
left_of (Some new ∷ others) (string ∷ old) = left_of others old

-- In the new font, the new SID is that of the old string with this number. SIDs below 391 are those of standard strings.
pub record IsWrittenAs (old texts : List (List ℕ)) (number new : ℕ) : Type 0 where
  pub place : ℕ
  pub is : new ≡ 391 + place
  pub there : place < length texts
  pub text : slice_index_or texts place [] ≡ slice_index_or old number []

-- The new strings are old ones with new SIDs, each once, and there are no others.
pub record AreRenumbered (old texts : List (List ℕ)) (renumbered : List (Option ℕ)) : Type 0 where
  pub many : length renumbered ≡ length old
  pub each : (number new : ℕ) → slice_index_or renumbered number None ≡ Some new → IsWrittenAs old texts number new
  pub own : (place : ℕ) → place < length texts → (number : ℕ) × (slice_index_or renumbered number None ≡ Some (391 + place))
  pub counted : length texts + length (left_of renumbered old) ≡ length old
  pub sized : bytes_in texts + bytes_in (left_of renumbered old) ≡ bytes_in old

-- the string with this number has a new SID
abbrev pub HasNew : List (Option ℕ) → (number : ℕ) → Type 0
HasNew renumbered number = IsSome (slice_index_or renumbered number None)

-- one of the first `count` SIDs is that of the string with this number
abbrev pub IsNamed : (identifiers : List ℕ) (count number : ℕ) → Type 0
IsNamed identifiers count number = (i : ℕ) × (i < count) × (slice_index_or identifiers i 0 ≡ 391 + number)

-- The strings with new SIDs: the ones that had one before, and the ones of the first `count` SIDs.
pub record AreAdded (before : List (Option ℕ)) (identifiers : List ℕ) (count : ℕ) (after : List (Option ℕ)) : Type 0 where
  pub kept : (number : ℕ) → HasNew before number → HasNew after number
  pub named : (number : ℕ) → number < length after → IsNamed identifiers count number → HasNew after number
  pub only : (number : ℕ) → HasNew after number → HasNew before number ⊎ IsNamed identifiers count number

-- the string with this number is that of an operator of the DICT, or of one of these SIDs
abbrev pub IsNamedIn : Dictionary → (identifiers : List ℕ) → (number : ℕ) → Type 0
IsNamedIn map identifiers number =
    let operators = filter_map (identifier_in map) naming in
    IsNamed operators (length operators) number ⊎ IsNamed identifiers (length identifiers) number

-- these strings have new SIDs, and no others
pub record AreNamed (map : Dictionary) (identifiers : List ℕ) (renumbered : List (Option ℕ)) : Type 0 where
  pub all : (number : ℕ) → number < length renumbered → IsNamedIn map identifiers number → HasNew renumbered number
  pub only : (number : ℕ) → HasNew renumbered number → IsNamedIn map identifiers number
