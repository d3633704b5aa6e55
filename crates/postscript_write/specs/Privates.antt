-- Private DICTs as they are written (Technical Note 5176, sections 15 and 16).
use Rattle.std.specs.Prelude.{All, ◌≡◌, ℕ, ◌+◌, ◌<◌, List, [], ◌∷◌, Option, Some, None, flat_map, length, slice_get, slice_index_or, take}
use Rattle.std.specs.Option.{unwrap_or}
use Rattle.postscript_base.specs.Compact1.Defaults.{first_two_of, look}
use Rattle.postscript_base.specs.Compact1.Dictionary.{Dictionary, dictionary_of}
use Rattle.postscript_base.specs.Compact1.DictionaryLaw.{IsDictionary}
use Rattle.postscript_base.specs.declared.compact1.operator.Operator.TheVariants.{Subrs}
use Rattle.postscript_base.specs.declared.compact1.operator.Operator.TheVariants as operators
use Rattle.postscript_view.specs.Contents.{PrivateDict}
use Rattle.postscript_write.specs.Dictionaries.{IsHeld, IsPlaced}
use Rattle.postscript_write.specs.DictionarySizes.{HasSize}
use Rattle.postscript_write.specs.LeftOut.{IsLess}
use Rattle.postscript_write.specs.Once.{IsToldOnce}
use Rattle.postscript_write.specs.declared.dictionaries.Place.{Place}
use Rattle.postscript_write.specs.declared.layout.Private.{Private}

-- The written Private DICT of a part: it has the same content, apart from the offset of subroutines. If there is none, the Private DICT of
-- the part is empty.
abbrev pub IsOwnPrivate : PrivateDict → Option Private → Type 0
IsOwnPrivate part None = part.dictionary ≡ dictionary_of []
IsOwnPrivate part (Some private) =
    (new : Dictionary) × IsDictionary private.text.items 0 new × IsLess (Subrs ∷ []) part.dictionary new × IsToldOnce private.text.items

-- the size and the offset of a Private DICT, if there is one
abbrev pub place_of_private : Option Private → (offset : ℕ) → List Place
place_of_private None offset = []
place_of_private (Some private) offset =
    record { operator = operators.Private; size = Some (length private.text.items); offset = offset } ∷ []

-- If a part has no written Private DICT, neither its Font DICT nor the Top DICT has one.
abbrev pub NoneIsNamed : Dictionary → List PrivateDict → List (Option Private) → Type 0
NoneIsNamed map parts privates = (i : ℕ) (part : PrivateDict) → slice_get parts i ≡ Some part → slice_index_or privates i None ≡ None →
    first_two_of (look (unwrap_or part.font map) operators.Private) ≡ None

-- one written Private DICT for each part, or none if the part has none
pub record AreOwnPrivates (parts : List PrivateDict) (privates : List (Option Private)) : Type 0 where
  pub many : length privates ≡ length parts
  pub each : (i : ℕ) (part : PrivateDict) → slice_get parts i ≡ Some part → IsOwnPrivate part (slice_index_or privates i None)

abbrev pub private_text : Option Private → List ℕ
private_text None = []
private_text (Some private) = private.text.items

-- Private DICTs, one after the other
abbrev pub privates_text : List (Option Private) → List ℕ
privates_text privates = flat_map private_text privates

-- the offset of the Private DICT with this number, if the first one begins at the start
abbrev pub private_offset : (start : ℕ) → List (Option Private) → (number : ℕ) → ℕ
private_offset start privates number = start + length (privates_text (take number privates))

-- A written Font DICT: it has the content of another one, and the offset of its Private DICT, if there is one.
abbrev pub IsFontDictionary : (old : Dictionary) → Option Private → (offset : ℕ) → (text : List ℕ) → Type 0
IsFontDictionary old private offset text =
    (new : Dictionary) × IsDictionary text 0 new × IsPlaced old (place_of_private private offset) new

abbrev pub IsSomeDictionary : List ℕ → Type 0
IsSomeDictionary item = (map : Dictionary) × IsDictionary item 0 map

-- Written Font DICTs, one for each item, each with its Private DICT, whose size and offset can be written.
pub record AreFontDictionaries (items : List (List ℕ)) (privates : List (Option Private)) (start : ℕ) (texts : List (List ℕ)) : Type 0 where
  pub many : length texts ≡ length items
  pub each : (i : ℕ) (old : Dictionary) → i < length items → IsDictionary (slice_index_or items i []) 0 old →
      IsFontDictionary old (slice_index_or privates i None) (private_offset start privates i) (slice_index_or texts i [])
  pub once : (i : ℕ) → i < length items → IsToldOnce (slice_index_or texts i [])
  pub held : (i : ℕ) → i < length items → All IsHeld (place_of_private (slice_index_or privates i None) (private_offset start privates i))

-- The texts have the sizes of Font DICTs with these Private DICTs, whatever the offsets are.
pub record AreSized (items : List (List ℕ)) (privates : List (Option Private)) (texts : List (List ℕ)) : Type 0 where
  pub many : length texts ≡ length items
  pub each : (i : ℕ) → i < length items →
      HasSize (slice_index_or items i []) (place_of_private (slice_index_or privates i None) 0) (length (slice_index_or texts i []))
