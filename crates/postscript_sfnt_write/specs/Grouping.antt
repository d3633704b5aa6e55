-- Groups of characters in a written `cmap` table. Only private contracts and proofs use these names.
use Rattle.std.specs.Prelude.{◌≡◌, ℕ, ◌+◌, ◌-◌, ◌*◌, ◌%◌, ◌^◌, ◌<◌, ◌==◌, ◌&&◌, Bool, if◌then◌else◌, List, [], ◌∷◌, ◌++◌, Some, length, slice_get}
use Rattle.postscript_sfnt_write.specs.Headers.{IsLogarithm}
use Rattle.postscript_sfnt_write.specs.Mappings.{IsMapping}
use Rattle.postscript_sfnt_write.specs.Numbers.{uint16, uint32}
use Rattle.postscript_sfnt_write.specs.declared.mapping.Group.{Group}
use Rattle.postscript_sfnt_write.specs.declared.mapping.Mapping.{Mapping}
use Rattle.postscript_sfnt_write.specs.declared.mapping.Row.{Row}
use Rattle.postscript_sfnt_write.specs.declared.mapping.Row.TheVariants.{Delta, End, Offset, Start}

pub record MappingFits (mapping : Mapping) : Type 0 where
  pub char : mapping.char < 2 ^ 32
  pub glyph : mapping.glyph < 2 ^ 16

abbrev pub MappingsFit : List Mapping → Type 0
MappingsFit mappings = (i : ℕ) (mapping : Mapping) → IsMapping mappings i mapping → MappingFits mapping

-- the mapping extends the group: its character is the next one, and so is its glyph
abbrev pub goes_on : Group → Mapping → Bool
goes_on group mapping = (mapping.char == group.end + 1) && (mapping.glyph + group.start == group.glyph + mapping.char)

abbrev pub group_of : Mapping → Group
group_of mapping = record { start = mapping.char; end = mapping.char; glyph = mapping.glyph }

abbrev pub longer : Group → (end : ℕ) → Group
longer group end = record { start = group.start; end = end; glyph = group.glyph }

-- the groups of an open group and the mappings after it
unfoldable pub grouped : Group → List Mapping → List Group
grouped group [] = group ∷ []
grouped group (mapping ∷ mappings) =
    if goes_on group mapping then grouped (longer group mapping.char) mappings else group ∷ grouped (group_of mapping) mappings

unfoldable pub groups : List Mapping → List Group
groups [] = []
groups (mapping ∷ mappings) = grouped (group_of mapping) mappings

abbrev pub IsGroup : List Group → (i : ℕ) → Group → Type 0
IsGroup groups i group = slice_get groups i ≡ Some group

pub record GroupFits (group : Group) : Type 0 where
  pub start : group.start < 2 ^ 32
  pub end : group.end < 2 ^ 32
  pub glyph : group.glyph < 2 ^ 32

abbrev pub GroupsFit : List Group → Type 0
GroupsFit groups = (i : ℕ) (group : Group) → IsGroup groups i group → GroupFits group

-- a subtable of format 12
unfoldable pub group_text : Group → List ℕ
group_text group = uint32 group.start ++ (uint32 group.end ++ uint32 group.glyph)

unfoldable pub groups_text : List Group → List ℕ
groups_text [] = []
groups_text (group ∷ groups) = group_text group ++ groups_text groups

unfoldable pub format12_text : List Group → List ℕ
format12_text groups =
    uint16 12 ++ (uint16 0 ++ (uint32 (16 + length groups * 12) ++ (uint32 0 ++ (uint32 (length groups) ++ groups_text groups))))

-- Format 4: the arrays of last characters, first characters, deltas and glyph offsets. All glyph offsets are 0.
abbrev pub row_number : Row → Group → ℕ
row_number End group = group.end % 65536
row_number Start group = group.start % 65536
row_number Delta group = (group.glyph + 65536 - group.start % 65536) % 65536
row_number Offset group = 0

unfoldable pub row_text : Row → List Group → List ℕ
row_text row [] = []
row_text row (group ∷ groups) = uint16 (row_number row group) ++ row_text row groups

unfoldable pub rows_text : List Group → List ℕ
rows_text groups = row_text End groups ++ (uint16 0 ++ (row_text Start groups ++ (row_text Delta groups ++ row_text Offset groups)))

unfoldable pub head4_text : (count selector : ℕ) → List ℕ
head4_text count selector =
    uint16 4 ++ (uint16 (16 + count * 8)
    ++ (uint16 0 ++ (uint16 (count * 2)
    ++ (uint16 (2 ^ selector * 2) ++ (uint16 selector ++ uint16 (count * 2 - 2 ^ selector * 2))))))

-- the character of the last segment, which has no glyph
abbrev pub end : Mapping
end = record { char = 0xffff; glyph = 0 }

-- an encoding record: a platform, an encoding and an offset
unfoldable pub encoding_text : (platform encoding place : ℕ) → List ℕ
encoding_text platform encoding place = uint16 platform ++ (uint16 encoding ++ uint32 place)

unfoldable pub small_text : List ℕ
small_text = uint16 0 ++ (uint16 2 ++ (encoding_text 0 3 20 ++ encoding_text 3 1 20))

-- a table with a subtable of format 4
pub record IsSmall (table : List ℕ) (segments : List Group) : Type 0 where
  pub selector : ℕ
  pub selected : IsLogarithm (length segments) selector
  pub few_bits : selector < 16
  pub text : table ≡ small_text ++ (head4_text (length segments) selector ++ rows_text segments)

unfoldable pub large_text : (behind : ℕ) → List ℕ
large_text behind = uint16 0
    ++ (uint16 4 ++ (encoding_text 0 3 36 ++ (encoding_text 0 4 behind ++ (encoding_text 3 1 36 ++ encoding_text 3 10 behind))))

-- a table with a subtable of format 4 for the low characters, and one of format 12 for all of them
pub record IsLarge (table : List ℕ) (low all : List Group) : Type 0 where
  pub selector : ℕ
  pub selected : IsLogarithm (length low) selector
  pub few_bits : selector < 16
  pub text : table ≡ large_text (52 + length low * 8) ++ ((head4_text (length low) selector ++ rows_text low) ++ format12_text all)

abbrev pub AreBelow : List Mapping → Type 0
AreBelow mappings = (i : ℕ) (mapping : Mapping) → IsMapping mappings i mapping → mapping.char < 0xffff
