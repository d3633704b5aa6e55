-- Characters and their glyphs (ISO/IEC 14496-22, 5.2.1).
use Rattle.std.specs.List.{filter}
use Rattle.std.specs.Prelude.{◌≡◌, ℕ, ◌+◌, ◌*◌, ◌^◌, ◌<◌, ◌≤◌, Bool, ◌==◌, ◌&&◌, nat_lt, if◌then◌else◌, List, [], ◌∷◌, Some, length, drop, slice_get}
use Rattle.postscript_base.specs.Index.{number_at}
use Rattle.postscript_sfnt.specs.Choice.{IsChosen, encoding_at, place_at, platform_at, records_of}
use Rattle.postscript_sfnt.specs.Maps.{IsMapAt, IsWhole, Maps}
use Rattle.postscript_sfnt.specs.declared.character_map.CharacterMap.{CharacterMap}
use Rattle.postscript_sfnt_write.specs.declared.error.Error.{Error}
use Rattle.postscript_sfnt_write.specs.declared.error.Error.TheVariants.{CharactersDoNotRise, Memory, TooLarge}
use Rattle.postscript_sfnt_write.specs.declared.mapping.Mapping.{Mapping}

-- the mapping with an index, from 0 on
abbrev pub IsMapping : List Mapping → (i : ℕ) → Mapping → Type 0
IsMapping mappings i mapping = slice_get mappings i ≡ Some mapping

-- The characters are strictly ascending.
abbrev pub CharsRise : List Mapping → Type 0
CharsRise mappings = (i j : ℕ) (a b : Mapping) → i < j → IsMapping mappings i a → IsMapping mappings j b → a.char < b.char

-- A mapping of the character gives its glyph. The glyph is 0 if there is no such mapping.
pub record IsGlyphIn (mappings : List Mapping) (char glyph : ℕ) : Type 0 where
  pub given : (i : ℕ) (mapping : Mapping) → IsMapping mappings i mapping → mapping.char ≡ char → glyph ≡ mapping.glyph
  pub lost : ((i : ℕ) (mapping : Mapping) → IsMapping mappings i mapping → mapping.char ≡ char → ⊥) → glyph ≡ 0

-- each glyph that the map gives is the glyph in these mappings
abbrev pub Tells : CharacterMap → List Mapping → Type 0
Tells map mappings = (char glyph : ℕ) → Maps map char glyph → IsGlyphIn mappings char glyph

-- The character map that is chosen from a `cmap` table gives the glyphs in these mappings.
abbrev pub AreTold : (cmap : List ℕ) → List Mapping → Type 0
AreTold cmap mappings = (i : ℕ) (map : CharacterMap) → IsChosen cmap i → IsMapAt cmap (place_at cmap i) map → Tells map mappings

-- a character map is chosen from the table, and is inside it
pub record IsReadable (cmap : List ℕ) : Type 0 where
  pub i : ℕ
  pub chosen : IsChosen cmap i
  pub whole : IsWhole (drop (place_at cmap i) cmap)

-- A mapping continues the one before it: its character is the next one, and so is its glyph.
abbrev pub continues : (before mapping : Mapping) → Bool
continues before mapping = (mapping.char == before.char + 1) && (mapping.glyph == before.glyph + 1)

-- The number of segments of mappings ("Format 4"). A mapping that does not continue the one before it begins a new segment.
abbrev pub segments_after : (before : Mapping) → List Mapping → ℕ
segments_after before [] = 0
segments_after before (mapping ∷ mappings) = (if continues before mapping then 0 else 1) + segments_after mapping mappings

abbrev pub segments : List Mapping → ℕ
segments [] = 0
segments (mapping ∷ mappings) = 1 + segments_after mapping mappings

-- the mappings of characters below U+FFFF
abbrev pub low : List Mapping → List Mapping
low mappings = filter (λ mapping. nat_lt mapping.char 0xffff) mappings

-- the mappings in a subtable of format 4: those of characters below U+FFFF, or none if they form more than 8,000 segments
abbrev pub in_segments : List Mapping → List Mapping
in_segments mappings = if nat_lt 8000 (segments (low mappings)) then [] else low mappings

-- an encoding record for the first plane of Unicode on Windows, with a subtable of format 4
pub record HasFormat4 (cmap : List ℕ) : Type 0 where
  pub i : ℕ
  pub listed : i < records_of cmap
  pub platform : platform_at cmap i ≡ 3
  pub encoding : encoding_at cmap i ≡ 1
  pub format : number_at cmap (place_at cmap i) 2 ≡ 4

-- Each subtable of format 4 gives the glyphs in these mappings.
abbrev pub AreToldIn4 : (cmap : List ℕ) → List Mapping → Type 0
AreToldIn4 cmap mappings = (i : ℕ) (map : CharacterMap) → i < records_of cmap → number_at cmap (place_at cmap i) 2 ≡ 4 →
    IsMapAt cmap (place_at cmap i) map → Tells map mappings

-- a subtable of format 4 has room for all mappings: the characters are below U+FFFF, and form at most 8,000 segments
pub record FitFormat4 (mappings : List Mapping) : Type 0 where
  pub below : (i : ℕ) (mapping : Mapping) → IsMapping mappings i mapping → mapping.char < 0xffff
  pub few : segments mappings ≤ 8000

-- each subtable has format 4
abbrev pub HasOnlyFormat4 : (cmap : List ℕ) → Type 0
HasOnlyFormat4 cmap = (i : ℕ) → i < records_of cmap → number_at cmap (place_at cmap i) 2 ≡ 4

-- when each error is possible
abbrev pub RefusesMap : Error → List Mapping → Type 0
RefusesMap Memory mappings = Unit {0}
RefusesMap CharactersDoNotRise mappings = CharsRise mappings → ⊥
RefusesMap TooLarge mappings = 2 ^ 32 ≤ 16 + length mappings * 12
RefusesMap _ mappings = ⊥
