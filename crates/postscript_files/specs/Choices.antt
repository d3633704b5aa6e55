-- The characters and glyphs of a subset (ISO/IEC 14496-22, 5.2.1).
use Rattle.std.specs.Prelude.{◌≡◌, ◌⊎◌, ℕ, ◌<◌, ◌≤◌, ◌||◌, ◌==◌, List, [], ◌∷◌, ◌++◌, Bool, true, false, length, map, slice_index_or, if◌then◌else◌}
use Rattle.std.specs.List.{Contains}
use Rattle.postscript_sfnt.specs.Maps.{Maps}
use Rattle.postscript_sfnt.specs.declared.character_map.CharacterMap.{CharacterMap}
use Rattle.postscript_sfnt_write.specs.Mappings.{CharsRise, IsMapping}
use Rattle.postscript_sfnt_write.specs.declared.mapping.Mapping.{Mapping}
use Rattle.postscript_files.specs.declared.choice.Choice.{Choice}
use Rattle.postscript_files.specs.declared.error.Error.{Error}
use Rattle.postscript_files.specs.declared.error.Error.TheVariants.{MissingCharacter}

-- a map has this glyph for a character of Unicode
pub record HasGlyph (map : CharacterMap) (char glyph : ℕ) : Type 0 where
  pub unicode : char < 0x110000
  pub maps : Maps map char glyph
  pub some : 0 < glyph

-- A character is kept with its glyph if it is asked for, or if its glyph is chosen with its characters.
pub record IsKept (choice : Choice) (map : CharacterMap) (char glyph : ℕ) : Type 0 where
  pub has : HasGlyph map char glyph
  pub asked : Contains choice.chars.now char ⊎ Contains choice.glyphs.now glyph

-- these are the characters that are kept, each with its glyph, in ascending order
pub record AreKeptPairs (choice : Choice) (map : CharacterMap) (pairs : List Mapping) : Type 0 where
  pub rise : CharsRise pairs
  pub each : (i : ℕ) (pair : Mapping) → IsMapping pairs i pair → IsKept choice map pair.char pair.glyph
  pub all : (char glyph : ℕ) → IsKept choice map char glyph →
      (i : ℕ) × (pair : Mapping) × IsMapping pairs i pair × (pair.char ≡ char) × (pair.glyph ≡ glyph)

-- these are all characters of Unicode that a map has a glyph for, each with its glyph, in ascending order
pub record AreMappingsOf (map : CharacterMap) (mappings : List Mapping) : Type 0 where
  pub rise : CharsRise mappings
  pub each : (i : ℕ) (mapping : Mapping) → IsMapping mappings i mapping → HasGlyph map mapping.char mapping.glyph
  pub all : (char glyph : ℕ) → HasGlyph map char glyph →
      (i : ℕ) × (mapping : Mapping) × IsMapping mappings i mapping × (mapping.char ≡ char) × (mapping.glyph ≡ glyph)

-- the map has no glyph for a character, or the number is no character of Unicode
abbrev pub IsMissing : CharacterMap → (char : ℕ) → Type 0
IsMissing map char = (0x110000 ≤ char) ⊎ Maps map char 0

abbrev pub NoneIsMissing : CharacterMap → List ℕ → Type 0
NoneIsMissing map chars = (k : ℕ) → k < length chars → IsMissing map (slice_index_or chars k 0) → ⊥

-- it is the first of these characters for which the map has no glyph
pub record IsFirstOf (map : CharacterMap) (chars : List ℕ) (char : ℕ) : Type 0 where
  pub place : ℕ
  pub there : place < length chars
  pub is : slice_index_or chars place 0 ≡ char
  pub missing : IsMissing map char
  pub before : (k : ℕ) → k < place → IsMissing map (slice_index_or chars k 0) → ⊥

abbrev pub IsFirstMissing : CharacterMap → List ℕ → Error → Type 0
IsFirstMissing map chars (MissingCharacter char) = IsFirstOf map chars char
IsFirstMissing map chars _ = ⊥

-- the chosen glyphs, with and without their characters
abbrev pub glyphs_of : Choice → List ℕ
glyphs_of choice = choice.glyphs.now ++ choice.unmapped.now

-- these glyphs, and the glyphs of characters
abbrev pub glyph_of : Mapping → ℕ
glyph_of pair = pair.glyph

abbrev pub named_of : (glyphs : List ℕ) → List Mapping → List ℕ
named_of glyphs pairs = glyphs ++ map glyph_of pairs

-- marks for the numbers below a limit; the marks of these numbers are set
pub record AreMarks (numbers : List ℕ) (count : ℕ) (marks : List Bool) : Type 0 where
  pub sound : (n : ℕ) → slice_index_or marks n false ≡ true → Contains numbers n
  pub all : (n : ℕ) → n < count → Contains numbers n → slice_index_or marks n false ≡ true

-- the mark of the character is set, or that of its glyph
abbrev pub keeps : (chars glyphs : List Bool) → (ℕ × ℕ) → Bool
keeps chars glyphs pair = slice_index_or chars pair.0 false || slice_index_or glyphs pair.1 false

abbrev pub kept_if : Bool → (ℕ × ℕ) → List Mapping
kept_if kept pair = if kept then record { char = pair.0; glyph = pair.1 } ∷ [] else []

unfoldable pub filtered : (chars glyphs : List Bool) → List (ℕ × ℕ) → List Mapping
filtered chars glyphs [] = []
filtered chars glyphs (pair ∷ pairs) = kept_if (keeps chars glyphs pair) pair ++ filtered chars glyphs pairs

-- the map gives the character this glyph, or the number is no character of Unicode, and the glyph is 0
abbrev pub IsGlyphFor : CharacterMap → (char glyph : ℕ) → Type 0
IsGlyphFor map char glyph = ((char < 0x110000) × Maps map char glyph) ⊎ ((0x110000 ≤ char) × (glyph ≡ 0))

-- a mapping of a character with its glyph is there
abbrev pub IsThere : List Mapping → (char glyph : ℕ) → Type 0
IsThere pairs char glyph = (i : ℕ) × (pair : Mapping) × IsMapping pairs i pair × (pair.char ≡ char) × (pair.glyph ≡ glyph)

-- these are the characters of a list that a map has a glyph for, each with its glyph, in ascending order
pub record AreLookedUp (map : CharacterMap) (chars : List ℕ) (pairs : List Mapping) : Type 0 where
  pub rise : CharsRise pairs
  pub each : (i : ℕ) (pair : Mapping) → IsMapping pairs i pair → HasGlyph map pair.char pair.glyph × Contains chars pair.char
  pub all : (char glyph : ℕ) → HasGlyph map char glyph → Contains chars char → IsThere pairs char glyph

-- the character is appended with its glyph, unless the glyph is 0
abbrev pub PushesIf : (old : List Mapping) → (char glyph : ℕ) → (new : List Mapping) → Type 0
PushesIf old char glyph new = new ≡ (if glyph == 0 then old else old ++ (record { char = char; glyph = glyph } ∷ []))
