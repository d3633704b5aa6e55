-- All characters of a character map, for C.
use Rattle.std.specs.Prelude.{◌≡◌, ◌⊎◌, ℕ, ℤ, pos, List, map}
use Rattle.postscript_c.specs.Files.{HasMap, LacksMap}
use Rattle.postscript_c.specs.Texts.{HandsOver, Lent}
use Rattle.postscript_c.specs.declared.characters.PsfCharacter.{PsfCharacter}
use Rattle.postscript_sfnt.specs.Maps.{AreAll}
use Rattle.postscript_sfnt.specs.declared.character_map.CharacterMap.{CharacterMap}

-- a character and its glyph, in the form for C
abbrev pub row : ℕ × ℕ → PsfCharacter
row pair = record { character = pair.0; glyph = pair.1 }

-- these are all characters with a glyph in a map, in ascending order, each with its glyph
abbrev pub HasRows : CharacterMap → List PsfCharacter → Type 0
HasRows chosen rows = (all : List (ℕ × ℕ)) × AreAll chosen 0 all × (rows ≡ map row all)

-- the characters of the map of the best record are copied to the buffer, as `HandsOver` says
abbrev pub HandsCharacters : (cmap : List ℕ) → (status : ℤ) → (old new : Lent PsfCharacter) → Type 0
HandsCharacters cmap status old new =
    (chosen : CharacterMap) × HasMap cmap chosen × ((rows : List PsfCharacter) × HasRows chosen rows × HandsOver rows status old new)

-- On 0 the characters are stored, and on 32 only their number. Otherwise there is no map (37), or no memory (3), and all outputs are
-- unchanged.
abbrev pub TellsCharacters : (cmap : List ℕ) → (status : ℤ) → (old new : Lent PsfCharacter) → Type 0
TellsCharacters cmap status old new =
    HandsCharacters cmap status old new ⊎ (((status ≡ pos 37) × LacksMap cmap × (new ≡ old)) ⊎ ((status ≡ pos 3) × (new ≡ old)))
