-- Records of a `name` table that only repeat a better one.
use Rattle.std.specs.Prelude.{◌≡◌, ◌≢◌, ℕ, ◌<◌, List, [], ◌∷◌, length}
use Rattle.postscript_sfnt.specs.Choice.{IsBest}
use Rattle.postscript_sfnt.specs.NameChars.{Begins, bytes_of, least}
use Rattle.postscript_sfnt.specs.NameTable.{IsTextAt, name_rank, name_rank_at, names_of}
use Rattle.postscript_sfnt.specs.declared.names.Name.{Name}
use Rattle.postscript_sfnt.specs.declared.names.Name.TheVariants.{MacRoman, Utf16}
use Rattle.postscript_text.specs.declared.names.Record.{Record}

-- The characters of a text, in order. The text ends if too few bytes are left for a character. Two things stay open, as in `Begins`: the
-- character of a byte from 128 on in Mac OS Roman, and whether a single byte at the end of a text in UTF-16 is a character.
pub data HasCharacters : Name → (chars : List ℕ) → Type 0 where
  end : (text : Name) → length (bytes_of text) < least text → HasCharacters text []
  next : (text rest : Name) (char : ℕ) (chars : List ℕ) → 0 < length (bytes_of text) → Begins text char rest → HasCharacters rest chars →
      HasCharacters text (char ∷ chars)

-- two texts have the same characters
abbrev pub SaysTheSame : (one other : Name) → Type 0
SaysTheSame one other = (chars : List ℕ) × HasCharacters one chars × HasCharacters other chars

-- two texts have different characters
abbrev pub SaysSomethingElse : (one other : Name) → Type 0
SaysSomethingElse one other = (chars others : List ℕ) × HasCharacters one chars × HasCharacters other others × (chars ≢ others)

-- the text of a Unicode record, or of a Macintosh record in Mac OS Roman
pub data IsTextOf (entry : Record) : Name → Type 0 where
  unicode : entry.platform ≡ 0 → IsTextOf entry (Utf16 entry.text)
  roman : entry.platform ≡ 1 → entry.encoding ≡ 0 → IsTextOf entry (MacRoman entry.text)

-- the text of the best record with the same name identifier, if its rank is higher
pub record IsBetter (table : List ℕ) (entry : Record) (text : Name) : Type 0 where
  pub i : ℕ
  pub best : IsBest (name_rank_at table entry.identifier) (names_of table) i
  pub higher : name_rank entry.platform entry.encoding entry.language < name_rank_at table entry.identifier i
  pub is_text : IsTextAt table i text

-- A Unicode record, or one in Mac OS Roman, has the same characters as a better record.
abbrev pub Repeats : (table : List ℕ) → Record → Type 0
Repeats table entry = (text better : Name) × IsTextOf entry text × IsBetter table entry better × SaysTheSame text better

-- If a record is of one of these kinds, and there is a better record, the better one has other characters.
abbrev pub Differs : (table : List ℕ) → Record → Type 0
Differs table entry = (text better : Name) → IsTextOf entry text → IsBetter table entry better → SaysSomethingElse text better
