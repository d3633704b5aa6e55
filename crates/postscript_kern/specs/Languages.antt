-- Whether a `GPOS` table kerns in each language (OpenType 1.9, "OpenType Layout Common Table Formats": "Script List table", "Script table and Language
-- System record", "Language System table", "Feature List table").
use Rattle.std.specs.Prelude.{◌≡◌, ◌⊎◌, ℕ, ◌+◌, ◌*◌, ◌<◌, List}
use Rattle.postscript_kern.specs.Numbers.{word}

-- The records of a list begin at an offset. Record i has a tag of four bytes, and the offset of a table from the start of the list or of the script.
abbrev pub tag_of : List ℕ → (records i : ℕ) → ℕ
tag_of gpos records i = word gpos (records + i * 6) * 65536 + word gpos (records + i * 6 + 2)

abbrev pub table_of : List ℕ → (from records i : ℕ) → ℕ
table_of gpos from records i = from + word gpos (records + i * 6 + 4)

-- the feature list has a feature, with the tag `kern`
pub record IsKernFeature (gpos : List ℕ) (feature : ℕ) : Type 0 where
  pub within : feature < word gpos (word gpos 6)
  pub tag : tag_of gpos (word gpos 6 + 2) feature ≡ 0x6b65726e

-- One of the feature indices of a language system is that of a feature `kern`. The required feature does not count.
abbrev pub LanguageKerns : List ℕ → (language : ℕ) → Type 0
LanguageKerns gpos language = (k : ℕ) × (k < word gpos (language + 4)) × IsKernFeature gpos (word gpos (language + 6 + k * 2))

-- a script has a default language system, and all its language systems kern
pub record ScriptKerns (gpos : List ℕ) (script : ℕ) : Type 0 where
  pub has_default : 0 < word gpos script
  pub default : LanguageKerns gpos (script + word gpos script)
  pub languages : (j : ℕ) → j < word gpos (script + 2) → LanguageKerns gpos (table_of gpos script (script + 4) j)

-- the scripts for text whose own script is not in the list: `DFLT`, `dflt` and `latn`
abbrev pub IsForOthers : (tag : ℕ) → Type 0
IsForOthers tag = (tag ≡ 0x44464c54) ⊎ ((tag ≡ 0x64666c74) ⊎ (tag ≡ 0x6c61746e))

-- there is a script for text whose own script is not in the list
abbrev pub HasForOthers : List ℕ → Type 0
HasForOthers gpos = (i : ℕ) × (i < word gpos (word gpos 4)) × IsForOthers (tag_of gpos (word gpos 4 + 2) i)

-- all scripts kern
abbrev pub EachScriptKerns : List ℕ → Type 0
EachScriptKerns gpos = (i : ℕ) → i < word gpos (word gpos 4) → ScriptKerns gpos (table_of gpos (word gpos 4) (word gpos 4 + 2) i)

-- text of any script and language is kerned
pub record EachLanguageKerns (gpos : List ℕ) : Type 0 where
  pub others : HasForOthers gpos
  pub scripts : EachScriptKerns gpos
