-- The script list and the feature list (OpenType 1.9, "OpenType Layout Common Table Formats"; ISO/IEC 14496-22, 6.2), and whether they end before an
-- offset, with all tables that they name.
use Rattle.std.specs.Prelude.{◌≡◌, ◌⊎◌, ℕ, ◌+◌, ◌*◌, ◌/◌, ◌<◌, ◌≤◌, ◌==◌, List, if◌then◌else◌}
use Rattle.postscript_layout.specs.Numbers.{word, long}

-- the table that record i of a list names; a record is a tag and an offset, and the records begin at an offset
abbrev pub named : List ℕ → (from records i : ℕ) → ℕ
named gpos from records i = from + word gpos (records + i * 6 + 4)

-- a language system table
abbrev pub LanguageEnds : List ℕ → (end language : ℕ) → Type 0
LanguageEnds gpos end language = language + 6 + word gpos (language + 4) * 2 ≤ end

-- a script table: its records, its default language system, if it has one, and its language systems
pub record ScriptEnds (gpos : List ℕ) (end script : ℕ) : Type 0 where
  pub records : script + 4 + word gpos (script + 2) * 6 ≤ end
  pub default : (word gpos script ≡ 0) ⊎ LanguageEnds gpos end (script + word gpos script)
  pub languages : (j : ℕ) → j < word gpos (script + 2) → LanguageEnds gpos end (named gpos script (script + 4) j)

-- the size of the parameters of a feature by its tag: size, ss01 to ss20, cv01 to cv99; other features have none
abbrev pub parameters_size : List ℕ → (tag parameters : ℕ) → ℕ
parameters_size gpos tag parameters =
    if tag == 0x73697a65 then 10
    else (if tag / 65536 == 0x7373 then 4 else (if tag / 65536 == 0x6376 then 14 + word gpos (parameters + 12) * 3 else 0))

-- a feature table: its lookup indices, and its parameters, if it has some
pub record FeatureEnds (gpos : List ℕ) (end tag feature : ℕ) : Type 0 where
  pub indices : feature + 4 + word gpos (feature + 2) * 2 ≤ end
  pub parameters : (word gpos feature ≡ 0)
      ⊎ (feature + word gpos feature + parameters_size gpos tag (feature + word gpos feature) ≤ end)

pub record ScriptsEnd (gpos : List ℕ) (end : ℕ) : Type 0 where
  pub records : word gpos 4 + 2 + word gpos (word gpos 4) * 6 ≤ end
  pub scripts : (i : ℕ) → i < word gpos (word gpos 4) → ScriptEnds gpos end (named gpos (word gpos 4) (word gpos 4 + 2) i)

pub record FeaturesEnd (gpos : List ℕ) (end : ℕ) : Type 0 where
  pub records : word gpos 6 + 2 + word gpos (word gpos 6) * 6 ≤ end
  pub features : (i : ℕ) → i < word gpos (word gpos 6) →
      FeatureEnds gpos end (long gpos (word gpos 6 + 2 + i * 6)) (named gpos (word gpos 6) (word gpos 6 + 2) i)

-- the header, the script list and the feature list end before an offset
pub record ListsEnd (gpos : List ℕ) (end : ℕ) : Type 0 where
  pub header : 10 ≤ end
  pub scripts : ScriptsEnd gpos end
  pub features : FeaturesEnd gpos end

-- the least number with a property
pub record IsLeast (P : ℕ → Type 0) (n : ℕ) : Type 0 where
  pub holds : P n
  pub least : (m : ℕ) → P m → n ≤ m
