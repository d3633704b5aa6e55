-- How many units a `kern` table costs, and how many the script list of a `GPOS` table costs at most.
use Rattle.std.specs.Prelude.{ℕ, zero, suc, ◌+◌, ◌/◌, ◌==◌, ◌&&◌, List, length, nat_le, if◌then◌else◌}
use Rattle.postscript_kern.specs.Languages.{table_of}
use Rattle.postscript_kern.specs.Numbers.{word}
use Rattle.postscript_kern.specs.Pairs.{count_of, coverage_of, pairs_in, subtable_at}

-- the sum of the first numbers
unfoldable pub total : (ℕ → ℕ) → (count : ℕ) → ℕ
total f zero = 0
total f (suc n) = total f n + f n

-- The number of pairs of a subtable. It has none if its header is not in the table, or if it does not have format 0 (`HasPairs`).
abbrev pub pairs_at : List ℕ → (at : ℕ) → ℕ
pairs_at table at = if nat_le (at + 14) (length table) && (coverage_of table at / 256 == 0) then pairs_in table at else 0

-- the units of subtable i: one for the subtable, and one for each of its pairs
abbrev pub subtable_units : List ℕ → (i : ℕ) → ℕ
subtable_units table i = 1 + pairs_at table (subtable_at table i)

-- the units of all subtables
abbrev pub units_of : List ℕ → ℕ
units_of table = total (subtable_units table) (count_of table)

-- the units of a language system: one for the language system, and one for each of its feature indices
abbrev pub language_units : List ℕ → (language : ℕ) → ℕ
language_units gpos language = 1 + word gpos (language + 4)

-- the units of language system j of a script, apart from the default one
abbrev pub listed_units : List ℕ → (script j : ℕ) → ℕ
listed_units gpos script j = language_units gpos (table_of gpos script (script + 4) j)

-- The units of all language systems of a script. Without a default language system, none is read.
abbrev pub languages_units : List ℕ → (script : ℕ) → ℕ
languages_units gpos script = if word gpos script == 0 then 0
    else language_units gpos (script + word gpos script) + total (listed_units gpos script) (word gpos (script + 2))

-- the units of script i: one for the script, and those of its language systems
abbrev pub script_units : List ℕ → (i : ℕ) → ℕ
script_units gpos i = 1 + languages_units gpos (table_of gpos (word gpos 4) (word gpos 4 + 2) i)

-- The units of all scripts. Each script costs one more, for its tag.
abbrev pub scripts_units : List ℕ → ℕ
scripts_units gpos = word gpos (word gpos 4) + total (script_units gpos) (word gpos (word gpos 4))
