-- The feature list of a GSUB or GPOS table (OpenType 1.9, "OpenType Layout Common Table Formats", "Feature list table" and "Feature table";
-- ISO/IEC 14496-22, 6.2), and the lookups that features with given tags name.
use Rattle.std.specs.Prelude.{ℕ, ◌+◌, ◌*◌, ◌<◌, List}
use Rattle.std.specs.List.{Contains}
use Rattle.postscript_layout.specs.Numbers.{word, long, words}

-- the number of features; record i of the list has the tag and the offset of feature i
abbrev pub feature_count : List ℕ → ℕ
feature_count table = word table (word table 6)

abbrev pub tag_of : List ℕ → (i : ℕ) → ℕ
tag_of table i = long table (word table 6 + 2 + i * 6)

abbrev pub feature_at : List ℕ → (i : ℕ) → ℕ
feature_at table i = word table 6 + word table (word table 6 + 2 + i * 6 + 4)

-- the lookup indices of a feature table
abbrev pub indices_of : List ℕ → (feature : ℕ) → List ℕ
indices_of table feature = words table (feature + 4) (word table (feature + 2))

-- feature i has one of the tags and names the lookup
abbrev pub Names : List ℕ → (tags : List ℕ) → (lookup i : ℕ) → Type 0
Names table tags lookup i = Contains tags (tag_of table i) × Contains (indices_of table (feature_at table i)) lookup

-- some feature of the list has one of the tags and names the lookup, whatever script or language selects the feature
abbrev pub IsNamed : List ℕ → (tags : List ℕ) → (lookup : ℕ) → Type 0
IsNamed table tags lookup = (i : ℕ) × (i < feature_count table) × Names table tags lookup i

-- the list has the named lookups and no others
pub record AreNamed (table tags lookups : List ℕ) : Type 0 where
  pub all : (lookup : ℕ) → IsNamed table tags lookup → Contains lookups lookup
  pub only : (lookup : ℕ) → Contains lookups lookup → IsNamed table tags lookup
