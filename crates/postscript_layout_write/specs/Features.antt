-- Layout tables with only some of their features (OpenType 1.9, "OpenType Layout Common Table Formats"; ISO/IEC 14496-22, 6.2).
use Rattle.std.specs.Prelude.{◌≡◌, ℕ, ◌+◌, ◌*◌, ◌<◌, ◌==◌, List, Option, None, Some, drop, filter, filter_map, length, map, slice_index, if◌then◌else◌}
use Rattle.std.specs.List.{list_any, range_with_len}
use Rattle.postscript_layout.specs.Features.{feature_count, indices_of, tag_of}
use Rattle.postscript_layout.specs.Numbers.{long, word, words}
use Rattle.postscript_layout_write.specs.Renumbering.{new_number}
use Rattle.postscript_layout_write.specs.ScriptLists.{named, parameters_size}

-- the features whose tags are chosen, in order; the new index of a feature is its index in this list
abbrev pub chosen_features : (table tags : List ℕ) → List ℕ
chosen_features table tags = filter (λ i. list_any (λ tag. tag == tag_of table i) tags) (range_with_len 0 (feature_count table))

-- "Language system table": the index of the required feature, or 0xFFFF for none, and the indices of the other features
abbrev pub required_of : List ℕ → (language : ℕ) → ℕ
required_of table language = word table (language + 2)

abbrev pub features_of : List ℕ → (language : ℕ) → List ℕ
features_of table language = words table (language + 6) (word table (language + 4))

abbrev pub or_no_feature : Option ℕ → ℕ
or_no_feature None = 0xFFFF
or_no_feature (Some i) = i

-- the features of a language system that are kept, in order, under new indices; the lookup order is reserved, and 0
pub record KeepsLanguage (kept old : List ℕ) (from : ℕ) (new : List ℕ) (to : ℕ) : Type 0 where
  pub order : word new to ≡ 0
  pub required : required_of new to ≡ or_no_feature (new_number kept (required_of old from))
  pub features : features_of new to ≡ filter_map (new_number kept) (features_of old from)

-- "Script table": the default language system, if there is one, and the records of languages
pub data KeepsDefault (kept old : List ℕ) (from : ℕ) (new : List ℕ) (to : ℕ) : Type 0 where
  no_default : word old from ≡ 0 → word new to ≡ 0 → KeepsDefault kept old from new to
  has_default : (word old from ≡ 0 → ⊥) → (word new to ≡ 0 → ⊥) → KeepsLanguage kept old (from + word old from) new (to + word new to) →
      KeepsDefault kept old from new to

pub record KeepsScript (kept old : List ℕ) (from : ℕ) (new : List ℕ) (to : ℕ) : Type 0 where
  pub default : KeepsDefault kept old from new to
  pub count : word new (to + 2) ≡ word old (from + 2)
  pub tags : (j : ℕ) → j < word old (from + 2) → long new (to + 4 + j * 6) ≡ long old (from + 4 + j * 6)
  pub languages : (j : ℕ) → j < word old (from + 2) → KeepsLanguage kept old (named old from (from + 4) j) new (named new to (to + 4) j)

-- "Script list table"
pub record KeepsScripts (kept old : List ℕ) (from : ℕ) (new : List ℕ) (to : ℕ) : Type 0 where
  pub count : word new to ≡ word old from
  pub tags : (i : ℕ) → i < word old from → long new (to + 2 + i * 6) ≡ long old (from + 2 + i * 6)
  pub scripts : (i : ℕ) → i < word old from → KeepsScript kept old (named old from (from + 2) i) new (named new to (to + 2) i)

-- bytes at an offset; bytes past the end of the table are 0
abbrev pub bytes_at : List ℕ → (offset count : ℕ) → List ℕ
bytes_at table offset count = map (λ k. slice_index table (offset + k)) (range_with_len 0 count)

-- "Feature table": the number of bytes of its parameters, and 0 if it has none
abbrev pub size_of : List ℕ → (tag feature : ℕ) → ℕ
size_of table tag feature = if word table feature == 0 then 0 else parameters_size table tag (feature + word table feature)

pub data KeepsParameters (old : List ℕ) (tag from : ℕ) (new : List ℕ) (to : ℕ) : Type 0 where
  no_parameters : size_of old tag from ≡ 0 → word new to ≡ 0 → KeepsParameters old tag from new to
  has_parameters : (size_of old tag from ≡ 0 → ⊥) → (word new to ≡ 0 → ⊥) →
      bytes_at new (to + word new to) (size_of old tag from) ≡ bytes_at old (from + word old from) (size_of old tag from) →
      KeepsParameters old tag from new to

-- a feature table has the same lookups and parameters
pub record KeepsFeature (old : List ℕ) (tag from : ℕ) (new : List ℕ) (to : ℕ) : Type 0 where
  pub lookups : indices_of new to ≡ indices_of old from
  pub parameters : KeepsParameters old tag from new to

-- "Feature list table": the kept features, in order
pub record KeepsFeatures (kept old : List ℕ) (from : ℕ) (new : List ℕ) (to : ℕ) : Type 0 where
  pub count : word new to ≡ length kept
  pub tags : (j : ℕ) → j < length kept → long new (to + 2 + j * 6) ≡ long old (from + 2 + slice_index kept j * 6)
  pub features : (j : ℕ) → j < length kept →
      KeepsFeature old (long old (from + 2 + slice_index kept j * 6)) (named old from (from + 2) (slice_index kept j)) new (named new to (to + 2) j)

-- The new table has version 1.0, and the same scripts and languages. It has the features with the chosen tags and no others. The lookup list and all
-- bytes that follow it are the same.
pub record HasOnlyFeatures (old tags new : List ℕ) : Type 0 where
  pub version : (word new 0 ≡ 1) × (word new 2 ≡ 0)
  pub scripts : KeepsScripts (chosen_features old tags) old (word old 4) new (word new 4)
  pub features : KeepsFeatures (chosen_features old tags) old (word old 6) new (word new 6)
  pub lookups : drop (word new 8) new ≡ drop (word old 8) old
