-- The delta set of a metric of a font (OpenType 1.9, "MVAR - Metrics Variations Table").
use Rattle.std.specs.Prelude.{◌≡◌, ◌≢◌, ◌⊎◌, ℕ, ◌+◌, ◌*◌, ◌<◌, ◌≤◌, List, length}
use Rattle.postscript_base.specs.Index.{number_at}
use Rattle.postscript_variation.specs.Store.{IsStore}

-- The `MVAR` table has its version (majorVersion, minorVersion), the size of a record (valueRecordSize) and the number of records
-- (valueRecordCount). It has the offset of its store (itemVariationStoreOffset), and the records start at offset 12.
pub record AreRecords (bytes : List ℕ) (size count : ℕ) : Type 0 where
  pub header : 12 ≤ length bytes
  pub version : number_at bytes 0 2 ≡ 1
  pub sized : size ≡ number_at bytes 6 2
  pub least : 8 ≤ size
  pub counted : count ≡ number_at bytes 8 2
  pub room : 12 + count * size ≤ length bytes

-- There is a store at this offset. Offset 0 means that there is none.
abbrev pub NamesStore : List ℕ → (place list axes regions tables : ℕ) → Type 0
NamesStore bytes place list axes regions tables = (place ≡ 0) ⊎ ((0 < place) × IsStore bytes place list axes regions tables)

-- A record (ValueRecord) has valueTag, deltaSetOuterIndex and deltaSetInnerIndex.
abbrev pub tag_at : List ℕ → (size i : ℕ) → ℕ
tag_at bytes size i = number_at bytes (12 + i * size) 4

abbrev pub outer_at : List ℕ → (size i : ℕ) → ℕ
outer_at bytes size i = number_at bytes (12 + i * size + 4) 2

abbrev pub inner_at : List ℕ → (size i : ℕ) → ℕ
inner_at bytes size i = number_at bytes (12 + i * size + 6) 2

-- record i is the first one with the tag
pub record IsFirstRecord (bytes : List ℕ) (size count tag i : ℕ) : Type 0 where
  pub listed : i < count
  pub tagged : tag_at bytes size i ≡ tag
  pub others : (k : ℕ) → k < i → tag_at bytes size k ≢ tag
