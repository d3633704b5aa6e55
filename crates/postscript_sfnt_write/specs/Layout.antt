-- The layout of a written file. Only private contracts and proofs use these names.
use Rattle.std.specs.Prelude.{◌≡◌, ◌<◌, ◌≤◌, ℕ, ◌+◌, ◌-◌, ◌*◌, ◌%◌, ◌^◌, List, [], ◌∷◌, ◌++◌, length, replicate}
use Rattle.postscript_base.specs.Numbers.{two_sided}
use Rattle.std.specs.Int.{cast_unsigned, w16}
use Rattle.postscript_sfnt_write.specs.Numbers.{uint16, uint32}
use Rattle.postscript_sfnt_write.specs.Checksum.{checksum}
use Rattle.postscript_sfnt_write.specs.Metrics.{IsMetric}
use Rattle.postscript_sfnt_write.specs.Tables.{AreTagged, in_file, room_of}
use Rattle.postscript_sfnt_write.specs.declared.file.Table.{Table}
use Rattle.postscript_sfnt_write.specs.declared.metrics.Metric.{Metric}

-- the padding after a table of `size` bytes
abbrev pub zeros : (size : ℕ) → List ℕ
zeros size = replicate (room_of size - size) 0

-- the record of a table at an offset
unfoldable pub record_text : (place : ℕ) → Table → List ℕ
record_text place table = uint32 table.tag ++ (uint32 (checksum (in_file 0 table)) ++ (uint32 place ++ uint32 (length table.bytes.now)))

-- the records of consecutive tables from an offset on
unfoldable pub records_text : (place : ℕ) → List Table → List ℕ
records_text place [] = []
records_text place (table ∷ tables) = record_text place table ++ records_text (place + room_of (length table.bytes.now)) tables

-- a table and its padding
unfoldable pub table_text : (adjustment : ℕ) → Table → List ℕ
table_text adjustment table = in_file adjustment table ++ zeros (length table.bytes.now)

-- all tables
unfoldable pub tables_text : (adjustment : ℕ) → List Table → List ℕ
tables_text adjustment [] = []
tables_text adjustment (table ∷ tables) = table_text adjustment table ++ tables_text adjustment tables

-- the sum of the checksums in the records
unfoldable pub checksums : List Table → ℕ
checksums [] = 0
checksums (table ∷ tables) = checksum (in_file 0 table) + checksums tables

-- the header of a file with `count` tables
unfoldable pub header_text : (count selector : ℕ) → List ℕ
header_text count selector =
    uint32 0x4f54544f ++ (uint16 count ++ (uint16 (2 ^ selector * 16) ++ (uint16 selector ++ uint16 (count * 16 - 2 ^ selector * 16))))

-- the header and the records
abbrev pub directory_text : (selector : ℕ) → List Table → List ℕ
directory_text selector tables = header_text (length tables) selector ++ records_text (12 + length tables * 16) tables

-- the logarithm of the number to base 2, rounded down, or any number small enough for the search fields if the number is 0
pub record IsSelector (count selector : ℕ) : Type 0 where
  pub most : 0 < count → 2 ^ selector ≤ count
  pub least : count < 2 * 2 ^ selector
  pub small : selector < 16
  pub room : 2 ^ selector * 16 < 2 ^ 16

-- the bytes of a written file, with its checkSumAdjustment
pub record IsWritten (tables : List Table) (bytes : List ℕ) : Type 0 where
  pub tagged : AreTagged tables
  pub selector : ℕ
  pub selected : IsSelector (length tables) selector
  pub adjustment : ℕ
  pub small : adjustment < 2 ^ 32
  pub adjusted : adjustment
      ≡ ((0xb1b0afba + 2 ^ 32 - checksum (directory_text selector tables)) % 2 ^ 32 + 2 ^ 32 - checksums tables % 2 ^ 32) % 2 ^ 32
  pub text : bytes ≡ directory_text selector tables ++ tables_text adjustment tables

-- the bytes of metrics
unfoldable pub metric_text : Metric → List ℕ
metric_text metric = uint16 metric.advance ++ uint16 (cast_unsigned w16 metric.bearing)

unfoldable pub metrics_text : List Metric → List ℕ
metrics_text [] = []
metrics_text (metric ∷ metrics) = metric_text metric ++ metrics_text metrics

-- the numbers of metrics fit into 16 bits
pub record MetricFits (metric : Metric) : Type 0 where
  pub advance : metric.advance < 2 ^ 16
  pub small : cast_unsigned w16 metric.bearing < 2 ^ 16
  pub bearing : two_sided 32768 (cast_unsigned w16 metric.bearing) ≡ metric.bearing

abbrev pub MetricsFit : List Metric → Type 0
MetricsFit metrics = (glyph : ℕ) (metric : Metric) → IsMetric metrics glyph metric → MetricFits metric
