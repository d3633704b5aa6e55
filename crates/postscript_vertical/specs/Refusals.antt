-- Why no table is written.
use Rattle.std.specs.Prelude.{◌≡◌, ◌≢◌, ℕ, ◌+◌, ◌*◌, ◌<◌, ◌≤◌, List, length}
use Rattle.postscript_vertical.specs.Metrics.{metrics_in}
use Rattle.postscript_vertical.specs.Numbers.{word}
use Rattle.postscript_vertical.specs.Origins.{AreAscending, records_in}
use Rattle.postscript_vertical.specs.declared.error.Error.{Error}
use Rattle.postscript_vertical.specs.declared.error.Error.TheVariants.{Memory, NoMetrics, NotAscending, TooManyGlyphs, TruncatedHeader, TruncatedMetrics, TruncatedOrigins, UnknownVersion}

-- The cause of each error for `vhea` and `vmtx`. Running out of memory may be the error at any time.
abbrev pub RefusesMetrics : Error → (vhea vmtx origins : List ℕ) → Type 0
RefusesMetrics Memory vhea vmtx origins = Unit {0}
RefusesMetrics TooManyGlyphs vhea vmtx origins = 65535 < length origins
RefusesMetrics TruncatedHeader vhea vmtx origins = length vhea < 36
RefusesMetrics NoMetrics vhea vmtx origins = (36 ≤ length vhea) × (metrics_in vhea ≡ 0)
RefusesMetrics TruncatedMetrics vhea vmtx origins = (36 ≤ length vhea) × (length vmtx < metrics_in vhea * 4)
RefusesMetrics _ vhea vmtx origins = ⊥

-- the cause of each error for `VORG`
abbrev pub RefusesOrigins : Error → (vorg origins : List ℕ) → Type 0
RefusesOrigins Memory vorg origins = Unit {0}
RefusesOrigins TooManyGlyphs vorg origins = 65535 < length origins
RefusesOrigins TruncatedOrigins vorg origins = length vorg < 8 + records_in vorg * 4
RefusesOrigins UnknownVersion vorg origins = (8 ≤ length vorg) × (word vorg 0 ≢ 1)
RefusesOrigins NotAscending vorg origins = (8 + records_in vorg * 4 ≤ length vorg) × (AreAscending vorg (records_in vorg) → ⊥)
RefusesOrigins _ vorg origins = ⊥
