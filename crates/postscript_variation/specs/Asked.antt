-- The requested user coordinate along an axis.
use Rattle.std.specs.Prelude.{ℕ, zero, suc, ◌==◌, if◌then◌else◌, ℤ, List, length, slice_get, Option, Some, None}
use Rattle.postscript_variation.specs.declared.coordinates.Setting.{Setting}

-- a setting with another tag leaves the value unchanged
abbrev pub chosen : Option Setting → (tag : ℕ) → ℤ → ℤ
chosen None tag value = value
chosen (Some setting) tag value = if setting.tag == tag then setting.value else value

-- the value of the last setting with the tag, of the first `count` settings, or the default if there is none
abbrev pub asked_by : List Setting → (tag : ℕ) → (standard : ℤ) → ℕ → ℤ
asked_by settings tag standard zero = standard
asked_by settings tag standard (suc k) = chosen (slice_get settings k) tag (asked_by settings tag standard k)

abbrev pub asked : List Setting → (tag : ℕ) → (standard : ℤ) → ℤ
asked settings tag standard = asked_by settings tag standard (length settings)
