-- The number of bytes of written operations (Technical Note 5176, "DICT Data").
use Rattle.std.specs.Prelude.{◌≡◌, ℕ, ◌+◌, ◌*◌, List, length, map}
use Rattle.std.specs.List.{sum_by}
use Rattle.postscript_base.specs.declared.compact1.operator.Operator.{Operator}
use Rattle.postscript_base.specs.declared.compact1.operator.Operator.TheVariants.{BaseFontName, Copyright, FDArray, FDSelect, FontName, PostScript}
use Rattle.postscript_write.specs.declared.dictionaries.Place.{Place}
use Rattle.postscript_write.specs.LeftOut.{IsLeftText}
use Rattle.postscript_write.specs.Dictionaries.{numbers_of}

-- some operators have two bytes, all others one
abbrev pub operator_size : Operator → ℕ
operator_size Copyright = 2
operator_size PostScript = 2
operator_size BaseFontName = 2
operator_size FDArray = 2
operator_size FDSelect = 2
operator_size FontName = 2
operator_size _ = 1

-- an operation has five bytes for each number, and its operator
abbrev pub operation_size : List ℕ → Operator → ℕ
operation_size numbers operator = 5 * length numbers + operator_size operator

abbrev pub place_size : Place → ℕ
place_size place = operation_size (numbers_of place.size place.offset) place.operator

abbrev pub places_size : List Place → ℕ
places_size places = sum_by place_size places

-- a DICT with places has this size, whatever the offsets are
abbrev pub HasSize : (text : List ℕ) → List Place → ℕ → Type 0
HasSize text places size = (rest : List ℕ) × IsLeftText text (map (λ place. place.operator) places) 0 rest
    × (size ≡ length rest + places_size places)
