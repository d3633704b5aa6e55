-- The encoding in a font set, compared with its view (Technical Note 5176, section 12, "Encodings").
use Rattle.std.specs.Prelude.{◌≡◌, ℕ, [], Some, slice_get}
use Rattle.postscript_compact1.specs.FontSet.Font.{Font}
use Rattle.postscript_compact1.specs.FontSet.Parts.{HasEncoding}
use Rattle.postscript_compact1.specs.declared.encoding.Encoding.{Encoding}
use Rattle.postscript_view.specs.declared.encoding.Codes.TheVariants.{Predefined}
use Rattle.postscript_view.specs.declared.encoding.EncodingView.{EncodingView}
use Rattle.postscript_view.specs.declared.font.FontView.{FontView}

-- the same predefined encoding, without supplements
abbrev pub IsSameEncoding : Encoding → EncodingView → Type 0
IsSameEncoding encoding view = (view.codes ≡ Predefined encoding) × (view.supplements.now ≡ [])

-- the Top DICT of the view names the encoding of the font with this number
abbrev pub HasEncodingOf : ℕ → Font → FontView → Type 0
HasEncodingOf number font view = (encoding : Encoding) × (slice_get font.encodings number ≡ Some encoding)
    × HasEncoding view.dictionary encoding
