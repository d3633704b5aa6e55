use Rattle.std.proofs.Common.{◌≡◌, ◌<◌, ℕ, ℤ, List, Some, slice_get}
use Rattle.postscript_instance_file.specs.Glyphs.{IsGlyphBy}
use Rattle.postscript_instance_file.proofs.instance.first_fault.Given as goal

-- the glyphs so far have charstrings with their widths
abbrev pub invariant-loop-i : goal.invariant-loop-i
invariant-loop-i l =
    (glyph : ℕ) → glyph < l.i → (width : ℤ) × (code : List ℕ) × (slice_get l.drawn.widths.items glyph ≡ Some width)
    × IsGlyphBy l.is_rounded l.face.font glyph l.location.place (Some width) code
