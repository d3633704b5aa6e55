-- Identifiers of one glyph after the other.
use Rattle.std.proofs.Common.{ℕ, ◌+◌, ℤ, List, [], ◌∷◌, ◌++◌, length, subst, arith}
use Rattle.postscript_c.specs.Identifiers.{AreFrom, IsIdentifier}
use Rattle.postscript_view.specs.declared.char_set.CharSetView.{CharSetView}

pub added : (set : CharSetView) (glyph : ℕ) (all : List ℤ) (told : ℤ) → AreFrom set glyph all →
    IsIdentifier set (glyph + length all) told → AreFrom set glyph (all ++ told ∷ [])
added set glyph [] told before here = (subst (λ g. IsIdentifier set g told) (omega arith) here, tt)
added set glyph (x ∷ rest) told before here =
    (before.0, added set (glyph + 1) rest told before.1 (subst (λ g. IsIdentifier set g told) (omega arith) here))
