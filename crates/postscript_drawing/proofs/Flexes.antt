-- The two curves of a flex.
use Rattle.std.proofs.Common.{◌≡◌}
use Rattle.postscript_drawing.specs.declared.stroke.Vector.{Vector}
use Rattle.postscript_drawing.specs.Strokes.{two}

pub same-two : {a b c d e f u v w x y z : Vector} → a ≡ u → b ≡ v → c ≡ w → d ≡ x → e ≡ y → f ≡ z → two a b c d e f ≡ two u v w x y z
same-two p q r s t o = cc
