-- Settings of one axis after the other.
use Rattle.std.proofs.Common.{◌≡◌, refl, ℕ, ◌+◌, ℤ, List, [], ◌∷◌, ◌++◌, arith}
use Rattle.postscript_c.proofs.Placing.{added}
use Rattle.postscript_c.specs.Statics.{AreSettingsAlong, setting_of}
use Rattle.postscript_variation.specs.declared.axes.Axes.{Axes}
use Rattle.postscript_variation.specs.declared.coordinates.Setting.{Setting}

pub no_settings : (axes : Axes) (values : List ℤ) → AreSettingsAlong axes values 0 []
no_settings axes values = record { counted = refl; each = λ i h. absurd (omega (arith, h)) }

pub one_setting : (axes : Axes) (values : List ℤ) (n : ℕ) (xs : List Setting) (x : Setting) → AreSettingsAlong axes values n xs →
    x ≡ setting_of axes values n →
    AreSettingsAlong axes values (n + 1) (xs ++ x ∷ [])
one_setting axes values n xs x are is =
    let both = added (setting_of axes values) n xs x are.counted are.each is in
    record { counted = both.0; each = both.1 }
