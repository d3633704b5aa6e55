use Rattle.postscript_c.specs.Statics.{AreSettingsAlong}
use Rattle.postscript_c.proofs.statics.settings_along.Given as goal

-- the settings so far
abbrev pub invariant-loop-axis : goal.invariant-loop-axis
invariant-loop-axis l = AreSettingsAlong l.axes l.values l.axis l.all.items
