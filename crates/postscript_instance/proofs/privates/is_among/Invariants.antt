use Rattle.std.proofs.Common.{◌≡◌, ℕ, ◌<◌, get_or}
use Rattle.postscript_base.specs.declared.compact1.operator.Operator.TheVariants.{Version}
use Rattle.postscript_instance.proofs.privates.is_among.Given as goal

-- none so far is it
abbrev pub invariant-loop-i : goal.invariant-loop-i
invariant-loop-i l = (k : ℕ) → k < l.i → get_or l.operators k Version ≡ l.operator → ⊥
