use Rattle.std.proofs.Common.{◌≡◌, ◌^◌, ◌<◌, min, take}
use Rattle.postscript_base.specs.Compact1.Decimal.{digits_number}
use Rattle.postscript_base.proofs.compact1.digits.up_to_far.Given as goal

abbrev pub invariant-loop-digit : goal.invariant-loop-digit
invariant-loop-digit l =
    record { near : l.size < 2 ^ 80; value : min l.size (2 ^ 70) ≡ min (digits_number (take l.digit-index l.digits)) (2 ^ 70) }
