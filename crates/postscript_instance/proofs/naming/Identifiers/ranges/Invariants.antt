use Rattle.std.proofs.Common.{◌≡◌, All, drop, take}
use Rattle.postscript_instance.specs.Encoded.{IsRange, spread}
use Rattle.postscript_instance.proofs.naming.Identifiers.ranges.Given as goal

-- the SIDs so far
abbrev pub invariant-loop-i : goal.invariant-loop-i
invariant-loop-i l = record {
  spread : spread l.ranges.items ≡ drop 1 (take l.i l.self.numbers.items);
  small : All IsRange l.ranges.items;
}
