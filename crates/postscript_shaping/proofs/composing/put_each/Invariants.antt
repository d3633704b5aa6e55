use Rattle.std.proofs.Common.{◌≡◌, ◌++◌, drop}
use Rattle.std.specs.List.{filter}
use Rattle.postscript_shaping.specs.Computing.{is_composed}
use Rattle.postscript_shaping.proofs.composing.put_each.Given as goal

abbrev pub invariant-loop-char : goal.invariant-loop-char
invariant-loop-char l = l.all.items ++ filter (is_composed l.composes l.known l.long) (drop l.char-index l.mapped)
    ≡ l.fn.all.items ++ filter (is_composed l.composes l.known l.long) l.mapped
