use Rattle.std.proofs.Common.{◌≡◌, ◌++◌, drop}
use Rattle.postscript_shaping.proofs.parts.put_all.Given as goal

abbrev pub invariant-loop-char : goal.invariant-loop-char
invariant-loop-char l = l.chars.items ++ drop l.char-index l.more ≡ l.fn.chars.items ++ l.more
