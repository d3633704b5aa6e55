use Rattle.std.proofs.Common.{◌≡◌, ◌++◌, drop}
use Rattle.std.specs.Prelude.{flat_map}
use Rattle.postscript_shaping.specs.Parts.{parts}
use Rattle.postscript_shaping.proofs.composing.with_parts.Given as goal

abbrev pub invariant-loop-char : goal.invariant-loop-char
invariant-loop-char l = l.all.items ++ flat_map parts (drop l.char-index l.chars) ≡ l.chars ++ flat_map parts l.chars
