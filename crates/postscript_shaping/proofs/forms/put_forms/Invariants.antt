use Rattle.std.proofs.Common.{◌≡◌, ◌++◌, drop}
use Rattle.std.specs.List.{filter}
use Rattle.postscript_shaping.specs.Computing.{is_form}
use Rattle.postscript_shaping.proofs.forms.put_forms.Given as goal

abbrev pub invariant-loop-char : goal.invariant-loop-char
invariant-loop-char l = l.all.items ++ filter (is_form l.kept l.own) (drop l.char-index l.mapped) ≡ l.fn.all.items ++ filter (is_form l.kept l.own) l.mapped
