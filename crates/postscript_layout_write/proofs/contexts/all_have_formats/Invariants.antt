use Rattle.std.proofs.Common.{◌≡◌}
use Rattle.postscript_layout_write.specs.Contexts.{all_have_formats}
use Rattle.postscript_layout_write.proofs.contexts.all_have_formats.Given as goal

abbrev pub invariant-loop-j : goal.invariant-loop-j
invariant-loop-j l = l.all ≡ all_have_formats l.gsub l.lookup l.kind l.j
