use Rattle.std.proofs.Common.{◌≡◌, ◌≤◌, None, Some}
use Rattle.std.specs.Prelude.{if◌then◌else◌}
use Rattle.postscript_layout_write.specs.Contexts.{has_format}
use Rattle.postscript_layout_write.specs.First.{first_some}
use Rattle.postscript_layout_write.specs.Marks.{typed_at}
use Rattle.postscript_layout_write.proofs.position_contexts.all_have_formats.Given as goal

abbrev pub invariant-loop-j : goal.invariant-loop-j
invariant-loop-j l = record {
  before : first_some (λ j. if has_format l.gpos (typed_at l.gpos l.lookup l.kind j) then None else Some j) l.j ≡ None;
  spent : l.limit ≤ l.fn.limit;
}
