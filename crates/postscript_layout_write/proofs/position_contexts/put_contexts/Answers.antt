use Rattle.std.proofs.Common.{subst, arith, false}
use Rattle.postscript_layout_write.specs.Coverages.{HaveContexts}
use Rattle.postscript_layout_write.specs.Flags.{set_of}
use Rattle.postscript_layout_write.specs.Marks.{type_at}
use Rattle.postscript_layout_write.specs.PositionContexts.{contexts_by}
use Rattle.postscript_layout_write.proofs.ContextCollecting.{chained-added}
use Rattle.postscript_layout_write.proofs.position_contexts.put_contexts.Goals as goal

pub returns-clause-done : goal.returns-clause-done
returns-clause-done c =
    let gpos = c.args.gpos.now in
    let kept = c.args.kept.now in
    let lookup = c.args.lookup in
    let offsets = c.in_ok-contexts.contexts.offsets.items in
    let bytes = c.in_ok-contexts.contexts.bytes.items in
    chained-added 8 c.args.flag (set_of gpos lookup) (contexts_by gpos kept lookup (type_at gpos lookup)) offsets bytes c.args.out.now.items
    c.put_chained.new.out.items (omega arith) c.in_ok-contexts.ensures.set
    (subst (λ n. HaveContexts false (contexts_by gpos kept lookup n) offsets bytes) c.type_of.ensures.exact c.in_ok-contexts.ensures.exact)
    c.in_ok-contexts.ensures.begins c.in_ok-put_chained.ensures.done
