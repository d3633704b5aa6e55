use Rattle.std.proofs.Common.{◌∷◌, subst}
use Rattle.postscript_instance.specs.Private.{IsWritten}
use Rattle.postscript_instance.specs.Cuts.{said_by}
use Rattle.postscript_instance.proofs.Rests.{on-both, written-whole, written-piece}
use Rattle.postscript_instance.proofs.texts.put_saying.Goals as goal

pub loop-first-init : goal.loop-first-init
loop-first-init c = λ xs end is. subst (λ x. IsWritten c.args.width (x ∷ xs) c.args.out.now.items end) c.whole_operation-rest.ensures is

pub loop-first-preserved : goal.loop-first-preserved
loop-first-preserved c = λ xs end is.
    let cut = c.in-Some.ensures.cut in
    let put = c.in_ok-put_piece.ensures in
    c.loop-first.invariant xs end
    (written-piece c.loop-first.width (said_by c.loop-first.rest) (said_by c.in-Some.first)
    (said_by c.in-Some.behind) xs c.loop-first.out.items c.put_piece.new.out.items end cut.0 cut.1 cut.2 put.ok put.held is)

pub returns-clause-ok : goal.returns-clause-ok
returns-clause-ok c =
    let put = c.put_piece-2.ensures in
    on-both c.put_piece-2.result put.ok put.held (λ text held xs end is.
    c.loop-first.invariant xs end
    (written-whole c.loop-first.width
    (said_by c.loop-first.rest) xs c.loop-first.out.items c.put_piece-2.new.out.items end c.in_default.ensures.cut text held is))
