use Rattle.std.proofs.Common.{drop, subst, sym, take}
use Rattle.std.proofs.lemmas.List.{take-append-drop}
use Rattle.std.proofs.Common.{rules}
use Rattle.postscript_outline.proofs.Receiving.{received-next}
use Rattle.postscript_outline.specs.Sinks.{Receives, Took}
use Rattle.postscript_outline.proofs.sink.give.Goals as goal

pub returns-in_err-add-clause-front : goal.returns-in_err-add-clause-front
returns-in_err-add-clause-front g c =
    let all = c.args.segments.now in
    let i = c.loop-segment.segment-index in
    let is = subst (Receives g.S.Sink.after (g.S.Sink.state c.args.sink.now) (take i all))
    (sym (c.in_err-add.ensures.full)) c.loop-segment.invariant in
    let took : Took g.S.Sink.after (g.S.Sink.state c.args.sink.now) all (g.S.Sink.state c.add.new.self) =
    record { taken = take i all; rest = drop i all; all = sym (take-append-drop i all); is = is } in
    search rules

pub loop-segment-preserved : goal.loop-segment-preserved
loop-segment-preserved g c =
    received-next g.S.Sink.after _ _ _ c.args.segments.now c.loop-segment.segment-index _ c.loop-segment-test.true
    c.loop-segment.invariant c.in_ok-add.ensures.taken
