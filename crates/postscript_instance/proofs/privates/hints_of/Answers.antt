use Rattle.std.proofs.Common.{[], ◌+◌, ap, refl, sym, subst, arith}
use Rattle.postscript_instance.specs.Encoded.{HasHints, shown}
use Rattle.postscript_instance.specs.Hints as hints
use Rattle.postscript_instance.specs.Whole as whole
use Rattle.postscript_instance.proofs.Hinting.{goes-cut, goes-first, goes-last, goes-operand, goes-operator}
use Rattle.postscript_instance.proofs.privates.hints_of.Goals as goal

no-hints : HasHints []
no-hints = ([], whole.no_hint)

pub loop-place-init : goal.loop-place-init
loop-place-init c = record {
  at = goes-first c.args.tables.now c.args.bytes.now c.new.result.items c.new-2.result.items c.new.ensures.items c.new-2.ensures.items;
  hints = subst HasHints (sym c.new-2.ensures.items) no-hints;
}

pub returns-then-end-bytes-clause-at : goal.returns-then-end-bytes-clause-at
returns-then-end-bytes-clause-at c =
    goes-cut c.args.tables.now c.args.bytes.now c.loop-place.place c.number_at-first.result (c.loop-place.place + c.operator_size.result)
    (shown c.loop-place.state) c.loop-place.state.out.items c.loop-place.invariant.at c.loop-place-test.true c.number_at-first.ensures.value
    c.if-first-lt28.true (ap (λ n. c.loop-place.place + n) c.operator_size.ensures.exact) c.if-end-bytes.true

pub loop-place-preserved-then-first-lt28 : goal.loop-place-preserved-then-first-lt28
loop-place-preserved-then-first-lt28 c = record {
  at = goes-operator c.args.tables.now c.args.bytes.now c.loop-place.place c.number_at-first.result (c.loop-place.place + c.operator_size.result)
      _ (shown c.loop-place.state) (shown c.act.new.state) c.loop-place.state.out.items c.act.new.state.out.items c.loop-place.invariant.at
      c.loop-place-test.true c.number_at-first.ensures.value c.if-first-lt28.true (ap (λ n. c.loop-place.place + n) c.operator_size.ensures.exact)
      (omega arith) refl c.in_ok-act.ensures.acts;
  hints = c.in_ok-act.ensures.hints c.loop-place.invariant.hints;
}

pub loop-place-preserved : goal.loop-place-preserved
loop-place-preserved c = record {
  at = goes-operand c.args.tables.now c.args.bytes.now c.loop-place.place c.number_at-first.result c.operand_at-number.result.1 c.operand_at-number.result.0
      (shown c.loop-place.state) c.push.new.self.items c.loop-place.state.out.items c.loop-place.invariant.at c.loop-place-test.true
      c.number_at-first.ensures.value c.if-first-lt28.false c.operand_at-number.ensures.next c.operand_at-number.ensures.number c.in_ok-push.ensures.items;
  hints = c.loop-place.invariant.hints;
}

pub returns-clause-at : goal.returns-clause-at
returns-clause-at c =
    goes-last c.args.tables.now c.args.bytes.now c.loop-place.place (shown c.loop-place.state) c.loop-place.state.out.items
    c.loop-place.invariant.at (hints.ends c.loop-place.place (shown c.loop-place.state) c.loop-place-test.false)
