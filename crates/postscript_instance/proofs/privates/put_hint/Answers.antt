use Rattle.std.proofs.Common.{◌∙◌, arith}
use Rattle.postscript_instance.specs.Hints as hints
use Rattle.postscript_instance.proofs.Hinting.{left-out, no-operands, none-there, put-or-not, some-operands}
use Rattle.postscript_instance.proofs.privates.put_hint.Goals as goal

pub returns-then-numbers-eq0-clause-more : goal.returns-then-numbers-eq0-clause-more
returns-then-numbers-eq0-clause-more c =
    left-out c.args.bytes.now c.args.operator.now c.args.numbers.now c.args.out.now.items (hints.without_operands c.if-numbers-eq0.true)

pub returns-then-numbers-gt-OPERANDS-clause-more : goal.returns-then-numbers-gt-OPERANDS-clause-more
returns-then-numbers-gt-OPERANDS-clause-more c =
    left-out c.args.bytes.now c.args.operator.now c.args.numbers.now c.args.out.now.items (hints.too_many (omega arith))

pub returns-in_default-clause-more : goal.returns-in_default-clause-more
returns-in_default-clause-more c =
    left-out c.args.bytes.now c.args.operator.now c.args.numbers.now c.args.out.now.items
    (no-operands c.args.bytes.now c.args.operator.now c.args.numbers.now c.in_ok-operands.field-0 (none-there _ c.in_default.not-Some)
    c.in_ok-operands.ensures.are)

pub returns-clause-more : goal.returns-clause-more
returns-clause-more c =
    put-or-not c.args.bytes.now c.args.operator.now c.args.numbers.now c.in-Some.operands.items c.deref.result.now c.args.out.now.items
    c.put_operation.new.out.items (λ none. c.if-numbers-eq0.false none) (omega arith)
    (some-operands c.args.bytes.now c.args.numbers.now c.in_ok-operands.field-0 c.in-Some.operands c.in-Some.is c.in_ok-operands.ensures.are)
    (c.deref.ensures.value ∙ c.in_ok-extend_from_slice.ensures.items) c.in_ok-put_operation.ensures.more
