use Rattle.std.proofs.Common.{◌∙◌, sym}
use Rattle.postscript_instance.proofs.Hinting.{as-they-are, found-edges, same-bits}
use Rattle.postscript_instance.proofs.privates.operands_of.Goals as goal

pub returns-then-are_encoded-clause-are : goal.returns-then-are_encoded-clause-are
returns-then-are_encoded-clause-are c =
    as-they-are c.args.bytes.now c.args.numbers.now _ (sym c.are_encoded.ensures ∙ c.if-are_encoded.true) c.in_ok-text.ensures.text

pub returns-in_ok-text-in-Some-clause-are : goal.returns-in_ok-text-in-Some-clause-are
returns-in_ok-text-in-Some-clause-are c =
    found-edges c.args.bytes.now c.args.numbers.now c.deref.result.now c.in_ok-text-in-Some.text
    (sym c.are_encoded.ensures ∙ c.if-are_encoded.false)
    (same-bits c.args.numbers.now c.in_ok-bits.field-0 c.in-Some.bits c.deref.result.now c.in-Some.is c.in_ok-bits.ensures.bits c.deref.ensures.value)
    c.in_ok-text-in-Some.ensures.text
