use Rattle.std.proofs.Common.{subst, sym}
use Rattle.postscript_instance.specs.Whole.{AreShortened}
use Rattle.postscript_instance.proofs.Matrices.{as-it-is, with-fewer, with-none, without}
use Rattle.postscript_instance.proofs.matrix.matrix_text.Goals as goal

pub returns-in_default-clause-is : goal.returns-in_default-clause-is
returns-in_default-clause-is c = without c.args.font.now.dictionary.bytes.now _ (sym c.in_default.ensures.exact) c.new.ensures.items

pub returns-in-Some-2-clause-is : goal.returns-in-Some-2-clause-is
returns-in-Some-2-clause-is c =
    let found = rw c.in-Some-2.is at c.in_ok-text.ensures.is in
    as-it-is c.args.font.now.dictionary.bytes.now c.bytes_between-operands.result.now c.in-Some-2.text.items _ (sym c.in-Some.ensures.exact)
    c.bytes_between-operands.ensures found

pub returns-in-Some-3-clause-is : goal.returns-in-Some-3-clause-is
returns-in-Some-3-clause-is c =
    let never = rw c.in_default-2.is at c.in_ok-text.ensures.is in
    let found = rw c.in-Some-3.is at c.in_ok-text-2.ensures.is in
    let are = subst (λ t. AreShortened c.bytes_between-operands.result.now 0 t) (sym c.deref.ensures.value) c.in_ok-shortened.ensures.are in
    with-fewer c.args.font.now.dictionary.bytes.now c.bytes_between-operands.result.now c.deref.result.now c.in-Some-3.text.items _
    (sym c.in-Some.ensures.exact) c.bytes_between-operands.ensures never are found

pub returns-clause-is : goal.returns-clause-is
returns-clause-is c =
    let never = rw c.in_default-2.is at c.in_ok-text.ensures.is in
    let none = rw c.in-None.is at c.in_ok-text-2.ensures.is in
    let are = subst (λ t. AreShortened c.bytes_between-operands.result.now 0 t) (sym c.deref.ensures.value) c.in_ok-shortened.ensures.are in
    with-none c.args.font.now.dictionary.bytes.now c.bytes_between-operands.result.now c.deref.result.now _ _ (sym c.in-Some.ensures.exact)
    c.bytes_between-operands.ensures never are none c.new-in-None.ensures.items
