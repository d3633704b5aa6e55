use Rattle.std.proofs.Common.{◌≡◌, ◌∙◌, refl, ap, sym, subst}
use Rattle.postscript_base.specs.Compact1.Operation.{operation}
use Rattle.postscript_base.specs.Tape.Outcome.{Got}
use Rattle.postscript_instance.proofs.Reading.{ends-elsewhere, found-so, read-nothing, same-place}
use Rattle.postscript_instance.specs.Whole.{told}
use Rattle.postscript_instance.proofs.parts.operation_in.Goals as goal

pub returns-then-position-text-clause-is : goal.returns-then-position-text-clause-is
returns-then-position-text-clause-is c = λ o dict.
    let text = c.args.text.now in
    let exact = c.in-Ok.ensures.exact refl in
    let got = c.reads_operations.ensures.law.all text 0 o dict.0 dict.1 in
    found-so text _ _ _ o _ dict.0 (ap (λ b. b.now) c.new-tape.ensures.inner) c.new-tape.ensures.position exact.1 got

pub returns-then-position-text-clause-found : goal.returns-then-position-text-clause-found
returns-then-position-text-clause-found c =
    let text = c.args.text.now in
    let exact = c.in-Ok.ensures.exact refl in
    let found = told c.in-Ok.operation in
    let next = c.read.new.tape.pos in
    let got = c.reads_operations.ensures.law.only text 0 found next
    (same-place text _ _ (Got found next) (ap (λ b. b.now) c.new-tape.ensures.inner) c.new-tape.ensures.position exact.1) in
    (next, got, sym (sym c.position.ensures ∙ c.if-position-text.true))

pub returns-else-position-text-clause-is : goal.returns-else-position-text-clause-is
returns-else-position-text-clause-is c = λ o dict.
    let text = c.args.text.now in
    let exact = c.in-Ok.ensures.exact refl in
    let got = c.reads_operations.ensures.law.all text 0 o dict.0 dict.1 in
    absurd (ends-elsewhere text _ _ _ o _ (ap (λ b. b.now) c.new-tape.ensures.inner) c.new-tape.ensures.position exact.1
    (λ same. c.if-position-text.false (c.position.ensures ∙ same)) (subst (λ n. operation text 0 ≡ Got o n) (sym dict.2) got))

pub returns-else-is_memory-clause-is : goal.returns-else-is_memory-clause-is
returns-else-is_memory-clause-is c = λ o dict.
    let text = c.args.text.now in
    let got = c.reads_operations.ensures.law.all text 0 o dict.0 dict.1 in
    let exact = c.in-Err.ensures.exact refl in
    absurd (read-nothing text _ _ c.in-Err.e o dict.0 (ap (λ b. b.now) c.new-tape.ensures.inner) c.new-tape.ensures.position
    (exact.1 (λ same. let never = c.if-is_memory.ensures.1 same in absurd (cc))) got)
