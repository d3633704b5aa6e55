use Rattle.std.proofs.Common.{◌≡◌, ◌++◌, ◌∷◌, [], ap, subst, ◌∙◌, length, arith, rules}
use Rattle.std.proofs.lemmas.Result.{err_from_is_err_and}
use Rattle.postscript_base.specs.Tape.Outcome.{Got, RefusedAs}
use Rattle.postscript_base.specs.Compact1.Operation.{Operation, operation}
use Rattle.postscript_write.proofs.Without.{no_dictionary, one_told}
use Rattle.postscript_write.proofs.dictionaries.told_in.Goals as goal

pub returns-in_err-operator-clause-refused : goal.returns-in_err-operator-clause-refused
returns-in_err-operator-clause-refused c =
    let error = err_from_is_err_and c.from_residual.result c.from_residual.ensures.1 in
    let so_far = c.operations.invariant in
    rw (error.1, error.2) (λ other map is.
    let refused = c.in_err-operator.ensures.refused other in
    no_dictionary c.args.text.now c.operations.tape.pos so_far.so_far.all _ so_far.so_far.are
    (subst (λ bs. RefusedAs c.in_err-operator.field-0.0 (operation bs c.operations.tape.pos)) so_far.inner refused.0) refused.1 map is)

pub operations-preserved : goal.operations-preserved
operations-preserved c =
    let so_far = c.operations.invariant in
    let found = rw c.in-Some.is at c.in_ok-operator.ensures.found in
    let onward = rw c.in-Some.is at c.in_ok-operator.ensures.onward in
    let text = c.args.text.now in
    let end = c.next_operator.new.tape.pos in
    let one : Operation = (c.in-Some.operator, found.0) in
    let got : operation text c.operations.tape.pos ≡ Got one end =
    subst (λ bs. operation bs c.operations.tape.pos ≡ Got one end) so_far.inner found.1 in
    let more : c.push.new.self.items ≡ c.operations.told.items ++ c.in-Some.operator ∷ [] = search rules in
    record {
      inner = c.in_ok-operator.ensures.kept ∙ so_far.inner;
      within = let past = onward.1 in let same = ap length so_far.inner in omega (arith, past, same);
      so_far = one_told text c.operations.tape.pos end one c.operations.told.items c.push.new.self.items got more so_far.so_far;
    }
