use Rattle.std.proofs.Common.{length, ◌≡◌, refl, sym, ap, subst, ◌∙◌, [], ◌++◌, ◌+◌, drop, arith}
use Rattle.std.proofs.lemmas.Result.{err_from_is_err_and}
use Rattle.postscript_base.specs.Tape.Outcome.{Got, RefusedAs}
use Rattle.postscript_base.specs.Compact1.Operation.{Operation, operation}
use Rattle.postscript_base.specs.Compact1.DictionaryLaw.{UnfinishedAt}
use Rattle.postscript_write.specs.LeftOut.{IsLeftText}
use Rattle.postscript_write.specs.LeftOut.IsLeftText.{ends}
use Rattle.std.proofs.lemmas.List.{append-nil}
use Rattle.postscript_write.proofs.Without.{finished, left_more, no_dictionary, one_comes, one_more_so, rest_of}
use Rattle.postscript_write.proofs.dictionaries.operations_without.Goals as goal

pub operations-init : goal.operations-init
operations-init c = record {
  inner = ap (λ x. x.now) c.new-tape.ensures.inner;
  position = c.new-tape.ensures.position;
  within = omega arith;
  so_far = record {
    all = [];
    coming = c.in_ok-told.ensures.told.all;
    left = [];
    end = c.in_ok-told.ensures.told.end;
    are = refl;
    come = c.in_ok-told.ensures.told.are;
    stops = c.in_ok-told.ensures.told.stops;
    later = c.in_ok-told.ensures.told.told;
    among = λ more is. is;
    stand = ap length c.new-out.ensures.items;
  };
  spelled = λ rest h. subst (λ xs. IsLeftText c.args.text.now c.args.left_out.now 0 (xs ++ rest)) (sym c.new-out.ensures.items) h;
}

pub returns-in_err-operator-clause-refused : goal.returns-in_err-operator-clause-refused
returns-in_err-operator-clause-refused c =
    let error = err_from_is_err_and c.from_residual-in_err-operator.result c.from_residual-in_err-operator.ensures.1 in
    let so_far = c.operations.invariant in
    rw (error.1, error.2) (λ other map is.
    let refused = c.in_err-operator.ensures.refused other in
    no_dictionary c.args.text.now c.operations.place so_far.so_far.all _ so_far.so_far.are
    (subst (λ p. RefusedAs c.in_err-operator.field-0.0 (operation c.args.text.now p)) so_far.position
    (subst (λ bs. RefusedAs c.in_err-operator.field-0.0 (operation bs c.operations.tape.pos)) so_far.inner refused.0)) refused.1 map is)

pub overflow_add-count : goal.overflow_add-count
overflow_add-count c =
    let so_far = c.operations.invariant in
    let comes = one_comes c.args.text.now c.operations.tape.inner.now c.args.left_out.now c.in_ok-told.told.items c.operations.place
    c.operations.tape.pos c.operations.count c.operations.out.items c.in-Some.operator c.next_operator.new.tape.pos
    (rw c.in-Some.is at c.in_ok-operator.ensures.found) so_far.inner so_far.position so_far.so_far in
    omega (arith, comes, c.in_ok-told.told.ok.0, c.in_ok-told.told.small)

pub slice_bounds-put_unless-count-in-Some : goal.slice_bounds-put_unless-count-in-Some
slice_bounds-put_unless-count-in-Some c =
    let so_far = c.operations.invariant in
    let comes = one_comes c.args.text.now c.operations.tape.inner.now c.args.left_out.now c.in_ok-told.told.items c.operations.place
    c.operations.tape.pos c.operations.count c.operations.out.items c.in-Some.operator c.next_operator.new.tape.pos
    (rw c.in-Some.is at c.in_ok-operator.ensures.found) so_far.inner so_far.position so_far.so_far in
    omega (arith, comes, ap length c.deref.ensures.value)

pub slice_bounds-put_unless-start-in-Some : goal.slice_bounds-put_unless-start-in-Some
slice_bounds-put_unless-start-in-Some c =
    let so_far = c.operations.invariant in
    let comes = one_comes c.args.text.now c.operations.tape.inner.now c.args.left_out.now c.in_ok-told.told.items c.operations.place
    c.operations.tape.pos c.operations.count c.operations.out.items c.in-Some.operator c.next_operator.new.tape.pos
    (rw c.in-Some.is at c.in_ok-operator.ensures.found) so_far.inner so_far.position so_far.so_far in
    omega (arith, comes, ap length c.deref.ensures.value)

pub operations-preserved : goal.operations-preserved
operations-preserved c =
    let so_far = c.operations.invariant in
    let found = rw c.in-Some.is at c.in_ok-operator.ensures.found in
    let onward = rw c.in-Some.is at c.in_ok-operator.ensures.onward in
    let text = c.args.text.now in
    let end = c.next_operator.new.tape.pos in
    let told = c.in_ok-told.told.items in
    let one : Operation = (c.in-Some.operator, found.0) in
    let next : end ≡ c.position-next.result = sym c.position-next.ensures in
    let got : operation text c.operations.place ≡ Got one c.position-next.result =
    subst (λ p. operation text p ≡ Got one end) so_far.position
    (subst (λ bs. operation bs c.operations.tape.pos ≡ Got one end) so_far.inner found.1) ∙ ap (λ n. Got one n) next in
    let put = c.in_ok-put_unless.ensures.either in
    let later = rest_of c.deref.result.now (c.operations.count + 1) ∙ ap (drop (c.operations.count + 1)) c.deref.ensures.value in
    record {
      inner = c.in_ok-operator.ensures.kept ∙ so_far.inner;
      position = next;
      within = let past = onward.1 in let same = ap length so_far.inner in omega (arith, past, same, next);
      so_far = one_more_so text c.operations.out.items c.put_unless.new.out.items c.args.left_out.now told _ c.operations.place
          c.position-next.result c.operations.count one got so_far.so_far later put;
      spelled = left_more text c.operations.out.items c.put_unless.new.out.items c.args.left_out.now told _ c.operations.place
          c.position-next.result c.operations.count one got so_far.so_far later put so_far.spelled;
    }

pub returns-clause-text : goal.returns-clause-text
returns-clause-text c =
    let so_far = c.operations.invariant in
    let text = c.args.text.now in
    subst (λ xs. IsLeftText text c.args.left_out.now 0 xs) (append-nil c.operations.out.items)
    (so_far.spelled [] (ends c.operations.place (λ o next got.
    c.in_ok-operator.ensures.ends c.in_default.is o next
    (subst (λ bs. operation bs c.operations.tape.pos ≡ Got o next) (sym so_far.inner)
    (subst (λ p. operation text p ≡ Got o next) (sym so_far.position) got)))))

pub returns-clause-left : goal.returns-clause-left
returns-clause-left c =
    let so_far = c.operations.invariant in
    let text = c.args.text.now in
    finished text c.args.left_out.now c.in_ok-told.told.items c.operations.place c.operations.count c.operations.out.items so_far.so_far
    (λ o next got. c.in_ok-operator.ensures.ends c.in_default.is o next
    (subst (λ bs. operation bs c.operations.tape.pos ≡ Got o next) (sym so_far.inner)
    (subst (λ p. operation text p ≡ Got o next) (sym so_far.position) got)))
    (subst (λ p. UnfinishedAt text p) so_far.position
    (subst (λ bs. UnfinishedAt bs c.operations.tape.pos) so_far.inner (c.in_ok-operator.ensures.cut c.in_default.is)))
