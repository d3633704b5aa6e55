use Rattle.std.proofs.Common.{refl, ap, sym, ◌∙◌, ◌≡◌, subst, ℕ, Ok, List, [], ◌++◌, append_assoc, arith}
use Rattle.postscript_type2.specs.Program.Evaluation.{with_phrase}
use Rattle.postscript_type2.specs.Program.Flat.{flat_bytes, flat_text}
use Rattle.postscript_type2.specs.Program.Limit.{nothing}
use Rattle.postscript_type2.specs.Program.Runs.{Phrase, Run}
use Rattle.postscript_type2.specs.Private.Machines.{Advances, still_of}
use Rattle.postscript_type2.proofs.Costs.{has, costs-some}
use Rattle.postscript_type2.proofs.Limit.{paid}
use Rattle.postscript_type2.proofs.program.flat.flat_code_within.Goals as goal

-- with the phrase at the front of what is still run appended, it is the same whole
longer : (flat : List ℕ) {after whole : List ℕ} {before rest : Run} {said : Phrase} → flat ++ flat_text before.trace ≡ whole →
    before ≡ with_phrase said rest →
    after ≡ flat ++ flat_bytes said → after ++ flat_text rest.trace ≡ whole
longer flat {after} {whole} {before} {rest} {said} same is appended =
    ap (λ front. front ++ flat_text rest.trace) appended ∙ append_assoc flat (flat_bytes said) (flat_text rest.trace)
    ∙ ap (λ run. flat ++ flat_text run.trace) (sym is) ∙ same

pub loop-limit-init : goal.loop-limit-init
loop-limit-init c =
    record {
      nested = c.requires;
      text = ap (λ front. front ++ flat_text (still_of c.args.machine.now).trace) c.new-flat.ensures.items;
      end = refl;
      spends = nothing;
    }

pub loop-limit-preserved-in-Continued : goal.loop-limit-preserved-in-Continued
loop-limit-preserved-in-Continued c =
    let went = subst (λ event. Advances (still_of c.loop-limit.machine) c.loop-limit.machine.state.width (Ok event) c.advance.new.self)
    c.in-Continued.is c.in_ok-event.ensures.advances in
    let before = c.loop-limit.invariant in record {
      nested = c.in_ok-event.ensures.nested;
      text = longer c.loop-limit.flat.items before.text went.0 c.in_ok-append-in-Continued.ensures.ok;
      end = sym (ap (λ run. run.end) went.0) ∙ before.end;
      spends = paid before.spends c.if-limit-eq0.false went.0 (costs-some (has c.loop-limit.machine) went.0) c.spend.ensures;
    }

pub loop-limit-preserved : goal.loop-limit-preserved
loop-limit-preserved c =
    let answered = subst (λ event. Advances (still_of c.loop-limit.machine) c.loop-limit.machine.state.width
    (Ok event) c.advance.new.self) c.in-Operation.is c.in_ok-event.ensures.advances in
    let before = c.loop-limit.invariant in record {
      nested = c.clear.ensures.nested;
      text = rw c.clear.ensures.still (longer c.loop-limit.flat.items before.text answered.0 c.in_ok-append-in-Operation.ensures.ok);
      end = ap (λ run. run.end) c.clear.ensures.still ∙ sym (ap (λ run. run.end) answered.0) ∙ before.end;
      spends = rw c.clear.ensures.still
          (paid before.spends c.if-limit-eq0.false answered.0
          (costs-some (has c.loop-limit.machine) answered.0) c.spend-in-Operation.ensures);
    }

pub returns-in-EndChar-clause-fits : goal.returns-in-EndChar-clause-fits
returns-in-EndChar-clause-fits c =
    let over = subst (λ event. Advances (still_of c.loop-limit.machine) c.loop-limit.machine.state.width (Ok event) c.advance.new.self)
    c.in-EndChar.is c.in_ok-event.ensures.advances in (
      [],
      paid c.loop-limit.invariant.spends c.if-limit-eq0.false over.1
          (costs-some (has c.loop-limit.machine) over.1) c.spend-in-EndChar.ensures,
      omega arith,
    )
