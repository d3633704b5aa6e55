use Rattle.std.proofs.lemmas.List.{append-nil, append_assoc}
use Rattle.std.proofs.lemmas.Result.{err_from_is_err_and}
use Rattle.std.proofs.Common.{◌≡◌, refl, ap, sym, ◌∙◌, Ok, rules, ◌∷◌, ◌++◌, [], ℕ, ℤ, pos, List, map}
use Rattle.postscript_c.proofs.Operands.{Last, all_of, last_row, one_more, theirs_too}
use Rattle.postscript_c.proofs.Spending.{head-is, on-operation, on-end, on-pause, on-refusal}
use Rattle.postscript_c.specs.Operations.{answered, held}
use Rattle.postscript_c.specs.declared.operations.PsfOperation.{PsfOperation}
use Rattle.postscript_type2.specs.Program.Limit.{nothing}
use Rattle.postscript_type2.specs.Program.Told.{within_of}
use Rattle.postscript_type2.specs.Program.Runs.{Answer, fault_of}
use Rattle.postscript_c.proofs.operations.list.Goals as goal

pub loop-operands-init : goal.loop-operands-init
loop-operands-init c = record { same = search rules; theirs = search rules; end = refl; spends = nothing }

pub loop-operands-preserved : goal.loop-operands-preserved
loop-operands-preserved c =
    let xs : List ℤ = c.loop-operands.operands.items in
    let ys : List ℤ = c.in-Operation.taken.now in
    let ss : List ℤ = c.in-Operation.hints.stems.now in
    let ms : List ℕ = c.in-Operation.hints.mask.now in
    let rows : List PsfOperation = c.loop-operands.rows.items in
    let next = c.tell_within.follows.lender-at-none in
    let told = c.in_ok-operator.was ∙ ap Ok c.in-Operation.is in
    let answer : Answer = record {
      operator = c.in-Operation.operator;
      operands = ys;
      hints = record { stems = ss; mask = ms };
      width = next.width;
    } in
    let left : c.loop-operands.program.answers ≡ answer ∷ next.answers = head-is c.loop-operands.program next c.loop-operands.limit
    c.tell_within.new.limit told c.tell_within.follows.holds-at-none.0 c.tell_within.ensures.hints in
    let last : Last ys ss ms c.code_of.result answer = record { named = c.code_of.ensures; operands = refl; stems = refl; mask = refl } in
    let end : next.end ≡ c.loop-operands.program.end = search rules in
    let pushed : c.push.new.self.items ≡ rows ++ last_row xs ys ss ms c.code_of.result ∷ [] = search rules in
    let added : c.put_mask.new.all.items ≡ all_of xs ys ss ms =
    c.in_ok-put_mask-in-Operation.ensures.added
    ∙ ap (λ zs. zs ++ map pos ms) (c.in_ok-put-in-Operation-2.ensures.added ∙ ap (λ zs. zs ++ ss) c.in_ok-put-in-Operation.ensures.added)
    ∙ append_assoc (xs ++ ys) ss (map pos ms) ∙ append_assoc xs ys (ss ++ map pos ms) in
    record {
      same =
          rw added (rw pushed (one_more xs ys ss ms rows c.code_of.result answer next.answers c.loop-operands.program.answers
          (map answered c.args.program.now.answers) last left
          c.loop-operands.invariant.theirs c.loop-operands.invariant.same));
      theirs = rw added (rw pushed (theirs_too xs ys ss ms rows c.code_of.result c.loop-operands.invariant.theirs));
      end = end ∙ c.loop-operands.invariant.end;
      spends = on-operation c.loop-operands.program next
          (ap within_of told) c.tell_within.follows.holds-at-none.0 c.loop-operands.invariant.spends;
    }

pub returns-in-End : goal.returns-in-End
returns-in-End c =
    let ends = on-end c.loop-operands.program c.tell_within.follows.lender-at-none
    (ap within_of (c.in_ok-operator.was ∙ ap Ok c.in-End.is)) c.tell_within.follows.holds-at-none.0 c.loop-operands.invariant.spends in
    let listed = map (held c.loop-operands.operands.items) c.loop-operands.rows.items in record {
      within = (
        sym (append-nil listed) ∙ ap (λ left. listed ++ map answered left) (sym ends.0) ∙ c.loop-operands.invariant.same,
        ap fault_of (sym c.loop-operands.invariant.end) ∙ ends.1,
        ends.2,
      );
      inside = c.loop-operands.invariant.theirs;
    }

pub returns-in-Paused : goal.returns-in-Paused
returns-in-Paused c =
    record {
      within = on-pause c.loop-operands.program c.tell_within.follows.lender-at-none
          (ap within_of (c.in_ok-operator.was ∙ ap Ok c.in-Paused.is)) c.tell_within.follows.holds-at-none.0 c.loop-operands.invariant.spends;
      inside = search rules;
    }

pub returns-in_err-operator : goal.returns-in_err-operator
returns-in_err-operator c =
    let error = err_from_is_err_and c.from_residual.result c.from_residual.ensures.1 in
    let refusal = on-refusal c.loop-operands.program c.tell_within.follows.lender-at-none
    (ap within_of c.in_err-operator.was) c.tell_within.follows.holds-at-none.0 c.loop-operands.invariant.spends in
    record { within = rw (error.1, error.2) (rw c.loop-operands.invariant.end at refusal.0, refusal.1); inside = rw (error.1) (search rules) }
