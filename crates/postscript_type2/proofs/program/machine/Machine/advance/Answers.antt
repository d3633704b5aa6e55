use Rattle.std.proofs.Common.{eqb-true, arith, ◌≡◌, ◌∙◌, ◌-◌, ap, sym, refl, rules, take, length, inr, add-one, ◌<◌, ◌≤◌}
use Rattle.std.proofs.lemmas.List.{drop_all}
use Rattle.std.proofs.lemmas.Result.{err_from_is_err_and}
use Rattle.postscript_type2.specs.Program.Effects.{Clears, last_of}
use Rattle.postscript_type2.specs.Program.States.{State, cleared, stacked, settled}
use Rattle.postscript_type2.specs.Program.Evaluation.{at_end, with_phrase}
use Rattle.postscript_type2.specs.Program.Runs.{by, Finished, UsedUp}
use Rattle.postscript_type2.specs.Private.Machines.{still_of}
use Rattle.postscript_type2.specs.Program.Charstrings.{lists_of}
use Rattle.postscript_type2.specs.Private.Working.{state_of, move_of, after_move}
use Rattle.postscript_type2.proofs.Arms.{IsRead, is-read, some-of, used-up, kept, answered, entered, too-deep-call, returned, no-caller, finished, trailing, refused-or-memory, unread-or-memory, unread-is-last, refused-is-last, too-deep-is-last, trailing-is-last}
use Rattle.postscript_type2.proofs.program.machine.Machine.advance.Goals as goal

pub returns-then-is_empty-clause-advances : goal.returns-then-is_empty-clause-advances
returns-then-is_empty-clause-advances g c =
    let run : still_of c.args.self.now ≡ at_end UsedUp = grind (arith, used-up, eqb-true) in
    (run, refl, drop_all (length c.args.self.now.state.stack.items - 0) c.args.self.now.state.stack.items (omega arith))

pub returns-in_err-operator-clause-advances : goal.returns-in_err-operator-clause-advances
returns-in_err-operator-clause-advances g c =
    let some : 0 < length c.args.self.now.routine = rw (← c.rest-rest.ensures)
    (some-of (length c.rest-rest.result.now) c.if-is_empty.ensures) in
    let error = err_from_is_err_and c.from_residual.result c.from_residual.ensures.1 in
    rw (error.1, error.2) (
      unread-or-memory
          (lists_of c.args.self.now.lists) c.args.self.now.left c.args.self.now.callers c.args.self.now.routine
          (state_of c.args.self.now.state) c.in_err-operator.field-0.0 some c.in_err-operator.ensures.reads,
      refl,
    )

pub returns-in_err-operator-clause-last : goal.returns-in_err-operator-clause-last
returns-in_err-operator-clause-last g c =
    let some : 0 < length c.args.self.now.routine = rw (← c.rest-rest.ensures)
    (some-of (length c.rest-rest.result.now) c.if-is_empty.ensures) in
    let error = err_from_is_err_and c.from_residual.result c.from_residual.ensures.1 in
    rw (error.1, error.2) (unread-is-last
    (lists_of c.args.self.now.lists) c.args.self.now.left c.args.self.now.callers c.args.self.now.routine
    (state_of c.args.self.now.state) c.in_err-operator.field-0.0 some c.in_err-operator.ensures.reads)

pub returns-in_err-act-clause-last : goal.returns-in_err-act-clause-last
returns-in_err-act-clause-last g c =
    let read : IsRead c.args.self.now.routine c.phrase.new.self
    (state_of c.args.self.now.state) c.phrase.new.stack.items c.in_ok-operator.operator c.in_ok-operator.ensures.reads.0 =
    is-read c.rest-rest.ensures c.if-is_empty.ensures c.in_ok-operator.ensures.reads.1 c.in_ok-operator.ensures.reads.2 in
    let does = c.in_err-act.ensures.value c.phrase.new.self (sym c.len-behind.ensures) in
    let error = err_from_is_err_and c.from_residual-in_err-act.result c.from_residual-in_err-act.ensures.1 in
    rw (error.1, error.2) (refused-is-last _ c.args.self.now.left c.args.self.now.callers read does.0)

pub returns-then-self-eq0-clause-last : goal.returns-then-self-eq0-clause-last
returns-then-self-eq0-clause-last g c =
    let read : IsRead c.args.self.now.routine c.phrase.new.self
    (state_of c.args.self.now.state) c.phrase.new.stack.items c.in_ok-operator.operator c.in_ok-operator.ensures.reads.0 =
    is-read c.rest-rest.ensures c.if-is_empty.ensures c.in_ok-operator.ensures.reads.1 c.in_ok-operator.ensures.reads.2 in
    let does = c.in_ok-act.ensures.value c.phrase.new.self (sym c.len-behind.ensures) in
    inr (rw c.if-self-eq0.true
    (too-deep-is-last _ c.args.self.now.callers read (does.0 ∙ ap (λ done. move_of done (state_of c.act.new.self)) c.in-Calls.is)))

pub returns-then-not-are_used_up-clause-last : goal.returns-then-not-are_used_up-clause-last
returns-then-not-are_used_up-clause-last g c =
    let read : IsRead c.args.self.now.routine c.phrase.new.self
    (state_of c.args.self.now.state) c.phrase.new.stack.items c.in_ok-operator.operator c.in_ok-operator.ensures.reads.0 =
    is-read c.rest-rest.ensures c.if-is_empty.ensures c.in_ok-operator.ensures.reads.1 c.in_ok-operator.ensures.reads.2 in
    let does = c.in_ok-act.ensures.value c.phrase.new.self (sym c.len-behind.ensures) in
    inr (trailing-is-last _ c.args.self.now.left c.args.self.now.callers read
    (does.0 ∙ ap (λ done. move_of done (state_of c.act.new.self)) c.in-Ends.is) c.if-not-are_used_up.ensures)

pub returns-in_err-act-clause-advances : goal.returns-in_err-act-clause-advances
returns-in_err-act-clause-advances g c =
    let read : IsRead c.args.self.now.routine c.phrase.new.self
    (state_of c.args.self.now.state) c.phrase.new.stack.items c.in_ok-operator.operator c.in_ok-operator.ensures.reads.0 =
    is-read c.rest-rest.ensures c.if-is_empty.ensures c.in_ok-operator.ensures.reads.1 c.in_ok-operator.ensures.reads.2 in
    let does = c.in_err-act.ensures.value c.phrase.new.self (sym c.len-behind.ensures) in
    let error = err_from_is_err_and c.from_residual-in_err-act.result c.from_residual-in_err-act.ensures.1 in
    rw (error.1, error.2) (refused-or-memory _ c.args.self.now.left c.args.self.now.callers read does.0, does.1)

pub returns-in-Keeps-clause-advances : goal.returns-in-Keeps-clause-advances
returns-in-Keeps-clause-advances g c =
    let read : IsRead c.args.self.now.routine c.phrase.new.self
    (state_of c.args.self.now.state) c.phrase.new.stack.items c.in_ok-operator.operator c.in_ok-operator.ensures.reads.0 =
    is-read c.rest-rest.ensures c.if-is_empty.ensures c.in_ok-operator.ensures.reads.1 c.in_ok-operator.ensures.reads.2 in
    let front : take c.in_ok-operator.count c.rest-rest.result.now ≡ take
    (length c.args.self.now.routine - length c.phrase.new.self) c.args.self.now.routine = rw
    (c.in_ok-operator.ensures.count, c.rest-rest.ensures) refl in
    let does = c.in_ok-act.ensures.value c.phrase.new.self (sym c.len-behind.ensures) in
    kept _ c.args.self.now.left c.args.self.now.callers read
    (does.0 ∙ ap (λ done. move_of done (state_of c.act.new.self)) c.in-Keeps.is) does.1 front

pub returns-in-Some-clause-advances : goal.returns-in-Some-clause-advances
returns-in-Some-clause-advances g c =
    let read : IsRead c.args.self.now.routine c.phrase.new.self
    (state_of c.args.self.now.state) c.phrase.new.stack.items c.in_ok-operator.operator c.in_ok-operator.ensures.reads.0 =
    is-read c.rest-rest.ensures c.if-is_empty.ensures c.in_ok-operator.ensures.reads.1 c.in_ok-operator.ensures.reads.2 in
    let front : take c.in_ok-operator.count c.rest-rest.result.now ≡ take
    (length c.args.self.now.routine - length c.phrase.new.self) c.args.self.now.routine = rw
    (c.in_ok-operator.ensures.count, c.rest-rest.ensures) refl in
    let stack = c.phrase.new.stack.items in
    let none = drop_all (length stack - 0) stack (omega arith) in
    let moves = c.in-Some.ensures (lists_of c.args.self.now.lists) c.phrase.new.self
    ∙ ap (λ pairs. Clears (last_of stack c.in-Some.count) pairs c.args.self.now.state.stems
    (settled c.args.self.now.state.width stack c.in-Some.count) 0) (sym none) in
    (answered _ c.args.self.now.left c.args.self.now.callers read moves refl refl (omega arith) front, refl)

pub returns-in-Clears-clause-advances : goal.returns-in-Clears-clause-advances
returns-in-Clears-clause-advances g c =
    let read : IsRead c.args.self.now.routine c.phrase.new.self
    (state_of c.args.self.now.state) c.phrase.new.stack.items c.in_ok-operator.operator c.in_ok-operator.ensures.reads.0 =
    is-read c.rest-rest.ensures c.if-is_empty.ensures c.in_ok-operator.ensures.reads.1 c.in_ok-operator.ensures.reads.2 in
    let front : c.passed-bytes.result.now ≡ take
    (length c.args.self.now.routine - length c.skip.new.self) c.args.self.now.routine = rw
    (← c.rest-rest.ensures) c.passed-bytes.ensures in
    let does = c.in_ok-act.ensures.value c.phrase.new.self (sym c.len-behind.ensures) in
    let moves = does.0 ∙ ap (λ done. move_of done (state_of c.act.new.self)) c.in-Clears.is in
    let becomes = does.1 ∙ ap (λ move. after_move move (stacked c.phrase.new.stack.items (state_of c.args.self.now.state))) moves in
    let room : c.in-Clears.mask ≤ length c.phrase.new.self = search rules in (
      answered _ c.args.self.now.left c.args.self.now.callers read moves
          (ap (λ (s : State). cleared (state_of c.act.new.self).stems
          (settled (state_of c.act.new.self).width (state_of c.act.new.self).stack c.in-Clears.taken.counted) s) becomes) c.skip.ensures room
          front,
      ap (λ (s : State). s.width) becomes,
    )

pub returns-then-self-eq0-clause-advances : goal.returns-then-self-eq0-clause-advances
returns-then-self-eq0-clause-advances g c =
    let read : IsRead c.args.self.now.routine c.phrase.new.self
    (state_of c.args.self.now.state) c.phrase.new.stack.items c.in_ok-operator.operator c.in_ok-operator.ensures.reads.0 =
    is-read c.rest-rest.ensures c.if-is_empty.ensures c.in_ok-operator.ensures.reads.1 c.in_ok-operator.ensures.reads.2 in
    let does = c.in_ok-act.ensures.value c.phrase.new.self (sym c.len-behind.ensures) in
    let refusal = too-deep-call _ c.args.self.now.callers read
    (does.0 ∙ ap (λ done. move_of done (state_of c.act.new.self)) c.in-Calls.is) does.1 in
    (inr (rw c.if-self-eq0.true refusal.0), refusal.1)

pub returns-in_ok-enter-in-Calls-clause-advances : goal.returns-in_ok-enter-in-Calls-clause-advances
returns-in_ok-enter-in-Calls-clause-advances g c =
    let read : IsRead c.args.self.now.routine c.phrase.new.self
    (state_of c.args.self.now.state) c.phrase.new.stack.items c.in_ok-operator.operator c.in_ok-operator.ensures.reads.0 =
    is-read c.rest-rest.ensures c.if-is_empty.ensures c.in_ok-operator.ensures.reads.1 c.in_ok-operator.ensures.reads.2 in
    let front : take c.in_ok-operator.count c.rest-rest.result.now ≡ take
    (length c.args.self.now.routine - length c.phrase.new.self) c.args.self.now.routine = rw
    (c.in_ok-operator.ensures.count, c.rest-rest.ensures) refl in
    let does = c.in_ok-act.ensures.value c.phrase.new.self (sym c.len-behind.ensures) in
    let entry = c.in_ok-enter-in-Calls.ensures in
    let run = entered _ read (does.0 ∙ ap (λ done. move_of done (state_of c.act.new.self)) c.in-Calls.is) does.1 entry.left entry.callers
    entry.routine front in
    (rw (entry.lists, entry.state) run.0, ap (λ (s : State). s.width) entry.state ∙ run.1)

pub returns-then-not-go_back-clause-advances : goal.returns-then-not-go_back-clause-advances
returns-then-not-go_back-clause-advances g c =
    let read : IsRead c.args.self.now.routine c.phrase.new.self
    (state_of c.args.self.now.state) c.phrase.new.stack.items c.in_ok-operator.operator c.in_ok-operator.ensures.reads.0 =
    is-read c.rest-rest.ensures c.if-is_empty.ensures c.in_ok-operator.ensures.reads.1 c.in_ok-operator.ensures.reads.2 in
    let does = c.in_ok-act.ensures.value c.phrase.new.self (sym c.len-behind.ensures) in
    let moves = does.0 ∙ ap (λ done. move_of done (state_of c.act.new.self)) c.in-Returns.is in
    let refusal = no-caller (lists_of c.args.self.now.lists) c.args.self.now.left c.args.self.now.routine c.phrase.new.self
    (state_of c.args.self.now.state) c.phrase.new.stack.items c.in_ok-operator.operator c.in_ok-operator.ensures.reads.0 read moves in (
      inr (rw (c.if-not-go_back.ensures.none refl) refusal),
      ap (λ (s : State). s.width)
          (does.1 ∙ ap (λ move. after_move move (stacked c.phrase.new.stack.items (state_of c.args.self.now.state))) moves),
    )

pub returns-else-not-go_back-clause-advances : goal.returns-else-not-go_back-clause-advances
returns-else-not-go_back-clause-advances g c =
    let read : IsRead c.args.self.now.routine c.phrase.new.self
    (state_of c.args.self.now.state) c.phrase.new.stack.items c.in_ok-operator.operator c.in_ok-operator.ensures.reads.0 =
    is-read c.rest-rest.ensures c.if-is_empty.ensures c.in_ok-operator.ensures.reads.1 c.in_ok-operator.ensures.reads.2 in
    let front : take c.in_ok-operator.count c.rest-rest.result.now ≡ take
    (length c.args.self.now.routine - length c.phrase.new.self) c.args.self.now.routine = rw
    (c.in_ok-operator.ensures.count, c.rest-rest.ensures) refl in
    let does = c.in_ok-act.ensures.value c.phrase.new.self (sym c.len-behind.ensures) in
    returned _ read (does.0 ∙ ap (λ done. move_of done (state_of c.act.new.self)) c.in-Returns.is) does.1
    (add-one c.args.self.now.left) (c.if-not-go_back.ensures.back refl) front

pub returns-then-not-are_used_up-clause-advances : goal.returns-then-not-are_used_up-clause-advances
returns-then-not-are_used_up-clause-advances g c =
    let read : IsRead c.args.self.now.routine c.phrase.new.self
    (state_of c.args.self.now.state) c.phrase.new.stack.items c.in_ok-operator.operator c.in_ok-operator.ensures.reads.0 =
    is-read c.rest-rest.ensures c.if-is_empty.ensures c.in_ok-operator.ensures.reads.1 c.in_ok-operator.ensures.reads.2 in
    let does = c.in_ok-act.ensures.value c.phrase.new.self (sym c.len-behind.ensures) in
    let run = trailing _ c.args.self.now.left c.args.self.now.callers read
    (does.0 ∙ ap (λ done. move_of done (state_of c.act.new.self)) c.in-Ends.is) does.1 c.if-not-are_used_up.ensures in
    (inr run.0, run.1)

pub returns-else-not-are_used_up-clause-advances : goal.returns-else-not-are_used_up-clause-advances
returns-else-not-are_used_up-clause-advances g c =
    let read : IsRead c.args.self.now.routine c.phrase.new.self
    (state_of c.args.self.now.state) c.phrase.new.stack.items c.in_ok-operator.operator c.in_ok-operator.ensures.reads.0 =
    is-read c.rest-rest.ensures c.if-is_empty.ensures c.in_ok-operator.ensures.reads.1 c.in_ok-operator.ensures.reads.2 in
    let front : take c.in_ok-operator.count c.rest-rest.result.now ≡ take
    (length c.args.self.now.routine - length c.phrase.new.self) c.args.self.now.routine = rw
    (c.in_ok-operator.ensures.count, c.rest-rest.ensures) refl in
    let does = c.in_ok-act.ensures.value c.phrase.new.self (sym c.len-behind.ensures) in
    let run = finished _ c.args.self.now.left c.args.self.now.callers read
    (does.0 ∙ ap (λ done. move_of done (state_of c.act.new.self)) c.in-Ends.is) c.if-not-are_used_up.ensures front in
    let stays : (state_of c.act.new.self).stack ≡ (state_of c.settle.new.self).stack = sym (ap (λ (s : State). s.stack) c.settle.ensures) in
    let width = settled (state_of c.act.new.self).width (state_of c.act.new.self).stack c.in-Ends.counted in (
      width,
      run ∙ ap (λ stack. with_phrase (by c.in_ok-operator.operator (take c.in_ok-operator.count c.rest-rest.result.now))
          (at_end (Finished (last_of stack c.in-Ends.counted) width))) stays,
      ap (λ (s : State). s.width) c.settle.ensures,
    )
