use Rattle.std.proofs.Common.{rules, ◌∙◌}
use Rattle.psfont_session.specs.declared.command.Command.TheVariants.{Load, Run, Flat, Font}
use Rattle.psfont_session.proofs.answer.answer_line.Goals as goal
use Rattle.psfont_session.proofs.answer.answer_line.Goals.{in_default-via-in-Some-Run+else-is_empty-2, in_default-via-in-Some-Flat+else-is_empty-3, in_default-via-in_default}

pub returns-in_ok-writeln-in_default-clause-puts : goal.returns-in_ok-writeln-in_default-clause-puts
returns-in_ok-writeln-in_default-clause-puts g c = λ place bytes loads.
    let named = c.named.ensures.complete (Load place) (c.split.ensures.word ∙ loads.0) in
    elim c.in_default.branch [
      | in_default-via-in-Some-Run+else-is_empty-2 w ↦ search (rules, named)
      | in_default-via-in-Some-Flat+else-is_empty-3 w ↦ search (rules, named)
      | in_default-via-in_default w ↦ search (rules, named)
    ]

pub returns-in_ok-writeln-in_default-clause-loaded : goal.returns-in_ok-writeln-in_default-clause-loaded
returns-in_ok-writeln-in_default-clause-loaded g c = λ place word.
    let named = c.named.ensures.complete (Load place) (c.split.ensures.word ∙ word) in
    elim c.in_default.branch [
      | in_default-via-in-Some-Run+else-is_empty-2 w ↦ search (rules, named)
      | in_default-via-in-Some-Flat+else-is_empty-3 w ↦ search (rules, named)
      | in_default-via-in_default w ↦ search (rules, named)
    ]

pub returns-in_ok-writeln-in_default-clause-ran : goal.returns-in_ok-writeln-in_default-clause-ran
returns-in_ok-writeln-in_default-clause-ran g c = λ word empty.
    let named = c.named.ensures.complete Run (c.split.ensures.word ∙ word) in
    elim c.in_default.branch [
      | in_default-via-in-Some-Run+else-is_empty-2 w ↦ search
          (rules, c.split.ensures.argument ∙ empty, w.if-is_empty-2.ensures, w.if-is_empty-2.false)
      | in_default-via-in-Some-Flat+else-is_empty-3 w ↦ search (rules, named)
      | in_default-via-in_default w ↦ search (rules, named)
    ]

pub returns-in_ok-writeln-in_default-clause-flattened : goal.returns-in_ok-writeln-in_default-clause-flattened
returns-in_ok-writeln-in_default-clause-flattened g c = λ word empty.
    let named = c.named.ensures.complete Flat (c.split.ensures.word ∙ word) in
    elim c.in_default.branch [
      | in_default-via-in-Some-Run+else-is_empty-2 w ↦ search (rules, named)
      | in_default-via-in-Some-Flat+else-is_empty-3 w ↦ search
          (rules, c.split.ensures.argument ∙ empty, w.if-is_empty-3.ensures, w.if-is_empty-3.false)
      | in_default-via-in_default w ↦ search (rules, named)
    ]

pub returns-in_ok-writeln-in_default-clause-shown : goal.returns-in_ok-writeln-in_default-clause-shown
returns-in_ok-writeln-in_default-clause-shown g c = λ manner word.
    let named = c.named.ensures.complete (Font manner) (c.split.ensures.word ∙ word) in
    elim c.in_default.branch [
      | in_default-via-in-Some-Run+else-is_empty-2 w ↦ search (rules, named)
      | in_default-via-in-Some-Flat+else-is_empty-3 w ↦ search (rules, named)
      | in_default-via-in_default w ↦ search (rules, named)
    ]
