use Rattle.std.proofs.Common.{◌≤◌, inl, inr, rules}
use Rattle.postscript_view.specs.Untold.{NoOwnEncoding}
use Rattle.postscript_view.proofs.Untelling.{at_least}
use Rattle.postscript_view.proofs.Coding.{if_err}
use Rattle.postscript_view.proofs.encoding.EncodingView.for_operand.Goals as goal

pub returns-in_default-clause-none : goal.returns-in_default-clause-none
returns-in_default-clause-none c = if_err c.own.result c.own.ensures.none (λ none encoding h. elim h [
  | inl standard ↦ absurd (search (rules, standard.0))
  | inr other ↦ elim other [
    | inl expert ↦ absurd (search (rules, expert.0))
    | inr own ↦ none encoding own.1
  ]
])

pub returns-in_default-clause-why : goal.returns-in_default-clause-why
returns-in_default-clause-why c =
    let far : 2 ≤ c.args.offset = search rules in
    at_least c.own.result (λ e. NoOwnEncoding e c.args.bytes.now c.args.offset) 2 c.args.offset far c.own.ensures.why
