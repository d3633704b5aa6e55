use Rattle.std.proofs.Common.{rules, ◌∙◌, inl, inr}
use Rattle.psfont_session.specs.declared.command.Command.TheVariants.{Run, Flat}
use Rattle.psfont_session.proofs.answer.asks_run.Goals as goal

pub returns-in_default-2 : goal.returns-in_default-2
returns-in_default-2 c = λ asks. elim asks.0 [
  | inl word ↦ let named = c.named.ensures.complete Run (c.split.ensures.word ∙ word) in search (rules, named)
  | inr word ↦ let named = c.named.ensures.complete Flat (c.split.ensures.word ∙ word) in search (rules, named)
]
