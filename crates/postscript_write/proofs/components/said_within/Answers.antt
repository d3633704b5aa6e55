use Rattle.std.proofs.Common.{◌≡◌, ◌∙◌, ap, subst}
use Rattle.std.specs.Prelude.{MatchOption}
use Rattle.postscript_drawing.specs.Accents.{IsAccent, run_by}
use Rattle.postscript_drawing.specs.declared.accent.Accent.{Accent}
use Rattle.postscript_type2.specs.Program.Runs.{taken_by}
use Rattle.postscript_view.proofs.Limiting.{on-true}
use Rattle.postscript_write.proofs.components.said_within.Goals as goal

pub returns-in-Ok-true-clause-said : goal.returns-in-Ok-true-clause-said
returns-in-Ok-true-clause-said c =
    let same : c.operands_at_end.result.now ≡ taken_by (run_by c.args.glyph.now).end =
    c.operands_at_end.ensures ∙ on-true c.in-Ok-true.field-0 c.in-Ok-true.ensures.taken (c.in-Ok-true.field-0-is ∙ c.in-Ok-true.field-0-test) ∙ ap (λ p. taken_by p.end) c.program-program.ensures in
    subst (λ xs. MatchOption c.named_by.result ((accent : Accent) → IsAccent xs accent → ⊥) (λ accent. IsAccent xs accent)) same
    c.named_by.ensures
