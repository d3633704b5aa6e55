use Rattle.postscript_write.proofs.Making.{if_err}
use Rattle.postscript_write.proofs.Stopping.{not-stopped}
use Rattle.postscript_write.specs.Refusals.{IsChoiceRefusedBy}
use Rattle.postscript_write.proofs.fonts.kept_glyphs.Goals as goal

pub returns-clause-refused : goal.returns-clause-refused
returns-clause-refused c =
    let named = c.args.named.now in
    let bytes = c.args.bytes.now in
    if_err c.kept_glyphs_within.result (λ e h. not-stopped (IsChoiceRefusedBy named bytes e) bytes named e h) c.kept_glyphs_within.ensures.refused
