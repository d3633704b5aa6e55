use Rattle.std.proofs.Common.{ℕ, subst, sym}
use Rattle.postscript_view.specs.CharSets.{IsCharSetOf}
use Rattle.postscript_write.proofs.numbering.char_set_of.Goals as goal

pub returns-in-Err-clause-memory : goal.returns-in-Err-clause-memory
returns-in-Err-clause-memory c =
    let font = c.args.font.now in
    let set = c.requires.0 in
    absurd (c.in-Err.ensures.refused set
    (subst (λ (n : ℕ). IsCharSetOf set font.bytes.now font.dictionary n) (sym c.len.ensures) c.requires.1))
