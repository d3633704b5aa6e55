use Rattle.std.proofs.Common.{◌≡◌, ◌∙◌, rules, arith, to_z, of_z, w32}
use Rattle.std.proofs.lemmas.Bool.Decides.{nat_tests}
use Rattle.postscript_c.specs.Parts.{refused}
use Rattle.postscript_c.proofs.glyph.part_at.Goals as goal

pub returns-in-Err : goal.returns-in-Err
returns-in-Err c =
    let same : to_z w32 (of_z w32 c.status.result) ≡ c.status.result = search rules in
    (λ plain. absurd (grind (arith, nat_tests, plain, c.if-font-eq0.false)), refused c.in-Err.e (same ∙ c.status.ensures) c.in-Err.ensures)
