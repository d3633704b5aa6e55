use Rattle.std.proofs.Common.{ℕ, subst}
use Rattle.postscript_variation.specs.Lent.{HasNoTable, IsDataIn}
use Rattle.postscript_variation.specs.LentDeltas.{TakesItemSteps}
use Rattle.postscript_variation.proofs.Tables.{stepped, stepless}
use Rattle.postscript_variation.proofs.advances.AdvanceVariations.steps.Goals as goal

pub returns-in-Some : goal.returns-in-Some
returns-in-Some c =
    let self = c.args.self.now in
    let found = c.in-Some.«data» in
    let is = subst (λ (n : ℕ). IsDataIn self.store n found) c.table.ensures c.in-Some.ensures in
    let takes = subst (λ (n : ℕ). TakesItemSteps found n c.steps.result) c.item.ensures c.steps.ensures in
    stepped self c.args.glyph found c.steps.result is takes

pub returns-in-None : goal.returns-in-None
returns-in-None c =
    let self = c.args.self.now in
    stepless self c.args.glyph (subst (λ (n : ℕ). HasNoTable self.store n) c.table.ensures c.in-None.ensures)
