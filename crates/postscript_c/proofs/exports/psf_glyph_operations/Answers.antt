use Rattle.std.proofs.Common.{◌≡◌, rules, inl, inr, refl, sym, subst, ℤ, to_z, of_z, w32}
use Rattle.postscript_c.specs.Listing.{TellsOperationsBy, rooms}
use Rattle.postscript_c.specs.Parts.{IsPartless}
use Rattle.postscript_c.proofs.exports.psf_glyph_operations.Goals as goal

pub returns-in-Ok : goal.returns-in-Ok
returns-in-Ok c =
    let same : to_z w32 (of_z w32 c.tell_operations_by.result) ≡ c.tell_operations_by.result = search rules in
    let P : ℤ → Type 0 = λ status. TellsOperationsBy c.args.bytes.now c.args.font.now c.in-Ok.part c.args.glyph status
    (rooms c.args.operations.now c.args.count.now c.args.operands.now c.args.operand_count.now)
    (rooms c.tell_operations_by.new.operations c.tell_operations_by.new.count c.tell_operations_by.new.operands
    c.tell_operations_by.new.operand_count) in
    inl (c.in-Ok.part, c.in-Ok.ensures, subst P (sym same) c.tell_operations_by.ensures)

pub returns-in-Err : goal.returns-in-Err
returns-in-Err c =
    let same : to_z w32 (of_z w32 c.in-Err.status) ≡ c.in-Err.status = search rules in
    inr (subst (λ (status : ℤ). IsPartless c.args.bytes.now c.args.font.now c.args.glyph status) (sym same) c.in-Err.ensures, refl)
