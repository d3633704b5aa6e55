use Rattle.std.proofs.Common.{ap, ◌≡◌, ◌∙◌, Ok, Err, Some, None, rules, inr, refl, sym, subst, ℤ, to_z, of_z, w32}
use Rattle.postscript_c.specs.Listing.{HandsOperations, rooms}
use Rattle.postscript_c.specs.Operations.{listed_at, shown}
use Rattle.postscript_c.specs.declared.operations.Listed.{Listed}
use Rattle.postscript_c.specs.Fitting.{ReadsWithin}
use Rattle.postscript_c.specs.declared.limit.Kept.{Kept}
use Rattle.postscript_c.proofs.operations.tell_operations_by.Goals as goal

pub returns-in-Ok-Told : goal.returns-in-Ok-Told
returns-in-Ok-Told c =
    let same : to_z w32 (of_z w32 c.hand.result) ≡ c.hand.result = search rules in
    let P : Kept Listed → Type 0 = λ kept. ReadsWithin shown c.args.bytes.now c.args.font.now c.args.part.now c.args.glyph
    (listed_at c.args.font.now c.args.part.now c.args.glyph) (Ok kept) in
    let told = subst P c.in-Ok-Told.field-0-is c.in-Ok-Told.ensures.within in
    let H : ℤ → Type 0 = λ status. HandsOperations c.in-Ok-Told.listed status
    (rooms c.args.operations.now c.args.count.now c.args.operands.now c.args.operand_count.now)
    (rooms c.hand.new.operations c.hand.new.count c.hand.new.operands c.hand.new.operand_count) in
    inr (Ok (Some c.in-Ok-Told.listed), (λ _. told.0), told.1, subst H (sym same) c.hand.ensures)

pub returns-in-Ok-NoGlyph : goal.returns-in-Ok-NoGlyph
returns-in-Ok-NoGlyph c =
    let P : Kept Listed → Type 0 = λ kept. ReadsWithin shown c.args.bytes.now c.args.font.now c.args.part.now c.args.glyph
    (listed_at c.args.font.now c.args.part.now c.args.glyph) (Ok kept) in
    let none = subst P c.in-Ok-NoGlyph.field-0-is c.in-Ok-NoGlyph.ensures.within in
    inr (Ok None, (λ _. none.0), none.1, (refl, refl))

pub returns-in-Err : goal.returns-in-Err
returns-in-Err c =
    let same : to_z w32 (of_z w32 c.status.result) ≡ c.status.result = search rules in
    let refusal = c.in-Err.ensures.within in
    inr (
      Err c.in-Err.e,
      (λ other. (refusal (λ memory. other (ap Err memory))).0),
      (λ other. (refusal other).1),
      (same ∙ c.status.ensures, refl),
    )
