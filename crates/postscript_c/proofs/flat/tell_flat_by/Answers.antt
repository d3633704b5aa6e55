use Rattle.std.proofs.Common.{ap, ◌≡◌, ◌∙◌, Ok, Err, Some, None, rules, inr, refl, sym, subst, ℕ, ℤ, List, to_z, of_z, w32}
use Rattle.postscript_c.specs.Flats.{flat_at}
use Rattle.postscript_c.specs.Flatness.{flat_shown}
use Rattle.postscript_c.specs.Texts.{HandsOver, lent}
use Rattle.postscript_c.specs.declared.flat.Flat.{Flat}
use Rattle.postscript_c.specs.Fitting.{ReadsWithin}
use Rattle.postscript_c.specs.declared.limit.Kept.{Kept}
use Rattle.postscript_c.proofs.flat.tell_flat_by.Goals as goal

pub returns-in-Ok-Told : goal.returns-in-Ok-Told
returns-in-Ok-Told c =
    let same : to_z w32 (of_z w32 c.hand_over.result) ≡ c.hand_over.result = search rules in
    let P : Kept Flat → Type 0 = λ kept. ReadsWithin flat_shown c.args.bytes.now c.args.font.now c.args.part.now c.args.glyph
    (flat_at c.args.font.now c.args.part.now c.args.glyph) (Ok kept) in
    let told = subst P c.in-Ok-Told.field-0-is c.in-Ok-Told.ensures.within in
    let H : List ℕ → ℤ → Type 0 = λ bytes status. HandsOver bytes status (lent c.args.room.now c.args.count.now)
    (lent c.hand_over.new.room c.hand_over.new.count) in
    let handed = subst (λ (bytes : List ℕ). H bytes c.hand_over.result) c.deref.ensures.value c.hand_over.ensures in
    inr (Ok (Some c.in-Ok-Told.flat), (λ _. told.0), told.1, subst (H (flat_shown c.in-Ok-Told.flat)) (sym same) handed)

pub returns-in-Ok-NoGlyph : goal.returns-in-Ok-NoGlyph
returns-in-Ok-NoGlyph c =
    let P : Kept Flat → Type 0 = λ kept. ReadsWithin flat_shown c.args.bytes.now c.args.font.now c.args.part.now c.args.glyph
    (flat_at c.args.font.now c.args.part.now c.args.glyph) (Ok kept) in
    let none = subst P c.in-Ok-NoGlyph.field-0-is c.in-Ok-NoGlyph.ensures.within in
    inr (Ok None, (λ _. none.0), none.1, (refl, refl))

pub returns-in-Err : goal.returns-in-Err
returns-in-Err c =
    let same : to_z w32 (of_z w32 c.status.result) ≡ c.status.result = search rules in
    let refusal = c.in-Err.ensures.within in
    inr (
      Err c.in-Err.e,
      (λ other. (refusal (λ memory. other (ap Err memory))).0),
      (λ other. (refusal other).1),
      (same ∙ c.status.ensures, refl),
    )
