use Rattle.std.proofs.Common.{List, Vec, ℕ, inr, length, refl, subst, sym}
use Rattle.std.specs.declared.alloc.Global.{Global}
use Rattle.postscript_type2.specs.Program.Routines.{texts}
use Rattle.postscript_instance.specs.Encoded.{HaveFontDicts, IsFontOf}
use Rattle.postscript_instance.specs.Glyphs.{DoesIn}
use Rattle.postscript_instance.specs.Rooms.{IsTooLarge}
use Rattle.postscript_instance.specs.Whole.{AreOfFont, IsWhole}
use Rattle.postscript_instance.proofs.Codes.{have-dicts, table-of}
use Rattle.postscript_instance.proofs.tables.table_of.Goals as goal

pub returns-then-is_too_large-clause-refused : goal.returns-then-is_too_large-clause-refused
returns-then-is_too_large-clause-refused c =
    let font = c.args.font.now in
    let naming = c.args.naming.now in
    let large = subst (IsTooLarge font naming c.in_ok-codes.codes.items c.in_ok-privates.privates.items) c.deref-3.ensures.value
    (subst (λ (privates : List (Vec ℕ Global)). IsTooLarge font naming c.in_ok-codes.codes.items privates c.deref-3.result.now)
    c.deref-2.ensures.value
    (subst (λ (codes : List (Vec ℕ Global)). IsTooLarge font naming codes c.deref-2.result.now c.deref-3.result.now) c.deref.ensures.value
    c.if-is_too_large.ensures)) in
    inr (
      refl,
      (
        c.in_ok-codes.codes.items,
        c.in_ok-privates.privates.items,
        c.in_ok-matrix.matrix.items,
        c.in_ok-codes.ensures.are,
        (c.in_ok-privates.ensures.are, c.in_ok-privates.ensures.hints),
        c.in_ok-matrix.ensures.is,
        large,
      ),
    )

pub laid_out-requires-clause-parts : goal.laid_out-requires-clause-parts
laid_out-requires-clause-parts c =
    subst (λ (privates : List (Vec ℕ Global)). AreOfFont c.args.font.now (texts privates)) (sym c.deref-5.ensures.value)
    c.in_ok-privates.ensures.are

pub laid_out-requires-clause-have : goal.laid_out-requires-clause-have
laid_out-requires-clause-have c =
    subst (λ (codes : List (Vec ℕ Global)). HaveFontDicts c.args.font.now (length codes)) (sym c.deref-4.ensures.value)
    (have-dicts c.args.numbers c.args.font.now c.args.place.now c.args.widths.now (length c.args.widths.now) c.in_ok-codes.codes.items
    c.in_ok-codes.ensures.are)

pub returns-clause-written : goal.returns-clause-written
returns-clause-written c =
    let font = c.args.font.now in
    let naming = c.args.naming.now in
    let bytes = c.in_ok-bytes.bytes.items in
    let is = subst (λ (codes : List (Vec ℕ Global)). IsFontOf font naming (texts codes) bytes) c.deref-4.ensures.value
    c.in_ok-bytes.ensures.font in
    let whole = subst (λ (privates : List (Vec ℕ Global)). IsWhole font naming (texts c.in_ok-codes.codes.items) (texts privates) bytes)
    c.deref-5.ensures.value
    (subst (λ (codes : List (Vec ℕ Global)). IsWhole font naming (texts codes) (texts c.deref-5.result.now) bytes) c.deref-4.ensures.value
    c.in_ok-bytes.ensures.whole) in
    table-of (DoesIn c.args.numbers font c.args.place.now) font c.args.place.now naming c.args.widths.now bytes c.in_ok-codes.codes.items
    c.in_ok-codes.ensures.are is (texts c.in_ok-privates.privates.items) c.in_ok-privates.ensures.are c.in_ok-privates.ensures.hints whole
