use Rattle.std.proofs.Common.{◌≡◌, ◌∙◌, ◌<◌, ap, arith, refl, subst, sym, below_more, ℕ, ℤ, List, Option, Some, unwrap_or, pos}
use Rattle.postscript_instance.specs.Advances.{IsOperand}
use Rattle.postscript_instance_file.specs.Glyphs.{IsGlyphBy, NamesUnwritten, NoGlyphBy, glyphs_in}
use Rattle.postscript_instance_file.specs.declared.error.Error.TheVariants as errors
use Rattle.postscript_instance_file.specs.declared.error.GlyphError.TheVariants as causes
use Rattle.postscript_instance_file.proofs.instance.first_fault.Goals as goal

pub returns-in-Err : goal.returns-in-Err
returns-in-Err c =
    let have = c.requires in
    let widths = have.2 in
    let there : c.loop-i.i < glyphs_in c.args.face.now = omega (arith, widths.counted) in
    let own = widths.each c.loop-i.i there in
    let written : (glyph : ℕ) → glyph < c.loop-i.i → (width : ℤ) × (code : List ℕ) × IsOperand have.0 glyph width
    × IsGlyphBy c.args.is_rounded c.args.face.now.font glyph c.args.location.now.place (Some width) code =
    λ glyph h.
    let one = c.loop-i.invariant glyph h in
    let of_list = widths.each glyph (omega (arith, h, there)) in
    let same : of_list.0 ≡ one.0 = ap (λ (width : Option ℤ). unwrap_or width (pos 0)) (sym of_list.1 ∙ one.2) in
    (one.0, one.1, subst (λ (width : ℤ). IsOperand have.0 glyph width) same of_list.2, one.3) in
    let refused =
    subst (λ (width : Option ℤ). NoGlyphBy c.args.is_rounded c.args.face.now.font c.loop-i.i c.args.location.now.place width c.in-Err.error)
    (c.width_of-width.ensures ∙ own.1) c.in-Err.ensures.why in
    let names : NamesUnwritten c.args.is_rounded c.args.face.now c.args.location.now
    (errors.Glyph c.in-Ok.gid (causes.Unwritten c.in-Err.error)) = record {
      gid = c.loop-i.i;
      there = there;
      advances = have.0;
      are = have.1;
      before = written;
      width = own.0;
      is_width = own.2;
      cause = c.in-Err.error;
      refused = refused;
      is = rw c.in-Ok.ensures.1 refl;
    } in
    names

pub loop-i-preserved : goal.loop-i-preserved
loop-i-preserved c =
    let widths = c.requires.2 in
    let own = widths.each c.loop-i.i (omega (arith, widths.counted)) in
    let code = c.in_default-written.field-0.items in
    let is =
    subst (λ (width : Option ℤ). IsGlyphBy c.args.is_rounded c.args.face.now.font c.loop-i.i c.args.location.now.place width code)
    (c.width_of-width.ensures ∙ own.1) c.in_default-written.ensures.written in
    below_more _ _ c.loop-i.invariant (own.0, code, own.1, is)
