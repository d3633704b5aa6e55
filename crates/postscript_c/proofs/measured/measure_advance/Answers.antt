use Rattle.std.proofs.Common.{◌≡◌, rules, sym, subst, ap, ◌∙◌, ℤ, ◌+ℤ◌, pos, to_z, of_z, arith}
use Rattle.std.specs.Int.{saturate_signed, w64}
use Rattle.postscript_c.specs.Measured.{IsAdvanceAt}
use Rattle.postscript_c.proofs.measured.measure_advance.Goals as goal
use Rattle.postscript_sfnt.specs.Lent.{advance_in}

pub returns-then-limit-steps_of : goal.returns-then-limit-steps_of
returns-then-limit-steps_of c = record {
  advances = c.in_ok-advances.advances;
  variations = c.in-Ok-variations_of.variations;
  coordinates = c.in-Ok-coordinates_at.coordinates.items;
  steps = c.steps_of.result;
  has = record {
    numbered = search rules;
    has_advances = c.in_ok-advances.ensures.found;
    has_variations = c.in-Ok-variations_of.ensures.found;
    are = c.in-Ok-coordinates_at.ensures.found;
    takes = c.steps_of.ensures;
  };
  beyond = c.if-limit-steps_of.true;
}

pub returns-in-Ok-variations_of : goal.returns-in-Ok-variations_of
returns-in-Ok-variations_of c =
    let same : to_z w64 (of_z w64 c.sum.result) ≡ c.sum.result = search rules in
    let number : c.in-Ok.number ≡ c.args.glyph = search rules in
    let more : to_z w64 (of_z w64 c.advance_variation-more.result) ≡ c.advance_variation-more.result = search rules in
    let sum : c.sum.result ≡ saturate_signed w64 (pos (advance_in c.in_ok-advances.advances c.args.glyph) +ℤ c.advance_variation-more.result) =
    c.sum.ensures ∙ ap (λ n. saturate_signed w64
    (pos (advance_in c.in_ok-advances.advances n) +ℤ to_z w64 (of_z w64 c.advance_variation-more.result))) number
    ∙ ap (λ m. saturate_signed w64 (pos (advance_in c.in_ok-advances.advances c.args.glyph) +ℤ m)) more in
    let at : IsAdvanceAt c.args.file.now c.args.values.now c.args.glyph c.args.limit c.sum.result = record {
      advances = c.in_ok-advances.advances;
      variations = c.in-Ok-variations_of.variations;
      coordinates = c.in-Ok-coordinates_at.coordinates.items;
      steps = c.steps_of.result;
      added = c.advance_variation-more.result;
      has = record {
        numbered = search rules;
        has_advances = c.in_ok-advances.ensures.found;
        has_variations = c.in-Ok-variations_of.ensures.found;
        are = c.in-Ok-coordinates_at.ensures.found;
        takes = c.steps_of.ensures;
      };
      within = omega (arith);
      adds = search rules;
      sum = sum;
    } in
    subst (λ (advance : ℤ). IsAdvanceAt c.args.file.now c.args.values.now c.args.glyph c.args.limit advance) (sym same) at
