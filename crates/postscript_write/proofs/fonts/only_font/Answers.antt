use Rattle.std.proofs.Common.{ℕ, List, subst, sym, arith}
use Rattle.postscript_view.specs.Layout.{IsLaidOut}
use Rattle.postscript_view.specs.Sizes.{HoldFew}
use Rattle.postscript_view.specs.Value.{view_shown}
use Rattle.postscript_write.specs.Selected.{AreLow}
use Rattle.postscript_write.proofs.Counts.{glyphs_few}
use Rattle.postscript_write.proofs.fonts.only_font.Goals as goal

pub returns-clause-read : goal.returns-clause-read
returns-clause-read c =
    let font = c.in_ok-font.font in
    let same = c.in_ok-font.ensures.bytes in
    record {
      laid = subst (λ (bs : List ℕ). IsLaidOut bs 0 (view_shown font)) (sym same) c.in_ok-font.ensures.found;
      few = λ keyed. subst (λ (bs : List ℕ). HoldFew bs font.dictionary font.parts.items) (sym same) (c.in_ok-font.ensures.held keyed);
    }

pub returns-clause-low : goal.returns-clause-low
returns-clause-low c =
    let low : AreLow c.args.bytes.now = λ i less. omega (arith, c.type_inv.bytes i) in
    subst AreLow (sym c.in_ok-font.ensures.bytes) low

pub returns-clause-few : goal.returns-clause-few
returns-clause-few c = glyphs_few c.in_ok-font.font (returns-clause-read c) (returns-clause-low c)
