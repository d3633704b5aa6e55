use Rattle.std.proofs.Common.{inr, subst, ◌<◌}
use Rattle.postscript_type2.specs.Program.Limit.{cost}
use Rattle.postscript_type2.specs.Program.Runs.{Run}
use Rattle.postscript_view.proofs.Advancing.{one-run, refused-so, told-so}
use Rattle.postscript_view.proofs.Limiting.{has-run, run_by}
use Rattle.postscript_view.proofs.font.FontView.advance.Goals as goal

pub returns-in-Some : goal.returns-in-Some
returns-in-Some c =
    let glyph = c.in-Some.glyph in
    let part = glyph.part.now in
    let has = has-run c.args.self.now c.args.i glyph c.in-Some.ensures.found c.in-Some.ensures.subroutines in
    record {
      told = told-so c.advance.result c.args.self.now c.args.i part (run_by glyph) has c.advance.ensures.told;
      spent = inr (part, run_by glyph, has, c.advance.ensures.spent);
      suffices = λ other run runs less. c.advance.ensures.suffices
          (subst (λ (r : Run). cost r.trace < c.args.limit.now) (one-run c.args.self.now c.args.i other part run (run_by glyph) runs has) less);
      refused = refused-so c.advance.result c.args.self.now c.args.i part (run_by glyph) has c.advance.ensures.refused;
    }
