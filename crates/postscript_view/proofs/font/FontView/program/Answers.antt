use Rattle.std.proofs.Common.{◌≡◌, subst}
use Rattle.postscript_base.specs.Index.Lent.{items_of}
use Rattle.postscript_type2.specs.Program.Evaluation.{run_of}
use Rattle.postscript_type2.specs.Program.Programs.{begun}
use Rattle.postscript_type2.specs.Program.Routines.{lent}
use Rattle.postscript_view.proofs.font.FontView.program.Goals as goal

pub returns-clause-found : goal.returns-clause-found
returns-clause-found c =
    let code = c.in-Some.glyph.code.now in
    let part = c.in-Some.glyph.part.now in (
      code,
      part,
      c.in-Some.ensures.found,
      subst (λ global. c.program.result ≡ begun (run_of (lent global (items_of part.subroutines)) code)) c.in-Some.ensures.subroutines
          c.program.ensures,
    )
