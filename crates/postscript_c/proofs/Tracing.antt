-- What C is told of the tight bounds of a glyph.
use Rattle.std.proofs.Common.{inr, ℕ, ℤ, pos, List, Option, Some, None, Result, Ok, Err, refl, subst, sym}
use Rattle.std.specs.Prelude.{IfErr, IfOk, MatchOption}
use Rattle.postscript_c.specs.Answers.{IsOf}
use Rattle.postscript_c.specs.BoundsTold.{IsTracedOver, TellsBounds, TellsTraced}
use Rattle.postscript_c.specs.Drawn.{HasNone, IsUndrawnOver}
use Rattle.postscript_c.specs.Glyphs.{Glyph}
use Rattle.postscript_c.specs.declared.font.PsfFont.{PsfFont}
use Rattle.postscript_c.specs.declared.part.PsfPart.{PsfPart}
use Rattle.postscript_c.specs.declared.tight.PsfBounds.{PsfBounds}
use Rattle.postscript_drawing.specs.declared.error.Error.{Error}
use Rattle.postscript_outline.specs.Points.{point}
use Rattle.postscript_outline.specs.Tight.{IsTightBoundsOf, arcs}
use Rattle.postscript_outline.specs.declared.tight.TightBounds.{TightBounds}

pub traced-so : (bytes : List ℕ) (font : PsfFont) (part : PsfPart) (glyph : ℕ) (traced : Result (Option TightBounds) Error) (status : ℤ)
    (old new : PsfBounds) →
    IfOk traced (λ found. MatchOption found (HasNone bytes font part glyph)
    (λ tight. IsTracedOver bytes font part glyph tight.bounds)) → IfErr traced (λ e. IsUndrawnOver bytes font part glyph e) →
    TellsTraced traced status old new → (answer : Result (Option Glyph) Error) × IsOf bytes font part glyph answer × TellsBounds answer
    status old new
traced-so bytes font part glyph (Ok (Some tight)) status old new is why tells = (
  Ok (Some (record { drawn = record { segments = is.0; width = is.1.0 }; part = part })),
  (refl, is.1.1),
  (tells.0, subst (λ b. IsTightBoundsOf b (arcs (point (pos 0) (pos 0)) is.0)) (sym tells.1) is.2, tells.2),
)
traced-so bytes font part glyph (Ok None) status old new is why tells = (Ok None, is, tells)
traced-so bytes font part glyph (Err e) status old new is why tells = (Err e, inr why, tells)
