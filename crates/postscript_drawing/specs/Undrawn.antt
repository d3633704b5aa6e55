-- The conversion of the errors of drawing strokes.
use Rattle.postscript_base.specs.declared.error.Error.{Error as Cause}
use Rattle.postscript_base.specs.declared.error.Error.TheVariants as causes
use Rattle.postscript_drawing.specs.declared.error.Error.{Error}
use Rattle.postscript_drawing.specs.declared.error.Error.TheVariants as errors
use Rattle.postscript_drawing.specs.declared.undrawn.Undrawn.{Undrawn}
use Rattle.postscript_drawing.specs.declared.undrawn.Undrawn.TheVariants as cases

abbrev pub cause_of : Undrawn → Cause
cause_of cases.Overflow = causes.Overflow
cause_of cases.Full = causes.Memory

abbrev pub error_of : Undrawn → Error
error_of cases.Overflow = errors.Font causes.Overflow
error_of cases.Full = errors.Full
