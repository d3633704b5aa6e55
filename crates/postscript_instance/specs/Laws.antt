-- Laws of the definitions.
use Rattle.std.specs.Prelude.{◌≡◌, ℕ, ◌≤◌, ℤ, pos, ◌+ℤ◌, ◌-ℤ◌, ◌≤ℤ◌, ◌<ℤ◌, List, [], length, map, Option, All, Ok}
use Rattle.postscript_drawing.specs.Outline.{outlined, outlined_at}
use Rattle.postscript_outline.specs.declared.point.Point.{Point}
use Rattle.postscript_outline.specs.declared.segment.Segment.{Segment}
use Rattle.postscript_type2.specs.Number.{whole}
use Rattle.postscript_type2.specs.declared.operation.Operator.{Operator}
use Rattle.postscript_type2.specs.Program.StackRules.{IsHeld}
use Rattle.postscript_type2.specs.Program.Meaning.{IsRunOf}
use Rattle.postscript_type2.specs.Program.Runs.{Answer, Finished, Run, operation}
use Rattle.postscript_type2.specs.Program.Routines.{Lists}
use Rattle.postscript_variable.specs.declared.charstring.Charstring.{Charstring}
use Rattle.postscript_variable.specs.Charstrings.{IsRunFrom}
use Rattle.postscript_variable.specs.Meaning.{End}
use Rattle.postscript_variable.specs.Programs.{end_of}
use Rattle.postscript_variable.specs.Sayings.{Phrase}
use Rattle.postscript_instance.specs.Numbers.{IsShortest, number_text}
use Rattle.postscript_instance.specs.Pieces.{stack_limit, AreInPieces}
use Rattle.postscript_instance.specs.Rounded.{IsRoundedOf}
use Rattle.postscript_instance.specs.Nearest.{nearest, nearest_segment}
use Rattle.postscript_instance.specs.Statics.{IsStaticOf}

-- A law of the definitions: the written text of a number of 32 bits is an encoding of it, and no encoding is shorter.
abbrev pub NumbersAreShortest : Type 0
NumbersAreShortest = (bits : ℤ) → IsHeld bits → IsShortest (number_text bits) bits

-- an operation without hints and mask
abbrev pub operation_of : Phrase → Operator × List ℤ
operation_of x = (x.operator, x.operands)

-- The operations of `pieces` are the operations of `answers`, some of them in pieces. They are the same if no operation has more operands
-- than fit on a stack.
pub record HavePieces (answers pieces : List Answer) : Type 0 where
  pub says : List Phrase
  pub written : List Phrase
  pub in_pieces : AreInPieces says written
  pub whole : map operation answers ≡ map operation_of says
  pub parts : map operation pieces ≡ map operation_of written
  pub same : All (λ answer. length answer.operands ≤ stack_limit) answers → map operation pieces ≡ map operation answers

-- A law of the definitions. With any subroutines, the run of a static code has the operations of the charstring's run, each with the width.
-- Operations that do not fit on a stack are in pieces. endchar finishes the run with that width.
abbrev pub OperationsStay : Type 0
OperationsStay = (charstring : Charstring) (width : Option ℤ) (code : List ℕ) → IsStaticOf charstring width code →
    (answers : List Answer) (end : End) → IsRunFrom charstring answers end →
    (lists : Lists) (run : Run) → IsRunOf lists code run →
    HavePieces answers run.answers × All (λ answer. answer.width ≡ width) run.answers × (run.end ≡ Finished [] width)

-- A law of the definitions. With any subroutines and from any origin, the run of a static code draws what the charstring's run draws. Both
-- draw the same segments, or have the same error.
abbrev pub OutlinesStay : Type 0
OutlinesStay = (charstring : Charstring) (width : Option ℤ) (code : List ℕ) → IsStaticOf charstring width code →
    (answers : List Answer) (end : End) → IsRunFrom charstring answers end →
    (lists : Lists) (run : Run) → IsRunOf lists code run →
    (origin : Point) → outlined_at origin run.answers run.end ≡ outlined_at origin answers (end_of end)

-- a whole number at most half a unit away from 16.16 bits, and the upper one if it is halfway
pub record IsNearest (bits units : ℤ) : Type 0 where
  pub whole : (n : ℤ) × (units ≡ whole n)
  pub below : (bits -ℤ pos 32768) <ℤ units
  pub above : units ≤ℤ (bits +ℤ pos 32768)

-- A law of the definitions: `nearest` gives this number for any bits.
abbrev pub NearestIsNearest : Type 0
NearestIsNearest = (bits : ℤ) → IsNearest bits (nearest bits)

-- the run draws these segments from the origin, and ends with this width
pub record Drawn (width : Option ℤ) (wanted : List Segment) (run : Run) : Type 0 where
  pub segments : outlined run.answers run.end ≡ Ok wanted
  pub end : run.end ≡ Finished [] width

-- A law of the definitions. If the charstring's run draws segments, the run of a code in whole units draws the same segments in the same
-- order, with any subroutines. Each point is rounded to the nearest whole units. endchar finishes the run with its width.
abbrev pub RoundedOutlines : Type 0
RoundedOutlines = (charstring : Charstring) (width : Option ℤ) (code : List ℕ) → IsRoundedOf charstring width code →
    (answers : List Answer) (end : End) → IsRunFrom charstring answers end →
    (segments : List Segment) → outlined answers (end_of end) ≡ Ok segments →
    (lists : Lists) (run : Run) → IsRunOf lists code run → Drawn width (map nearest_segment segments) run
