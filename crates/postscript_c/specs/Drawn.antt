-- Drawing of the glyphs of a font for C, `seac` glyphs with their components (Technical Note 5177, Appendix C).
use Rattle.std.specs.Prelude.{◌≡◌, ◌≢◌, ◌⊎◌, ℕ, ℤ, List, [], ◌++◌, length, Option, Some, None, Ok}
use Rattle.postscript_base.specs.Tape.Outcome.{Got, RefusedAs}
use Rattle.postscript_base.specs.declared.error.Error.{Error as Cause}
use Rattle.postscript_base.specs.declared.error.Error.TheVariants.{Memory}
use Rattle.postscript_c.specs.Glyphs.{program_at, program_of}
use Rattle.postscript_c.specs.declared.font.PsfFont.{PsfFont}
use Rattle.postscript_c.specs.declared.part.PsfPart.{PsfPart}
use Rattle.postscript_drawing.specs.Accents.{HasNoCodes, IsAccent}
use Rattle.postscript_drawing.specs.DrawnProgram.{IsUndrawn, IsWanting}
use Rattle.postscript_drawing.specs.Drawn.{DrawsComponents, zero_point}
use Rattle.postscript_drawing.specs.Outline.{outlined_at}
use Rattle.postscript_drawing.specs.Refused.{AreRefused}
use Rattle.postscript_drawing.specs.declared.accent.Accent.{Accent}
use Rattle.postscript_drawing.specs.declared.error.Error.{Error}
use Rattle.postscript_drawing.specs.declared.error.Error.TheVariants.{Font, NoCode, TooLong}
use Rattle.postscript_outline.specs.declared.segment.Segment.{Segment}
use Rattle.postscript_drawing.specs.Spending.{PaysComponents, SpendsOnRuns}
use Rattle.postscript_type2.specs.Program.Limit.{Spends}
use Rattle.postscript_type2.specs.Program.Programs.{Pending}
use Rattle.postscript_type2.specs.Program.Runs.{Phrase, taken_by, width_by}
use Rattle.postscript_view.specs.Order.{view}
use Rattle.postscript_view.specs.Value.{view_shown}
use Rattle.postscript_view.specs.declared.font.FontView.{FontView}

-- The font at the beginning of the bytes, opened as a FontView.
pub record IsFirst (bytes : List ℕ) (font : FontView) : Type 0 where
  pub shown : view bytes 0 ≡ Got (view_shown font) 0
  pub there : font.bytes.now ≡ bytes

-- the error of opening the font at the beginning of the bytes, which may be `Memory`
abbrev pub IsNoFont : (bytes : List ℕ) → Error → Type 0
IsNoFont bytes e = (cause : Cause) × (e ≡ Font cause) × (cause ≢ Memory → RefusedAs cause (view bytes 0))

-- these operands name a base and an accent, or have no components
abbrev pub IsNamedBy : (operands : List ℤ) → Option Accent → Type 0
IsNamedBy operands None = length operands ≢ 4
IsNamedBy operands (Some accent) = IsAccent operands accent

-- The segments after a glyph's own: none, or the segments of its base and its accent.
abbrev pub AreNamed : (bytes : List ℕ) → Option Accent → List Segment → Type 0
AreNamed bytes None segments = segments ≡ []
AreNamed bytes (Some accent) segments = (font : FontView) × IsFirst bytes font × DrawsComponents font accent segments

-- the limit is spent on nothing, or on the runs of at most two glyphs of the font
abbrev pub IsSpentOnNamed : (bytes : List ℕ) → (before left : ℕ) → Type 0
IsSpentOnNamed bytes before left = (left ≡ before) ⊎ ((font : FontView) × IsFirst bytes font × SpendsOnRuns font 2 before left)

-- why the base or the accent is not drawn
abbrev pub IsNamedRefused : (bytes : List ℕ) → Option Accent → Error → Type 0
IsNamedRefused bytes None e = ⊥
IsNamedRefused bytes (Some accent) e = IsNoFont bytes e ⊎ ((font : FontView) × IsFirst bytes font × AreRefused font accent e)

-- All phrases of the runs of the base and the accent are paid from a limit. Without components nothing is paid.
abbrev pub ArePaid : (bytes : List ℕ) → Option Accent → (before left : ℕ) → Type 0
ArePaid bytes None before left = left ≡ before
ArePaid bytes (Some accent) before left = (font : FontView) × IsFirst bytes font × PaysComponents font accent before left

-- Within a limit, which pays for all phrases, a program draws its own segments and then the segments of the components. It has this width.
pub record DrawsWhole (limit : ℕ) (bytes : List ℕ) (program : Pending) (segments : List Segment) (width : Option ℤ) : Type 0 where
  pub accent : Option Accent
  pub own : List Segment
  pub more : List Segment
  pub names : IsNamedBy (taken_by program.end) accent
  pub draws_own : outlined_at zero_point program.answers program.end ≡ Ok own
  pub draws_more : AreNamed bytes accent more
  pub all : segments ≡ own ++ more
  pub width_is : width ≡ width_by program.width program.answers program.end
  pub left : ℕ
  pub behind : ℕ
  pub pays_own : Spends limit program.trace left []
  pub pays_more : ArePaid bytes accent left behind

-- The limit is used up by the first phrases of the program. Otherwise it is used up by all of them and the runs of at most two glyphs of
-- the font.
pub data IsUsedUp (limit : ℕ) (bytes : List ℕ) (program : Pending) : Type 0 where
  by_itself : (rest : List Phrase) → Spends limit program.trace 0 rest → IsUsedUp limit bytes program
  by_components : (font : FontView) (left : ℕ) → IsFirst bytes font → Spends limit program.trace left [] → SpendsOnRuns font 2 left 0 →
      IsUsedUp limit bytes program

-- memory runs out, also for the list of segments, or the limit is used up
abbrev pub IsWantingIn : (limit : ℕ) (bytes : List ℕ) → Pending → Error → Type 0
IsWantingIn limit bytes program TooLong = IsUsedUp limit bytes program
IsWantingIn limit bytes program e = IsWanting 0 e

-- Why a program is not drawn. Memory or the limit runs out, its run or a component fails, or its `seac` operands are not codes.
pub data IsWholeRefused (limit : ℕ) (bytes : List ℕ) (program : Pending) (e : Error) : Type 0 where
  wanting : IsWantingIn limit bytes program e → IsWholeRefused limit bytes program e
  undrawn : IsUndrawn zero_point e program.answers program.end → IsWholeRefused limit bytes program e
  unread : e ≡ NoCode → HasNoCodes (taken_by program.end) → IsWholeRefused limit bytes program e
  unnamed : (accent : Option Accent) → IsNamedBy (taken_by program.end) accent → IsNamedRefused bytes accent e →
      IsWholeRefused limit bytes program e

-- a charstring with the subroutines at two offsets: there is none, it is drawn, or it is rejected
abbrev pub HasNoneIn : (bytes : List ℕ) → Option (List ℕ) → (global local : ℕ) → Type 0
HasNoneIn bytes code global local = program_of code global local bytes 0 ≡ Got None 0

abbrev pub IsDrawnIn : (limit : ℕ) (bytes : List ℕ) → Option (List ℕ) → (global local : ℕ) → List Segment → Option ℤ → Type 0
IsDrawnIn limit bytes code global local segments width =
    (program : Pending) × (program_of code global local bytes 0 ≡ Got (Some program) 0) × DrawsWhole limit bytes program segments width

abbrev pub IsCodeRefused : (limit : ℕ) (bytes : List ℕ) → Option (List ℕ) → (global local : ℕ) → Error → Type 0
IsCodeRefused limit bytes code global local e =
    ((cause : Cause) × (e ≡ Font cause) × (cause ≢ Memory → RefusedAs cause (program_of code global local bytes 0)))
    ⊎ ((program : Pending) × (program_of code global local bytes 0 ≡ Got (Some program) 0) × IsWholeRefused limit bytes program e)

-- there is no such glyph
abbrev pub HasNone : (bytes : List ℕ) (font : PsfFont) (part : PsfPart) (glyph : ℕ) → Type 0
HasNone bytes font part glyph = program_at font part glyph bytes 0 ≡ Got None 0

-- Within the limit of the font, a glyph draws these segments and has this width.
abbrev pub IsDrawnOver : (bytes : List ℕ) (font : PsfFont) (part : PsfPart) (glyph : ℕ) → List Segment → Option ℤ → Type 0
IsDrawnOver bytes font part glyph segments width =
    (program : Pending) × (program_at font part glyph bytes 0 ≡ Got (Some program) 0) × DrawsWhole font.limit bytes program segments width

-- Why a glyph is not drawn: its charstring or its subroutines are malformed, or its program is not drawn within the limit of the font.
abbrev pub IsUndrawnOver : (bytes : List ℕ) (font : PsfFont) (part : PsfPart) (glyph : ℕ) → Error → Type 0
IsUndrawnOver bytes font part glyph e =
    ((cause : Cause) × (e ≡ Font cause) × (cause ≢ Memory → RefusedAs cause (program_at font part glyph bytes 0)))
    ⊎ ((program : Pending) × (program_at font part glyph bytes 0 ≡ Got (Some program) 0) × IsWholeRefused font.limit bytes program e)
