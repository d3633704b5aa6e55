-- Why a glyph of a variable font is not drawn or written at a location, within a limit.
use Rattle.std.specs.Prelude.{◌≡◌, ◌+◌, ◌-◌, ◌/◌, ◌<◌, ◌≤◌, ℕ, ℤ, List, [], ◌∷◌, ◌++◌, Bool, true, false, Option, Some, length}
use Rattle.postscript_cff2.specs.Parts.{HasPart, PrivateDict}
use Rattle.postscript_cff2.specs.Shown.{view_shown}
use Rattle.postscript_cff2.specs.declared.font.Font.{Font}
use Rattle.postscript_drawing.specs.DrawnProgram.{DrawsOfFirst}
use Rattle.postscript_drawing.specs.declared.error.Error.TheVariants as drawing
use Rattle.postscript_instance.specs.Advances.{AreAdvancesAt as AreWidths, HasRoom, IsAdvanceAt, IsOperand, LacksRoom}
use Rattle.postscript_instance.specs.Glyphs.{IsRoundedGlyph, IsStaticGlyph, NoRoundedGlyph, NoStaticGlyph}
use Rattle.postscript_instance.specs.declared.advances.AdvancesAt.{AdvancesAt}
use Rattle.postscript_instance.specs.declared.error.Error.{Error as CauseOfTable}
use Rattle.postscript_instance_file.specs.Instances.{AreAdvancesAt}
use Rattle.postscript_instance_file.specs.declared.drawn.TheConstants.{HELD, ROOM}
use Rattle.postscript_instance_file.specs.declared.error.Error.{Error}
use Rattle.postscript_instance_file.specs.declared.error.Error.TheVariants as errors
use Rattle.postscript_instance_file.specs.declared.error.GlyphError.{GlyphError}
use Rattle.postscript_instance_file.specs.declared.error.GlyphError.TheVariants as causes
use Rattle.postscript_instance_file.specs.declared.face.VariableFace.{VariableFace}
use Rattle.postscript_instance_file.specs.declared.location.Location.{Location}
use Rattle.postscript_outline.specs.declared.segment.Segment.{Segment}
use Rattle.postscript_variable.specs.Charstrings.{run_from}
use Rattle.postscript_variable.specs.Limit.{cost}
use Rattle.postscript_variable.specs.declared.charstring.Charstring.{Charstring}
use Rattle.postscript_variable_font.specs.Drawn.{origin}
use Rattle.postscript_variable_font.specs.GlyphDrawings.{IsGlyphUndrawn}
use Rattle.postscript_variable_font.specs.Glyphs.{IsCharstringOf}
use Rattle.postscript_variable_font.specs.declared.place.Place.{Place}

-- the number of glyphs of a face
abbrev pub glyphs_in : VariableFace → ℕ
glyphs_in face = length (view_shown face.font).char_strings

-- the run of the glyph at the location costs this
abbrev pub HasCost : VariableFace → Location → (glyph price : ℕ) → Type 0
HasCost face location glyph price =
    (charstring : Charstring) × IsCharstringOf face.font glyph location.place charstring × (price ≡ cost (run_from charstring).costs)

-- the runs of the first `count` glyphs cost this in all
pub data CostInAll (face : VariableFace) (location : Location) : (count total : ℕ) → Type 0 where
  none : CostInAll face location 0 0
  one_more : (count total price : ℕ) → CostInAll face location count total → HasCost face location count price →
      CostInAll face location (count + 1) (total + price)

-- the cost of the glyph is subtracted from what was left
abbrev pub IsPaid : VariableFace → Location → (glyph before after : ℕ) → Type 0
IsPaid face location glyph before after = (price : ℕ) × HasCost face location glyph price × (after ≡ before - price)

-- The glyph draws at least this number of segments, by its first strokes, which stay in the range.
abbrev pub DrawsSegments : VariableFace → Location → (glyph count : ℕ) → Type 0
DrawsSegments face location glyph count =
    (charstring : Charstring) × (segments : List Segment) × IsCharstringOf face.font glyph location.place charstring
    × DrawsOfFirst (λ old segment new. new ≡ old ++ segment ∷ []) origin [] segments (run_from charstring).answers
    × (count ≤ length segments)

-- Why a glyph is not drawn, if `left` units are left of the limit of all glyphs. It has no well-formed Font DICT, its run costs the limit
-- or more, or all that is left, or more than its part of the limit. Other causes are too many segments, an error of drawing, and memory.
abbrev pub IsUndrawnBy : VariableFace → Location → (limit left glyph : ℕ) → GlyphError → Type 0
IsUndrawnBy face location limit left glyph causes.NoPart =
    (part : PrivateDict) → HasPart face.font.bytes.now (view_shown face.font) glyph part → ⊥
IsUndrawnBy face location limit left glyph (causes.TooLong most) =
    (most ≡ limit) × ((price : ℕ) × HasCost face location glyph price × (most ≤ price))
IsUndrawnBy face location limit left glyph causes.UsedUp =
    (left < limit) × ((price : ℕ) × HasCost face location glyph price × (left ≤ price))
IsUndrawnBy face location limit left glyph (causes.Held most) =
    (most ≡ limit / HELD) × ((price : ℕ) × HasCost face location glyph price × (most < price))
IsUndrawnBy face location limit left glyph (causes.Segments most) = (most ≡ limit / ROOM) × DrawsSegments face location glyph (most + 1)
IsUndrawnBy face location limit left glyph (causes.Run e) = IsGlyphUndrawn face.font glyph location.place 0 (drawing.Font e)
IsUndrawnBy face location limit left glyph (causes.Undrawn e) = e ≡ drawing.Full
IsUndrawnBy face location limit left glyph (causes.Advance advance) = ⊥
IsUndrawnBy face location limit left glyph (causes.Unwritten e) = ⊥

-- The error names the first glyph that is not drawn. The glyphs before it have taken their costs from the limit of all glyphs.
pub record NamesUndrawn (face : VariableFace) (location : Location) (limit left : ℕ) (e : Error) : Type 0 where
  pub gid : ℕ
  pub there : gid < glyphs_in face
  pub total : ℕ
  pub before : CostInAll face location gid total
  pub cause : GlyphError
  pub refused : IsUndrawnBy face location limit (left - total) gid cause
  pub is : e ≡ errors.Glyph gid cause

-- The error names the first glyph whose advance at the location is not from 0 to 32767, and this advance.
pub record NamesAdvance (face : VariableFace) (location : Location) (e : Error) : Type 0 where
  pub gid : ℕ
  pub there : gid < glyphs_in face
  pub advances : AdvancesAt
  pub are : AreAdvancesAt face location.coordinates.items advances
  pub before : List ℤ
  pub have_room : AreWidths advances gid before
  pub advance : ℤ
  pub is_advance : IsAdvanceAt advances gid advance
  pub no_room : HasRoom advance → ⊥
  pub is : e ≡ errors.Glyph gid (causes.Advance advance)

-- the advances of all glyphs at a location, in 16.16 bits
abbrev pub HaveWidths : VariableFace → Location → (widths : List ℤ) → Type 0
HaveWidths face location widths =
    (advances : AdvancesAt) × AreAdvancesAt face location.coordinates.items advances × AreWidths advances (glyphs_in face) widths

-- why there are no advances of all glyphs at a location
pub data HasNoWidths (face : VariableFace) (location : Location) (e : Error) : Type 0 where
  of_glyph : NamesAdvance face location e → HasNoWidths face location e
  of_all : (advances : AdvancesAt) (cause : CauseOfTable) → AreAdvancesAt face location.coordinates.items advances →
      LacksRoom advances (glyphs_in face) cause → e ≡ errors.Table cause → HasNoWidths face location e

-- why no charstring of a glyph is written with a width; if it is rounded, each point is a whole number of units
abbrev pub NoGlyphBy : (rounded : Bool) → Font → (glyph : ℕ) → Place → (width : Option ℤ) → CauseOfTable → Type 0
NoGlyphBy true font glyph place width e = NoRoundedGlyph font glyph place width e
NoGlyphBy false font glyph place width e = NoStaticGlyph font glyph place width e

-- a charstring of a glyph with a width
abbrev pub IsGlyphBy : (rounded : Bool) → Font → (glyph : ℕ) → Place → (width : Option ℤ) → (code : List ℕ) → Type 0
IsGlyphBy true font glyph place width code = IsRoundedGlyph font glyph place width code
IsGlyphBy false font glyph place width code = IsStaticGlyph font glyph place width code

-- The error names the first glyph whose charstring is not written with its advance as width.
pub record NamesUnwritten (rounded : Bool) (face : VariableFace) (location : Location) (e : Error) : Type 0 where
  pub gid : ℕ
  pub there : gid < glyphs_in face
  pub advances : AdvancesAt
  pub are : AreAdvancesAt face location.coordinates.items advances
  pub before : (glyph : ℕ) → glyph < gid → (width : ℤ) × (code : List ℕ) × IsOperand advances glyph width ×
      IsGlyphBy rounded face.font glyph location.place (Some width) code
  pub width : ℤ
  pub is_width : IsOperand advances gid width
  pub cause : CauseOfTable
  pub refused : NoGlyphBy rounded face.font gid location.place (Some width) cause
  pub is : e ≡ errors.Glyph gid (causes.Unwritten cause)
