-- Drawing of the glyphs of variable fonts.
use Rattle.std.specs.Prelude.{◌≡◌, ◌⊎◌, ◌<◌, ℕ, List, Result}
use Rattle.postscript_cff2.specs.Parts as parts
use Rattle.postscript_cff2.specs.Parts.{HasPart}
use Rattle.postscript_cff2.specs.Shown.{view_shown}
use Rattle.postscript_cff2.specs.declared.font.Font as fonts
use Rattle.postscript_drawing.specs.DrawnProgram.{DrawsFront, DrawsOfFirst}
use Rattle.postscript_drawing.specs.declared.error.Error.{Error}
use Rattle.postscript_drawing.specs.declared.error.Error.TheVariants.{NoSuchGlyph}
use Rattle.postscript_outline.specs.declared.segment.Segment.{Segment}
use Rattle.postscript_variable.specs.Charstrings.{run_from}
use Rattle.postscript_variable.specs.Limit.{cost}
use Rattle.postscript_variable.specs.Programs.{begun}
use Rattle.postscript_variable.specs.declared.charstring.Charstring.{Charstring}
use Rattle.postscript_variable_font.specs.Glyphs.{IsCharstringOf}
use Rattle.postscript_variable_font.specs.declared.place.Place.{Place}
use Rattle.postscript_variable_font.specs.Drawn.{IsOutlineOf, IsRefused, IsSpent, origin}

-- these are the segments that the charstring of a glyph draws at a location
abbrev pub DrawsGlyph : fonts.Font → (glyph : ℕ) → Place → List Segment → Type 0
DrawsGlyph font glyph place segments =
    (charstring : Charstring) × IsCharstringOf font glyph place charstring × IsOutlineOf origin (begun (run_from charstring)) segments

-- the sink received the first segments of the charstring of a glyph, or nothing if the glyph has no charstring
abbrev pub DrawsGlyphFront : {T : Type 0} → (after : T → Segment → T → Type 0) → (old new : T) → fonts.Font → (glyph : ℕ) → Place → Type 0
DrawsGlyphFront after old new font glyph place =
    (((part : parts.PrivateDict) → HasPart font.bytes.now (view_shown font) glyph part → ⊥) × (new ≡ old)) ⊎
    ((charstring : Charstring) × IsCharstringOf font glyph place charstring × DrawsFront after origin old new (run_from charstring).answers)

-- The same, but none of the segments are of a stroke that leaves the range.
abbrev pub GivesGlyphFirst : {T : Type 0} → (after : T → Segment → T → Type 0) → (old new : T) → fonts.Font → (glyph : ℕ) → Place → Type 0
GivesGlyphFirst after old new font glyph place =
    (((part : parts.PrivateDict) → HasPart font.bytes.now (view_shown font) glyph part → ⊥) × (new ≡ old)) ⊎
    ((charstring : Charstring) × IsCharstringOf font glyph place charstring × DrawsOfFirst after origin old new (run_from charstring).answers)

-- Why a glyph is not drawn: the glyph or its well-formed Font DICT is missing, or its charstring is not drawn.
abbrev pub IsGlyphUndrawn : fonts.Font → (glyph : ℕ) → Place → (left : ℕ) → Error → Type 0
IsGlyphUndrawn font glyph place left e =
    ((e ≡ NoSuchGlyph glyph) × ((part : parts.PrivateDict) → HasPart font.bytes.now (view_shown font) glyph part → ⊥)) ⊎
    ((charstring : Charstring) × IsCharstringOf font glyph place charstring × IsRefused origin (begun (run_from charstring)) left e)

-- The items of the glyph's charstring that were read are paid for, and on success these are all items. Without a charstring the limit is
-- unchanged.
abbrev pub SpendsOnGlyph : {A : Type 0} → fonts.Font → (glyph : ℕ) → Place → (limit left : ℕ) → Result A Error → Type 0
SpendsOnGlyph font glyph place limit left result =
    (((part : parts.PrivateDict) → HasPart font.bytes.now (view_shown font) glyph part → ⊥) × (left ≡ limit)) ⊎
    ((charstring : Charstring) × IsCharstringOf font glyph place charstring × IsSpent limit (run_from charstring).costs left result)

-- the run of the glyph's charstring costs less than the limit
abbrev pub SufficesFor : fonts.Font → (glyph : ℕ) → Place → (limit : ℕ) → Type 0
SufficesFor font glyph place limit =
    (charstring : Charstring) × IsCharstringOf font glyph place charstring × (cost (run_from charstring).costs < limit)
