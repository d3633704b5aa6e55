-- The names of glyphs, for C (Technical Note 5176, sections 10, 13 and 18).
use Rattle.std.specs.Prelude.{◌≡◌, ◌≢◌, ◌⊎◌, ℕ, ℤ, pos, List, length}
use Rattle.postscript_base.specs.Error.{code}
use Rattle.postscript_base.specs.Tape.Outcome.{Got, RefusedAs}
use Rattle.postscript_base.specs.declared.error.Error.{Error}
use Rattle.postscript_base.specs.declared.error.Error.TheVariants.{Memory}
use Rattle.postscript_c.specs.Texts.{HandsOver, Lent}
use Rattle.postscript_view.specs.CharSets.{IsCharSetOf}
use Rattle.postscript_view.specs.Order.{view}
use Rattle.postscript_view.specs.Contents.{View}
use Rattle.postscript_view.specs.Strings.{HasName, IsFirstWithName}
use Rattle.postscript_view.specs.Untold.{NoCharSet}
use Rattle.postscript_view.specs.declared.char_set.CharSetView.{CharSetView}

-- the charset of a font
abbrev pub IsSetOf : List ℕ → View → CharSetView → Type 0
IsSetOf bytes view set = IsCharSetOf set bytes view.tables.dictionary (length view.char_strings)

-- The font has no charset, and the status belongs to an error whose cause holds.
abbrev pub LacksSet : List ℕ → View → (status : ℤ) → Type 0
LacksSet bytes view status = (e : Error) × (status ≡ pos (code e)) × NoCharSet e bytes view.tables.dictionary (length view.char_strings)
    × ((set : CharSetView) → IsSetOf bytes view set → ⊥)

-- no font is opened in the bytes, and the status belongs to the error, which may be `Memory`
abbrev pub LacksFont : List ℕ → (status : ℤ) → Type 0
LacksFont bytes status = (e : Error) × (status ≡ pos (code e)) × (e ≢ Memory → RefusedAs e (view bytes 0))

-- The result for the font at the beginning of the bytes. If there is none, all outputs are unchanged.
abbrev pub TellsOfFirst : List ℕ → (View → Type 0) → (status : ℤ) → (same : Type 0) → Type 0
TellsOfFirst bytes tells status same = ((v : View) × (next : ℕ) × (view bytes 0 ≡ Got v next) × tells v) ⊎ (LacksFont bytes status × same)

-- On 0 the name of a glyph is stored, and on 32 only its length. Otherwise the glyph has no name (38), as in every CID-keyed font, or the
-- font has no charset.
abbrev pub TellsNameIn : List ℕ → View → (glyph : ℕ) → (status : ℤ) → (old new : Lent ℕ) → Type 0
TellsNameIn bytes view glyph status old new =
    ((set : CharSetView) × (name : List ℕ) × IsSetOf bytes view set × HasName view set glyph name × HandsOver name status old new)
    ⊎ (((set : CharSetView) × IsSetOf bytes view set × (status ≡ pos 38) × ((name : List ℕ) → HasName view set glyph name → ⊥)
    × (new ≡ old))
    ⊎ (LacksSet bytes view status × (new ≡ old)))

abbrev pub TellsName : List ℕ → (glyph : ℕ) → (status : ℤ) → (old new : Lent ℕ) → Type 0
TellsName bytes glyph status old new = TellsOfFirst bytes (λ view. TellsNameIn bytes view glyph status old new) status (new ≡ old)

-- On 0 the first glyph of a font with this name is stored. Otherwise no glyph has the name (31), or the font has no charset.
abbrev pub TellsNamedIn : List ℕ → View → (name : List ℕ) → (status : ℤ) → (old new : ℕ) → Type 0
TellsNamedIn bytes view name status old new =
    ((set : CharSetView) × IsSetOf bytes view set × (status ≡ pos 0) × IsFirstWithName view set name new)
    ⊎ (((set : CharSetView) × IsSetOf bytes view set × (status ≡ pos 31) × ((other : ℕ) → HasName view set other name → ⊥) × (new ≡ old))
    ⊎ (LacksSet bytes view status × (new ≡ old)))

abbrev pub TellsNamed : List ℕ → (name : List ℕ) → (status : ℤ) → (old new : ℕ) → Type 0
TellsNamed bytes name status old new = TellsOfFirst bytes (λ view. TellsNamedIn bytes view name status old new) status (new ≡ old)
