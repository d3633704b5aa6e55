-- The SIDs or CIDs of glyphs and their strings, for C (Technical Note 5176, sections 10, 13 and 18).
use Rattle.std.specs.Prelude.{◌≡◌, ◌⊎◌, ℕ, ◌+◌, ℤ, pos, negsuc, List, [], ◌∷◌, length, Some, None}
use Rattle.postscript_c.specs.Naming.{IsSetOf, LacksSet, TellsOfFirst}
use Rattle.postscript_c.specs.Texts.{HandsOver, Lent}
use Rattle.postscript_view.specs.Naming.{Names}
use Rattle.postscript_view.specs.Contents.{View}
use Rattle.postscript_view.specs.Strings.{string_of}
use Rattle.postscript_view.specs.declared.char_set.CharSetView.{CharSetView}

-- the SID or CID of a glyph, or -1 if the charset has none for it
abbrev pub IsIdentifier : CharSetView → (glyph : ℕ) → ℤ → Type 0
IsIdentifier set glyph told =
    ((identifier : ℕ) × (told ≡ pos identifier) × Names set glyph identifier)
    ⊎ ((told ≡ negsuc 0) × ((identifier : ℕ) → Names set glyph identifier → ⊥))

-- the same for the glyphs from this one on, in order
abbrev pub AreFrom : CharSetView → (glyph : ℕ) → List ℤ → Type 0
AreFrom set glyph [] = Unit {0}
AreFrom set glyph (told ∷ rest) = IsIdentifier set glyph told × AreFrom set (glyph + 1) rest

-- the same for all glyphs
abbrev pub AreIdentifiers : CharSetView → (glyphs : ℕ) → List ℤ → Type 0
AreIdentifiers set glyphs all = (length all ≡ glyphs) × AreFrom set 0 all

-- On 0 the SIDs or CIDs of all glyphs of a font are stored, and on 32 only their number. Otherwise the font has no charset, or there is no
-- memory (3), and all outputs are unchanged.
abbrev pub TellsIdentifiersIn : List ℕ → View → (status : ℤ) → (old new : Lent ℤ) → Type 0
TellsIdentifiersIn bytes view status old new =
    ((set : CharSetView) × (all : List ℤ) × IsSetOf bytes view set × AreIdentifiers set (length view.char_strings) all
    × HandsOver all status old new)
    ⊎ ((LacksSet bytes view status × (new ≡ old)) ⊎ ((status ≡ pos 3) × (new ≡ old)))

abbrev pub TellsIdentifiers : List ℕ → (status : ℤ) → (old new : Lent ℤ) → Type 0
TellsIdentifiers bytes status old new = TellsOfFirst bytes (λ view. TellsIdentifiersIn bytes view status old new) status (new ≡ old)

-- On 0 the string with an SID is stored, and on 32 only its length. Otherwise the font has no such string (38).
abbrev pub TellsStringIn : View → (identifier : ℕ) → (status : ℤ) → (old new : Lent ℕ) → Type 0
TellsStringIn view identifier status old new =
    ((string : List ℕ) × (string_of view.tables.strings identifier ≡ Some string) × HandsOver string status old new)
    ⊎ ((status ≡ pos 38) × (string_of view.tables.strings identifier ≡ None) × (new ≡ old))

abbrev pub TellsString : List ℕ → (identifier : ℕ) → (status : ℤ) → (old new : Lent ℕ) → Type 0
TellsString bytes identifier status old new = TellsOfFirst bytes (λ view. TellsStringIn view identifier status old new) status (new ≡ old)
