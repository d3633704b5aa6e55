-- The part that is read is that of the glyph's font dictionary.
use Rattle.std.proofs.Common.{◌≡◌, inl, inr, ℕ, ◌<◌, List, length, Bor, sym, ap, ◌∙◌}
use Rattle.std.specs.Prelude.{IfNone, IfOk, IfSome, Option, option_map, Result, Ok, Err, Some, None, slice_get}
use Rattle.postscript_base.specs.Compact1.Dictionary.{Dictionary}
use Rattle.postscript_base.specs.Tape.Outcome.{Got, Answers}
use Rattle.postscript_base.specs.declared.error.Error.{Error}
use Rattle.postscript_c.specs.CidParts.{HasItem, HasNumber, IsPartOf}
use Rattle.postscript_c.specs.Places as told
use Rattle.postscript_c.specs.Widths.{AreWidths}
use Rattle.postscript_c.specs.declared.font.PsfFont.{PsfFont}
use Rattle.postscript_c.specs.declared.part.PsfPart.{PsfPart}
use Rattle.postscript_compact1.specs.Kinds.{map_of}
use Rattle.postscript_view.proofs.Selecting.{one_selected}
use Rattle.postscript_view.specs.Select.{Selects}

pub of_map : (bytes item : List ℕ) (map : Dictionary) (answer : Result PsfPart Error) → map_of item bytes 0 ≡ Got map 0 →
    Answers (λ part. part.local_subroutines) answer 0 (told.part map bytes 0)
    → IfOk answer (λ part. AreWidths bytes map part.default_width part.nominal_width) → IfOk answer (λ part. IsPartOf bytes item part)
of_map bytes item map (Ok part) spelled reads widths = record { map = map; spelled = spelled; subroutines = reads; widths = widths }
of_map bytes item map (Err e) spelled reads widths = tt

-- a glyph has one font dictionary
one-number : (bytes : List ℕ) (font : PsfFont) (dictionaries glyph a b : ℕ) → HasNumber bytes font dictionaries glyph a →
    HasNumber bytes font dictionaries glyph b → a ≡ b
one-number bytes font dictionaries glyph a b (inl x) (inl y) = x.1 ∙ sym y.1
one-number bytes font dictionaries glyph a b (inl x) (inr y) = absurd (y.0 x.0)
one-number bytes font dictionaries glyph a b (inr x) (inl y) = absurd (x.0 y.0)
one-number bytes font dictionaries glyph a b (inr x) (inr y) = one_selected bytes font.fd_select font.glyphs glyph a b x.2 y.2

-- the item of the number that is found is the glyph's, and where there is none, the glyph has none
pub item-found : (bytes : List ℕ) (font : PsfFont) (items : List (List ℕ)) (glyph fd : ℕ) (found : Option (Bor (List ℕ))) →
    glyph < font.glyphs → HasNumber bytes font (length items) glyph fd
    → option_map (λ item. item.now) found ≡ slice_get items fd → IfSome found (λ item. HasItem bytes font items glyph item.now)
item-found bytes font items glyph fd (Some item) there numbered is = record { fd = fd; there = there; numbered = numbered; listed = sym is }
item-found bytes font items glyph fd None there numbered is = tt

pub no-item : (bytes : List ℕ) (font : PsfFont) (items : List (List ℕ)) (glyph fd : ℕ) (found : Option (Bor (List ℕ))) →
    HasNumber bytes font (length items) glyph fd
    → option_map (λ item. item.now) found ≡ slice_get items fd → IfNone found ((item : List ℕ) → HasItem bytes font items glyph item → ⊥)
no-item bytes font items glyph fd (Some item) numbered is = tt
no-item bytes font items glyph fd None numbered is = λ item has.
    let same = one-number bytes font (length items) glyph fd has.fd numbered has.numbered in
    let never : None ≡ Some item = is ∙ ap (slice_get items) same ∙ has.listed in
    absurd (cc)

-- of several font dictionaries a glyph has none where FDSelect gives it none
pub no-number : (bytes : List ℕ) (font : PsfFont) (dictionaries glyph : ℕ) (found : Option ℕ) → (dictionaries ≡ 1 → ⊥) →
    IfNone found ((fd : ℕ) → Selects bytes font.fd_select font.glyphs glyph fd → ⊥)
    → IfNone found ((fd : ℕ) → HasNumber bytes font dictionaries glyph fd → ⊥)
no-number bytes font dictionaries glyph (Some fd) several none = tt
no-number bytes font dictionaries glyph None several none = λ fd has. elim has [
  | inl one ↦ absurd (several one.0)
  | inr many ↦ none fd many.2
]
