-- Why no subset of a font is written.
use Rattle.std.proofs.Common.{◌≡◌, inl, inr, ℕ, List, Bool, Option, Some, None}
use Rattle.std.specs.Prelude.{◌⊎◌, Result, Ok, Err, IfErr, Vec}
use Rattle.std.specs.declared.alloc.Global.{Global}
use Rattle.postscript_write.specs.Costs.{StopsIn}
use Rattle.postscript_write.specs.Refusals.{IsChoiceRefusedBy, IsSubsetRefusedBy, NeedsNoName}
use Rattle.postscript_write.specs.Sources.{choice_by}
use Rattle.postscript_write.specs.declared.error.Error.{Error as Refusal}
use Rattle.postscript_write.specs.declared.error.Error.TheVariants.{Refused, Glyph, SeveralFonts, MissingGlyph, MissingPart, MissingName, LongGlyph, NoGlyphs, TooLarge, TooLong}
use Rattle.postscript_write.specs.declared.error.Error.TheVariants as refusals
use Rattle.postscript_files.specs.Made.{HasNoOrigins}
use Rattle.postscript_files.specs.Origins.{IsCutRefusedBy, IsUnopened}
use Rattle.postscript_files.specs.declared.error.Error.{Error}
use Rattle.postscript_files.specs.declared.error.Error.TheVariants as errors

-- what is wrong with a choice of glyphs is wrong with the subset
choice-refused : (fault : Refusal) (retain : Bool) (named cff : List ℕ) → IsChoiceRefusedBy named cff fault →
    IsSubsetRefusedBy named (choice_by retain) cff fault
choice-refused NoGlyphs retain named cff h = h
choice-refused (MissingGlyph glyph) retain named cff h = h
choice-refused SeveralFonts retain named cff h = h
choice-refused (Refused cause) retain named cff h = λ other. elim (h other) [
  | inl bytes ↦ inl bytes
  | inr font ↦ inr (font.0, font.1, inl font.2)
]
choice-refused (Glyph glyph cause) retain named cff h = absurd h
choice-refused (MissingPart glyph) retain named cff h = absurd h
choice-refused (MissingName glyph) retain named cff h = absurd h
choice-refused (LongGlyph glyph) retain named cff h = absurd h
choice-refused TooLarge retain named cff h = absurd h
choice-refused TooLong retain named cff h = absurd h

-- and is not that a glyph has no name
choice-unnamed : (fault : Refusal) (named cff : List ℕ) → IsChoiceRefusedBy named cff fault → NeedsNoName fault
choice-unnamed NoGlyphs named cff h = tt
choice-unnamed (MissingGlyph glyph) named cff h = tt
choice-unnamed SeveralFonts named cff h = tt
choice-unnamed (Refused cause) named cff h = tt
choice-unnamed (Glyph glyph cause) named cff h = tt
choice-unnamed (MissingPart glyph) named cff h = tt
choice-unnamed (MissingName glyph) named cff h = h
choice-unnamed (LongGlyph glyph) named cff h = tt
choice-unnamed TooLarge named cff h = tt
choice-unnamed TooLong named cff h = tt

-- nor is it where a search stops
stops-unnamed : (fault : Refusal) (named cff : List ℕ) (limit : Option ℕ) → StopsIn cff named limit fault → NeedsNoName fault
stops-unnamed (MissingName glyph) named cff (Some limit) h = h.2
stops-unnamed (MissingName glyph) named cff None h = h.2
stops-unnamed NoGlyphs named cff limit h = tt
stops-unnamed (MissingGlyph glyph) named cff limit h = tt
stops-unnamed SeveralFonts named cff limit h = tt
stops-unnamed (Refused cause) named cff limit h = tt
stops-unnamed (Glyph glyph cause) named cff limit h = tt
stops-unnamed (MissingPart glyph) named cff limit h = tt
stops-unnamed (LongGlyph glyph) named cff limit h = tt
stops-unnamed TooLarge named cff limit h = tt
stops-unnamed TooLong named cff limit h = tt

cut-refused : (fault : Refusal) (limit : Option ℕ) (retain : Bool) (named cff : List ℕ) →
    IsChoiceRefusedBy named cff fault ⊎ StopsIn cff named limit fault → IsCutRefusedBy limit retain named cff fault
cut-refused fault limit retain named cff (inl h) = record {
  why = inl (choice-refused fault retain named cff h);
  names = λ keeps. choice-unnamed fault named cff h;
}
cut-refused fault limit retain named cff (inr h) = record { why = inr h; names = λ keeps. stops-unnamed fault named cff limit h }

pub no-kept : (r : Result (Vec ℕ Global) Error) (limit : Option ℕ) (retain : Bool) (named cff : List ℕ) →
    IfErr r (λ e. (fault : Refusal) × (e ≡ errors.Font fault) × (IsChoiceRefusedBy named cff fault ⊎ StopsIn cff named limit fault)) →
    IfErr r (λ e. HasNoOrigins limit retain named cff e)
no-kept (Ok origins) limit retain named cff h = tt
no-kept (Err e) limit retain named cff h = inr (h.0, h.1, cut-refused h.0 limit retain named cff h.2)

pub unopened-so : (e : Error) (limit : Option ℕ) (retain : Bool) (named cff : List ℕ) → IsUnopened cff e → HasNoOrigins limit retain named cff e
unopened-so e limit retain named cff h = elim h [
  | inl memory ↦ inl memory
  | inr font ↦ inr (refusals.Refused font.0, font.1, record { why = inl (λ other. inl (font.2 other)); names = λ keeps. tt })
]

pub no-every : (r : Result (Vec ℕ Global) Error) (limit : Option ℕ) (retain : Bool) (named cff : List ℕ) → IfErr r (λ e. IsUnopened cff e) →
    IfErr r (λ e. HasNoOrigins limit retain named cff e)
no-every (Ok origins) limit retain named cff h = tt
no-every (Err e) limit retain named cff h = unopened-so e limit retain named cff h

pub if-memory : (r : Result (Vec ℕ Global) Error) (cff : List ℕ) → IfErr r (λ e. e ≡ errors.Memory) → IfErr r (λ e. IsUnopened cff e)
if-memory (Ok origins) cff h = tt
if-memory (Err e) cff h = inl h
