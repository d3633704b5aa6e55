-- Charstrings that are too long to be written.
use Rattle.std.proofs.Common.{◌≡◌, sym, ap, subst, ◌∙◌, ℕ, ◌<◌, ◌≤◌, List, [], length, get_or, Option, Some, None, Vec, arith}
use Rattle.std.specs.Prelude.{IfNone, IfSome}
use Rattle.std.specs.declared.alloc.Global.{Global}
use Rattle.std.proofs.lemmas.List.{get_or-map}
use Rattle.postscript_type2.specs.Program.Routines.{texts}
use Rattle.postscript_view.specs.Contents.{View}
use Rattle.postscript_write.specs.Glyphs.{AreCodesOf, AreNumbersOf, IsCodeFor, Sources}
use Rattle.postscript_write.specs.Refusals.{FontRefusedBy, IsFirstLong}
use Rattle.postscript_write.specs.Sizes.{AreShort}
use Rattle.postscript_write.specs.declared.error.Error.TheVariants.{LongGlyph}
use Rattle.postscript_write.proofs.Rests.{texts_many}

-- the text of a code
pub text_at : (codes : List (Vec ℕ Global)) (i : ℕ) (code : Vec ℕ Global) → i < length codes → code ≡ get_or codes i code →
    get_or (texts codes) i [] ≡ code.items
text_at codes i code less is =
    get_or-map (λ (v : Vec ℕ Global). v.items) codes i code [] less ∙ ap (λ (v : Vec ℕ Global). v.items) (sym is)

-- what is returned where the first long one is found
pub long_there : (sources : Sources) (codes : List (Vec ℕ Global)) (i : ℕ) (source : Option ℕ) → get_or sources i None ≡ source →
    i < length codes → 65535 < length (get_or (texts codes) i []) → ((k : ℕ) → k < i → length (get_or (texts codes) k []) ≤ 65535) →
    IfSome source (λ glyph. IsFirstLong sources (texts codes) glyph)
long_there sources codes i None is less long before = tt
long_there sources codes i (Some glyph) is less long before =
    let many = texts_many codes in
    record { place = i; there = omega (arith, less, many); is = is; long = long; before = before }

pub never_empty : (sources : Sources) (codes : List (Vec ℕ Global)) (i : ℕ) (source : Option ℕ) → get_or sources i None ≡ source →
    i < length sources → 65535 < length (get_or (texts codes) i []) →
    ((k : ℕ) → k < length sources → get_or sources k None ≡ None → length (get_or (texts codes) k []) ≡ 1) →
    IfNone source (AreShort (texts codes))
never_empty sources codes i None is less long empty = let one = empty i less is in absurd (omega (arith, long, one))
never_empty sources codes i (Some glyph) is less long empty = tt

-- an empty glyph has one byte
pub empty_one : (font : View) (sources : Sources) (numbers : List ℕ) (codes : List (List ℕ)) → AreCodesOf font sources numbers codes →
    (i : ℕ) → i < length sources → get_or sources i None ≡ None → length (get_or codes i []) ≡ 1
empty_one font sources numbers codes are i less none =
    ap length (subst (λ source. IsCodeFor font source (get_or numbers i 0) (get_or codes i [])) none (are.each i less))

-- the refusal of a long glyph
pub too_long : (bytes : List ℕ) (font : View) (sources : Sources) (numbers : List ℕ) (codes : List (List ℕ)) (glyph : ℕ) →
    AreNumbersOf bytes font sources numbers → AreCodesOf font sources numbers codes → IsFirstLong sources codes glyph →
    FontRefusedBy bytes font sources (LongGlyph glyph)
too_long bytes font sources numbers codes glyph are codes_are first =
    record { numbers = numbers; codes = codes; are_numbers = are; are_codes = codes_are; first = first }
