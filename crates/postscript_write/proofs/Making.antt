-- A font that is made of glyphs.
use Rattle.std.proofs.Common.{◌≡◌, refl, sym, subst, ap, ◌∙◌, ℕ, ◌<◌, List, [], length, slice_get, slice_index_or, inl, inr}
use Rattle.std.specs.Prelude.{◌≢◌, ◌⊎◌, Option, Some, None, Result, Ok, Err, IfOk, IfErr, OnOk}
use Rattle.std.proofs.lemmas.Option.{slice_get-get_or}
use Rattle.postscript_base.specs.RefusalOf.{refusal_of}
use Rattle.postscript_base.specs.declared.error.Error as base
use Rattle.postscript_base.specs.declared.error.Error.TheVariants as causes
use Rattle.postscript_type2.specs.Program.Runs.{fault_of}
use Rattle.std.proofs.lemmas.List.{length-map}
use Rattle.postscript_base.specs.Index.Lent.{items_of}
use Rattle.postscript_view.specs.CharSets.{IsCharSetOf}
use Rattle.postscript_view.specs.Glyphs.{HasPartNumber}
use Rattle.postscript_view.specs.Naming.{Names}
use Rattle.postscript_view.specs.Layout.{IsLaidOut}
use Rattle.postscript_view.specs.Contents.{View, PrivateDict}
use Rattle.postscript_view.specs.Select.{IsSelected}
use Rattle.postscript_view.specs.Value.{view_shown, part_shown, parts_shown}
use Rattle.postscript_view.specs.declared.char_set.CharSetView.{CharSetView}
use Rattle.postscript_view.specs.declared.font.FontView.{FontView}
use Rattle.postscript_write.specs.Fonts.{IsMade}
use Rattle.postscript_write.specs.Glyphs.{AreCodesOf, AreNumbersOf, ShowsPart, ShowsPartFor, IsCodeFor, Sources, run_in}
use Rattle.postscript_write.specs.Parts.{SameParts}
use Rattle.postscript_write.specs.Refusals.{NeedsNoName, FontRefusedBy, IsRefusedBy}
use Rattle.postscript_write.specs.RefusedGlyphs.{IsFaultless, IsNamed}
use Rattle.postscript_write.specs.Sizes.{IsLarge}
use Rattle.postscript_write.specs.Steps.{IsNotNumbered, IsNotOpened, RefusedBy, RefusedFor}
use Rattle.postscript_write.specs.declared.error.Error.{Error}
use Rattle.postscript_write.specs.declared.error.Error.TheVariants.{Refused, Glyph, SeveralFonts, MissingGlyph, MissingPart, MissingName, LongGlyph, NoGlyphs, TooLarge, TooLong}

pub made : (bytes flat : List ℕ) (old new : View) (source : Option ℕ) (i number : ℕ) (code : List ℕ) → SameParts old.parts new.parts →
    slice_get new.char_strings i ≡ Some code →
    ShowsPartFor bytes old source number → IsCodeFor old source number code → ShowsPart flat new i number → IsMade bytes old source flat new i
made bytes flat old new None i number code parts there was is again =
    record { code = there ∙ ap Some is; part = subst (ShowsPart flat new i) was again }
made bytes flat old new (Some glyph) i number code parts there was is again =
    let within : number < length new.parts = again.there in
    let new_part : PrivateDict = slice_index_or new.parts number is.part in
    let has_new : slice_get new.parts number ≡ Some new_part = slice_get-get_or new.parts number is.part within in
    record {
      number = number;
      old_code = is.code;
      old_part = is.part;
      was = record { has_code = is.has_code; has_part = is.has_part; is_its = was };
      new_code = code;
      new_part = new_part;
      is = record { has_code = there; has_part = has_new; is_its = again };
      faultless = is.faultless;
      draws = is.draws;
      text = is.text;
      same = parts.each number is.part new_part is.has_part has_new;
    }

faultless_for : (font : View) (source : Option ℕ) (number : ℕ) (flat : List ℕ) → IsCodeFor font source number flat →
    IsFaultless font source number
faultless_for font None number flat h = tt
faultless_for font (Some glyph) number flat h =
    record { code = h.code; part = h.part; has_code = h.has_code; has_part = h.has_part; faultless = h.faultless }

-- the refusal of a glyph behind glyphs that are not refused
pub refused_by : (font : View) (sources : Sources) (numbers : List ℕ) (flats : List (List ℕ)) (i : ℕ) (e : Error) → i < length sources →
    RefusedFor font (slice_index_or sources i None) (slice_index_or numbers i 0) e →
    ((k : ℕ) → k < i → IsCodeFor font (slice_index_or sources k None) (slice_index_or numbers k 0)
    (slice_index_or flats k [])) → RefusedBy font sources numbers e
refused_by font sources numbers flats i (Glyph glyph cause) less h before = record {
  place = i;
  there = less;
  is = h.0;
  refused = h.1;
  before = λ k below. faultless_for font (slice_index_or sources k None) (slice_index_or numbers k 0) (slice_index_or flats k [])
      (before k below);
}
refused_by font sources numbers flats i (Refused cause) less h before = h
refused_by font sources numbers flats i SeveralFonts less h before = absurd h
refused_by font sources numbers flats i (MissingGlyph glyph) less h before = absurd h
refused_by font sources numbers flats i (MissingPart glyph) less h before = absurd h
refused_by font sources numbers flats i (LongGlyph glyph) less h before = absurd h
refused_by font sources numbers flats i (MissingName glyph) less h before = absurd h
refused_by font sources numbers flats i NoGlyphs less h before = absurd h
refused_by font sources numbers flats i TooLarge less h before = absurd h
refused_by font sources numbers flats i TooLong less h before = absurd h

-- a glyph without a part
pub partless : (font : FontView) (sources : Sources) (i : ℕ) (e : Error) → i < length sources →
    ((k : ℕ) → k < i → (number : ℕ) × ShowsPartFor font.bytes.now (view_shown font) (slice_index_or sources k None) number) →
    ((glyph : ℕ) × (slice_index_or sources i None ≡ Some glyph) × (e ≡ MissingPart glyph) × ((part : ℕ) → HasPartNumber font glyph
    part → ⊥)) → IsNotNumbered font.bytes.now (view_shown font) sources e
partless font sources i e less before h =
    let many : length (parts_shown font.parts.items) ≡ length font.parts.items = length-map font.parts.items part_shown in
    subst (λ e. IsNotNumbered font.bytes.now (view_shown font) sources e) (sym h.2) (record {
      one = (i, less, h.1);
      before = before;
      partless = λ there number has. h.3 number (record {
        glyph_there = there;
        part_there = subst (λ n. number < n) many has.there;
        selected = subst (λ n. ((n ≡ 1) × (number ≡ 0)) ⊎ ((n ≢ 1) × IsSelected font.bytes.now font.dictionary
            (length (items_of font.char_strings)) h.0 number)) many has.selected;
      });
    })

-- no part is told of a glyph
pub not_numbered : (bytes : List ℕ) (font : View) (sources : Sources) (e : Error) → IsNotNumbered bytes font sources e →
    FontRefusedBy bytes font sources e
not_numbered bytes font sources (Glyph glyph cause) h = absurd h
not_numbered bytes font sources (Refused cause) h = λ other. absurd (other h)
not_numbered bytes font sources SeveralFonts h = absurd h
not_numbered bytes font sources (MissingGlyph glyph) h = absurd h
not_numbered bytes font sources (MissingPart glyph) h = h
not_numbered bytes font sources (LongGlyph glyph) h = absurd h
not_numbered bytes font sources (MissingName glyph) h = absurd h
not_numbered bytes font sources NoGlyphs h = absurd h
not_numbered bytes font sources TooLarge h = absurd h
not_numbered bytes font sources TooLong h = absurd h

-- where a glyph without a name is not the cause, the refusal names none
pub names_none : (P : Error → Type 0) → ((glyph : ℕ) → P (MissingName glyph) → ⊥) → (e : Error) → P e → NeedsNoName e
names_none P never (Glyph glyph cause) h = tt
names_none P never (Refused cause) h = tt
names_none P never SeveralFonts h = tt
names_none P never (MissingGlyph glyph) h = tt
names_none P never (MissingPart glyph) h = tt
names_none P never (LongGlyph glyph) h = tt
names_none P never (MissingName glyph) h = never glyph h
names_none P never NoGlyphs h = tt
names_none P never TooLarge h = tt
names_none P never TooLong h = tt

-- a glyph without a name
pub nameless : (font : FontView) (set : CharSetView) (sources : Sources) (i : ℕ) (e : Error) →
    IsCharSetOf set font.bytes.now font.dictionary (length (items_of font.char_strings)) → i < length sources →
    ((k : ℕ) → 0 < k → k < i → IsNamed set (slice_index_or sources k None)) →
    ((glyph : ℕ) × (slice_index_or sources i None ≡ Some glyph) × (e ≡ MissingName glyph) × ((identifier : ℕ) → Names set glyph
    identifier → ⊥)) → FontRefusedBy font.bytes.now (view_shown font) sources e
nameless font set sources i e has less before h = subst (λ e. FontRefusedBy font.bytes.now (view_shown font) sources e) (sym h.2) (record {
  one = (i, less, h.1);
  set = set;
  has_set = has;
  before = before;
  nameless = h.3;
})

pub memory_refused : (bytes : List ℕ) (font : View) (sources : Sources) (e : Error) → e ≡ Refused causes.Memory →
    FontRefusedBy bytes font sources e
memory_refused bytes font sources e is = subst (FontRefusedBy bytes font sources) (sym is) (λ n. absurd (n refl))

-- the font is too large with the codes
pub too_large : (bytes : List ℕ) (font : View) (sources : Sources) (numbers : List ℕ) (flats : List (List ℕ)) →
    AreNumbersOf bytes font sources numbers → AreCodesOf font sources numbers flats → IsLarge bytes font flats →
    FontRefusedBy bytes font sources TooLarge
too_large bytes font sources numbers flats are codes large = (
  (
    numbers,
    are,
    λ i less. faultless_for font (slice_index_or sources i None) (slice_index_or numbers i 0) (slice_index_or flats i [])
        (codes.each i less),
  ),
  record { numbers = numbers; codes = flats; are_numbers = are; are_codes = codes; large = large },
)

pub memory_bytes : (sources : (glyphs : ℕ) → Sources) (bytes : List ℕ) (e : Error) → e ≡ Refused causes.Memory → IsRefusedBy sources bytes e
memory_bytes sources bytes e is = subst (IsRefusedBy sources bytes) (sym is) (λ n. absurd (n refl))

pub is_refused : (sources : (glyphs : ℕ) → Sources) (bytes : List ℕ) (font : View) (e : Error) → IsLaidOut bytes 0 font →
    FontRefusedBy bytes font (sources (length font.char_strings)) e → IsRefusedBy sources bytes e
is_refused sources bytes font (Glyph glyph cause) is h = (font, is, h)
is_refused sources bytes font (Refused cause) is h = λ n. inr (font, is, h n)
is_refused sources bytes font SeveralFonts is h = absurd h
is_refused sources bytes font (MissingGlyph glyph) is h = absurd h
is_refused sources bytes font (MissingPart glyph) is h = (font, is, h)
is_refused sources bytes font (LongGlyph glyph) is h = (font, is, h)
is_refused sources bytes font (MissingName glyph) is h = (font, is, h)
is_refused sources bytes font NoGlyphs is h = absurd h
is_refused sources bytes font TooLarge is h = (font, is, h)
is_refused sources bytes font TooLong is h = absurd h

pub not_opened : (sources : (glyphs : ℕ) → Sources) (bytes : List ℕ) (e : Error) → IsNotOpened bytes e → IsRefusedBy sources bytes e
not_opened sources bytes (Glyph glyph cause) h = absurd h
not_opened sources bytes (Refused cause) h = λ n. inl (h n)
not_opened sources bytes SeveralFonts h = h
not_opened sources bytes (MissingGlyph glyph) h = absurd h
not_opened sources bytes (MissingPart glyph) h = absurd h
not_opened sources bytes (LongGlyph glyph) h = absurd h
not_opened sources bytes (MissingName glyph) h = absurd h
not_opened sources bytes NoGlyphs h = absurd h
not_opened sources bytes TooLarge h = absurd h
not_opened sources bytes TooLong h = absurd h

-- the refusal of a glyph, running out of memory aside
pub run_refused : (font : View) (glyph number : ℕ) (code : List ℕ) (part : PrivateDict) (cause : base.Error) (e : Error) →
    slice_get font.char_strings glyph ≡ Some code → slice_get font.parts number ≡ Some part →
    (cause ≡ causes.Memory) ⊎ (fault_of (run_in font part code).end ≡ Some (refusal_of cause)) →
    (e ≡ Refused causes.Memory) ⊎ ((cause ≢ causes.Memory) × (e ≡ Glyph glyph cause)) → RefusedFor font (Some glyph) number e
run_refused font glyph number code part cause e has_code has_part fault is = elim is [
  | inl memory ↦ subst (λ e. RefusedFor font (Some glyph) number e) (sym memory) refl
  | inr other ↦ subst (λ e. RefusedFor font (Some glyph) number e) (sym other.1) (
    refl,
    record {
      code = code;
      part = part;
      has_code = has_code;
      has_part = has_part;
      fault = elim fault [
        | inl memory ↦ absurd (other.0 memory)
        | inr h ↦ h
      ];
    },
  )
]

pub on_ok : {A E P : Type 0} (r : Result A E) → P → OnOk r P
on_ok (Ok a) is = is
on_ok (Err e) is = tt

pub if_ok : {A E : Type 0} {P Q : A → Type 0} (r : Result A E) → ((a : A) → P a → Q a) → IfOk r P → IfOk r Q
if_ok (Ok a) f h = f a h
if_ok (Err e) f h = h

pub if_ok_both : {A E : Type 0} {P Q R : A → Type 0} (r : Result A E) → ((a : A) → P a → Q a → R a) → IfOk r P → IfOk r Q → IfOk r R
if_ok_both (Ok a) f h k = f a h k
if_ok_both (Err e) f h k = h

pub if_err : {A E : Type 0} {P Q : E → Type 0} (r : Result A E) → ((e : E) → P e → Q e) → IfErr r P → IfErr r Q
if_err (Ok a) f h = h
if_err (Err e) f h = f e h
