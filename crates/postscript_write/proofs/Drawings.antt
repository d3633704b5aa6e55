-- What the glyphs of a subset draw.
use Rattle.std.proofs.Common.{◌≡◌, refl, sym, ap, subst, ◌∙◌, inl, inr, ℕ, ℤ, ◌+◌, ◌<◌, ◌-◌, List, [], ◌∷◌, length, get_or, slice_get, arith, Bool, true, false}
use Rattle.std.specs.Prelude.{◌⊎◌, ◌↔◌, ◌&&◌, Option, Some, None, Result, Ok, Err, Vec, IfOk, option_map, nat_le, nat_lt, if◌then◌else◌}
use Rattle.std.proofs.lemmas.Bool.{leb-true, ltb-true}
use Rattle.std.proofs.lemmas.List.{length-map}
use Rattle.postscript_base.specs.Compact1.Defaults.{look}
use Rattle.postscript_write.proofs.ReadAgain.{one_view}
use Rattle.postscript_write.proofs.Operators.{ros-stays}
use Rattle.postscript_write.specs.declared.error.Error.{Error}
use Rattle.std.specs.declared.alloc.Global.{Global}
use Rattle.std.proofs.lemmas.Option.{slice_get-map, slice_get_within}
use Rattle.std.specs.Option.{IsSome, is_some}
use Rattle.postscript_drawing.specs.Accents.{IsAccent}
use Rattle.postscript_drawing.specs.Components.{IsComponent, glyphs_of, standard_identifier}
use Rattle.postscript_drawing.specs.Refused.{IsAccented}
use Rattle.postscript_drawing.specs.declared.accent.Accent.{Accent}
use Rattle.postscript_base.specs.Index.Lent.{items_of}
use Rattle.postscript_type2.specs.Program.Runs.{Run}
use Rattle.postscript_type2.specs.Program.Routines.{lent}
use Rattle.postscript_view.specs.Advances.{HasRun, advance_of}
use Rattle.postscript_view.specs.CharSets.{IsCharSetOf}
use Rattle.postscript_view.specs.Cids.{IsCidKeyed}
use Rattle.postscript_view.specs.Layout.{IsLaidOut}
use Rattle.postscript_view.specs.Contents.{View, PrivateDict as ShownDict}
use Rattle.postscript_view.specs.Naming.{IsFirstNamed, Names}
use Rattle.postscript_view.specs.Select.{IsSelected}
use Rattle.postscript_view.specs.Value.{part_shown, parts_shown, view_shown}
use Rattle.postscript_view.specs.declared.font.FontView.{FontView}
use Rattle.postscript_view.specs.declared.private_dict.PrivateDict.{PrivateDict}
use Rattle.postscript_write.specs.Components.{AreClosed, IsComponentOf, IsOpened, IsSubset, is_drawn_with}
use Rattle.postscript_write.specs.Drawings.{DrawsKept, DrawsTheSame, KeepsDrawings, IsSourceAt}
use Rattle.postscript_write.specs.Fonts.{ShowsGlyph, HasGlyphsOf, IsMade, IsMadeOf, Repeats}
use Rattle.postscript_write.specs.Glyphs.{Sources, run_in}
use Rattle.postscript_write.specs.Making.{HaveCharSets, IsCutFont, IsFontBy, IsKeptFont}
use Rattle.postscript_write.specs.Sources.{IsWritten, choice_by, chosen, every, is_kept, keeping, kept_or_none}
use Rattle.postscript_write.proofs.Carried.{Carries, CarriesComponents, SameRuns, carried, turned}
use Rattle.postscript_write.proofs.Accented.{component-there}
use Rattle.postscript_write.proofs.Places.{Placed, Takes, chosen-placed, chosen-rises, every-at, every-many, every-placed, first-back, first-forth, glyph_or, keeping-at, keeping-many, keeping-placed, one-place}
use Rattle.postscript_write.proofs.Uniqueness.{first-of, one-run}
use Rattle.postscript_base.specs.declared.compact1.operator.Operator.TheVariants.{ROS}
use Rattle.postscript_compact1.specs.Computed.Encodings.{Run as EncodingRun, are_standard, has_code, in_runs, runs_of}
use Rattle.postscript_compact1.specs.declared.encoding.Encoding.TheVariants.{Standard}
use Rattle.postscript_view.specs.declared.char_set.CharSetView.{CharSetView}
use Rattle.postscript_write.specs.Naming.{SameName}
use Rattle.postscript_write.specs.Strings.{SameStrings, SameText}

-- A glyph of the shown font has this part and this run.
pub record RunAt (bytes : List ℕ) (font : View) (glyph : ℕ) (part : ShownDict) (run : Run) : Type 0 where
  pub code : List ℕ
  pub number : ℕ
  pub has : ShowsGlyph bytes font glyph code number part
  pub runs : run ≡ run_in font part code

to-shown : (font : FontView) (glyph : ℕ) (part : PrivateDict) (run : Run) → HasRun font glyph part run →
    RunAt font.bytes.now (view_shown font) glyph (part_shown part) run
to-shown font glyph part run h =
    let many : length (parts_shown font.parts.items) ≡ length font.parts.items = length-map font.parts.items part_shown in
    let number = h.has.number in
    record {
      code = h.code;
      number = number;
      has = record {
        has_code = h.has.has_code;
        has_part = slice_get-map part_shown font.parts.items number ∙ ap (option_map part_shown) h.has.has_part;
        is_its = record {
          there = subst (λ n. number < n) (sym many) h.has.has_number.part_there;
          selected = subst (λ n. ((n ≡ 1) × (number ≡ 0)) ⊎ ((n ≡ 1 → ⊥) × IsSelected font.bytes.now font.dictionary
              (glyphs_of font) glyph number)) (sym many) h.has.has_number.selected;
        };
      };
      runs = h.runs;
    }

-- a part that is shown so, with which a glyph has this run
pub record RunFrom (font : FontView) (glyph : ℕ) (shown : ShownDict) (run : Run) : Type 0 where
  pub part : PrivateDict
  pub has : HasRun font glyph part run
  pub is : part_shown part ≡ shown

from-shown : (font : FontView) (glyph : ℕ) (shown : ShownDict) (run : Run) → RunAt font.bytes.now (view_shown font) glyph shown run →
    RunFrom font glyph shown run
from-shown font glyph shown run h = by (slice_get font.parts.items h.number) refl
  where
    many : length (parts_shown font.parts.items) ≡ length font.parts.items
    many = length-map font.parts.items part_shown

    by : (o : Option PrivateDict) → slice_get font.parts.items h.number ≡ o → RunFrom font glyph shown run
    by None e =
        let never : None ≡ Some shown = sym (slice_get-map part_shown font.parts.items h.number ∙ ap (option_map part_shown) e)
        ∙ h.has.has_part in absurd (cc)
    by (Some part) e =
        let both : Some (part_shown part) ≡ Some shown = sym
        (slice_get-map part_shown font.parts.items h.number ∙ ap (option_map part_shown) e) ∙ h.has.has_part in
        let same : part_shown part ≡ shown = cc in
        record {
          part = part;
          is = same;
          has = record {
            code = h.code;
            has = record {
              number = h.number;
              has_number = record {
                glyph_there = slice_get_within (items_of font.char_strings) glyph h.code h.has.has_code;
                part_there = subst (λ n. h.number < n) many h.has.is_its.there;
                selected = subst (λ n. ((n ≡ 1) × (h.number ≡ 0)) ⊎ ((n ≡ 1 → ⊥) × IsSelected font.bytes.now font.dictionary
                    (glyphs_of font) glyph h.number)) many h.has.is_its.selected;
              };
              has_part = e;
              has_code = h.has.has_code;
            };
            runs = subst (λ (p : ShownDict). run ≡ run_in (view_shown font) p h.code) (sym same) h.runs;
          };
        }

-- a font that is opened shows the view of its bytes
pub shows : (bytes : List ℕ) (font : FontView) (v : View) → IsOpened bytes font → IsLaidOut bytes 0 v → view_shown font ≡ v
shows bytes font v opened is = one_view bytes v (view_shown font) is opened.laid

run-at : (bytes : List ℕ) (font : FontView) (v : View) (glyph : ℕ) (part : PrivateDict) (run : Run) → IsOpened bytes font →
    IsLaidOut bytes 0 v → HasRun font glyph part run → RunAt bytes v glyph (part_shown part) run
run-at bytes font v glyph part run opened is has =
    subst (λ (v : View). RunAt bytes v glyph (part_shown part) run) (shows bytes font v opened is)
    (subst (λ (bs : List ℕ). RunAt bs (view_shown font) glyph (part_shown part) run) opened.there (to-shown font glyph part run has))

run-from : (bytes : List ℕ) (font : FontView) (v : View) (glyph : ℕ) (shown : ShownDict) (run : Run) → IsOpened bytes font →
    IsLaidOut bytes 0 v → RunAt bytes v glyph shown run → RunFrom font glyph shown run
run-from bytes font v glyph shown run opened is at =
    from-shown font glyph shown run
    (subst (λ (bs : List ℕ). RunAt bs (view_shown font) glyph shown run) (sym opened.there)
    (subst (λ (v : View). RunAt bytes v glyph shown run) (sym (shows bytes font v opened is)) at))

-- the run of a glyph of the shown font
pub shown-run : (bytes : List ℕ) (font : FontView) (v : View) (glyph : ℕ) (code : List ℕ) (number : ℕ) (part : ShownDict) →
    IsOpened bytes font → IsLaidOut bytes 0 v → ShowsGlyph bytes v glyph code number part → RunFrom font glyph part (run_in v part code)
shown-run bytes font v glyph code number part opened is has =
    run-from bytes font v glyph part (run_in v part code) opened is (record { code = code; number = number; has = has; runs = refl })

-- the glyph of a code in the shown font
record ComponentAt (bytes : List ℕ) (font : View) (code glyph : ℕ) : Type 0 where
  pub not_keyed : IsCidKeyed font.tables.dictionary → ⊥
  pub set : CharSetView
  pub is_set : IsCharSetOf set bytes font.tables.dictionary (length font.char_strings)
  pub first : IsFirstNamed set (standard_identifier code) (length font.char_strings) glyph

component-at : (bytes : List ℕ) (font : FontView) (v : View) (code glyph : ℕ) → IsOpened bytes font → IsLaidOut bytes 0 v →
    IsComponent font code glyph → ComponentAt bytes v code glyph
component-at bytes font v code glyph opened is c =
    subst (λ (v : View). ComponentAt bytes v code glyph) (shows bytes font v opened is)
    (subst (λ (bs : List ℕ). ComponentAt bs (view_shown font) code glyph) opened.there
    (record { not_keyed = c.not_keyed; set = c.set; is_set = c.is_set; first = c.first }))

component-from : (bytes : List ℕ) (font : FontView) (v : View) (code glyph : ℕ) → IsOpened bytes font → IsLaidOut bytes 0 v →
    ComponentAt bytes v code glyph → IsComponent font code glyph
component-from bytes font v code glyph opened is at =
    by (subst (λ (bs : List ℕ). ComponentAt bs (view_shown font) code glyph) (sym opened.there)
    (subst (λ (v : View). ComponentAt bytes v code glyph) (sym (shows bytes font v opened is)) at))
  where
    by : ComponentAt font.bytes.now (view_shown font) code glyph → IsComponent font code glyph
    by c = record { not_keyed = c.not_keyed; set = c.set; is_set = c.is_set; first = c.first }

-- The runs of a glyph and of the one that it is made of, whose parts give the same advance.
pub record MadeRuns (old new : FontView) (glyph i : ℕ) : Type 0 where
  pub old_part : PrivateDict
  pub new_part : PrivateDict
  pub run : Run
  pub other : Run
  pub was : HasRun old glyph old_part run
  pub is : HasRun new i new_part other
  pub same : SameRuns run other
  pub advance : (width : Option ℤ) → advance_of new_part.dictionary width ≡ advance_of old_part.dictionary width

pub made-back : (old new : FontView) (glyph i : ℕ) → MadeRuns old new glyph i → MadeRuns new old i glyph
made-back old new glyph i m = record {
  old_part = m.new_part;
  new_part = m.old_part;
  run = m.other;
  other = m.run;
  was = m.is;
  is = m.was;
  same = turned m.run m.other m.same;
  advance = λ width. sym (m.advance width);
}

pub made-runs : (bytes flat : List ℕ) (old new : FontView) (ov nv : View) (glyph i : ℕ) → IsOpened bytes old → IsOpened flat new →
    IsLaidOut bytes 0 ov → IsLaidOut flat 0 nv →
    IsMadeOf bytes ov glyph flat nv i → MadeRuns old new glyph i
made-runs bytes flat old new ov nv glyph i o n was is m =
    let first = shown-run bytes old ov glyph m.old_code m.number m.old_part o was m.was in
    let second = shown-run flat new nv i m.new_code m.number m.new_part n is m.is in
    let draws = m.draws (lent nv.tables.subroutines m.new_part.subroutines) in
    record {
      old_part = first.part;
      new_part = second.part;
      run = run_in ov m.old_part m.old_code;
      other = run_in nv m.new_part m.new_code;
      was = first.has;
      is = second.has;
      same = record {
        answers = draws.answers;
        width = draws.width;
        taken = draws.taken;
        faultless = m.faultless;
        other_faultless = draws.faultless;
      };
      advance = λ width.
          ap (λ (p : ShownDict). advance_of p.dictionary width) second.is ∙ m.same.advance width
          ∙ sym (ap (λ (p : ShownDict). advance_of p.dictionary width) first.is);
    }

carries-forth : (old new : FontView) (glyph i : ℕ) → MadeRuns old new glyph i → Carries old new glyph i
carries-forth old new glyph i m part run has = record {
  part = m.new_part;
  other = m.other;
  has = m.is;
  same = subst (λ r. SameRuns r m.other) (sym (one-run old glyph m.old_part part m.run run m.was has)) m.same;
}

carries-back : (old new : FontView) (glyph i : ℕ) → MadeRuns old new glyph i → Carries new old i glyph
carries-back old new glyph i m = carries-forth new old i glyph (made-back old new glyph i m)

-- a glyph that is accented is accented in the other font
accented-so : (old new : FontView) (glyph i : ℕ) (accent : Accent) → Carries old new glyph i → IsAccented old glyph accent →
    IsAccented new i accent
accented-so old new glyph i accent carries is =
    let run = carries is.part is.run is.has in
    record {
      part =
          run.part;
      run = run.other;
      has = run.has;
      accented = subst (λ taken. IsAccent taken accent) (sym run.same.taken) is.accented;
    }

-- each identifier of the standard encoding is that of a standard string
and-both : (a b : Bool) → (a && b) ≡ true → (a ≡ true) × (b ≡ true)
and-both true b h = (refl, h)
and-both false b h = let never : false ≡ true = h in absurd (cc)

in-run : (run : EncodingRun) (runs : List EncodingRun) (code : ℕ) (b : Bool) → has_code code run ≡ b → run.2 + (run.1 - run.0) < 391 →
    in_runs runs code < 391 → in_runs (run ∷ runs) code < 391
in-run run runs code true e small rest =
    let within = and-both (nat_le run.0 code) (nat_le code run.1) e in
    let from = leb-true run.0 code within.0 in
    let to = leb-true code run.1 within.1 in
    subst (λ n. n < 391) (sym (ap (λ b. if b then run.2 + (code - run.0) else in_runs runs code) e)) (omega (arith, from, to, small))
in-run run runs code false e small rest =
    subst (λ n. n < 391) (sym (ap (λ b. if b then run.2 + (code - run.0) else in_runs runs code) e)) rest

in-runs : (runs : List EncodingRun) (code : ℕ) → are_standard runs ≡ true → in_runs runs code < 391
in-runs [] code h = omega arith
in-runs (run ∷ runs) code h =
    let both = and-both (nat_lt (run.2 + (run.1 - run.0)) 391) (are_standard runs) h in
    in-run run runs code (has_code code run) refl (ltb-true (run.2 + (run.1 - run.0)) 391 both.0) (in-runs runs code both.1)

standard : (code : ℕ) → standard_identifier code < 391
standard code = in-runs (runs_of Standard) code refl

-- what names glyphs of the standard strings
abbrev pub NamesKept : (sources : Sources) (old_set new_set : CharSetView) (origin : ℕ → ℕ) → Type 0
NamesKept sources old_set new_set origin =
    (identifier i : ℕ) → identifier < 391 → i < length sources → Names old_set (origin i) identifier ↔ Names new_set i identifier

-- a component is one in each view of the font
pub component-moved : (bytes : List ℕ) (a b : FontView) (from one : ℕ) → IsOpened bytes a → IsOpened bytes b → IsComponentOf a from one →
    IsComponentOf b from one
component-moved bytes a b from one was is c =
    let v = view_shown a in
    let run = run-from bytes b v from (part_shown c.accented.part) c.accented.run is was.laid
    (run-at bytes a v from c.accented.part c.accented.run was was.laid c.accented.has) in
    record {
      accent = c.accent;
      accented = record { part = run.part; run = c.accented.run; has = run.has; accented = c.accented.accented };
      named = elim c.named [
        | inl h ↦ inl (component-from bytes b v c.accent.base one is was.laid (component-at bytes a v c.accent.base one was was.laid h))
        | inr h ↦ inr (component-from bytes b v c.accent.accent one is was.laid
            (component-at bytes a v c.accent.accent one was was.laid h))
      ];
    }

-- glyphs that are kept with the ones that they are drawn with
abbrev Closes : (bytes : List ℕ) → (kept : ℕ → Type 0) → Type 0
Closes bytes kept = (font : FontView) (from one : ℕ) → IsOpened bytes font → kept from → IsComponentOf font from one → kept one

closes : (bytes named closed : List ℕ) → AreClosed bytes named closed → Closes bytes (λ g. is_kept closed g ≡ true)
closes bytes named closed are font from one opened kept is =
    (are.all one).1 (is_drawn_with from one ((are.all from).0 kept) (component-moved bytes font are.font from one opened are.opened is))

-- both fonts are CID-keyed, or neither is
pub one-key : (old new : View) → Repeats old new → look new.tables.dictionary ROS ≡ look old.tables.dictionary ROS
one-key old new repeats = elim (repeats.dictionary ROS) [
  | inl same ↦ same
  | inr among ↦ absurd (ros-stays among)
]

-- What a font draws that is made of these glyphs, where each place stands for one of the old font.
draws : (kept : ℕ → Type 0) (bytes flat : List ℕ) (ov nv : View) (sources : Sources) → IsLaidOut bytes 0 ov →
    IsLaidOut flat 0 nv → HasGlyphsOf sources bytes ov flat nv → (sets : HaveCharSets bytes ov flat nv) →
    Closes bytes kept → (origin : ℕ → ℕ) → Placed kept sources (length ov.char_strings) origin →
    NamesKept sources sets.old_set sets.new_set origin →
    (old new : FontView) (glyph i : ℕ) → IsOpened bytes old → IsOpened flat new → IsSourceAt sources i glyph → DrawsTheSame old new glyph i
draws kept bytes flat ov nv sources shown_old shown_new made sets all origin placed names old new glyph i was is at segments width = (
  carried old new glyph i segments width (carries-forth old new glyph i (runs glyph i at)) codes-forth,
  carried new old i glyph segments width (carries-back old new glyph i (runs glyph i at)) codes-back,
)
  where
    n : ℕ
    n = length ov.char_strings

    runs : (g j : ℕ) → IsSourceAt sources j g → MadeRuns old new g j
    runs g j there =
        made-runs bytes flat old new ov nv g j was is shown_old shown_new
        (subst (λ o. IsMade bytes ov o flat nv j) there.is (made.glyphs j there.there))

    -- the glyph of a code that a glyph names is kept
    kept-one : (accent : Accent) (code one : ℕ) → IsAccented old glyph accent → (code ≡ accent.base) ⊎ (code ≡ accent.accent) →
        ComponentAt bytes ov code one → kept one
    kept-one accent code one accented is_code component =
        let here = component-from bytes old ov code one was shown_old component in
        all old glyph one was (placed.own i glyph at) (record {
          accent = accent;
          accented = accented;
          named = elim is_code [
            | inl e ↦ inl (subst (λ c. IsComponent old c one) e here)
            | inr e ↦ inr (subst (λ c. IsComponent old c one) e here)
          ];
        })

    takes : (code : ℕ) → Takes kept sets.old_set sets.new_set (standard_identifier code) n (length sources) origin
    takes code = record {
      names = λ j there. names (standard_identifier code) j (standard code) there;
      rise = placed.rise;
      below = placed.below;
      place = λ g is_one less. let one = placed.all g is_one less in (one.0, one.1.there, one.2);
    }

    same_key : look nv.tables.dictionary ROS ≡ look ov.tables.dictionary ROS
    same_key = one-key ov nv made.repeats

    keyed : IsCidKeyed nv.tables.dictionary → IsCidKeyed ov.tables.dictionary
    keyed h = subst (λ o. IsSome o) same_key h

    unkeyed : IsCidKeyed ov.tables.dictionary → IsCidKeyed nv.tables.dictionary
    unkeyed h = subst (λ o. IsSome o) (sym same_key) h

    codes-forth : CarriesComponents old new glyph
    codes-forth accent code one accented is_code component =
        let c = component-at bytes old ov code one was shown_old component in
        let place = placed.all one (kept-one accent code one accented is_code c) c.first.there in
        let first = first-of c.set sets.old_set bytes ov.tables.dictionary n
        (standard_identifier code) one c.is_set sets.was c.first in
        let new_first = first-forth kept sets.old_set sets.new_set (standard_identifier code) n
        (length sources) origin one place.0 (takes code) place.1.there place.2 first in
        let there : ComponentAt flat nv code place.0 = record {
          not_keyed = λ h. c.not_keyed (keyed h);
          set = sets.new_set;
          is_set = sets.is;
          first = subst (λ m. IsFirstNamed sets.new_set (standard_identifier code) m place.0) (sym made.many) new_first;
        } in
        (place.0, component-from flat new nv code place.0 is shown_new there, carries-forth old new one place.0 (runs one place.0 place.1))

    codes-back : CarriesComponents new old i
    codes-back accent code j accented is_code component =
        let c = component-at flat new nv code j is shown_new component in
        let before : IsAccented old glyph accent = accented-so new old i glyph accent
        (carries-back old new glyph i (runs glyph i at)) accented in
        let first = first-of c.set sets.new_set flat nv.tables.dictionary (length nv.char_strings)
        (standard_identifier code) j c.is_set sets.is c.first in
        let first_m = subst (λ m. IsFirstNamed sets.new_set (standard_identifier code) m j) made.many first in
        let here : (g : ℕ) → IsFirstNamed sets.old_set (standard_identifier code) n g → ComponentAt bytes ov code g =
        λ g f. record { not_keyed = λ h. c.not_keyed (unkeyed h); set = sets.old_set; is_set = sets.was; first = f } in
        let closing = λ (g : ℕ) (f : IsFirstNamed sets.old_set (standard_identifier code) n g). kept-one accent code g before
        is_code (here g f) in
        let old_first = first-back kept sets.old_set sets.new_set (standard_identifier code) n (length sources) origin j
        (takes code) closing first_m in
        let one = origin j in
        let place = placed.all one (closing one old_first) old_first.there in
        let same : place.0 ≡ j = one-place kept sources n place.0 j origin placed place.1.there first_m.there place.2 in (
          one,
          component-from bytes old ov code one was shown_old (here one old_first),
          carries-back old new one j (runs one j (subst (λ k. IsSourceAt sources k one) same place.1)),
        )

-- The number of glyphs of an opened font.
pub many-of : (bytes : List ℕ) (font : FontView) (v : View) → IsOpened bytes font → IsLaidOut bytes 0 v →
    glyphs_of font ≡ length v.char_strings
many-of bytes font v opened is = ap (λ (v : View). length v.char_strings) (shows bytes font v opened is)

pub subset-draws : (named bytes flat : List ℕ) → IsSubset IsCutFont chosen named bytes flat → DrawsKept chosen named bytes flat
subset-draws named bytes flat s = (
  s.closed,
  s.are,
  λ old new glyph i was is at.
      draws (λ g. is_kept s.closed g ≡ true) bytes flat s.written.old s.written.new
      (chosen s.closed n) s.written.was s.written.is s.written.made.made s.written.made.sets (closes bytes named s.closed s.are)
      (λ j. glyph_or (get_or (chosen s.closed n) j None)) (chosen-placed s.closed n) names old new glyph i was is
      (subst (λ m. IsSourceAt (chosen s.closed m) i glyph) (many-of bytes old s.written.old was s.written.was) at),
)
  where
    n : ℕ
    n = length s.written.old.char_strings

    names-at : (keeps : Bool) (identifier i : ℕ) → identifier < 391 → (one : (g : ℕ) × IsSourceAt (chosen s.closed n) i g) →
        SameStrings keeps (chosen s.closed n) s.written.old s.written.made.sets.old_set s.written.new s.written.made.sets.new_set →
        Names s.written.made.sets.old_set one.0 identifier ↔ Names s.written.made.sets.new_set i identifier
    names-at true identifier i small one same =
        subst (λ o. SameName s.written.made.sets.old_set o s.written.made.sets.new_set i) one.1.is
        (same.glyphs i one.1.there) identifier
    names-at false identifier i small one same =
        (subst (λ o. SameText s.written.made.sets.old_set s.written.old.tables.strings o s.written.made.sets.new_set
        s.written.new.tables.strings i) one.1.is (same.glyphs i one.1.there)).standard identifier small

    names : NamesKept (chosen s.closed n) s.written.made.sets.old_set s.written.made.sets.new_set
        (λ j. glyph_or (get_or (chosen s.closed n) j None))
    names identifier i small less =
        let one = (chosen-rises s.closed n).some i less in
        subst (λ g. Names s.written.made.sets.old_set g identifier ↔ Names s.written.made.sets.new_set i identifier)
        (sym (ap glyph_or one.1.is))
        (names-at (is_some (look s.written.old.tables.dictionary ROS)) identifier i small one s.written.made.strings)

pub keeping-draws : (named bytes flat : List ℕ) → IsSubset IsKeptFont keeping named bytes flat → DrawsKept keeping named bytes flat
keeping-draws named bytes flat s = (
  s.closed,
  s.are,
  λ old new glyph i was is at.
      draws (λ g. is_kept s.closed g ≡ true) bytes flat s.written.old s.written.new
      (keeping s.closed n) s.written.was s.written.is s.written.made.made s.written.made.sets (closes bytes named s.closed s.are) (λ j. j)
      (keeping-placed s.closed n) names old new glyph i was is
      (subst (λ m. IsSourceAt (keeping s.closed m) i glyph) (many-of bytes old s.written.old was s.written.was) at),
)
  where
    n : ℕ
    n = length s.written.old.char_strings

    named-at : (o : Option ℕ) (i identifier : ℕ) → (o ≡ Some i) ⊎ (o ≡ None) →
        SameName s.written.made.sets.old_set o s.written.made.sets.new_set i →
        Names s.written.made.sets.old_set i identifier ↔ Names s.written.made.sets.new_set i identifier
    named-at o i identifier (inl e) same =
        subst (λ o. SameName s.written.made.sets.old_set o s.written.made.sets.new_set i) e same identifier
    named-at o i identifier (inr e) same =
        subst (λ o. SameName s.written.made.sets.old_set o s.written.made.sets.new_set i) e same identifier

    either : (b : Bool) (i : ℕ) → ((if b then Some i else None) ≡ Some i) ⊎ ((if b then Some i else None) ≡ None)
    either true i = inl refl
    either false i = inr refl

    names : NamesKept (keeping s.closed n) s.written.made.sets.old_set s.written.made.sets.new_set (λ i. i)
    names identifier i small less =
        let at = keeping-at s.closed n i (subst (λ m. i < m) (keeping-many s.closed n) less) in
        named-at (kept_or_none s.closed i) i identifier (either (is_kept s.closed i) i)
        (subst (λ o. SameName s.written.made.sets.old_set o s.written.made.sets.new_set i) at (s.written.made.strings.glyphs i
        less))

pub flat-draws : (bytes flat : List ℕ) → IsWritten IsKeptFont every bytes flat → KeepsDrawings every bytes flat
flat-draws bytes flat w old new glyph i was is at =
    draws (λ g. g < n) bytes flat w.old w.new (every n) w.was w.is w.made.made w.made.sets all (λ j. j) (every-placed n) names old new glyph i was is
    (subst (λ m. IsSourceAt (every m) i glyph) (many-of bytes old w.old was w.was) at)
  where
    n : ℕ
    n = length w.old.char_strings

    all : Closes bytes (λ g. g < n)
    all font from one opened less component =
        subst (λ m. one < m) (many-of bytes font w.old opened w.was) (component-there font from one component)

    names : NamesKept (every n) w.made.sets.old_set w.made.sets.new_set (λ j. j)
    names identifier j small less =
        let at = every-at n j (subst (λ m. j < m) (every-many n) less) in
        subst (λ o. SameName w.made.sets.old_set o w.made.sets.new_set j) at (w.made.strings.glyphs j less) identifier

pub drawn-by : (retain : Bool) (named bytes flat : List ℕ) → IsSubset (IsFontBy retain) (choice_by retain) named bytes flat →
    DrawsKept (choice_by retain) named bytes flat
drawn-by true named bytes flat h = keeping-draws named bytes flat h
drawn-by false named bytes flat h = subset-draws named bytes flat h

pub flat-drawn : (r : Result (Vec ℕ Global) Error) (bytes : List ℕ) → IfOk r (λ flat. IsWritten IsKeptFont every bytes flat.items) →
    IfOk r (λ flat. KeepsDrawings every bytes flat.items)
flat-drawn (Ok flat) bytes h = flat-draws bytes flat.items h
flat-drawn (Err e) bytes h = tt
