-- What C draws of a glyph is what the font in place draws.
use Rattle.std.proofs.Common.{◌≡◌, ◌≢◌, ◌⊎◌, refl, sym, ap, subst, ◌∙◌, inl, inr, ℕ, ◌<◌, ℤ, List, [], ◌++◌, length, arith}
use Rattle.std.specs.Prelude.{Option, Some, None, slice_get}
use Rattle.std.proofs.lemmas.Bool.{cases_lt}
use Rattle.std.proofs.lemmas.List.{append-nil}
use Rattle.postscript_base.specs.Compact1.Dictionary.{Dictionary}
use Rattle.postscript_base.specs.Tape.Outcome.{Got}
use Rattle.postscript_c.proofs.SameParts.{keeps_parts, length_shown, shown_at, there_is}
use Rattle.postscript_c.specs.Drawn.{AreNamed, DrawsWhole, IsFirst, IsNamedBy}
use Rattle.postscript_c.specs.Glyphs.{program_at}
use Rattle.postscript_c.specs.SameDrawings.{DrawsInPlace}
use Rattle.postscript_c.specs.SameParts.{SamePart, program_in}
use Rattle.postscript_c.specs.declared.font.PsfFont.{PsfFont}
use Rattle.postscript_c.specs.declared.part.PsfPart.{PsfPart}
use Rattle.postscript_compact1.proofs.Outcomes.{got}
use Rattle.postscript_drawing.specs.Components.{IsComponent, glyphs_of, standard_identifier}
use Rattle.postscript_drawing.specs.Drawn.{DrawsAccented, DrawsAt, DrawsComponent, DrawsComponents, DrawsPlain, IsDrawnAs, zero_point}
use Rattle.postscript_drawing.specs.declared.accent.Accent.{Accent}
use Rattle.postscript_base.specs.Index.Lent.{items_of}
use Rattle.postscript_outline.specs.declared.point.Point.{Point}
use Rattle.postscript_outline.specs.declared.segment.Segment.{Segment}
use Rattle.postscript_type2.proofs.EndingLaws as endings
use Rattle.postscript_type2.specs.Program.Endings.{IsRunsEnd}
use Rattle.postscript_type2.specs.Program.Evaluation.{run_of}
use Rattle.postscript_type2.specs.Program.Programs.{Pending}
use Rattle.postscript_type2.specs.Program.Routines.{lent}
use Rattle.postscript_type2.specs.Program.Runs.{End, Fault, Finished, Returned, Run, UsedUp, taken_by}
use Rattle.postscript_view.specs.Advances.{HasRun}
use Rattle.postscript_view.specs.CharSets.{IsCharSetOf}
use Rattle.postscript_view.specs.Cids.{IsCidKeyed}
use Rattle.postscript_view.specs.Glyphs.{HasGlyph, HasPartNumber, IsPartNumber}
use Rattle.postscript_view.specs.Naming.{IsFirstNamed}
use Rattle.postscript_view.specs.Contents as contents
use Rattle.postscript_view.specs.Contents.{View}
use Rattle.postscript_view.specs.Select.{IsSelected}
use Rattle.postscript_view.specs.Value.{part_shown, parts_shown}
use Rattle.postscript_view.specs.declared.font.FontView.{FontView}
use Rattle.postscript_view.specs.declared.private_dict.PrivateDict.{PrivateDict}

-- ---- two fonts in place that the same bytes begin with
record Alike (u v : FontView) : Type 0 where
  bytes : u.bytes.now ≡ v.bytes.now
  dictionary : u.dictionary ≡ v.dictionary
  codes : items_of u.char_strings ≡ items_of v.char_strings
  globals : items_of u.global_subroutines ≡ items_of v.global_subroutines
  parts : parts_shown u.parts.items ≡ parts_shown v.parts.items

alike : (bytes : List ℕ) (u v : FontView) → IsFirst bytes u → IsFirst bytes v → Alike u v
alike bytes u v f g =
    let same = (got _ _ _ _ (sym f.shown ∙ g.shown)).0 in
    record {
      bytes = f.there ∙ sym g.there;
      dictionary = ap (λ (v : View). v.tables.dictionary) same;
      codes = ap (λ (v : View). v.char_strings) same;
      globals = ap (λ (v : View). v.tables.subroutines) same;
      parts = ap (λ (v : View). v.parts) same;
    }

count_alike : (u v : FontView) → Alike u v → length u.parts.items ≡ length v.parts.items
count_alike u v a =
    sym (length_shown u.parts.items) ∙ ap (λ (ps : List contents.PrivateDict). length ps) a.parts ∙ length_shown v.parts.items

glyphs_alike : (u v : FontView) → Alike u v → glyphs_of u ≡ glyphs_of v
glyphs_alike u v a = ap (λ (codes : List (List ℕ)). length codes) a.codes

number_alike : (u v : FontView) (glyph fd : ℕ) → Alike u v → HasPartNumber u glyph fd → HasPartNumber v glyph fd
number_alike u v glyph fd a h =
    let below = h.glyph_there in
    let within = h.part_there in
    let glyphs : length (items_of u.char_strings) ≡ length (items_of v.char_strings) = glyphs_alike u v a in
    let count = count_alike u v a in
    record { glyph_there = omega arith; part_there = omega arith; selected = by h.selected }
  where
    by : IsPartNumber u glyph fd → IsPartNumber v glyph fd
    by (inl x) = inl (sym (count_alike u v a) ∙ x.0, x.1)
    by (inr x) = inr (
      (λ single. x.0 (count_alike u v a ∙ single)),
      subst (λ (n : ℕ). IsSelected v.bytes.now v.dictionary n glyph fd) (glyphs_alike u v a)
          (subst (λ (m : Dictionary). IsSelected v.bytes.now m (glyphs_of u) glyph fd) a.dictionary
          (subst (λ (b : List ℕ). IsSelected b u.dictionary (glyphs_of u) glyph fd) a.bytes x.1)),
    )

-- a part of one is shown as that of the other in its place
part_alike : (u v : FontView) (fd : ℕ) (p : PrivateDict) → Alike u v → fd < length v.parts.items → slice_get u.parts.items fd ≡ Some p →
    (q : PrivateDict) × (slice_get v.parts.items fd ≡ Some q) × (items_of p.subroutines ≡ items_of q.subroutines)
part_alike u v fd p a within e =
    let q = there_is v.parts.items fd within in
    let first = subst (λ (ps : List contents.PrivateDict). slice_get ps fd ≡ Some (part_shown p)) a.parts (shown_at u.parts.items fd p e) in
    let both : Some (part_shown p) ≡ Some (part_shown q.0) = sym first ∙ shown_at v.parts.items fd q.0 q.1 in
    let same : part_shown p ≡ part_shown q.0 = cc in
    (q.0, q.1, ap (λ (p : contents.PrivateDict). p.subroutines) same)

run_alike : (u v : FontView) (glyph : ℕ) (part : PrivateDict) (run : Run) → Alike u v → HasRun u glyph part run →
    (part : PrivateDict) × HasRun v glyph part run
run_alike u v glyph part run a h =
    let has = h.has in
    let number = number_alike u v glyph has.number a has.has_number in
    let q = part_alike u v has.number part a number.part_there has.has_part in
    let code = subst (λ (codes : List (List ℕ)). slice_get codes glyph ≡ Some h.code) a.codes has.has_code in
    let runs = subst (λ (locals : List (List ℕ)). run ≡ run_of (lent (items_of v.global_subroutines) locals) h.code) q.2
    (subst (λ (globals : List (List ℕ)). run ≡ run_of (lent globals (items_of part.subroutines)) h.code) a.globals h.runs) in
    (q.0, record { code = h.code; has = record { number = has.number; has_number = number; has_part = q.1; has_code = code }; runs = runs })

component_alike : (u v : FontView) (code glyph : ℕ) → Alike u v → IsComponent u code glyph → IsComponent v code glyph
component_alike u v code glyph a h =
    let glyphs = glyphs_alike u v a in
    record {
      not_keyed = λ keyed. h.not_keyed (subst (λ (m : Dictionary). IsCidKeyed m) (sym a.dictionary) keyed);
      set = h.set;
      is_set = subst (λ (n : ℕ). IsCharSetOf h.set v.bytes.now v.dictionary n) glyphs
          (subst (λ (m : Dictionary). IsCharSetOf h.set v.bytes.now m (glyphs_of u)) a.dictionary
          (subst (λ (b : List ℕ). IsCharSetOf h.set b u.dictionary (glyphs_of u)) a.bytes h.is_set));
      first = subst (λ (n : ℕ). IsFirstNamed h.set (standard_identifier code) n glyph) glyphs h.first;
    }

drawn_alike : (u v : FontView) (code : ℕ) (origin : Point) (segments : List Segment) → Alike u v → DrawsComponent u code origin segments →
    DrawsComponent v code origin segments
drawn_alike u v code origin segments a d =
    let r = run_alike u v d.glyph d.part d.run a d.has in
    record {
      glyph =
          d.glyph;
      part = r.0;
      run = d.run;
      component = component_alike u v code d.glyph a d.component;
      has = r.1;
      plain = d.plain;
      draws = d.draws;
    }

components_alike : (u v : FontView) (accent : Accent) (segments : List Segment) → Alike u v → DrawsComponents u accent segments →
    DrawsComponents v accent segments
components_alike u v accent segments a d = record {
  base = d.base;
  above = d.above;
  draws_base = drawn_alike u v accent.base _ d.base a d.draws_base;
  draws_accent = drawn_alike u v accent.accent _ d.above a d.draws_accent;
  all = d.all;
}

-- ---- a run is plain where its end takes no four operands
plain_end : (end : End) → IsRunsEnd end → length (taken_by end) ≢ 4 → taken_by end ≡ []
plain_end (Finished taken width) (inl four) not = absurd (not four)
plain_end (Finished taken width) (inr none) not = none
plain_end UsedUp h not = refl
plain_end (Returned st) h not = refl
plain_end (Fault e) h not = refl

named_draws : (bytes : List ℕ) (v : FontView) (run : Run) (named : Option Accent) (own more segments : List Segment) → IsFirst bytes v →
    IsRunsEnd run.end → IsNamedBy (taken_by run.end) named → AreNamed bytes named more
    → DrawsAt zero_point run own → segments ≡ own ++ more → DrawsPlain run segments ⊎ DrawsAccented v run segments
named_draws bytes v run None own more segments first ends names draws draws_own all =
    let same : segments ≡ own = all ∙ ap (λ (more : List Segment). own ++ more) draws ∙ append-nil own in
    inl (record {
      plain = plain_end run.end ends names;
      draws = subst (λ (segments : List Segment). DrawsAt zero_point run segments) (sym same) draws_own;
    })
named_draws bytes v run (Some accent) own more segments first ends names draws draws_own all =
    inr (record {
      accent = accent;
      own = own;
      more = more;
      accented = names;
      draws_own = draws_own;
      draws_more = components_alike draws.0 v accent more (alike bytes draws.0 v draws.1 first) draws.2;
      all = all;
    })

drawn_in : (limit : ℕ) (bytes : List ℕ) (v : FontView) (glyph : ℕ) (code : List ℕ) (part : PrivateDict) (segments : List Segment)
    (width : Option ℤ) → IsFirst bytes v → HasGlyph v glyph code part → DrawsWhole limit bytes (program_in v code part) segments width
    → IsDrawnAs v glyph segments width
drawn_in limit bytes v glyph code part segments width first has d =
    let lists = lent (items_of v.global_subroutines) (items_of part.subroutines) in
    let run : Run = run_of lists code in
    record {
      part = part;
      run = run;
      has = record { code = code; has = has; runs = refl };
      drawn = named_draws bytes v run d.accent d.own d.more segments first (endings.law lists code) d.names d.draws_more d.draws_own d.all;
      width_is = d.width_is;
    }

-- a glyph that C draws is one of the font
drawn_there : (bytes : List ℕ) (font : PsfFont) (v : FontView) (glyph : ℕ) (found : PsfPart) (program : Pending) →
    SamePart bytes font v glyph → program_at font found glyph bytes 0 ≡ Got (Some program) 0 → glyph < font.glyphs
drawn_there bytes font v glyph found program same e = elim (cases_lt glyph font.glyphs) [
  | inl below ↦ below
  | inr behind ↦
      let never = (got _ _ _ _ (sym ((same.missing found).1 behind) ∙ e)).0 in
      absurd (cc)
]

pub draws_in_place : DrawsInPlace
draws_in_place bytes font v glyph told first start found segments width in_c d =
    let same = keeps_parts bytes font v glyph told first start in
    let below = drawn_there bytes font v glyph found d.0 same d.1 in
    let fd = same.only found in_c below in
    let p = there_is v.parts.items fd.0 fd.1.part_there in
    let code = there_is (items_of v.char_strings) glyph fd.1.glyph_there in
    let has : HasGlyph v glyph code.0 p.0 = record { number = fd.0; has_number = fd.1; has_part = p.1; has_code = code.1 } in
    let both : Some (program_in v code.0 p.0) ≡ Some d.0 = (got _ _ _ _ (sym (same.program code.0 p.0 found has in_c) ∙ d.1)).0 in
    let program : d.0 ≡ program_in v code.0 p.0 = cc in
    drawn_in font.limit bytes v glyph code.0 p.0 segments width first has
    (subst (λ (program : Pending). DrawsWhole font.limit bytes program segments width) program d.2)
