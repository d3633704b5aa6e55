-- What is told of a glyph that is written is told of the one that it is made of.
use Rattle.std.proofs.Common.{◌≡◌, refl, sym, ap, subst, ◌∙◌, ℕ, ◌<◌, List, length, slice_get, Bool, true, false, Option, Some}
use Rattle.std.specs.Prelude.{◌↔◌, Result, Ok, Err, Vec, IfOk}
use Rattle.std.specs.Option.{IsSome, is_some}
use Rattle.std.specs.declared.alloc.Global.{Global}
use Rattle.std.proofs.lemmas.Option.{slice_get_within}
use Rattle.postscript_base.specs.Compact1.Defaults.{look}
use Rattle.postscript_base.specs.Compact1.Dictionary.{Dictionary}
use Rattle.postscript_base.specs.declared.compact1.operator.Operator.TheVariants.{ROS}
use Rattle.postscript_drawing.specs.Components.{HasCharSet}
use Rattle.postscript_type2.specs.Program.Runs.{width_of}
use Rattle.postscript_view.specs.Advances.{advance_of}
use Rattle.postscript_view.specs.CharSets.{IsCharSetOf}
use Rattle.postscript_view.specs.Cids.{IsCidKeyed}
use Rattle.postscript_view.specs.Contents.{View}
use Rattle.postscript_view.specs.Layout.{IsLaidOut}
use Rattle.postscript_view.specs.Naming.{Names}
use Rattle.postscript_view.specs.Strings.{HasString, string_of}
use Rattle.postscript_view.specs.Value.{view_shown}
use Rattle.postscript_view.specs.declared.advance.Advance.{Advance}
use Rattle.postscript_view.specs.declared.char_set.CharSetView.{CharSetView}
use Rattle.postscript_view.specs.declared.font.FontView.{FontView}
use Rattle.postscript_view.specs.declared.private_dict.PrivateDict.{PrivateDict}
use Rattle.postscript_write.specs.Components.{IsOpened, IsSubset}
use Rattle.postscript_write.specs.Drawings.{IsSourceAt}
use Rattle.postscript_write.specs.Fonts.{HasGlyphsOf, IsMade, IsMadeOf}
use Rattle.postscript_write.specs.Glyphs.{Sources, run_in}
use Rattle.postscript_write.specs.Making.{HaveCharSets, IsCutFont, IsFontBy, IsKeptFont}
use Rattle.postscript_write.specs.Naming.{SameName}
use Rattle.postscript_write.specs.SameGlyphs.{GlyphsKept, HasAdvance, HaveSameName, IsSameGlyph, KeepsGlyphs}
use Rattle.postscript_write.specs.Sources.{IsWritten, choice_by, chosen, every, keeping}
use Rattle.postscript_write.specs.Strings.{KeepsStrings, SameStrings, SameText}
use Rattle.postscript_write.specs.declared.error.Error.{Error}
use Rattle.postscript_write.proofs.Drawings.{MadeRuns, RunFrom, made-back, made-runs, many-of, one-key, shown-run, shows}
use Rattle.postscript_write.proofs.Uniqueness.{one-part, one-run, same-set}

-- what is told of the names of two glyphs by the char sets of their fonts
pub record Alike (bytes : List ℕ) (ov : View) (flat : List ℕ) (nv : View) (glyph i : ℕ) : Type 0 where
  pub sets : HaveCharSets bytes ov flat nv
  pub key : look nv.tables.dictionary ROS ≡ look ov.tables.dictionary ROS
  pub was_there : glyph < length ov.char_strings
  pub is_there : i < length nv.char_strings
  pub name : (name : List ℕ) → HasString sets.old_set ov.tables.strings glyph name ↔ HasString sets.new_set nv.tables.strings i name
  pub cid : IsCidKeyed ov.tables.dictionary → (cid : ℕ) → Names sets.old_set glyph cid ↔ Names sets.new_set i cid

moved-string : (a b : CharSetView) (bytes : List ℕ) (map : Dictionary) (glyphs : ℕ) → IsCharSetOf a bytes map glyphs →
    IsCharSetOf b bytes map glyphs → (strings : List (List ℕ)) (glyph : ℕ) (name : List ℕ) → HasString a strings glyph name →
    HasString b strings glyph name
moved-string a b bytes map glyphs x y strings glyph name h = (h.0, same-set a b bytes map glyphs x y glyph h.0 h.1, h.2)

named-by : (old new : FontView) (glyph i : ℕ) → Alike old.bytes.now (view_shown old) new.bytes.now (view_shown new) glyph i →
    (a b : CharSetView) → HasCharSet old a → HasCharSet new b → HaveSameName old a glyph new b i
named-by old new glyph i alike a b was is = record {
  name = λ name. (
    λ h. record {
      not_keyed = λ keyed. h.not_keyed (subst (λ o. IsSome o) alike.key keyed);
      there = alike.is_there;
      string = to-new name ((alike.name name).0 (from-old name h.string));
    },
    λ h. record {
      not_keyed = λ keyed. h.not_keyed (subst (λ o. IsSome o) (sym alike.key) keyed);
      there = alike.was_there;
      string = to-old name ((alike.name name).1 (from-new name h.string));
    },
  );
  cid = λ cid. (
    λ h. record {
      keyed = subst (λ o. IsSome o) (sym alike.key) h.keyed;
      there = alike.is_there;
      tells = same-set new_set b new.bytes.now new.dictionary news alike.sets.is is i cid
          ((alike.cid h.keyed cid).0 (same-set a old_set old.bytes.now old.dictionary olds was alike.sets.was glyph cid h.tells));
    },
    λ h.
        let keyed = subst (λ o. IsSome o) alike.key h.keyed in
        record {
          keyed = keyed;
          there = alike.was_there;
          tells = same-set old_set a old.bytes.now old.dictionary olds alike.sets.was was glyph cid
              ((alike.cid keyed cid).1 (same-set b new_set new.bytes.now new.dictionary news is alike.sets.is i cid h.tells));
        },
  );
}
  where
    old_set : CharSetView
    old_set = alike.sets.old_set

    new_set : CharSetView
    new_set = alike.sets.new_set

    olds : ℕ
    olds = length (view_shown old).char_strings

    news : ℕ
    news = length (view_shown new).char_strings

    from-old : (name : List ℕ) → HasString a (view_shown old).tables.strings glyph name →
        HasString old_set (view_shown old).tables.strings glyph name
    from-old = moved-string a old_set old.bytes.now old.dictionary olds was alike.sets.was (view_shown old).tables.strings glyph

    to-old : (name : List ℕ) → HasString old_set (view_shown old).tables.strings glyph name →
        HasString a (view_shown old).tables.strings glyph name
    to-old = moved-string old_set a old.bytes.now old.dictionary olds alike.sets.was was (view_shown old).tables.strings glyph

    from-new : (name : List ℕ) → HasString b (view_shown new).tables.strings i name →
        HasString new_set (view_shown new).tables.strings i name
    from-new = moved-string b new_set new.bytes.now new.dictionary news is alike.sets.is (view_shown new).tables.strings i

    to-new : (name : List ℕ) → HasString new_set (view_shown new).tables.strings i name →
        HasString b (view_shown new).tables.strings i name
    to-new = moved-string new_set b new.bytes.now new.dictionary news alike.sets.is is (view_shown new).tables.strings i

advance-forth : (old new : FontView) (glyph i : ℕ) → MadeRuns old new glyph i → (advance : Option Advance) →
    HasAdvance old glyph advance → HasAdvance new i advance
advance-forth old new glyph i m advance h =
    let run = one-run old glyph m.old_part h.part m.run h.run m.was h.has in
    let part = one-part old glyph m.old_part h.part m.run h.run m.was h.has in
    record {
      part = m.new_part;
      run = m.other;
      has = m.is;
      is = m.advance (width_of m.other) ∙ ap (λ w. advance_of m.old_part.dictionary w) (m.same.width ∙ sym (ap width_of run))
          ∙ sym (ap (λ (p : PrivateDict). advance_of p.dictionary (width_of h.run)) part) ∙ h.is;
    }

module _ (sources : Sources) (bytes flat : List ℕ) (ov nv : View) (glyph i : ℕ) (made : HasGlyphsOf sources bytes ov flat nv)
    (sets : HaveCharSets bytes ov flat nv) (at : IsSourceAt sources i glyph) where
  its : IsMadeOf bytes ov glyph flat nv i
  its = subst (λ o. IsMade bytes ov o flat nv i) at.is (made.glyphs i at.there)

  pub alike-kept : KeepsStrings sources ov sets.old_set nv sets.new_set → Alike bytes ov flat nv glyph i
  alike-kept s =
      let names : SameName sets.old_set (Some glyph) sets.new_set i = subst (λ o. SameName sets.old_set o sets.new_set i) at.is
      (s.glyphs i at.there) in
      record {
        sets = sets;
        key = one-key ov nv made.repeats;
        was_there = slice_get_within ov.char_strings glyph its.old_code its.was.has_code;
        is_there = slice_get_within nv.char_strings i its.new_code its.is.has_code;
        name = λ name. (
          λ h. (h.0, (names h.0).0 h.1, subst (λ (ss : List (List ℕ)). string_of ss h.0 ≡ Some name) (sym s.strings) h.2),
          λ h. (h.0, (names h.0).1 h.1, subst (λ (ss : List (List ℕ)). string_of ss h.0 ≡ Some name) s.strings h.2),
        );
        cid = λ keyed. names;
      }

  alike-by : (keeps : Bool) → is_some (look ov.tables.dictionary ROS) ≡ keeps →
      SameStrings keeps sources ov sets.old_set nv sets.new_set → Alike bytes ov flat nv glyph i
  alike-by true e s = alike-kept s
  alike-by false e s = record {
    sets = sets;
    key = one-key ov nv made.repeats;
    was_there = slice_get_within ov.char_strings glyph its.old_code its.was.has_code;
    is_there = slice_get_within nv.char_strings i its.new_code its.is.has_code;
    name = (subst (λ o. SameText sets.old_set ov.tables.strings o sets.new_set nv.tables.strings i) at.is (s.glyphs i at.there)).name;
    cid = λ keyed. let never : true ≡ false = sym keyed ∙ e in absurd (cc);
  }

  pub alike-cut : SameStrings (is_some (look ov.tables.dictionary ROS)) sources ov sets.old_set nv sets.new_set →
      Alike bytes ov flat nv glyph i
  alike-cut s = alike-by (is_some (look ov.tables.dictionary ROS)) refl s

  pub same-glyph : (old new : FontView) → IsOpened bytes old → IsOpened flat new → IsLaidOut bytes 0 ov → IsLaidOut flat 0 nv →
      Alike bytes ov flat nv glyph i → IsSameGlyph old new glyph i
  same-glyph old new was is shown_old shown_new alike = record {
    code = record {
      part = run.part;
      run = run_in ov its.old_part its.old_code;
      has = run.has;
      faultless = its.faultless;
      code = subst (λ (v : View). slice_get v.char_strings i ≡ Some its.new_code) (sym (shows flat new nv is shown_new)) its.is.has_code
          ∙ ap Some its.text;
    };
    advance = λ advance. (
      advance-forth old new glyph i runs advance,
      advance-forth new old i glyph (made-back old new glyph i runs) advance,
    );
    names = named-by old new glyph i here;
  }
    where
      run : RunFrom old glyph its.old_part (run_in ov its.old_part its.old_code)
      run = shown-run bytes old ov glyph its.old_code its.number its.old_part was shown_old its.was

      runs : MadeRuns old new glyph i
      runs = made-runs bytes flat old new ov nv glyph i was is shown_old shown_new its

      here : Alike old.bytes.now (view_shown old) new.bytes.now (view_shown new) glyph i
      here = subst (λ (v : View). Alike old.bytes.now v new.bytes.now (view_shown new) glyph i) (sym (shows bytes old ov was shown_old))
          (subst (λ (v : View). Alike old.bytes.now ov new.bytes.now v glyph i) (sym (shows flat new nv is shown_new))
          (subst (λ (bs : List ℕ). Alike bs ov new.bytes.now nv glyph i) (sym was.there)
          (subst (λ (bs : List ℕ). Alike bytes ov bs nv glyph i) (sym is.there) alike)))

same-kept : (sources : (glyphs : ℕ) → Sources) (bytes flat : List ℕ) → IsWritten IsKeptFont sources bytes flat →
    KeepsGlyphs sources bytes flat
same-kept sources bytes flat w old new glyph i was is at =
    let n = length w.old.char_strings in
    let there = subst (λ m. IsSourceAt (sources m) i glyph) (many-of bytes old w.old was w.was) at in
    same-glyph (sources n) bytes flat w.old w.new glyph i w.made.made w.made.sets there old new was is w.was w.is
    (alike-kept (sources n) bytes flat w.old w.new glyph i w.made.made w.made.sets there w.made.strings)

same-cut : (sources : (glyphs : ℕ) → Sources) (bytes flat : List ℕ) → IsWritten IsCutFont sources bytes flat →
    KeepsGlyphs sources bytes flat
same-cut sources bytes flat w old new glyph i was is at =
    let n = length w.old.char_strings in
    let there = subst (λ m. IsSourceAt (sources m) i glyph) (many-of bytes old w.old was w.was) at in
    same-glyph (sources n) bytes flat w.old w.new glyph i w.made.made w.made.sets there old new was is w.was w.is
    (alike-cut (sources n) bytes flat w.old w.new glyph i w.made.made w.made.sets there w.made.strings)

pub same-by : (retain : Bool) (named bytes flat : List ℕ) → IsSubset (IsFontBy retain) (choice_by retain) named bytes flat →
    GlyphsKept (choice_by retain) named bytes flat
same-by true named bytes flat h = (h.closed, h.are, same-kept (keeping h.closed) bytes flat h.written)
same-by false named bytes flat h = (h.closed, h.are, same-cut (chosen h.closed) bytes flat h.written)

pub flat-same : (r : Result (Vec ℕ Global) Error) (bytes : List ℕ) → IfOk r (λ flat. IsWritten IsKeptFont every bytes flat.items) →
    IfOk r (λ flat. KeepsGlyphs every bytes flat.items)
flat-same (Ok flat) bytes h = same-kept every bytes flat.items h
flat-same (Err e) bytes h = tt
