-- Where the char set stands that is written, and that a CID-keyed font names no private dictionary but in its font dictionaries,
-- and another one neither font dictionaries nor FDSelect.
use Rattle.std.proofs.Common.{◌≡◌, refl, sym, true, ap, subst, ◌∙◌, ℕ, ◌≤◌, List, Option, Some, None, Vec}
use Rattle.std.specs.Option.{option_or}
use Rattle.std.specs.Prelude.{All, IsSome}
use Rattle.std.specs.declared.alloc.Global.{Global}
use Rattle.postscript_base.specs.Compact1.Defaults.{look}
use Rattle.postscript_base.specs.Compact1.Dictionary.{Dictionary}
use Rattle.postscript_base.specs.declared.compact1.operator.Operator.{Operator}
use Rattle.postscript_base.specs.declared.compact1.operator.Operator.TheVariants.{CharSet, FDArray, FDSelect, Private}
use Rattle.postscript_view.specs.declared.font.FontView.{FontView}
use Rattle.postscript_write.specs.Pieces.{piece_if, place_of, text_of}
use Rattle.postscript_write.specs.Dictionaries.{IsHeld}
use Rattle.postscript_write.specs.Fonts.{NamesItsParts}
use Rattle.postscript_write.specs.LaidOut.{SelectsExactly}
use Rattle.postscript_write.specs.Parts.{naming}
use Rattle.postscript_write.specs.ReadBack.{HasCharSetText}
use Rattle.postscript_write.specs.Texts.{TextStands}
use Rattle.postscript_write.specs.Written.{IsPutTogether}
use Rattle.postscript_write.specs.declared.layout.Glyphs.{Glyphs}
use Rattle.postscript_write.specs.declared.layout.Private.{Private as OwnPrivate}
use Rattle.postscript_write.proofs.LaidOut.{keyed_is, ros_is}
use Rattle.postscript_write.proofs.NamedEnds.{offset_is, own_look, place_held}
use Rattle.postscript_write.proofs.NoByteBeside.{set_look}
use Rattle.postscript_write.proofs.Operators.{is_none_of}
use Rattle.postscript_write.proofs.PlacesNamed.{named_by, not_renamed}
use Rattle.postscript_write.proofs.Put.{array_named, array_piece, named, place, private_named, private_piece, select_named, set_held, set_late, set_place, set_text}
use Rattle.postscript_write.proofs.TablesStand.{TablesStand}

set_stands : (old new : Dictionary) (out : List ℕ) (text : Option (Vec ℕ Global)) (place : ℕ) →
    look new CharSet ≡ option_or (named_by (place_of (piece_if CharSet text) place) CharSet) (look old CharSet) → All IsHeld
    (place_of (piece_if CharSet text) place) →
    3 ≤ place → TextStands (text_of text) out place → HasCharSetText old text out new
set_stands old new out None place is held late stands = is
set_stands old new out (Some text) place is held late stands =
    let low = place_held CharSet place held in
    (place, offset_is new CharSet place low is, late, low, stands)

-- the dictionary of a font with an FDSelect names no private dictionary
none_private : (select : Option (Vec ℕ Global)) (privates : List (Option OwnPrivate)) (n : ℕ) → IsSome select →
    named_by (place_of (private_piece select privates) n) Private ≡ None
none_private None privates n some = absurd (cc)
none_private (Some select) privates n some = refl

none_array : (select : Option (Vec ℕ Global)) (dictionaries : List (List ℕ)) (n : ℕ) → (IsSome select → ⊥) →
    named_by (place_of (array_piece select dictionaries) n) FDArray ≡ None
none_array None dictionaries n none = refl
none_array (Some select) dictionaries n none = absurd (none refl)

none_select : (select : Option (Vec ℕ Global)) (n : ℕ) → (IsSome select → ⊥) →
    named_by (place_of (piece_if FDSelect select) n) FDSelect ≡ None
none_select None n none = refl
none_select (Some select) n none = absurd (none refl)

module _ {font : FontView} {glyphs : Glyphs} {codes : List (List ℕ)} {out : List ℕ} (w : IsPutTogether font glyphs codes out)
    (t : TablesStand font glyphs (named w) out) where
  pub set_there : HasCharSetText font.dictionary glyphs.char_set out t.new
  set_there =
      set_stands font.dictionary t.new out glyphs.char_set (set_place w) (set_look w t) (set_held w) (set_late w) (set_text w)

  -- what the places do not name, and what the dictionary of the font is left without
  look_none : (operator : Operator) → named_by (named w) operator ≡ None → is_none_of operator naming ≡ true →
      look t.renamed.kept operator ≡ None → look t.new operator ≡ None
  look_none operator none other gone =
      own_look (named w) t.named t.new operator t.placed none
      ∙ t.renamed.placed operator
      ∙ ap (λ x. option_or x (look t.renamed.kept operator)) (not_renamed glyphs.strings font.dictionary operator other)
      ∙ gone

  pub unnamed_there : SelectsExactly font glyphs → NamesItsParts t.new
  unnamed_there exactly = record {
    keyed = λ keyed. look_none Private
        (private_named w ∙ none_private glyphs.select w.privates (place w Private) ((keyed_is w t exactly).1 keyed)) refl
        (t.renamed.unnamed.gone (subst IsSome (ros_is w t) keyed));
    plain = λ plain.
        let none : IsSome glyphs.select → ⊥ = λ some. plain ((keyed_is w t exactly).0 some) in
        let gone = t.renamed.unnamed.plain (λ keyed. plain (subst IsSome (sym (ros_is w t)) keyed)) in (
          look_none FDArray (array_named w ∙ none_array glyphs.select w.put.dictionaries (place w FDArray) none) refl gone.0,
          look_none FDSelect (select_named w ∙ none_select glyphs.select (place w FDSelect) none) refl gone.1,
        );
  }
