-- The char set of a font that is written is the one that it was to have.
use Rattle.std.proofs.Common.{◌≡◌, ◌↔◌, refl, sym, ap, subst, ◌∙◌, inl, inr, ℕ, ◌+◌, ◌-◌, ◌≤◌, ◌<◌, List, length, get_or, Option, Some, None, Bor, Vec, arith}
use Rattle.std.specs.Option.{option_or}
use Rattle.std.specs.Prelude.{All}
use Rattle.std.proofs.lemmas.List.{get_or-map, length-map}
use Rattle.std.specs.declared.alloc.Global.{Global}
use Rattle.postscript_base.specs.Compact1.Defaults.{look}
use Rattle.postscript_base.specs.Compact1.Dictionary.{Dictionary}
use Rattle.postscript_base.specs.declared.compact1.operator.Operator.TheVariants.{CharSet}
use Rattle.postscript_view.specs.CharSets.{AreNamedIn, IsCharSetOf, IsCharSetAtOffset, CharSetStandsAt}
use Rattle.postscript_view.proofs.Marking.{no_marks, unmarked}
use Rattle.postscript_view.specs.Naming.{Names, NamesBehind, NamesFrom}
use Rattle.postscript_view.specs.Select.{offset_of}
use Rattle.postscript_view.specs.declared.char_set.CharSetView.{CharSetView}
use Rattle.postscript_view.specs.declared.char_set.Identifiers.{Identifiers}
use Rattle.postscript_write.specs.Pieces.{piece_if, place_of, text_of}
use Rattle.postscript_write.specs.Dictionaries.{IsHeld}
use Rattle.postscript_write.specs.Numbered.{IsSetFor, items_if}
use Rattle.postscript_write.specs.Own.{IsOwnCharSet}
use Rattle.postscript_write.specs.Renumbered.{new_identifier, new_identifiers}
use Rattle.postscript_write.specs.SetTexts.{NamesAll}
use Rattle.postscript_write.specs.Texts.{TextStands}
use Rattle.postscript_write.specs.Whole.{CharSetEnds}
use Rattle.postscript_write.specs.declared.strings.Strings.{Strings}
use Rattle.postscript_write.proofs.CharSetsAgain.{names_same, stands_again}
use Rattle.postscript_write.proofs.NamedEnds.{offset_is, place_held, same_offset}
use Rattle.postscript_write.proofs.OneCharSet.{EndsBytes}
use Rattle.postscript_write.proofs.PlacesNamed.{named_by}
use Rattle.postscript_write.proofs.TextsCut.{cut_length, cut_stands}

-- a char set of these identifiers
abbrev set_of : Identifiers → (glyphs : ℕ) → CharSetView
set_of own glyphs = record { identifiers = own; glyphs = glyphs; marks = no_marks; marked = unmarked own }

-- what a dictionary names at an offset
at_offset : (own : Identifiers) (bytes : List ℕ) (map : Dictionary) (glyphs offset : ℕ) → offset_of map CharSet ≡ Some offset →
    AreNamedIn own bytes map glyphs → IsCharSetAtOffset own bytes offset glyphs
at_offset own bytes map glyphs offset e is =
    let other = is.1 in
    let same : is.0 ≡ offset = cc in
    subst (λ o. IsCharSetAtOffset own bytes o glyphs) same is.2

predefined_stays : (own : Identifiers) (bytes out : List ℕ) (offset glyphs : ℕ) → offset < 3 → IsCharSetAtOffset own bytes offset glyphs →
    IsCharSetAtOffset own out offset glyphs
predefined_stays own bytes out offset glyphs low (inl is) = inl is
predefined_stays own bytes out offset glyphs low (inr (inl is)) = inr (inl is)
predefined_stays own bytes out offset glyphs low (inr (inr (inl is))) = inr (inr (inl is))
predefined_stays own bytes out offset glyphs low (inr (inr (inr is))) = absurd (omega (arith, is.0, low))

-- a predefined set is named by its offset alone
predefined_alike : (one other : Identifiers) (bytes out : List ℕ) (offset glyphs : ℕ) → offset < 3 → IsCharSetAtOffset one bytes offset glyphs →
    IsCharSetAtOffset other out offset glyphs → other ≡ one
predefined_alike one other bytes out offset glyphs low (inl a) (inl b) = b.1 ∙ sym a.1
predefined_alike one other bytes out offset glyphs low (inr (inl a)) (inr (inl b)) = b.1 ∙ sym a.1
predefined_alike one other bytes out offset glyphs low (inr (inr (inl a))) (inr (inr (inl b))) = b.1 ∙ sym a.1
predefined_alike one other bytes out offset glyphs low (inr (inr (inr a))) b = absurd (omega (arith, a.0, low))
predefined_alike one other bytes out offset glyphs low a (inr (inr (inr b))) = absurd (omega (arith, b.0, low))
predefined_alike one other bytes out offset glyphs low (inl a) (inr (inl b)) = absurd (omega (arith, a.0, b.0))
predefined_alike one other bytes out offset glyphs low (inl a) (inr (inr (inl b))) = absurd (omega (arith, a.0, b.0))
predefined_alike one other bytes out offset glyphs low (inr (inl a)) (inl b) = absurd (omega (arith, a.0, b.0))
predefined_alike one other bytes out offset glyphs low (inr (inl a)) (inr (inr (inl b))) = absurd (omega (arith, a.0, b.0))
predefined_alike one other bytes out offset glyphs low (inr (inr (inl a))) (inl b) = absurd (omega (arith, a.0, b.0))
predefined_alike one other bytes out offset glyphs low (inr (inr (inl a))) (inr (inl b)) = absurd (omega (arith, a.0, b.0))

own_stands : (own : Identifiers) (bytes : List ℕ) (offset glyphs : ℕ) → 3 ≤ offset → IsCharSetAtOffset own bytes offset glyphs →
    CharSetStandsAt own bytes offset glyphs
own_stands own bytes offset glyphs high (inl is) = absurd (omega (arith, is.0, high))
own_stands own bytes offset glyphs high (inr (inl is)) = absurd (omega (arith, is.0, high))
own_stands own bytes offset glyphs high (inr (inr (inl is))) = absurd (omega (arith, is.0, high))
own_stands own bytes offset glyphs high (inr (inr (inr is))) = is.1

-- both name the glyphs so
abbrev pub NameAlike : CharSetView → CharSetView → Type 0
NameAlike old new = (glyph identifier : ℕ) → Names old glyph identifier ↔ Names new glyph identifier

-- the same identifiers behind the first glyph, for as many glyphs
names_alike : (old new : CharSetView) → new.glyphs ≡ old.glyphs →
    ((glyph identifier : ℕ) → glyph < old.glyphs - 1 → NamesBehind old.identifiers glyph identifier ↔ NamesBehind new.identifiers glyph
    identifier) → NameAlike old new
names_alike old new same behind glyph identifier = (
  λ is. record { there = there is.there; told = to is.there is.told },
  λ is. let less = is.there in record { there = omega (arith, less, same); told = from (omega (arith, less, same)) is.told },
)
  where
    there : glyph < old.glyphs → glyph < new.glyphs
    there less = omega (arith, less, same)

    to : glyph < old.glyphs → NamesFrom old.identifiers glyph identifier → NamesFrom new.identifiers glyph identifier
    to less (inl first) = inl first
    to less (inr more) = let some = more.0 in inr (some, (behind (glyph - 1) identifier (omega (arith, less, some))).0 more.1)

    from : glyph < old.glyphs → NamesFrom new.identifiers glyph identifier → NamesFrom old.identifiers glyph identifier
    from less (inl first) = inl first
    from less (inr more) = let some = more.0 in inr (some, (behind (glyph - 1) identifier (omega (arith, less, some))).1 more.1)

-- The char set of the font's own stays: there is one, and each one names the glyphs as the old one does.
pub record IsKept (old : CharSetView) (out : List ℕ) (new : Dictionary) (glyphs : ℕ) : Type 0 where
  pub some : (again : CharSetView) × IsCharSetOf again out new glyphs
  pub alike : (again : CharSetView) → IsCharSetOf again out new glyphs → NameAlike old again

pub set_kept : (old : CharSetView) (bytes out : List ℕ) (map new : Dictionary) (glyphs : ℕ) (char_set : Option (Vec ℕ Global))
    (place : ℕ) → IsCharSetOf old bytes map glyphs →
    look new CharSet ≡ option_or (named_by (place_of (piece_if CharSet char_set) place) CharSet) (look map CharSet) →
    All IsHeld (place_of (piece_if CharSet char_set) place) → 3 ≤ place → TextStands
    (text_of char_set) out place → EndsBytes char_set out place → IsOwnCharSet bytes map glyphs
    (items_if char_set) → IsKept old out new glyphs
set_kept old bytes out map new glyphs None place is look_is held past stands last own = record {
  some = (
    old,
    record {
      identifiers = (own.0, there, predefined_stays old.identifiers bytes out own.0 glyphs own.2 named);
      counted = is.counted;
    },
  );
  alike = λ again has.
      let same : again.identifiers ≡ old.identifiers = predefined_alike old.identifiers again.identifiers bytes out own.0 glyphs own.2
      named (at_offset again.identifiers out new glyphs own.0 there has.identifiers) in
      names_alike old again (has.counted ∙ sym is.counted)
      (λ glyph identifier less. subst (λ ids. NamesBehind old.identifiers glyph identifier ↔ NamesBehind ids glyph identifier)
      (sym same) (λ h. h, λ h. h));
}
  where
    there : offset_of new CharSet ≡ Some own.0
    there = same_offset map new CharSet look_is ∙ own.1

    named : IsCharSetAtOffset old.identifiers bytes own.0 glyphs
    named = at_offset old.identifiers bytes map glyphs own.0 own.1 is.identifiers
set_kept old bytes out map new glyphs (Some text) place is look_is held past stands last (offset, next, e, high, ends, cut) = record {
  some =
      let again = stands_again text.items bytes out offset place glyphs front stands last all old.identifiers own in
      (set_of again.0 glyphs, record { identifiers = (place, there, inr (inr (inr (past, again.1)))); counted = refl });
  alike = λ again has.
      let counted = is.counted in
      names_alike old again (has.counted ∙ sym is.counted) (λ glyph identifier less.
      names_same text.items bytes out offset place glyphs front stands last all old.identifiers again.identifiers glyph identifier own
      (own_stands again.identifiers out place glyphs past (at_offset again.identifiers out new glyphs place there has.identifiers))
      (omega (arith, less, counted)));
}
  where
    front : TextStands text.items bytes offset
    front = subst (λ xs. TextStands xs bytes offset) (sym cut.is) (cut_stands bytes offset next cut.order cut.within)

    long : next ≡ offset + length text.items
    long = sym (cut_length bytes offset next cut.order cut.within) ∙ ap (λ xs. offset + length xs) (sym cut.is)

    all : CharSetEnds bytes glyphs offset (offset + length text.items)
    all = subst (λ n. CharSetEnds bytes glyphs offset n) long ends

    own : CharSetStandsAt old.identifiers bytes offset glyphs
    own = own_stands old.identifiers bytes offset glyphs high (at_offset old.identifiers bytes map glyphs offset e is.identifiers)

    there : offset_of new CharSet ≡ Some place
    there = offset_is new CharSet place (place_held CharSet place held) look_is

-- The first glyph is named by 0, and each other one by the new identifier in its place.
pub record IsListed (strings : Strings) (identifiers : List ℕ) (again : CharSetView) : Type 0 where
  pub first : Names again 0 0
  pub each : (i identifier : ℕ) → i < length identifiers →
      Names again (i + 1) identifier ↔ (new_identifier strings (get_or identifiers i 0) ≡ identifier)

-- New identifiers are listed: there is such a char set, and each one names the glyphs so.
pub record AreListed (strings : Strings) (identifiers : List ℕ) (out : List ℕ) (new : Dictionary) (glyphs : ℕ) : Type 0 where
  pub some : (again : CharSetView) × IsCharSetOf again out new glyphs
  pub names : (again : CharSetView) → IsCharSetOf again out new glyphs → IsListed strings identifiers again

behind_first : (again : CharSetView) (i identifier value : ℕ) → i + 1 < again.glyphs →
    NamesBehind again.identifiers i identifier ↔ (value ≡ identifier) → Names again (i + 1) identifier ↔ (value ≡ identifier)
behind_first again i identifier value less both = (
  λ is. to is.told,
  λ is. record {
    there = less;
    told = inr (omega arith, subst (λ n. NamesBehind again.identifiers n identifier) back (both.1 is));
  },
)
  where
    back : i ≡ i + 1 - 1
    back = omega arith

    to : NamesFrom again.identifiers (i + 1) identifier → value ≡ identifier
    to (inl first) = absurd (omega (arith, first.0))
    to (inr more) = both.0 (subst (λ n. NamesBehind again.identifiers n identifier) (sym back) more.1)

new_is : (strings : Strings) (identifiers : List ℕ) (i : ℕ) → i < length identifiers →
    get_or (new_identifiers strings identifiers) i 0 ≡ new_identifier strings (get_or identifiers i 0)
new_is strings identifiers i less = get_or-map (new_identifier strings) identifiers i 0 0 less

pub set_listed : (lent : Bor (List ℕ)) (strings : Strings) (identifiers : List ℕ) (out : List ℕ) (map new : Dictionary) (glyphs : ℕ)
    (char_set : Option (Vec ℕ Global)) (place : ℕ) →
    look new CharSet ≡ option_or (named_by (place_of (piece_if CharSet char_set) place) CharSet) (look map CharSet) →
    All IsHeld (place_of (piece_if CharSet char_set) place) → 3 ≤ place → TextStands (text_of char_set) out place →
    IsSetFor strings identifiers (items_if char_set) → glyphs ≡ 1 + length identifiers →
    ((i : ℕ) → i < length identifiers → new_identifier strings (get_or identifiers i 0) < 65536) → AreListed strings identifiers out new
    glyphs
set_listed lent strings identifiers out map new glyphs None place look_is held past stands own many low = absurd (let e = own.1 in cc)
set_listed lent strings identifiers out map new glyphs (Some text) place look_is held past stands own many low = record {
  some = let again = names_all.stands out place there lent in
      (set_of again.0 glyphs, record { identifiers = (place, names, inr (inr (inr (past, as_many again.0 again.1)))); counted = refl });
  names = λ again has.
      let counted = has.counted in
      let own_set = own_stands again.identifiers out place glyphs past
      (at_offset again.identifiers out new glyphs place names has.identifiers) in
      record {
        first = record { there = omega (arith, counted, many); told = inl (refl, refl) };
        each = λ i identifier less. behind_first again i identifier (new_identifier strings (get_or identifiers i 0))
            (omega (arith, less, counted, many)) (each again.identifiers i identifier less own_set);
      };
}
  where
    text_is : own.0 ≡ text.items
    text_is = let e = own.1 in cc

    names_all : NamesAll text.items (new_identifiers strings identifiers)
    names_all = subst (λ xs. NamesAll xs (new_identifiers strings identifiers)) text_is own.2

    there : TextStands text.items out place
    there = stands

    count : 1 + length (new_identifiers strings identifiers) ≡ glyphs
    count = omega (arith, many, length-map identifiers (new_identifier strings))

    as_many : (set : Identifiers) → CharSetStandsAt set out place (1 + length (new_identifiers strings identifiers)) → CharSetStandsAt set out place glyphs
    as_many set h = subst (CharSetStandsAt set out place) count h

    each : (set : Identifiers) (i identifier : ℕ) → i < length identifiers → CharSetStandsAt set out place glyphs →
        NamesBehind set i identifier ↔ (new_identifier strings (get_or identifiers i 0) ≡ identifier)
    each set i identifier less is =
        let at = new_is strings identifiers i less in
        let small = low i less in
        subst (λ n. NamesBehind set i identifier ↔ (n ≡ identifier)) at
        (names_all.names out place i identifier set there (subst (CharSetStandsAt set out place) (sym count) is)
        (omega (arith, less, length-map identifiers (new_identifier strings))) (omega (arith, at, small)))

    names : offset_of new CharSet ≡ Some place
    names = offset_is new CharSet place (place_held CharSet place held) look_is
