-- What is found alike.
use Rattle.std.proofs.Common.{◌≡◌, inl, inr, refl, sym, ap, subst, ◌∙◌, ℕ, ◌<◌, List, [], ◌∷◌, length, get_or, slice_get}
use Rattle.std.specs.Prelude.{Option, Some, None, ℤ, option_map}
use Rattle.std.proofs.lemmas.List.{length-map}
use Rattle.std.proofs.lemmas.Option.{slice_get-map, slice_get_read}
use Rattle.postscript_base.specs.Compact1.Defaults.{look, first_of}
use Rattle.postscript_base.specs.Compact1.Dictionary.{Dictionary}
use Rattle.postscript_base.specs.declared.compact1.operator.Operator.TheVariants.{DefaultWidthX, NominalWidthX, Private}
use Rattle.postscript_base.specs.Index.Lent.{items_of}
use Rattle.postscript_view.specs.Advances.{advance_of}
use Rattle.postscript_view.specs.Glyphs.{HasPartNumber}
use Rattle.postscript_view.specs.Naming.{Names}
use Rattle.postscript_view.specs.Contents as contents
use Rattle.postscript_view.specs.Value.{part_shown, parts_shown, view_shown}
use Rattle.postscript_view.specs.declared.font.FontView.{FontView}
use Rattle.postscript_view.specs.declared.advance.Advance.TheVariants.{Default, Nominal}
use Rattle.postscript_view.specs.declared.char_set.CharSetView.{CharSetView}
use Rattle.postscript_view.specs.declared.private_dict.PrivateDict.{PrivateDict}
use Rattle.postscript_view.proofs.Naming.{named_once}
use Rattle.postscript_view.proofs.Selecting.{one_named}
use Rattle.postscript_write.specs.Glyphs.{ShowsPart}
use Rattle.postscript_write.specs.Naming.{SameName}
use Rattle.postscript_write.specs.Parts.{SameBut, SameFont, SamePart, SameParts}

pub same_font_by : (old new : Option Dictionary) (a b : Dictionary) → old ≡ Some a → new ≡ Some b → SameBut (Private ∷ []) a b →
    SameFont old new
same_font_by old new a b e f h = subst (λ o. SameFont o new) (sym e) (subst (λ n. SameFont (Some a) n) (sym f) h)

-- where the widths are the same, advances are
pub same_advance : (old new : Dictionary) → look new DefaultWidthX ≡ look old DefaultWidthX →
    look new NominalWidthX ≡ look old NominalWidthX → (width : Option ℤ) → advance_of new width ≡ advance_of old width
same_advance old new e f None = ap (λ o. option_map Default (first_of o)) e
same_advance old new e f (Some difference) = ap (λ o. option_map (λ nominal. Nominal nominal difference) (first_of o)) f

pub shown_at : (parts : List PrivateDict) (i : ℕ) (part : PrivateDict) → i < length parts → part ≡ get_or parts i part →
    slice_get (parts_shown parts) i ≡ Some (part_shown part)
shown_at parts i part less is =
    slice_get-map part_shown parts i ∙ ap (option_map part_shown) (slice_get_read parts (length parts) i part refl less is)

-- what is found at a place of the parts is what is shown of it
found_at : (parts : List PrivateDict) (i : ℕ) (part : PrivateDict) (shown : contents.PrivateDict) → i < length parts →
    part ≡ get_or parts i part → slice_get (parts_shown parts) i ≡ Some shown → part_shown part ≡ shown
found_at parts i part shown less is at =
    let here : slice_get (parts_shown parts) i ≡ Some (part_shown part) = shown_at parts i part less is in
    let e : Some (part_shown part) ≡ Some shown = sym here ∙ at in
    cc

-- the parts in one place say the same
pub part_of : (old new : List PrivateDict) (i : ℕ) (a b : PrivateDict) → i < length old → i < length new → a ≡ get_or old i a →
    b ≡ get_or new i b → SameParts (parts_shown old) (parts_shown new) → SamePart (part_shown a) (part_shown b)
part_of old new i a b lo ln ea eb all = all.each i (part_shown a) (part_shown b) (shown_at old i a lo ea) (shown_at new i b ln eb)

-- a glyph has one part
pub one_part : (font : FontView) (glyph a b : ℕ) → HasPartNumber font glyph a → ShowsPart font.bytes.now (view_shown font) glyph b → a ≡ b
one_part font glyph a b one has = elim one.selected [
  | inl single ↦ elim has.selected [
    | inl same ↦ single.1 ∙ sym same.1
    | inr other ↦ absurd (other.0 (length-map font.parts.items part_shown ∙ single.0))
  ]
  | inr several ↦ elim has.selected [
    | inl same ↦ absurd (several.0 (sym (length-map font.parts.items part_shown) ∙ same.0))
    | inr other ↦ one_named font.bytes.now font.dictionary (length (items_of font.char_strings)) glyph a b several.1 other.1
  ]
]

-- glyphs with the same one have one
pub one_name : (old new : CharSetView) (glyph i a b : ℕ) → Names old glyph a → Names new i b → SameName old (Some glyph) new i → a ≡ b
one_name old new glyph i a b was is same = named_once new i a b ((same a).0 was) is

-- glyphs with one identifier have the same one
pub same_name_by : (old new : CharSetView) (source : Option ℕ) (glyph i a b : ℕ) → source ≡ Some glyph → Names old glyph a →
    Names new i b → a ≡ b → SameName old source new i
same_name_by old new source glyph i a b e was is same =
    subst (λ s. SameName old s new i) (sym e) (λ identifier. (
      (λ h. subst (λ n. Names new i n) (sym (named_once old glyph identifier a h was ∙ same)) is),
      (λ h. subst (λ n. Names old glyph n) (sym (named_once new i identifier b h is ∙ sym same)) was),
    ))
