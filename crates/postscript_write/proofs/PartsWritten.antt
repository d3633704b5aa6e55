-- The parts of what is written.
use Rattle.std.proofs.Common.{◌≡◌, refl, sym, ap, subst, ◌∙◌, inl, inr, ℕ, zero, suc, pos, ◌+◌, ◌<◌, ◌^◌, List, [], ◌∷◌, length, get_or, Option, Some, None, arith}
use Rattle.std.specs.Option.{option_or, unwrap_or}
use Rattle.std.specs.Prelude.{All, IsSome, slice_get}
use Rattle.postscript_base.specs.Compact1.Defaults.{default_of, first_of, first_two_of, look}
use Rattle.postscript_base.specs.Compact1.Dictionary.{Dictionary, dictionary_of}
use Rattle.postscript_base.specs.Compact1.DictionaryLaw.{IsDictionary}
use Rattle.postscript_base.specs.Compact1.Number.{whole}
use Rattle.postscript_base.specs.declared.compact1.operator.Operator.{Operator}
use Rattle.postscript_base.specs.declared.compact1.operator.Operator.TheVariants as operators
use Rattle.postscript_base.specs.declared.compact1.operator.Operator.TheVariants.{DefaultWidthX, NominalWidthX, Subrs}
use Rattle.postscript_base.proofs.DictionaryIs.{get_last}
use Rattle.postscript_compact1.specs.FontSet.Parts.{HasTwo, IsSlice}
use Rattle.postscript_view.specs.Contents.{PrivateDict}
use Rattle.postscript_view.specs.Layout.{AreParts, ArePartsOf, HasLocals, IsPart, NamesIndex}
use Rattle.postscript_view.specs.Layout.AreParts.{OfFont, OfFontDictionaries}
use Rattle.postscript_view.specs.Layout.HasLocals.{WithoutPrivate, WithoutSubrs}
use Rattle.postscript_write.specs.Dictionaries.{IsHeld}
use Rattle.postscript_write.specs.LeftOut.{IsLess}
use Rattle.postscript_write.specs.Parts.{SameBut, SameFont, SamePart, SameParts}
use Rattle.postscript_write.specs.Privates.{AreFontDictionaries, AreOwnPrivates, IsOwnPrivate, NoneIsNamed, place_of_private, private_offset, private_text}
use Rattle.postscript_write.specs.Texts.{TextStands}
use Rattle.postscript_write.specs.declared.layout.Private.{Private}
use Rattle.postscript_write.proofs.PlacesNamed.{named_by, whole_is}
use Rattle.postscript_write.proofs.Likeness.{same_advance, same_font_by}
use Rattle.postscript_write.proofs.Says.{less_says, own_says}
use Rattle.postscript_write.proofs.Standing.{stands_slice, stands_within}

-- a private dictionary that is written stands where a dictionary names it, or none is named
record HasWritten (out : List ℕ) (new : Dictionary) (was : PrivateDict) : Type 0 where
  local : Dictionary
  locals : HasLocals out new local []
  less : IsLess (Subrs ∷ []) was.dictionary local

slice_there : (text out : List ℕ) (offset : ℕ) → TextStands text out offset → IsSlice out (0 + offset) (length text) text
slice_there text out offset stands =
    let same : 0 + offset ≡ offset = omega arith in
    subst (λ n. IsSlice out n (length text) text) (sym same) (λ some. stands_within text stands, sym (stands_slice text stands))

has_written : (out : List ℕ) (old new : Dictionary) (private : Option Private) (offset : ℕ) (was : PrivateDict) →
    look new operators.Private ≡ option_or (named_by (place_of_private private offset) operators.Private)
    (look old operators.Private) → All IsHeld (place_of_private private offset) → TextStands
    (private_text private) out offset → IsOwnPrivate was private →
    (private ≡ None → first_two_of (look old operators.Private) ≡ None) → HasWritten out new was
has_written out old new None offset was is held stands own none = record {
  local = dictionary_of [];
  locals = WithoutPrivate (ap first_two_of is ∙ none refl) refl refl;
  less = subst (λ d. IsLess (Subrs ∷ []) d (dictionary_of [])) (sym own)
      (record { gone = λ operator has. get_last [] operator; stays = λ operator other. refl });
}
has_written out old new (Some private) offset was is held stands own none =
    let text : List ℕ = private.text.items in
    let one : IsHeld (record { operator = operators.Private; size = Some (length text); offset = offset }) = held 0
    (record { operator = operators.Private; size = Some (length text); offset = offset }) (omega arith) in
    let few : length text < 2 ^ 31 = one.1.0 in
    let low : offset < 2 ^ 31 = one.1.1.0 in
    let two : HasTwo new operators.Private (pos (length text))
    (pos offset) = (whole (pos (length text)), whole (pos offset), ap first_two_of is, whole_is (length text) few, whole_is offset low) in
    let lacks = ap (λ x. first_of (option_or x (default_of Subrs))) (own.2.gone Subrs (0, omega arith, refl)) in
    record {
      local = own.0;
      locals = WithoutSubrs offset (length text, text, two, omega (arith, low), slice_there text out offset stands, own.1) lacks refl;
      less = own.2;
    }

-- of any other operator the same is said
look_same : (old new : Dictionary) (operator : Operator) → (operator ≡ Subrs → ⊥) → SameBut (Subrs ∷ []) old new →
    look new operator ≡ look old operator
look_same old new operator other same = elim (same operator) [
  | inl is ↦ is
  | inr among ↦ elim among [
    | inl is ↦ absurd (other is)
    | inr never ↦ absurd never
  ]
]

same_part : (was : PrivateDict) (local : Dictionary) (font : Option Dictionary) → IsLess (Subrs ∷ []) was.dictionary local →
    SameFont was.font font → SamePart was (record { dictionary = local; subroutines = []; font = font })
same_part was local font less fonts =
    let says = less_says was.dictionary local less in
    record {
      private = says;
      no_local = refl;
      font = fonts;
      advance = same_advance was.dictionary local (look_same was.dictionary local DefaultWidthX (λ e. cc) says)
          (look_same was.dictionary local NominalWidthX (λ e. cc) says);
    }

extend : (R : ℕ → PrivateDict → Type 0) (x : PrivateDict) (xs : List PrivateDict) → R 0 x →
    ((k : ℕ) (is : PrivateDict) → slice_get xs k ≡ Some is → R (suc k) is) → (k : ℕ) (is : PrivateDict) → slice_get (x ∷ xs) k ≡ Some is →
    R k is
extend R x xs here rest zero is at =
    let both : Some x ≡ Some is = at in
    let same : x ≡ is = cc in
    subst (R 0) same here
extend R x xs here rest (suc k) is at = rest k is at

-- parts of which each is found
record Collected (out : List ℕ) (texts : List (List ℕ)) (R : ℕ → PrivateDict → Type 0) : Type 0 where
  parts : List PrivateDict
  are : ArePartsOf out texts parts
  many : length parts ≡ length texts
  each : (k : ℕ) (is : PrivateDict) → slice_get parts k ≡ Some is → R k is

collected : (out : List ℕ) (texts : List (List ℕ)) (R : ℕ → PrivateDict → Type 0) →
    ((k : ℕ) → k < length texts → (part : PrivateDict) × (own : Dictionary) × IsDictionary (get_or texts k []) 0 own × IsPart out own
    (Some own) part × R k part) → Collected out texts R
collected out [] R each = record { parts = []; are = tt; many = refl; each = λ k is at. let never : None ≡ Some is = at in absurd (cc) }
collected out (text ∷ texts) R each =
    let one = each 0 (omega arith) in
    let rest = collected out texts (λ k. R (suc k)) (λ k less. each (suc k) (omega (arith, less))) in
    record {
      parts = one.0 ∷ rest.parts;
      are = (one.1, one.2, one.3, rest.are);
      many = ap suc rest.many;
      each = extend R one.0 rest.parts one.4 rest.each;
    }

-- the font dictionary of a number, and its part
pub record HasFontDictionary (items : List (List ℕ)) (parts : List PrivateDict) (k : ℕ) : Type 0 where
  pub map : Dictionary
  pub part : PrivateDict
  pub is : IsDictionary (get_or items k []) 0 map
  pub there : slice_get parts k ≡ Some part
  pub font : part.font ≡ Some map

pub has_dictionary : (bytes : List ℕ) (items : List (List ℕ)) (parts : List PrivateDict) (k : ℕ) → ArePartsOf bytes items parts →
    k < length items → HasFontDictionary items parts k
has_dictionary bytes [] parts k are less = absurd (omega (arith, less))
has_dictionary bytes (item ∷ items) [] k are less = absurd are
has_dictionary bytes (item ∷ items) (part ∷ parts) zero are less =
    record { map = are.0; part = part; is = are.1; there = refl; font = are.2.1 }
has_dictionary bytes (item ∷ items) (part ∷ parts) (suc k) are less =
    let rest = has_dictionary bytes items parts k are.3 (omega (arith, less)) in
    record { map = rest.map; part = rest.part; is = rest.is; there = rest.there; font = rest.font }

-- the parts of a font stand in bytes, like other ones
pub record HasPartsLike (bytes : List ℕ) (map : Dictionary) (old : List PrivateDict) : Type 0 where
  pub parts : List PrivateDict
  pub are : AreParts bytes map parts
  pub like : SameParts old parts

-- the parts of font dictionaries that are written, like those that are read
pub keyed_parts : (bytes out : List ℕ) (old new : Dictionary) (items texts : List (List ℕ)) (parts : List PrivateDict)
    (privates : List (Option Private)) (start : ℕ) → IsSome (look new operators.ROS) → NamesIndex out new operators.FDArray texts →
    ArePartsOf bytes items parts → length items ≡ length parts → AreFontDictionaries items privates start texts → AreOwnPrivates parts
    privates → NoneIsNamed old parts privates →
    ((k : ℕ) → k < length privates → TextStands (private_text (get_or privates k None)) out (private_offset start privates k)) → HasPartsLike
    out new parts
keyed_parts bytes out old new items texts parts privates start keyed names are long fonts own none stand =
    record {
      parts =
          all.parts;
      are = OfFontDictionaries texts keyed names all.are;
      like = record { many = all.many ∙ fonts.many ∙ long; each = λ i was is at there. all.each i is there was at };
    }
  where
    like : (k : ℕ) → k < length texts →
        (part : PrivateDict) × (own : Dictionary) × IsDictionary (get_or texts k []) 0 own × IsPart out own
        (Some own) part × ((was : PrivateDict) → slice_get parts k ≡ Some was → SamePart was part)
    like k less =
        let within : k < length items = subst (λ n. k < n) fonts.many less in
        let has = has_dictionary bytes items parts k are within in
        let font = fonts.each k has.map within has.is in
        let many = own.many in
        let private : Option Private = get_or privates k None in
        let named = λ (e : private ≡ None). subst (λ m. first_two_of (look (unwrap_or m old) operators.Private) ≡ None) has.font
        (none k has.part has.there e) in
        let written = has_written out has.map font.0 private (private_offset start privates k) has.part (font.2 operators.Private)
        (fonts.held k within) (stand k (omega (arith, within, long, many))) (own.each k has.part has.there) named in (
          record { dictionary = written.local; subroutines = []; font = Some font.0 },
          font.0,
          font.1,
          (written.locals, refl),
          λ was at.
              let both : Some has.part ≡ Some was = sym has.there ∙ at in
              let same : has.part ≡ was = cc in
              subst (λ (p : PrivateDict). SamePart p (record { dictionary = written.local; subroutines = []; font = Some font.0 })) same
              (same_part has.part written.local (Some font.0) written.less
              (same_font_by has.part.font (Some font.0) has.map font.0 has.font refl
              (own_says has.map font.0 private (private_offset start privates k) font.2))),
        )

    all : Collected out texts (λ k is. (was : PrivateDict) → slice_get parts k ≡ Some was → SamePart was is)
    all = collected out texts (λ k is. (was : PrivateDict) → slice_get parts k ≡ Some was → SamePart was is) like

-- and the only part of another font
pub plain_parts : (out : List ℕ) (old new : Dictionary) (part : PrivateDict) (private : Option Private) (start : ℕ) → part.font ≡ None →
    look new operators.ROS ≡ None →
    look new operators.Private ≡ option_or (named_by (place_of_private private start) operators.Private)
    (look old operators.Private) → All IsHeld (place_of_private private start) → TextStands
    (private_text private) out start → IsOwnPrivate part private →
    (private ≡ None → first_two_of (look old operators.Private) ≡ None) → HasPartsLike out new (part ∷ [])
plain_parts out old new part private start no_font plain is held stands own none =
    let written = has_written out old new private start part is held stands own none in
    let like : PrivateDict = record { dictionary = written.local; subroutines = []; font = None } in
    record {
      parts = like ∷ [];
      are = OfFont like plain (written.locals, refl) refl;
      like = record {
        many = refl;
        each = λ i was is at there. pair i was is part like
            (same_part part written.local None written.less (subst (λ f. SameFont f None) (sym no_font) tt)) at there;
      };
    }
  where
    pair : (i : ℕ) (was is first like : PrivateDict) → SamePart first like → slice_get (first ∷ []) i ≡ Some was →
        slice_get (like ∷ []) i ≡ Some is → SamePart was is
    pair zero was is first like h at there =
        let x : first ≡ was = cc in
        let y : like ≡ is = cc in
        subst (λ (p : PrivateDict). SamePart p is) x (subst (SamePart first) y h)
    pair (suc i) was is first like h at there = let never : None ≡ Some was = at in absurd (cc)
