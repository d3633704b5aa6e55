-- Parts that operators name end where their texts do.
use Rattle.std.proofs.Common.{◌≡◌, refl, sym, subst, if◌then◌else◌, ap, ◌∙◌, inl, inr, ℕ, pos, ◌+◌, ◌<◌, ◌≤◌, ◌^◌, List, [], ◌∷◌, ◌++◌, length, Option, Some, None, Bool, true, false, Vec, arith}
use Rattle.std.specs.Option.{option_and_then, option_or}
use Rattle.std.specs.Prelude.{All, IsSome}
use Rattle.std.specs.declared.alloc.Global.{Global}
use Rattle.postscript_base.specs.Compact1.Decimal.{Decimal, to_i32}
use Rattle.postscript_base.specs.Compact1.Defaults.{first_of, look}
use Rattle.postscript_base.specs.Compact1.Dictionary.{Dictionary}
use Rattle.postscript_base.specs.Compact1.Number.{whole}
use Rattle.postscript_base.specs.Index.{number_at}
use Rattle.postscript_base.specs.declared.compact1.operator.Operator.{Operator}
use Rattle.postscript_base.specs.declared.compact1.operator.Operator.TheVariants.{CharSet, Encoding, FDArray, FDSelect}
use Rattle.postscript_view.specs.Cids.{IsCidKeyed}
use Rattle.postscript_view.specs.Select.{offset_from, offset_of}
use Rattle.postscript_write.specs.Pieces.{is_listed, listed_set, piece_if, place_at, place_of, ranges_set, standard_place, text_of}
use Rattle.postscript_write.specs.ArrangedText.{dictionaries_text}
use Rattle.postscript_write.specs.Dictionaries.{IsHeld, IsPlaced}
use Rattle.postscript_write.specs.Given.{GivesCharSet, GivesEncoding, GivesSelect}
use Rattle.postscript_write.specs.Index.{FitsIndex}
use Rattle.postscript_write.specs.Texts.{TextStands}
use Rattle.postscript_write.specs.Whole.{CharSetEnds, EncodingEnds, HasListedSet, IndexEnds, KeyedEnds, ListedSetEnds, NamedEnds, OtherSetEnds, OwnEnds, SelectEnds}
use Rattle.postscript_write.specs.declared.dictionaries.Place.{Place}
use Rattle.postscript_write.proofs.Endings.{one_some}
use Rattle.postscript_write.proofs.IndexStands.{writes_indices}
use Rattle.postscript_write.proofs.OneCharSet.{EndsBytes, listed_number, other_number, set_at}
use Rattle.postscript_write.proofs.PlacesNamed.{named_by, whole_is}
use Rattle.postscript_write.proofs.TextsEnd.{char_set_there, encoding_there, number_there, select_there, some_char_set}

-- the offset of an operator whose operand is a number of 31 bits
pub offset_is : (map : Dictionary) (operator : Operator) (n : ℕ) → n < 2 ^ 31 → look map operator ≡ Some (whole (pos n) ∷ []) →
    offset_of map operator ≡ Some n
unfolding offset_of
offset_is map operator n low is =
    ap (λ (x : Option (List Decimal)). offset_from (option_and_then to_i32 (first_of x))) is ∙ ap offset_from (whole_is n low)

pub same_offset : (old new : Dictionary) (operator : Operator) → look new operator ≡ look old operator →
    offset_of new operator ≡ offset_of old operator
unfolding offset_of
same_offset old new operator is = ap (λ (x : Option (List Decimal)). offset_from (option_and_then to_i32 (first_of x))) is

pub place_held : (operator : Operator) (n : ℕ) → All IsHeld (place_at operator n ∷ []) → n < 2 ^ 31
place_held operator n held =
    let one : IsHeld (place_at operator n) = held 0 (place_at operator n) (omega arith) in
    one.1.0

-- what the dictionary says of an operator by which places name something
pub own_look : {x : Option (List Decimal)} (places : List Place) (old new : Dictionary) (operator : Operator) → IsPlaced old places new →
    named_by places operator ≡ x → look new operator ≡ option_or x (look old operator)
own_look places old new operator placed is = placed operator ∙ ap (λ x. option_or x (look old operator)) is

pub encoding_ends : (old new : Dictionary) (out : List ℕ) (encoding : Option (Vec ℕ Global)) (standard : Bool) (start : ℕ) →
    look new Encoding ≡ option_or (named_by (standard_place standard ++ place_of (piece_if Encoding encoding) start) Encoding) (look old Encoding) →
    All IsHeld (place_of (piece_if Encoding encoding) start) → 2 ≤ start → TextStands (text_of encoding) out start → GivesEncoding old encoding standard →
    OwnEnds new Encoding 2 (EncodingEnds out) start (start + length (text_of encoding))
encoding_ends old new out (Some text) true start is held past stands gives = absurd gives
encoding_ends old new out (Some text) false start is held past stands gives =
    inr (past, offset_is new Encoding start (place_held Encoding start held) is, encoding_there text.items out start stands gives)
encoding_ends old new out None true start is held past stands gives =
    inl (0, offset_is new Encoding 0 (omega arith) is, omega arith, omega arith)
encoding_ends old new out None false start is held past stands gives =
    inl (gives.0, same_offset old new Encoding is ∙ gives.1, gives.2, omega arith)

pub select_ends : (new : Dictionary) (out : List ℕ) (select : Option (Vec ℕ Global)) (glyphs place : ℕ) (other : Option (List Decimal)) →
    look new FDSelect ≡ option_or (named_by (place_of (piece_if FDSelect select) place) FDSelect) other →
    All IsHeld (place_of (piece_if FDSelect select) place) → (IsSome select → IsCidKeyed new) → (IsCidKeyed new → IsSome select) → TextStands
    (text_of select) out place →
    GivesSelect glyphs select → KeyedEnds new FDSelect (SelectEnds out glyphs) place (place + length (text_of select))
select_ends new out None glyphs place other is held keyed only stands gives =
    inl (λ some. let never = only some in absurd (cc), omega arith)
select_ends new out (Some text) glyphs place other is held keyed only stands gives =
    inr (
      keyed refl,
      offset_is new FDSelect place (place_held FDSelect place held) is,
      select_there text.items out place glyphs stands gives,
    )

pub array_ends : (new : Dictionary) (out : List ℕ) (select : Option (Vec ℕ Global)) (dictionaries : List (List ℕ)) (place : ℕ) →
    (IsSome select → (look new FDArray ≡ Some (whole (pos place) ∷ [])) × (place < 2 ^ 31)) →
    (IsSome select → IsCidKeyed new) → (IsCidKeyed new → IsSome select) → (IsSome select → FitsIndex dictionaries) → TextStands
    (dictionaries_text select dictionaries) out place →
    KeyedEnds new FDArray (IndexEnds out) place (place + length (dictionaries_text select dictionaries))
array_ends new out None dictionaries place names keyed only fits stands =
    inl (λ some. let never = only some in absurd (cc), omega arith)
array_ends new out (Some text) dictionaries place names keyed only fits stands =
    let own = names refl in
    inr (keyed refl, offset_is new FDArray place own.1 own.0, (dictionaries, writes_indices dictionaries out place (fits refl) stands))

-- a charset of format 0 ends before the charstrings, and any other one ends last
pub char_set_ends : (old new : Dictionary) (out : List ℕ) (char_set : Option (Vec ℕ Global)) (glyphs first last : ℕ) →
    look new CharSet ≡ option_or (named_by (place_of (piece_if CharSet char_set) (set_at char_set first last)) CharSet) (look old CharSet) →
    All IsHeld (place_of (piece_if CharSet char_set) (set_at char_set first last)) → 3 ≤ set_at char_set first last → TextStands
    (text_of char_set) out (set_at char_set first last) → EndsBytes char_set out (set_at char_set first last) → GivesCharSet old glyphs char_set →
    ListedSetEnds out new glyphs first (first + length (text_of (listed_set char_set)))
    × OtherSetEnds out new glyphs last (last + length (text_of (ranges_set char_set)))
char_set_ends old new out None glyphs first last is held past stands ends gives =
    let named : offset_of new CharSet ≡ Some gives.0 = same_offset old new CharSet is ∙ gives.1 in
    let none : HasListedSet out new → ⊥ = λ has.
    (let same : has.0 ≡ gives.0 = one_some has.1 named in let low = gives.2 in let high = has.2 in omega (arith, same, low, high)) in
    (inl (none, omega arith), inr (none, inl (gives.0, named, gives.2, omega arith)))
char_set_ends old new out (Some text) glyphs first last is held past stands ends gives = by (is_listed text.items) refl
  where
    place : ℕ
    place = set_at (Some text) first last

    some : 1 ≤ length text.items
    some = some_char_set text.items glyphs gives

    named : offset_of new CharSet ≡ Some place
    named = offset_is new CharSet place (place_held CharSet place held) is

    format : number_at out place 1 ≡ number_at text.items 0 1
    format = number_there text.items out place 0 1 place stands some (omega arith)

    there : CharSetEnds out glyphs place (place + length text.items)
    there = char_set_there text.items out place glyphs stands ends gives

    by : (b : Bool) → is_listed text.items ≡ b → ListedSetEnds out new glyphs first (first + length (text_of (if b then Some text else None)))
        × OtherSetEnds out new glyphs last (last + length (text_of (if b then None else Some text)))
    by true e =
        let at : place ≡ first = ap (λ b. if b then first else last) e in
        let has : HasListedSet out new = (place, named, past, format ∙ listed_number text.items some e) in (
          inr (has, subst (λ n. NamedEnds new CharSet (CharSetEnds out glyphs) n (n + length text.items)) at (named, there)),
          inl (has, omega arith),
        )
    by false e =
        let at : place ≡ last = ap (λ b. if b then first else last) e in
        let none : HasListedSet out new → ⊥ = λ has.
        other_number text.items some e (sym format ∙ ap (λ n. number_at out n 1) (one_some named has.1) ∙ has.3) in (
          inl (none, omega arith),
          inr (none, subst (λ n. OwnEnds new CharSet 3 (CharSetEnds out glyphs) n (n + length text.items)) at (inr (past, named, there))),
        )
