-- Why a font is refused, in the words of the layout, and that it is refused for each such cause.
use Rattle.std.proofs.Common.{◌≡◌, ◌⊎◌, inl, inr, ℕ, zero, suc, ◌+◌, ◌<◌, ◌≤◌, Bool, true, false, ℤ, pos, negsuc, ◌+ℤ◌, List, [], ◌∷◌, length, map, Option, Some, None, ◌==◌, if◌then◌else◌, refl, sym, subst, arith, ◌∙◌}
use Rattle.std.proofs.lemmas.Int.{ints}
use Rattle.std.proofs.lemmas.Bool.Decides.{nat_tests}
use Rattle.postscript_base.specs.Numbers.{slice}
use Rattle.postscript_base.specs.Refusal.{out_of_range_offset, unknown_char_string_format}
use Rattle.postscript_base.specs.RefusalOf.{refusal_of}
use Rattle.postscript_base.specs.Tape.At.{at, bytes_at}
use Rattle.postscript_base.specs.Tape.Loops.{each}
use Rattle.postscript_base.specs.Tape.Outcome.{Got, Reading, RefusedAs, after, pure, Outcome, Fault, Past}
use Rattle.postscript_base.specs.Compact1.Decimal.{Decimal, to_i32}
use Rattle.postscript_base.specs.Compact1.Defaults.{look, first_of, first_two_of}
use Rattle.postscript_base.specs.Compact1.Dictionary.{Dictionary, dictionary_of}
use Rattle.postscript_base.specs.Compact1.DictionaryLaw.{IsRefused, ReadsDictionaries}
use Rattle.postscript_base.specs.Compact1.Header.{header}
use Rattle.postscript_base.specs.declared.compact1.header.Header.{Header}
use Rattle.postscript_base.specs.declared.compact1.operator.Operator.{Operator}
use Rattle.postscript_base.specs.declared.compact1.operator.Operator.TheVariants as operators
use Rattle.postscript_base.specs.declared.error.Error.{Error}
use Rattle.postscript_compact1.specs.Index.{Index, index, empty}
use Rattle.postscript_compact1.specs.Kinds.{map_of}
use Rattle.postscript_compact1.specs.Texts.{text}
use Rattle.postscript_compact1.specs.CharSets.{char_set as the_set}
use Rattle.postscript_compact1.specs.IndexAt.{IsIndex}
use Rattle.postscript_compact1.specs.ItemsLaw.{AreDictionaries}
use Rattle.postscript_compact1.specs.declared.char_set.CharSet.{CharSet}
use Rattle.postscript_compact1.specs.declared.encoding.Encoding.{Encoding}
use Rattle.postscript_compact1.specs.declared.font_set.manner.Manner.{Manner}
use Rattle.postscript_compact1.specs.FontSet.Operands.{goes_without, number_of, number_of_first, first, numbers_of_two, two, size_of, in_range, place_at, only_two, type_two, bounded, bounds}
use Rattle.postscript_compact1.specs.FontSet.Font.{Tables}
use Rattle.postscript_compact1.specs.Computed.Order.{names, dictionaries, tables, behind, parts, font_by}
use Rattle.postscript_compact1.specs.Computed.Parts.{encoding_of, encoding, char_strings, own_char_set, char_set_of, char_set_offset, char_set, glyphs, private, subroutines, own_subroutines, own_locals, locals, part}
use Rattle.postscript_compact1.specs.FontSet.Layout.{AreTables}
use Rattle.postscript_compact1.specs.FontSet.Parts.{HasFirst, IsPlace, IsSlice, HasEncoding, HasCharStrings, HasCharSet, HasPrivate}
use Rattle.postscript_compact1.specs.FontSet.Causes.{NoTables, OfNames, OfItems, OfDictionaries, OfStringList, OfGlobalList, NoFontBy, OfHeader, HeaderSize, OfTables, OfParts, RefusesLayout}
use Rattle.postscript_compact1.specs.FontSet.PartCauses.{RefusedAt, NoFirst, Missing, Malformed, NoOffset, OfOperand, OutOfRange, NoEncoding, EncodingOperand, OtherEncoding, NoCharStrings, StringsOffset, TypeOperand, OtherType, StringsRefused, NoCharSet, SetOperand, SetNegative, SetFar, SetRefused, NoBounds, TooFew, NotWhole, BoundsRange, NoPrivate, PrivateBounds, PrivateSlice, PrivateRefused, NoSubroutines, SubrsOffset, SubrsRefused, IsSought, NoPart, OfEncoding, OfStrings, OfSet, OfPrivate, OfSubroutines, NoParts}
use Rattle.postscript_compact1.proofs.IndexRefused.{reads_indices}
use Rattle.postscript_compact1.proofs.ItemsAre.{reads_items}
use Rattle.postscript_compact1.proofs.OperandLaws.{none_lacking, first_has, two_has, size_has, in_range_has, placed_has, type_has, bounds_has, there_is, first_is, in_range_is, placed_is, type_is, bounds_is}
use Rattle.postscript_compact1.proofs.FontLaws.{from_3, index_at_has, slice_has, encoding_has, char_strings_has, private_has, glyphs_have, part_has, tables_have, index_at_is, slice_is, encoding_is, char_strings_is, char_set_is, private_is, part_is, tables_are, font_is, lenient_is}
use Rattle.postscript_compact1.proofs.Steps.{Done, Last, Step, accepted}
use Rattle.postscript_base.specs.Error.{code}
use Rattle.postscript_compact1.specs.declared.font_set.manner.Manner.TheVariants.{Strict, Lenient}
use Rattle.postscript_compact1.proofs.Outcomes.{refused_after}

refused_at : {A : Type 0} (e : Error) (there : ℕ) (reading : Reading A) (bytes : List ℕ) (place : ℕ) →
    RefusedAs e (at there reading bytes place) → RefusedAt e reading bytes there
unfolding at
refused_at e there reading bytes place h = grind arith

-- a reading is refused by its first step, or by what follows the value of that
cause : {A B : Type 0} (e : Error) (o : Outcome A) (f : A → ℕ → Outcome B) (Q : Type 0) → RefusedAs e (after o f) → (RefusedAs e o → Q) →
    ((v : A) (at : ℕ) → o ≡ Got v at → RefusedAs e (f v at) → Q) → Q
cause e (Got v at) f Q h here later = later v at refl h
cause e (Fault refusal) f Q h here later = here h
cause e Past f Q h here later = here h

pub no_first : (e : Error) (m : Dictionary) (op : Operator) (bytes : List ℕ) (place : ℕ) → RefusedAs e (first m op bytes place) →
    NoFirst e m op
unfolding first
no_first e m op bytes place h = by (first_of (look m op)) refl h
  where
    number : (x : Decimal) (v : Option ℤ) → first_of (look m op) ≡ Some x → to_i32 x ≡ v → RefusedAs e (number_of op v bytes place) →
        NoFirst e m op
    number x None is value h = Malformed x is value h
    number x (Some n) is value h = absurd h

    by : (o : Option Decimal) → first_of (look m op) ≡ o → RefusedAs e (number_of_first op o bytes place) → NoFirst e m op
    by None is h = Missing is h
    by (Some x) is h = number x (to_i32 x) is refl h

no_range : (e : Error) (p : ℕ) (bytes : List ℕ) (place : ℕ) → RefusedAs e (in_range p bytes place) →
    (refusal_of e ≡ out_of_range_offset) × (IsPlace p → ⊥)
no_range e p bytes place h = grind arith

pub no_offset : (e : Error) (start base : ℕ) (m : Dictionary) (op : Operator) (bytes : List ℕ) (place : ℕ) →
    RefusedAs e (place_at start base m op bytes place) → NoOffset e start base m op
unfolding place_at
no_offset e start base m op bytes place h =
    cause e (first m op bytes place) _ _ h (λ h. OfOperand (no_first e m op bytes place h))
    (λ z at is h. OutOfRange z (first_has m op z bytes place at is).0 (grind arith))

-- ---- encodings
no_encoding : (e : Error) (m : Dictionary) (bytes : List ℕ) (place : ℕ) → RefusedAs e (encoding m bytes place) → NoEncoding e m
unfolding encoding
no_encoding e m bytes place h =
    cause e (first m operators.Encoding bytes place) _ _ h (λ h. EncodingOperand (no_first e m operators.Encoding bytes place h))
    (λ z at is. other z at (first_has m operators.Encoding z bytes place at is).0)
  where
    other : (z : ℤ) (from : ℕ) → HasFirst m operators.Encoding z → RefusedAs e (encoding_of z bytes from) → NoEncoding e m
    other (negsuc n) from is h =
        OtherEncoding (negsuc n) is (λ no. let k : negsuc n ≡ pos 0 = no in absurd (cc))
        (λ no. let k : negsuc n ≡ pos 1 = no in absurd (cc)) h
    other (pos zero) from is h = absurd h
    other (pos (suc zero)) from is h = absurd h
    other (pos (suc (suc n))) from is h =
        let k = suc (suc n) in
        let a : (k == 0) ≡ false = grind (arith, nat_tests) in
        let b : (k == 1) ≡ false = grind (arith, nat_tests) in
        OtherEncoding (pos k) is (λ no. let same : k ≡ 0 = cc in absurd (grind (arith)))
        (λ no. let same : k ≡ 1 = cc in absurd (grind (arith))) (rw (a, b) at h)

-- ---- char strings
not_two : (e : Error) (z : ℤ) (bytes : List ℕ) (place : ℕ) → RefusedAs e (only_two z bytes place) →
    (z ≡ pos 2 → ⊥) × (refusal_of e ≡ unknown_char_string_format)
not_two e z bytes place h = grind arith

pub no_type : (e : Error) (m : Dictionary) (bytes : List ℕ) (place : ℕ) → RefusedAs e (type_two m bytes place) →
    NoFirst e m operators.CharStringType ⊎ ((z : ℤ) × HasFirst m operators.CharStringType
    z × (z ≡ pos 2 → ⊥) × (refusal_of e ≡ unknown_char_string_format))
unfolding type_two
no_type e m bytes place h =
    cause e (first m operators.CharStringType bytes place) _ _ h (λ h. inl (no_first e m operators.CharStringType bytes place h))
    (λ z at is h. let n = not_two e z bytes at h in inr (z, (first_has m operators.CharStringType z bytes place at is).0, n.0, n.1))

no_char_strings : (e : Error) (bytes : List ℕ) (start : ℕ) (m : Dictionary) (place : ℕ) → RefusedAs e (char_strings start m bytes place) →
    NoCharStrings e bytes start m
unfolding char_strings
no_char_strings e bytes start m place h =
    cause e (place_at start 0 m operators.CharStrings bytes place) _ _ h
    (λ h. StringsOffset (no_offset e start 0 m operators.CharStrings bytes place h)) (λ q from is h. let p = here q from is in
    cause e (type_two m bytes from) _ _ h (λ h. typed p.0 p.1 p.3 (no_type e m bytes from h))
    (λ v at has h. StringsRefused p.0 p.1 p.3 (type_has m v bytes from at has).0
    (subst (RefusedAt e index bytes) p.2 (refused_at e q index bytes at h))))
  where
    here : (q from : ℕ) → place_at start 0 m operators.CharStrings bytes place ≡ Got q from →
        (n : ℕ) × HasFirst m operators.CharStrings (pos n) × (q ≡ start + n) × IsPlace (start + n)
    here q from is = grind (arith, placed_has, ints)

    typed : (n : ℕ) → HasFirst m operators.CharStrings (pos n) → IsPlace (start + n) →
        NoFirst e m operators.CharStringType ⊎ ((z : ℤ) × HasFirst m operators.CharStringType
        z × (z ≡ pos 2 → ⊥) × (refusal_of e ≡ unknown_char_string_format)) →
        NoCharStrings e bytes start m
    typed n has fits (inl f) = TypeOperand n has fits f
    typed n has fits (inr f) = OtherType n f.0 has fits f.1 f.2 f.3

-- ---- char sets
no_own : (e : Error) (bytes : List ℕ) (start glyphs n : ℕ) (m : Dictionary) (place : ℕ) → HasFirst m operators.CharSet (pos n) → 3 ≤ n →
    RefusedAs e (own_char_set start glyphs n bytes place) → NoCharSet e bytes start glyphs m
unfolding own_char_set
no_own e bytes start glyphs n m place has far h =
    cause e (in_range (start + n) bytes place) _ _ h (λ h. let r = no_range e (start + n) bytes place h in SetFar n has far r.1 r.0)
    (λ q at is h. let r = in_range_has (start + n) q bytes place at is in
    SetRefused n has far r.1 (subst (RefusedAt e (the_set glyphs) bytes) (sym r.0) (refused_at e q (the_set glyphs) bytes at h)))

no_set_offset : (e : Error) (bytes : List ℕ) (start glyphs : ℕ) (m : Dictionary) (place : ℕ) →
    RefusedAs e (char_set_offset m bytes place) → NoCharSet e bytes start glyphs m
unfolding char_set_offset
no_set_offset e bytes start glyphs m place h =
    cause e (first m operators.CharSet bytes place) _ _ h (λ h. SetOperand (no_first e m operators.CharSet bytes place h))
    (λ z at is. negative z at (first_has m operators.CharSet z bytes place at is).0)
  where
    negative : (z : ℤ) (from : ℕ) → HasFirst m operators.CharSet z → RefusedAs e (size_of z bytes from) → NoCharSet e bytes start glyphs m
    negative (pos n) from has h = absurd h
    negative (negsuc n) from has h = SetNegative n has h

no_char_set : (e : Error) (bytes : List ℕ) (start glyphs : ℕ) (m : Dictionary) (place : ℕ) →
    RefusedAs e (char_set start glyphs m bytes place) → NoCharSet e bytes start glyphs m
unfolding char_set char_set_offset
no_char_set e bytes start glyphs m place h =
    cause e (char_set_offset m bytes place) _ _ h (no_set_offset e bytes start glyphs m place)
    (λ n at is. own n at (grind (arith, accepted, size_has, first_has)))
  where
    own : (n from : ℕ) → HasFirst m operators.CharSet (pos n) → RefusedAs e (char_set_of start glyphs n bytes from) →
        NoCharSet e bytes start glyphs m
    own zero from has h = absurd h
    own (suc zero) from has h = absurd h
    own (suc (suc zero)) from has h = absurd h
    own (suc (suc (suc n))) from has h =
        let t = from_3 (suc (suc (suc n))) (omega arith) in
        no_own e bytes start glyphs (suc (suc (suc n))) m from has (omega arith) (rw (t.0, t.1, t.2) at h)

-- ---- the local subroutines
no_subroutines : (e : Error) (bytes : List ℕ) (start base : ℕ) (local : Dictionary) (place : ℕ) →
    RefusedAs e (subroutines start base local bytes place) → NoSubroutines e bytes start base local
unfolding subroutines
no_subroutines e bytes start base local place h =
    cause e (place_at start base local operators.Subrs bytes place) _ _ h
    (λ h. SubrsOffset (no_offset e start base local operators.Subrs bytes place h))
    (λ q at is h. let p = placed_has start base local operators.Subrs q bytes place at is in
    SubrsRefused p.0 p.1 p.2 p.3 p.5 (subst (RefusedAt e index bytes) p.4 (refused_at e q index bytes at h)))

no_own_subroutines : (manner : Manner) (e : Error) (bytes : List ℕ) (start base : ℕ) (local : Dictionary) (place : ℕ) →
    RefusedAs e (own_subroutines manner start base local bytes place) →
    IsSought manner (first_of (look local operators.Subrs)) × NoSubroutines e bytes start base local
unfolding own_subroutines
no_own_subroutines manner e bytes start base local place h = by (goes_without manner (first_of (look local operators.Subrs))) refl h
  where
    by : (b : Bool) → goes_without manner (first_of (look local operators.Subrs)) ≡ b →
        RefusedAs e ((if b then pure empty else subroutines start base local) bytes place) →
        IsSought manner (first_of (look local operators.Subrs)) × NoSubroutines e bytes start base local
    by true t h = absurd h
    by false t h = (none_lacking manner (first_of (look local operators.Subrs)) t, no_subroutines e bytes start base local place h)

-- ---- the private dictionary
no_two : (e : Error) (start : ℕ) (m : Dictionary) (bytes : List ℕ) (place : ℕ) → RefusedAs e (two m operators.Private bytes place) →
    NoBounds e start m
unfolding two
no_two e start m bytes place h = by (first_two_of (look m operators.Private)) refl h
  where
    numbers : (x y : Decimal) (v w : Option ℤ) → first_two_of (look m operators.Private) ≡ Some (x, y) → to_i32 x ≡ v → to_i32 y ≡ w
        → RefusedAs {A = ℤ × ℤ} e
        (after (number_of operators.Private v bytes place)
        (λ a at. after (number_of operators.Private w bytes at) (λ b next. Got (a, b) next))) → NoBounds e start m
    numbers x y None w is v_is w_is h = NotWhole x y is (inl v_is) h
    numbers x y (Some a) None is v_is w_is h = NotWhole x y is (inr w_is) h
    numbers x y (Some a) (Some b) is v_is w_is h = absurd h

    by : (o : Option (Decimal × Decimal)) → first_two_of (look m operators.Private) ≡ o →
        RefusedAs e (numbers_of_two operators.Private o bytes place) → NoBounds e start m
    by None is h = TooFew is h
    by (Some (x, y)) is h = numbers x y (to_i32 x) (to_i32 y) is refl refl h

no_bounded : (e : Error) (start : ℕ) (m n : ℤ) (bytes : List ℕ) (place : ℕ) → RefusedAs e (bounded start (m, n) bytes place) →
    (refusal_of e ≡ out_of_range_offset) × ((size offset : ℕ) → m ≡ pos size → n ≡ pos offset → IsPlace (start + offset) → ⊥)
no_bounded e start m n bytes place h = grind arith

pub no_bounds : (e : Error) (start : ℕ) (m : Dictionary) (bytes : List ℕ) (place : ℕ) → RefusedAs e (bounds start m bytes place) →
    NoBounds e start m
unfolding bounds
no_bounds e start m bytes place h = cause e (two m operators.Private bytes place) _ _ h (no_two e start m bytes place)
    (λ p at is h. let r = no_bounded e start p.0 p.1 bytes at h in
    BoundsRange p.0 p.1 (two_has m operators.Private p bytes place at is).0 r.0 r.1)

no_slice : (e : Error) (size there : ℕ) (bytes : List ℕ) (place : ℕ) → RefusedAs e (bytes_at there size bytes place) →
    (0 < size) × RefusedAt e (slice size) bytes there
unfolding bytes_at
no_slice e size there bytes place h = by (size == 0) refl h
  where
    by : (b : Bool) → (size == 0) ≡ b → RefusedAs e ((if b then pure [] else at there (slice size)) bytes place) →
        (0 < size) × RefusedAt e (slice size) bytes there
    by true t h = absurd h
    by false t h = (grind (arith, nat_tests), refused_at e there (slice size) bytes place h)

-- ---- a part, and all parts
no_glyphs : (e : Error) (bytes : List ℕ) (start : ℕ) (m : Dictionary) (place : ℕ) → RefusedAs e (glyphs start m bytes place) →
    NoCharStrings e bytes start
    m ⊎ ((i : Index) × (next : ℕ) × HasCharStrings bytes start m i next × NoCharSet e bytes start (length i.items) m)
unfolding glyphs
no_glyphs e bytes start m place h =
    cause e (char_strings start m bytes place) _ _ h (λ h. inl (no_char_strings e bytes start m place h)) (λ i next is h.
    cause e (char_set start (length i.items) m bytes next) _ _ h
    (λ h. inr (i, next, char_strings_has start m bytes i place next is, no_char_set e bytes start (length i.items) m next h))
    (λ s at is h. absurd h))

module _ (d : ReadsDictionaries) where
  pub no_map : (e : Error) (held bytes : List ℕ) (place : ℕ) → RefusedAs e (map_of held bytes place) → IsRefused held 0 (refusal_of e)
  unfolding map_of
  no_map e held bytes place h = grind arith

  no_private : (e : Error) (bytes : List ℕ) (start : ℕ) (m : Dictionary) (place : ℕ) → RefusedAs e (private start m bytes place) →
      NoPrivate e bytes start m
  unfolding private
  no_private e bytes start m place h =
      cause e (bounds start m bytes place) _ _ h (λ h. PrivateBounds (no_bounds e start m bytes place h))
      (λ b from is h. let p = bounds_has start m b bytes place from is in
      cause e (bytes_at b.2 b.0 bytes from) _ _ h
      (λ h. let s = no_slice e b.0 b.2 bytes from h in PrivateSlice b.0 b.1 p.0 p.2 s.0 (subst (RefusedAt e (slice b.0) bytes) p.1 s.1))
      (λ held to cut h.
      cause e (map_of held bytes to) _ _ h
      (λ h. PrivateRefused b.0 b.1 held p.0 p.2 (subst (λ k. IsSlice bytes k b.0 held) p.1 (slice_has b.0 b.2 held bytes from to cut))
      (no_map e held bytes to h)) (λ local at is h. absurd h)))

  no_own_locals : (manner : Manner) (e : Error) (bytes : List ℕ) (start : ℕ) (m : Dictionary) (place : ℕ) →
      RefusedAs e (own_locals manner start m bytes place) →
      NoPrivate e bytes start m ⊎ ((offset : ℕ) × (local : Dictionary) × HasPrivate bytes start m offset local × IsSought manner
      (first_of (look local operators.Subrs)) × NoSubroutines e bytes start offset local)
  unfolding own_locals
  no_own_locals manner e bytes start m place h =
      cause e (private start m bytes place) _ _ h (λ h. inl (no_private e bytes start m place h)) (λ p from is h.
      cause e (own_subroutines manner start p.0 p.1 bytes from) _ _ h
      (λ h. let n = no_own_subroutines manner e bytes start p.0 p.1 from h in
      inr (p.0, p.1, private_has d start m p.0 p.1 bytes place from is, n.0, n.1)) (λ s at is h. absurd h))

  no_locals : (manner : Manner) (e : Error) (bytes : List ℕ) (start : ℕ) (m : Dictionary) (place : ℕ) →
      RefusedAs e (locals manner start m bytes place)
      → (IsSought manner (first_two_of (look m operators.Private)) × NoPrivate e bytes start
      m) ⊎ ((offset : ℕ) × (local : Dictionary) × HasPrivate bytes start m offset local × IsSought manner
      (first_of (look local operators.Subrs)) × NoSubroutines e bytes start offset local)
  unfolding locals
  no_locals manner e bytes start m place h = by (goes_without manner (first_two_of (look m operators.Private))) refl h
    where
      own : IsSought manner (first_two_of (look m operators.Private)) →
          NoPrivate e bytes start m ⊎ ((offset : ℕ) × (local : Dictionary) × HasPrivate bytes start m offset local × IsSought manner
          (first_of (look local operators.Subrs)) × NoSubroutines e bytes start offset local)
          → (IsSought manner (first_two_of (look m operators.Private)) × NoPrivate e bytes start
          m) ⊎ ((offset : ℕ) × (local : Dictionary) × HasPrivate bytes start m offset local × IsSought manner
          (first_of (look local operators.Subrs)) × NoSubroutines e bytes start offset local)
      own sought (inl h) = inl (sought, h)
      own sought (inr h) = inr h

      by : (b : Bool) → goes_without manner (first_two_of (look m operators.Private)) ≡ b →
          RefusedAs e ((if b then pure (dictionary_of [], empty) else own_locals manner start m) bytes place)
          → (IsSought manner (first_two_of (look m operators.Private)) × NoPrivate e bytes start
          m) ⊎ ((offset : ℕ) × (local : Dictionary) × HasPrivate bytes start m offset local × IsSought manner
          (first_of (look local operators.Subrs)) × NoSubroutines e bytes start offset local)
      by true t h = absurd h
      by false t h = own (none_lacking manner (first_two_of (look m operators.Private)) t) (no_own_locals manner e bytes start m place h)

  no_part : (manner : Manner) (e : Error) (bytes : List ℕ) (start : ℕ) (m : Dictionary) (place : ℕ) →
      RefusedAs e (part manner start m bytes place) → NoPart manner e bytes start m
  unfolding part
  no_part manner e bytes start m place h =
      cause e (encoding m bytes place) _ _ h (λ h. OfEncoding (no_encoding e m bytes place h))
      (λ x from is h. let has = (encoding_has m x bytes place from is).0 in
      cause e (glyphs start m bytes from) _ _ h (λ h. of_glyphs x has (no_glyphs e bytes start m from h))
      (λ g to stand h. let have = glyphs_have d bytes start m g.0 g.1 from to stand in
      cause e (locals manner start m bytes to) _ _ h
      (λ h. of_locals x g.0 have.0 g.1 has have.1 have.2 (no_locals manner e bytes start m to h)) (λ l at is h. absurd h)))
    where
      of_glyphs : (x : Encoding) → HasEncoding m x →
          NoCharStrings e bytes start
          m ⊎ ((i : Index) × (next : ℕ) × HasCharStrings bytes start m i next × NoCharSet e bytes start (length i.items) m) →
          NoPart manner e bytes start m
      of_glyphs x has (inl h) = OfStrings x has h
      of_glyphs x has (inr h) = OfSet x h.0 h.1 has h.2 h.3

      of_locals : (x : Encoding) (i : Index) (next : ℕ) (s : CharSet) → HasEncoding m x → HasCharStrings bytes start m i next →
          HasCharSet bytes start (length i.items) m s →
          (IsSought manner (first_two_of (look m operators.Private)) × NoPrivate e bytes start
          m) ⊎ ((offset : ℕ) × (local : Dictionary) × HasPrivate bytes start m offset local × IsSought manner
          (first_of (look local operators.Subrs)) × NoSubroutines e bytes start offset local) →
          NoPart manner e bytes start m
      of_locals x i next s has strings set (inl h) = OfPrivate x i next s has strings set h.0 h.1
      of_locals x i next s has strings set (inr h) = OfSubroutines x i next s h.0 h.1 has strings set h.2 h.3 h.4

  no_parts : (manner : Manner) (e : Error) (bytes : List ℕ) (start : ℕ) (ms : List Dictionary) (place : ℕ) →
      RefusedAs e (each (part manner start) ms bytes place) → NoParts manner e bytes start ms
  unfolding each
  no_parts manner e bytes start [] place h = absurd h
  no_parts manner e bytes start (m ∷ ms) place h =
      cause e (part manner start m bytes place) _ _ h (λ h. inl (no_part manner e bytes start m place h)) (λ p next is h.
      cause e (each (part manner start) ms bytes next) _ _ h
      (λ h. inr (p, next, part_has d manner bytes start m p place next is, no_parts manner e bytes start ms next h))
      (λ ps at is h. absurd h))

  -- ---- what stands behind the header
  no_tables : (e : Error) (bytes : List ℕ) (there place : ℕ) → RefusedAs e (tables there bytes place) → NoTables e bytes there
  unfolding tables names dictionaries
  no_tables e bytes there place h =
      cause e (names there bytes place) _ _ h
      (λ h. cause e (at there index bytes place) _ _ h (λ h. OfNames (refused_at e there index bytes place h)) (λ i at is h. absurd h))
      (λ n from is h. let i = named n from is in
      cause e (dictionaries bytes from) _ _ h
      (λ h. cause e (index bytes from) _ _ h (OfItems i.0 from i.1)
      (λ j to stands h. OfDictionaries i.0 j from to i.1 (index_is from j to stands) (grind (arith, reads_items))))
      (λ ms to are h. let j = mapped ms from to are in
      cause e (index bytes to) _ _ h (OfStringList i.0 j.0 ms from to i.1 j.1 j.2)
      (λ s at stand h. cause e (index bytes at) _ _ h (OfGlobalList i.0 j.0 s ms from to at i.1 j.1 j.2 (index_is to s at stand))
      (λ g end is h. absurd h))))
    where
      index_is : (from : ℕ) (i : Index) (to : ℕ) → index bytes from ≡ Got i to → IsIndex bytes from i to
      index_is from i to e = reads_indices.only bytes from i to e

      named : (n : List (List ℕ)) (from : ℕ) → names there bytes place ≡ Got n from → (i : Index) × IsIndex bytes there i from
      named n from is =
          let h = accepted (Step (at there index) (λ i. Done (map text i.items))) bytes place n from is in
          (h.0, subst (λ k. IsIndex bytes there h.0 k) h.3.1 (index_at_has there bytes place h.0 h.1 h.2))

      mapped : (ms : List Dictionary) (from to : ℕ) → dictionaries bytes from ≡ Got ms to →
          (i : Index) × IsIndex bytes from i to × AreDictionaries i.items ms
      mapped ms from to is = grind (arith, accepted, reads_items, index_is)

  -- ---- a font
  pub no_font : (manner : Manner) (e : Error) (bytes : List ℕ) (start : ℕ) → RefusedAs e (font_by manner bytes start) →
      NoFontBy manner e bytes start
  unfolding font_by behind parts
  no_font manner e bytes start h = cause e (header bytes start) _ _ h OfHeader (λ hd from is h. cause e (behind start hd bytes from) _ _ h
      (λ h. cause e (in_range (start + hd.header_size) bytes from) _ _ h
      (λ h. let r = no_range e (start + hd.header_size) bytes from h in HeaderSize hd from is r.0 r.1)
      (λ there to here h. let r = in_range_has (start + hd.header_size) there bytes from to here in
      OfTables hd from is r.1 (subst (NoTables e bytes) (sym r.0) (no_tables e bytes there to h))))
      (λ t to stand h. cause e (parts manner start t.dictionaries bytes to) _ _ h
      (λ h. cause e (each (part manner start) t.dictionaries bytes to) _ _ h (no_columns hd from t to is stand) (λ ps at is h. absurd h))
      (λ c at is h. absurd h)))
    where
      no_columns : (hd : Header) (from : ℕ) (t : Tables) (to : ℕ) → header bytes start ≡ Got hd from →
          behind start hd bytes from ≡ Got t to → RefusedAs e (each (part manner start) t.dictionaries bytes to) →
          NoFontBy manner e bytes start
      no_columns hd from t to is stand h =
          let b = accepted (Step (in_range (start + hd.header_size)) (λ there. Last (tables there))) bytes from t to stand in
          let r = in_range_has (start + hd.header_size) b.0 bytes from b.1 b.2 in
          OfParts hd from t to is r.1 (subst (λ k. AreTables bytes k t to) (sym r.0) (tables_have d bytes b.0 t b.1 to b.3))
          (no_parts manner e bytes start t.dictionaries to h)

-- ---- and the other way: a font is refused for the first step of the layout that fails
at_refused : {A : Type 0} (e : Error) (there : ℕ) (reading : Reading A) (bytes : List ℕ) (place : ℕ) → RefusedAt e reading bytes there →
    RefusedAs e (at there reading bytes place)
unfolding at
at_refused e there reading bytes place h0 = grind arith

-- ---- operands and places
first_refused : (e : Error) (m : Dictionary) (op : Operator) (bytes : List ℕ) (place : ℕ) → NoFirst e m op →
    RefusedAs e (first m op bytes place)
unfolding first
first_refused e m op bytes place h0 = grind arith

range_refused : (e : Error) (p : ℕ) (bytes : List ℕ) (place : ℕ) → refusal_of e ≡ out_of_range_offset → (IsPlace p → ⊥) →
    RefusedAs e (in_range p bytes place)
range_refused e p bytes place h far = grind arith

offset_refused : (e : Error) (start base : ℕ) (m : Dictionary) (op : Operator) (bytes : List ℕ) (place : ℕ) → NoOffset e start base m op →
    RefusedAs e (place_at start base m op bytes place)
unfolding place_at
offset_refused e start base m op bytes place (OfOperand h) = refused_after (first m op bytes place) _ e (first_refused e m op bytes place h)
offset_refused e start base m op bytes place (OutOfRange z has h) = rw (first_is m op z bytes place has) (grind arith)

-- operands that are sought are not gone without
sought_is : {A : Type 0} (manner : Manner) (o : Option A) → IsSought manner o → goes_without manner o ≡ false
sought_is manner o h = grind arith

-- ---- encodings
encoding_refused : (e : Error) (m : Dictionary) (bytes : List ℕ) (place : ℕ) → NoEncoding e m → RefusedAs e (encoding m bytes place)
unfolding encoding
encoding_refused e m bytes place (EncodingOperand h) =
    refused_after (first m operators.Encoding bytes place) _ e (first_refused e m operators.Encoding bytes place h)
encoding_refused e m bytes place (OtherEncoding z has not_0 not_1 h) = rw (first_is m operators.Encoding z bytes place has) (grind arith)

-- ---- char strings
strings_placed : (start n : ℕ) (m : Dictionary) (bytes : List ℕ) (place : ℕ) → HasFirst m operators.CharStrings (pos n) →
    IsPlace (start + n) → place_at start 0 m operators.CharStrings bytes place ≡ Got (start + n) place
strings_placed start n m bytes place has fits =
    let sum : pos 0 +ℤ pos n ≡ pos n = omega (arith, ints) in placed_is start 0 m operators.CharStrings (pos n) n bytes place has sum fits

char_strings_refused : (e : Error) (bytes : List ℕ) (start : ℕ) (m : Dictionary) (place : ℕ) → NoCharStrings e bytes start m →
    RefusedAs e (char_strings start m bytes place)
unfolding char_strings type_two
char_strings_refused e bytes start m place (StringsOffset h) =
    refused_after (place_at start 0 m operators.CharStrings bytes place) _ e
    (offset_refused e start 0 m operators.CharStrings bytes place h)
char_strings_refused e bytes start m place (TypeOperand n has fits h) =
    rw (strings_placed start n m bytes place has fits)
    (refused_after (type_two m bytes place) _ e
    (refused_after (first m operators.CharStringType bytes place) _ e (first_refused e m operators.CharStringType bytes place h)))
char_strings_refused e bytes start m place (OtherType n z has fits is other h) =
    rw (strings_placed start n m bytes place has fits)
    (refused_after (type_two m bytes place) _ e (rw (first_is m operators.CharStringType z bytes place is) (grind arith)))
char_strings_refused e bytes start m place (StringsRefused n has fits is h) =
    rw (strings_placed start n m bytes place has fits, type_is m bytes place is) (at_refused e (start + n) index bytes place h)

-- ---- char sets
set_offset_is : (m : Dictionary) (n : ℕ) (bytes : List ℕ) (place : ℕ) → HasFirst m operators.CharSet (pos n) →
    char_set_offset m bytes place ≡ Got n place
unfolding char_set_offset
set_offset_is m n bytes place has = rw (first_is m operators.CharSet (pos n) bytes place has) refl

char_set_refused : (e : Error) (bytes : List ℕ) (start glyphs : ℕ) (m : Dictionary) (place : ℕ) → NoCharSet e bytes start glyphs m →
    RefusedAs e (char_set start glyphs m bytes place)
unfolding char_set char_set_offset own_char_set
char_set_refused e bytes start glyphs m place (SetOperand h) =
    refused_after (char_set_offset m bytes place) _ e
    (refused_after (first m operators.CharSet bytes place) _ e (first_refused e m operators.CharSet bytes place h))
char_set_refused e bytes start glyphs m place (SetNegative n has h) =
    refused_after (char_set_offset m bytes place) _ e (rw (first_is m operators.CharSet (negsuc n) bytes place has) h)
char_set_refused e bytes start glyphs m place (SetFar n has own far h) =
    let t = from_3 n own in rw (set_offset_is m n bytes place has, t.0, t.1, t.2)
    (refused_after (in_range (start + n) bytes place) _ e (range_refused e (start + n) bytes place h far))
char_set_refused e bytes start glyphs m place (SetRefused n has own fits h) =
    let t = from_3 n own in rw (set_offset_is m n bytes place has, t.0, t.1, t.2)
    (rw (in_range_is (start + n) bytes place fits) (at_refused e (start + n) (the_set glyphs) bytes place h))

-- ---- the local subroutines
subroutines_refused : (e : Error) (bytes : List ℕ) (start base : ℕ) (local : Dictionary) (place : ℕ) →
    NoSubroutines e bytes start base local → RefusedAs e (subroutines start base local bytes place)
unfolding subroutines
subroutines_refused e bytes start base local place (SubrsOffset h) =
    refused_after (place_at start base local operators.Subrs bytes place) _ e
    (offset_refused e start base local operators.Subrs bytes place h)
subroutines_refused e bytes start base local place (SubrsRefused z n has sum fits h) =
    rw (placed_is start base local operators.Subrs z n bytes place has sum fits) (at_refused e (start + n) index bytes place h)

-- ---- the private dictionary
bounds_refused : (e : Error) (start : ℕ) (m : Dictionary) (bytes : List ℕ) (place : ℕ) → NoBounds e start m →
    RefusedAs e (bounds start m bytes place)
unfolding bounds two
bounds_refused e start m bytes place h0 = grind arith

-- ---- what stands behind the header, name by name
names_are : (bytes : List ℕ) (there place : ℕ) (i : Index) (next : ℕ) → IsIndex bytes there i next →
    names there bytes place ≡ Got (map text i.items) next
unfolding names
names_are bytes there place i next h = rw (index_at_is there bytes place i next h) refl

-- two refusals of one outcome are for one cause
alike : {A : Type 0} (o : Outcome A) (e g : Error) → RefusedAs e o → RefusedAs g o →
    (refusal_of e ≡ refusal_of g) ⊎ ((code e ≤ 2) × (code g ≤ 2))
alike (Got value next) e g a b = absurd a
alike (Fault refusal) e g a b = inl (a ∙ sym b)
alike Past e g a b = inr (a, b)

module _ (d : ReadsDictionaries) where
  private_refused : (e : Error) (bytes : List ℕ) (start : ℕ) (m : Dictionary) (place : ℕ) → NoPrivate e bytes start m →
      RefusedAs e (private start m bytes place)
  unfolding private bytes_at map_of
  private_refused e bytes start m place (PrivateBounds h) =
      refused_after (bounds start m bytes place) _ e (bounds_refused e start m bytes place h)
  private_refused e bytes start m place (PrivateSlice size offset has fits some h) =
      rw (bounds_is start m size offset bytes place has fits)
      (refused_after (bytes_at (start + offset) size bytes place) _ e
      (let any : (size == 0) ≡ false = grind (arith, nat_tests) in rw any (at_refused e (start + offset) (slice size) bytes place h)))
  private_refused e bytes start m place (PrivateRefused size offset held has fits cut h) =
      let s = slice_is size (start + offset) held bytes place cut in
      rw (bounds_is start m size offset bytes place has fits, s.1)
      (refused_after (map_of held bytes s.0) _ e (rw (d.refused held 0 (refusal_of e) h) refl))

  -- ---- a part, and all parts
  without_subroutines : (manner : Manner) (e : Error) (bytes : List ℕ) (start offset : ℕ) (m local : Dictionary) (place : ℕ) →
      HasPrivate bytes start m offset local → IsSought manner (first_of (look local operators.Subrs)) →
      NoSubroutines e bytes start offset local → RefusedAs e (locals manner start m bytes place)
  unfolding locals own_locals own_subroutines
  without_subroutines manner e bytes start offset m local place stands sought h =
      let p = private_is d start offset m local bytes place stands in
      let a = there_is manner (first_two_of (look m operators.Private)) _ stands.2.2 in
      let b = sought_is manner (first_of (look local operators.Subrs)) sought in
      rw (a, p.1, b) (refused_after (subroutines start offset local bytes p.0) _ e (subroutines_refused e bytes start offset local p.0 h))

  no_set : (e : Error) (bytes : List ℕ) (start : ℕ) (m : Dictionary) (i : Index) (place next : ℕ) → HasCharStrings bytes start m i next →
      NoCharSet e bytes start (length i.items) m → RefusedAs e (glyphs start m bytes place)
  unfolding glyphs
  no_set e bytes start m i place next has h =
      rw (char_strings_is start m bytes i place next has)
      (refused_after (char_set start (length i.items) m bytes next) _ e (char_set_refused e bytes start (length i.items) m next h))

  glyphs_are : (bytes : List ℕ) (start : ℕ) (m : Dictionary) (i : Index) (s : CharSet) (place next : ℕ) →
      HasCharStrings bytes start m i next → HasCharSet bytes start (length i.items) m s →
      (to : ℕ) × (glyphs start m bytes place ≡ Got (i, s) to)
  unfolding glyphs
  glyphs_are bytes start m i s place next has stands =
      let set = char_set_is start (length i.items) m bytes s next stands in
      (set.0, rw (char_strings_is start m bytes i place next has, set.1) refl)

  part_refused : (manner : Manner) (e : Error) (bytes : List ℕ) (start : ℕ) (m : Dictionary) (place : ℕ) → NoPart manner e bytes start m →
      RefusedAs e (part manner start m bytes place)
  unfolding part locals own_locals glyphs
  part_refused manner e bytes start m place (OfEncoding h) = refused_after (encoding m bytes place) _ e (encoding_refused e m bytes place h)
  part_refused manner e bytes start m place (OfStrings x has h) =
      rw (encoding_is m x bytes place has)
      (refused_after (glyphs start m bytes place) _ e
      (refused_after (char_strings start m bytes place) _ e (char_strings_refused e bytes start m place h)))
  part_refused manner e bytes start m place (OfSet x i next has strings h) =
      rw (encoding_is m x bytes place has) (refused_after (glyphs start m bytes place) _ e (no_set e bytes start m i place next strings h))
  part_refused manner e bytes start m place (OfPrivate x i next s has strings set sought h) =
      let g = glyphs_are bytes start m i s place next strings set in
      rw (encoding_is m x bytes place has, g.1)
      (refused_after (locals manner start m bytes g.0) _ e
      (rw (sought_is manner (first_two_of (look m operators.Private)) sought)
      (refused_after (private start m bytes g.0) _ e (private_refused e bytes start m g.0 h))))
  part_refused manner e bytes start m place (OfSubroutines x i next s offset local has strings set stands sought h) =
      let g = glyphs_are bytes start m i s place next strings set in
      rw (encoding_is m x bytes place has, g.1)
      (refused_after (locals manner start m bytes g.0) _ e (without_subroutines manner e bytes start offset m local g.0 stands sought h))

  each_refused : (manner : Manner) (e : Error) (bytes : List ℕ) (start : ℕ) (ms : List Dictionary) (place : ℕ) →
      NoParts manner e bytes start ms → RefusedAs e (each (part manner start) ms bytes place)
  unfolding each
  each_refused manner e bytes start [] place h = absurd h
  each_refused manner e bytes start (m ∷ ms) place (inl h) =
      refused_after (part manner start m bytes place) _ e (part_refused manner e bytes start m place h)
  each_refused manner e bytes start (m ∷ ms) place (inr h) =
      let one = part_is d manner bytes start m h.0 place h.1 h.2 in
      rw one.1 (refused_after (each (part manner start) ms bytes one.0) _ e (each_refused manner e bytes start ms one.0 h.3))

  -- ---- what stands behind the header
  maps_are : (bytes : List ℕ) (i : Index) (maps : List Dictionary) (place next : ℕ) → IsIndex bytes place i next →
      AreDictionaries i.items maps → dictionaries bytes place ≡ Got maps next
  unfolding dictionaries
  maps_are bytes i maps place next is are =
      rw (reads_indices.all bytes place i next is, (reads_items d).all i.items maps bytes next are) refl

  tables_refused : (e : Error) (bytes : List ℕ) (there place : ℕ) → NoTables e bytes there → RefusedAs e (tables there bytes place)
  unfolding tables names dictionaries
  tables_refused e bytes there place (OfNames h) =
      refused_after (names there bytes place) _ e (refused_after (at there index bytes place) _ e (at_refused e there index bytes place h))
  tables_refused e bytes there place (OfItems n from is h) =
      rw (names_are bytes there place n from is) (refused_after (dictionaries bytes from) _ e (refused_after (index bytes from) _ e h))
  tables_refused e bytes there place (OfDictionaries n i from next is items h) =
      rw (names_are bytes there place n from is)
      (refused_after (dictionaries bytes from) _ e
      (rw (reads_indices.all bytes from i next items, (reads_items d).refused i.items (refusal_of e) bytes next h) refl))
  tables_refused e bytes there place (OfStringList n i maps from next is items are h) =
      rw (names_are bytes there place n from is, maps_are bytes i maps from next items are) (refused_after (index bytes next) _ e h)
  tables_refused e bytes there place (OfGlobalList n i s maps from next to is items are strings h) =
      rw (names_are bytes there place n from is, maps_are bytes i maps from next items are, reads_indices.all bytes next s to strings)
      (refused_after (index bytes to) _ e h)

  behind_is : (start : ℕ) (hd : Header) (bytes : List ℕ) (place : ℕ) (t : Tables) (next : ℕ) → IsPlace (start + hd.header_size) →
      AreTables bytes (start + hd.header_size) t next → behind start hd bytes place ≡ Got t next
  unfolding behind
  behind_is start hd bytes place t next fits h =
      rw (in_range_is (start + hd.header_size) bytes place fits) (tables_are d bytes (start + hd.header_size) t place next h)

  -- ---- a font
  font_refused : (manner : Manner) (e : Error) (bytes : List ℕ) (start : ℕ) → NoFontBy manner e bytes start →
      RefusedAs e (font_by manner bytes start)
  unfolding font_by behind parts
  font_refused manner e bytes start (OfHeader h) = refused_after (header bytes start) _ e h
  font_refused manner e bytes start (HeaderSize hd from is h far) = grind (arith, refused_after, range_refused)
  font_refused manner e bytes start (OfTables hd from is fits h) =
      rw is (refused_after (behind start hd bytes from) _ e
      (rw (in_range_is (start + hd.header_size) bytes from fits) (tables_refused e bytes (start + hd.header_size) from h)))
  font_refused manner e bytes start (OfParts hd from t to is fits stand h) =
      rw (is, behind_is start hd bytes from t to fits stand)
      (refused_after (parts manner start t.dictionaries bytes to) _ e
      (refused_after (each (part manner start) t.dictionaries bytes to) _ e (each_refused manner e bytes start t.dictionaries to h)))

  pub refuses_layout : RefusesLayout
  refuses_layout = record {
    both_ways = λ e bytes start. (no_font d Strict e bytes start, font_refused Strict e bytes start);
    leniently = λ e bytes start. (no_font d Lenient e bytes start, font_refused Lenient e bytes start);
    alone = λ manner e g bytes start a b. alike (font_by manner bytes start) e g (font_refused manner e bytes start a)
        (font_refused manner g bytes start b);
    no_font = λ e bytes start f next a stands. subst (RefusedAs e) (font_is d bytes start f next stands)
        (font_refused Strict e bytes start a);
    no_lenient_font = λ e bytes start f a stands. subst (RefusedAs e) (lenient_is d bytes start f stands).1
        (font_refused Lenient e bytes start a);
  }
