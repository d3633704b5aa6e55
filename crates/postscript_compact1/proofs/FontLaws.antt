-- The parts of a font are read exactly where they stand.
use Rattle.std.proofs.Common.{◌≡◌, ◌⊎◌, inl, inr, ℕ, zero, suc, ◌+◌, ◌-◌, ◌<◌, ◌≤◌, Bool, true, false, pos, ◌+ℤ◌, List, [], ◌∷◌, length, map, nat_lt, ◌==◌, if◌then◌else◌, refl, sym, ap, ◌∙◌, subst, arith}
use Rattle.std.proofs.lemmas.Int.{ints}
use Rattle.std.proofs.lemmas.Bool.Decides.{nat_tests}
use Rattle.postscript_base.specs.Numbers.{slice}
use Rattle.postscript_base.specs.Tape.At.{at, bytes_at, NeedsBytes}
use Rattle.postscript_base.specs.Tape.Loops.{each}
use Rattle.postscript_base.specs.Tape.Outcome.{Got, Reading, pure}
use Rattle.postscript_base.specs.Compact1.Defaults.{look, first_of, first_two_of}
use Rattle.postscript_base.specs.Compact1.Dictionary.{Dictionary, dictionary_of}
use Rattle.postscript_base.specs.Compact1.DictionaryLaw.{IsDictionary, ReadsDictionaries}
use Rattle.postscript_base.specs.Compact1.Header.{header}
use Rattle.postscript_base.specs.declared.compact1.operator.Operator.TheVariants as operators
use Rattle.postscript_compact1.specs.Index.{Index, index, empty}
use Rattle.postscript_compact1.specs.IndexAt.{IsIndex}
use Rattle.postscript_compact1.specs.Kinds.{map_of, maps_of}
use Rattle.postscript_compact1.specs.Texts.{text}
use Rattle.postscript_compact1.specs.CharSetAt.{IsCharSet}
use Rattle.postscript_compact1.specs.declared.char_set.CharSet.{CharSet}
use Rattle.postscript_compact1.specs.declared.encoding.Encoding.{Encoding}
use Rattle.postscript_compact1.specs.declared.font_set.manner.Manner.{Manner}
use Rattle.postscript_compact1.specs.declared.font_set.manner.Manner.TheVariants.{Strict, Lenient}
use Rattle.postscript_compact1.specs.FontSet.Operands.{goes_without, in_range}
use Rattle.postscript_compact1.specs.FontSet.Font.{Part, Tables, Font, columns, font_of}
use Rattle.postscript_compact1.specs.Computed.Order.{names, dictionaries, tables, behind, parts, font_by, font, lenient_font}
use Rattle.postscript_compact1.specs.Computed.Parts.{encoding, char_strings, own_char_set, char_set_of, char_set_offset, char_set, glyphs, private, subroutines, own_subroutines, own_locals, locals, part}
use Rattle.postscript_compact1.specs.FontSet.Layout.{AreTables, IsFontBy, IsFont, IsLenientFont, ReadsLayout, ReadsLeniently}
use Rattle.postscript_compact1.specs.FontSet.Parts.{HasFirst, IsSlice, IsPlace, HasEncoding, HasCharStrings, HasCharSet, Is_0, Is_1, Is_2, Own, HasPrivate, HasSubroutines, IsLacking, HasLocals, WithBoth, WithoutSubrs, WithoutPrivate, IsPart, AreParts}
use Rattle.postscript_compact1.proofs.CharSetIs.{char_set_needs}
use Rattle.postscript_compact1.proofs.CharSetRefused.{reads_char_sets}
use Rattle.postscript_compact1.proofs.IndexRefused.{reads_indices}
use Rattle.postscript_compact1.proofs.ItemsAre.{reads_items}
use Rattle.postscript_compact1.proofs.OperandLaws.{lacking_is, lacking_has, there_is, first_is, first_has, size_has, in_range_is, in_range_has, placed_is, placed_has, type_is, type_has, bounds_is, bounds_has}
use Rattle.postscript_compact1.proofs.Outcomes.{got}
use Rattle.postscript_compact1.proofs.Steps.{Done, Last, Step, accepted}

-- ---- other places
pub at_has : {A : Type 0} (there : ℕ) (reading : Reading A) (bytes : List ℕ) (place : ℕ) (x : A) (next : ℕ) →
    at there reading bytes place ≡ Got x next → reading bytes there ≡ Got x next
unfolding at
at_has there reading bytes place x next e = grind arith

pub at_is : {A : Type 0} (there : ℕ) (reading : Reading A) (bytes : List ℕ) (place : ℕ) (x : A) (next : ℕ) → NeedsBytes reading →
    reading bytes there ≡ Got x next → at there reading bytes place ≡ Got x next
unfolding at
at_is there reading bytes place x next needs e = grind arith

-- an INDEX at a place that is sought
pub index_at_is : (there : ℕ) (bytes : List ℕ) (place : ℕ) (i : Index) (next : ℕ) → IsIndex bytes there i next →
    at there index bytes place ≡ Got i next
index_at_is there bytes place i next h = at_is there index bytes place i next reads_indices.needs (reads_indices.all bytes there i next h)

pub index_at_has : (there : ℕ) (bytes : List ℕ) (place : ℕ) (i : Index) (next : ℕ) → at there index bytes place ≡ Got i next →
    IsIndex bytes there i next
index_at_has there bytes place i next e = reads_indices.only bytes there i next (at_has there index bytes place i next e)

-- ---- slices
pub slice_is : (size there : ℕ) (slice bytes : List ℕ) (place : ℕ) → IsSlice bytes there size slice →
    (next : ℕ) × (bytes_at there size bytes place ≡ Got slice next)
unfolding bytes_at at slice
slice_is size there held bytes place h = by (size == 0) refl
  where
    by : (b : Bool) → (size == 0) ≡ b → (next : ℕ) × ((if b then pure [] else at there (slice size)) bytes place ≡ Got held next)
    by true t = let none : size ≡ 0 = grind (arith, nat_tests) in (place, rw (h.1, none) refl)
    by false t =
        let some : 0 < size = grind (arith, nat_tests) in
        let within = h.0 some in
        let here : nat_lt (length bytes) there ≡ false = grind (arith, nat_tests) in
        let enough : nat_lt (length bytes - there) size ≡ false = grind (arith, nat_tests) in
        (there + size, rw (here, enough, h.1) refl)

pub slice_has : (size there : ℕ) (held bytes : List ℕ) (place next : ℕ) → bytes_at there size bytes place ≡ Got held next →
    IsSlice bytes there size held
unfolding bytes_at at slice
slice_has size there held bytes place next e = grind arith

-- ---- encodings
pub encoding_is : (m : Dictionary) (e : Encoding) (bytes : List ℕ) (place : ℕ) → HasEncoding m e → encoding m bytes place ≡ Got e place
unfolding encoding
encoding_is m e bytes place (inl h) = rw (first_is m operators.Encoding (pos 0) bytes place h.0, h.1) refl
encoding_is m e bytes place (inr h) = rw (first_is m operators.Encoding (pos 1) bytes place h.0, h.1) refl

pub encoding_has : (m : Dictionary) (x : Encoding) (bytes : List ℕ) (place next : ℕ) → encoding m bytes place ≡ Got x next →
    HasEncoding m x × (place ≡ next)
unfolding encoding
encoding_has m x bytes place next e = grind (arith, accepted, first_has)

-- ---- char strings
pub char_strings_is : (start : ℕ) (m : Dictionary) (bytes : List ℕ) (i : Index) (place next : ℕ) → HasCharStrings bytes start m i next →
    char_strings start m bytes place ≡ Got i next
unfolding char_strings
char_strings_is start m bytes i place next h =
    let sum : pos 0 +ℤ pos h.0 ≡ pos h.0 = omega (arith, ints) in
    rw (placed_is start 0 m operators.CharStrings (pos h.0) h.0 bytes place h.1 sum h.3, type_is m bytes place h.2)
    (index_at_is (start + h.0) bytes place i next h.4)

pub char_strings_has : (start : ℕ) (m : Dictionary) (bytes : List ℕ) (i : Index) (place next : ℕ) →
    char_strings start m bytes place ≡ Got i next → HasCharStrings bytes start m i next
unfolding char_strings
char_strings_has start m bytes i place next e = grind (arith, accepted, placed_has, ints, type_has, index_at_has)

-- ---- char sets
own_is : (start glyphs offset : ℕ) (bytes : List ℕ) (set : CharSet) (place next : ℕ) → IsPlace (start + offset) →
    IsCharSet bytes (start + offset) glyphs set next → own_char_set start glyphs offset bytes place ≡ Got set next
unfolding own_char_set
own_is start glyphs offset bytes set place next fits h = grind (arith, in_range_is, at_is, char_set_needs, reads_char_sets)

own_has : (start glyphs offset : ℕ) (bytes : List ℕ) (set : CharSet) (place next : ℕ) →
    own_char_set start glyphs offset bytes place ≡ Got set next →
    IsPlace (start + offset) × IsCharSet bytes (start + offset) glyphs set next
unfolding own_char_set
own_has start glyphs offset bytes set place next e = grind (arith, accepted, in_range_has, reads_char_sets, at_has)

-- an offset from 3 on names none of the three sets
pub from_3 : (n : ℕ) → 3 ≤ n → ((n == 0) ≡ false) × ((n == 1) ≡ false) × ((n == 2) ≡ false)
from_3 n far = grind (arith, nat_tests)

-- behind it the tape stands anywhere
pub char_set_is : (start glyphs : ℕ) (m : Dictionary) (bytes : List ℕ) (set : CharSet) (place : ℕ) → HasCharSet bytes start glyphs m set →
    (next : ℕ) × (char_set start glyphs m bytes place ≡ Got set next)
unfolding char_set char_set_offset
char_set_is start glyphs m bytes set place (Is_0 h is) = (place, rw (first_is m operators.CharSet (pos 0) bytes place h, is) refl)
char_set_is start glyphs m bytes set place (Is_1 h is) = (place, rw (first_is m operators.CharSet (pos 1) bytes place h, is) refl)
char_set_is start glyphs m bytes set place (Is_2 h is) = (place, rw (first_is m operators.CharSet (pos 2) bytes place h, is) refl)
char_set_is start glyphs m bytes set place (Own offset next h far fits stands) =
    let t = from_3 offset far in (
      next,
      rw (first_is m operators.CharSet (pos offset) bytes place h, t.0, t.1, t.2)
          (own_is start glyphs offset bytes set place next fits stands),
    )

pub char_set_has : (start glyphs : ℕ) (m : Dictionary) (bytes : List ℕ) (set : CharSet) (place next : ℕ) →
    char_set start glyphs m bytes place ≡ Got set next → HasCharSet bytes start glyphs m set
unfolding char_set char_set_offset
char_set_has start glyphs m bytes set place next e =
    let o = accepted (Step (char_set_offset m) (λ offset. Last (char_set_of start glyphs offset))) bytes place set next e in
    let one : HasFirst m operators.CharSet (pos o.0) = (let is = o.2 in grind (arith, accepted, size_has, first_has)) in
    by o.0 o.1 one o.3
  where
    by : (n from : ℕ) → HasFirst m operators.CharSet (pos n) → char_set_of start glyphs n bytes from ≡ Got set next →
        HasCharSet bytes start glyphs m set
    by zero from h e = Is_0 h (sym (got _ _ _ _ e).0)
    by (suc zero) from h e = Is_1 h (sym (got _ _ _ _ e).0)
    by (suc (suc zero)) from h e = Is_2 h (sym (got _ _ _ _ e).0)
    by (suc (suc (suc n))) from h e =
        let t = from_3 (suc (suc (suc n))) (omega arith) in
        let own = own_has start glyphs (suc (suc (suc n))) bytes set from next (rw (t.0, t.1, t.2) at e) in
        Own (suc (suc (suc n))) next h (omega arith) own.0 own.1

-- ---- the local subroutines
pub subroutines_is : (start base : ℕ) (local : Dictionary) (bytes : List ℕ) (s : Index) (place next : ℕ) →
    HasSubroutines bytes start base local s next → subroutines start base local bytes place ≡ Got s next
unfolding subroutines
subroutines_is start base local bytes s place next h =
    rw (placed_is start base local operators.Subrs h.0 h.1 bytes place h.2 h.3 h.4) (index_at_is (start + h.1) bytes place s next h.5)

-- ---- the next place, which a lenient reading leaves open
abbrev IsNext : Manner → ℕ → ℕ → Type 0
IsNext Strict next to = next ≡ to
IsNext Lenient next to = Unit {0}

-- ---- a font that lacks nothing is one that may lack something
wider_locals : (bytes : List ℕ) (start : ℕ) (m local : Dictionary) (s : Index) (next : ℕ) → HasLocals Strict bytes start m local s next →
    HasLocals Lenient bytes start m local s next
wider_locals bytes start m local s next (WithBoth offset private stands) = WithBoth offset private stands
wider_locals bytes start m local s next (WithoutSubrs offset private lacking none) = grind arith
wider_locals bytes start m local s next (WithoutPrivate lacking no_operations none) = grind arith

wider_parts : (bytes : List ℕ) (start : ℕ) (ms : List Dictionary) (ps : List Part) (place next : ℕ) →
    AreParts Strict bytes start ms ps place next → AreParts Lenient bytes start ms ps place next
wider_parts bytes start [] [] place next h = h
wider_parts bytes start [] (p ∷ ps) place next h = absurd h
wider_parts bytes start (m ∷ ms) [] place next h = absurd h
wider_parts bytes start (m ∷ ms) (p ∷ ps) place next h =
    let locals = wider_locals bytes start m p.local_dictionary p.local_subroutines h.0 h.1.locals in (
      h.0,
      record {
        char_strings_next = h.1.char_strings_next;
        encoding = h.1.encoding;
        char_strings = h.1.char_strings;
        char_set = h.1.char_set;
        locals = locals;
      },
      wider_parts bytes start ms ps h.0 next h.2,
    )

-- ---- dictionaries, the readings of which are what the law says
module _ (d : ReadsDictionaries) where
  pub map_is : (held : List ℕ) (m : Dictionary) (bytes : List ℕ) (place : ℕ) → IsDictionary held 0 m → map_of held bytes place ≡ Got m place
  unfolding map_of
  map_is held m bytes place h = rw (d.all held 0 m h) refl

  -- ---- the private dictionary
  pub private_is : (start offset : ℕ) (m local : Dictionary) (bytes : List ℕ) (place : ℕ) → HasPrivate bytes start m offset local →
      (next : ℕ) × (private start m bytes place ≡ Got (offset, local) next)
  unfolding private
  private_is start offset m local bytes place h =
      let s = slice_is h.0 (start + offset) h.1 bytes place h.4 in
      (s.0, rw (bounds_is start m h.0 offset bytes place h.2 h.3, s.1, map_is h.1 local bytes s.0 h.5) refl)

  pub private_has : (start : ℕ) (m : Dictionary) (offset : ℕ) (local : Dictionary) (bytes : List ℕ) (place next : ℕ) →
      private start m bytes place ≡ Got (offset, local) next → HasPrivate bytes start m offset local
  unfolding private map_of
  private_has start m offset local bytes place next e = grind (arith, bounds_has, slice_has)

  -- ---- the private dictionary and the local subroutines
  locals_are : (manner : Manner) (bytes : List ℕ) (start : ℕ) (m local : Dictionary) (s : Index) (place next : ℕ) →
      HasLocals manner bytes start m local s next →
      (to : ℕ) × (locals manner start m bytes place ≡ Got (local, s) to) × IsNext manner next to
  unfolding locals own_locals own_subroutines
  locals_are manner bytes start m local s place next (WithBoth offset private stands) =
      let p = private_is start offset m local bytes place private in
      let a = there_is manner (first_two_of (look m operators.Private)) _ private.2.2 in
      let b = there_is manner (first_of (look local operators.Subrs)) _ stands.2.1 in
      (next, rw (a, p.1, b, subroutines_is start offset local bytes s p.0 next stands) refl, (grind arith))
  locals_are manner bytes start m local s place next (WithoutSubrs offset private lacking none) =
      let p = private_is start offset m local bytes place private in
      let a = there_is manner (first_two_of (look m operators.Private)) _ private.2.2 in
      let b = lacking_is manner (first_of (look local operators.Subrs)) lacking in
      (p.0, rw (a, p.1, b, none) refl, (grind arith))
  locals_are manner bytes start m local s place next (WithoutPrivate lacking no_operations none) =
      let a = lacking_is manner (first_two_of (look m operators.Private)) lacking in
      (place, rw (a, no_operations, none) refl, (grind arith))

  -- ---- a part
  pub part_is : (manner : Manner) (bytes : List ℕ) (start : ℕ) (m : Dictionary) (p : Part) (place next : ℕ) →
      IsPart manner bytes start m p next → (to : ℕ) × (part manner start m bytes place ≡ Got p to) × IsNext manner next to
  unfolding part glyphs
  part_is manner bytes start m p place next h =
      let set = char_set_is start (length p.char_strings.items) m bytes p.char_set h.char_strings_next h.char_set in
      let l = locals_are manner bytes start m p.local_dictionary p.local_subroutines set.0 next h.locals in
      let whole : part manner start m bytes place ≡ Got p l.0 =
      rw (
        encoding_is m p.encoding bytes place h.encoding,
        char_strings_is start m bytes p.char_strings place h.char_strings_next h.char_strings,
        set.1,
        l.1,
      ) refl in
      (l.0, whole, l.2)

  pub glyphs_have : (bytes : List ℕ) (start : ℕ) (m : Dictionary) (i : Index) (s : CharSet) (place next : ℕ) →
      glyphs start m bytes place ≡ Got (i, s) next →
      (at : ℕ) × HasCharStrings bytes start m i at × HasCharSet bytes start (length i.items) m s
  unfolding glyphs
  glyphs_have bytes start m i s place next e = grind (arith, char_strings_has, char_set_has)

  own_locals_have : (manner : Manner) (bytes : List ℕ) (start : ℕ) (m : Dictionary) (l : Dictionary × Index) (place next : ℕ) →
      own_locals manner start m bytes place ≡ Got l next → HasLocals manner bytes start m l.0 l.1 next
  unfolding own_locals own_subroutines subroutines
  own_locals_have manner bytes start m l place next e =
      subst (λ k. HasLocals manner bytes start m l.0 l.1 k) h.3.3.1
      (subst (λ (k : Dictionary × Index). HasLocals manner bytes start m k.0 k.1 h.3.1) h.3.3.0
      (by (grind (arith, lacking_has, got, accepted, placed_has, index_at_has))))
    where
      h : (p : ℕ × Dictionary) × (at : ℕ) × (private start m bytes place ≡ Got p
          at) × ((s : Index) × (to : ℕ) × (own_subroutines manner start p.0 p.1 bytes at ≡ Got s to) × (((p.1, s) ≡ l) × (to ≡ next)))
      h = accepted (Step (private start m) (λ p. Step (own_subroutines manner start p.0 p.1) (λ s. Done (p.1, s)))) bytes place l next e

      by : HasSubroutines bytes start h.0.0 h.0.1 h.3.0
          h.3.1 ⊎ (IsLacking manner (first_of (look h.0.1 operators.Subrs)) × (h.3.0 ≡ empty)) →
          HasLocals manner bytes start m h.0.1 h.3.0 h.3.1
      by (inl stands) = WithBoth h.0.0 (private_has start m h.0.0 h.0.1 bytes place h.1 h.2) stands
      by (inr none) = WithoutSubrs h.0.0 (private_has start m h.0.0 h.0.1 bytes place h.1 h.2) none.0 none.1

  locals_have : (manner : Manner) (bytes : List ℕ) (start : ℕ) (m : Dictionary) (l : Dictionary × Index) (place next : ℕ) →
      locals manner start m bytes place ≡ Got l next → HasLocals manner bytes start m l.0 l.1 next
  unfolding locals
  locals_have manner bytes start m l place next e = by (goes_without manner (first_two_of (look m operators.Private))) refl e
    where
      by : (b : Bool) → goes_without manner (first_two_of (look m operators.Private)) ≡ b →
          (if b then pure (dictionary_of [], empty) else own_locals manner start m) bytes place ≡ Got l next →
          HasLocals manner bytes start m l.0 l.1 next
      by true t e = grind arith
      by false t e = own_locals_have manner bytes start m l place next e

  pub part_has : (manner : Manner) (bytes : List ℕ) (start : ℕ) (m : Dictionary) (p : Part) (place next : ℕ) →
      part manner start m bytes place ≡ Got p next → IsPart manner bytes start m p next
  unfolding part
  part_has manner bytes start m p place next e =
      let h = accepted (Step (encoding m)
      (λ e. Step (glyphs start m)
      (λ g. Step (locals manner start m)
      (λ l. Done (record { encoding = e; char_strings = g.0; char_set = g.1; local_dictionary = l.0; local_subroutines = l.1 }))))) bytes
      place p next e in
      let g = glyphs_have bytes start m h.3.0.0 h.3.0.1 h.1 h.3.1 h.3.2 in
      let l = locals_have manner bytes start m h.3.3.0 h.3.1 h.3.3.1 h.3.3.2 in
      let q : Part = record {
        encoding = h.0;
        char_strings = h.3.0.0;
        char_set = h.3.0.1;
        local_dictionary = h.3.3.0.0;
        local_subroutines = h.3.3.0.1;
      } in
      let whole : IsPart manner bytes start m q
      h.3.3.1 = record {
        char_strings_next = g.0;
        encoding = (encoding_has m h.0 bytes place h.1 h.2).0;
        char_strings = g.1;
        char_set = g.2;
        locals = l;
      } in
      let end = h.3.3.3 in
      subst (λ k. IsPart manner bytes start m p k) end.1 (subst (λ k. IsPart manner bytes start m k h.3.3.1) end.0 whole)

  -- ---- all parts
  parts_are : (manner : Manner) (bytes : List ℕ) (start : ℕ) (ms : List Dictionary) (ps : List Part) (place next : ℕ) →
      AreParts manner bytes start ms ps place next → (at : ℕ) → IsNext manner place at
      → (to : ℕ) × (each (part manner start) ms bytes at ≡ Got ps to) × IsNext manner next to
  unfolding each
  parts_are manner bytes start [] [] place next h at here = (at, refl, subst (λ k. IsNext manner k at) h here)
  parts_are manner bytes start [] (p ∷ ps) place next h at here = absurd h
  parts_are manner bytes start (m ∷ ms) [] place next h at here = absurd h
  parts_are manner bytes start (m ∷ ms) (p ∷ ps) place next h at here =
      let one = part_is manner bytes start m p at h.0 h.1 in
      let rest = parts_are manner bytes start ms ps h.0 next h.2 one.0 one.2 in
      (rest.0, rw (one.1, rest.1) refl, rest.2)

  parts_have : (manner : Manner) (bytes : List ℕ) (start : ℕ) (ms : List Dictionary) (ps : List Part) (place next : ℕ) →
      each (part manner start) ms bytes place ≡ Got ps next → AreParts manner bytes start ms ps place next
  unfolding each
  parts_have manner bytes start [] [] place next e = (got _ _ _ _ e).1
  parts_have manner bytes start [] (p ∷ ps) place next e = absurd (cc)
  parts_have manner bytes start (m ∷ ms) ps place next e =
      let h = accepted (Step (part manner start m) (λ p. Step (each (part manner start) ms) (λ ps. Done (p ∷ ps)))) bytes place ps next e in
      let rest = parts_have manner bytes start ms h.3.0 h.1 h.3.1 h.3.2 in
      subst (λ k. AreParts manner bytes start (m ∷ ms) k place next) h.3.3.0
      (subst (λ k. AreParts manner bytes start (m ∷ ms) (h.0 ∷ h.3.0) place k) h.3.3.1
      (h.1, part_has manner bytes start m h.0 place h.1 h.2, rest))

  -- ---- what stands behind the header
  pub tables_are : (bytes : List ℕ) (there : ℕ) (t : Tables) (place next : ℕ) → AreTables bytes there t next →
      tables there bytes place ≡ Got t next
  unfolding tables names dictionaries
  tables_are bytes there t place next h =
      rw (
        index_at_is there bytes place h.names h.names_next h.are_names,
        sym h.texts,
        reads_indices.all bytes h.names_next h.dictionaries h.dictionaries_next h.are_items,
        (reads_items d).all h.dictionaries.items t.dictionaries bytes h.dictionaries_next h.are_dictionaries,
        reads_indices.all bytes h.dictionaries_next t.strings h.strings_next h.are_strings,
        reads_indices.all bytes h.strings_next t.subroutines next h.are_subroutines,
      ) refl

  pub tables_have : (bytes : List ℕ) (there : ℕ) (t : Tables) (place next : ℕ) → tables there bytes place ≡ Got t next →
      AreTables bytes there t next
  unfolding tables names dictionaries
  tables_have bytes there t place next e =
      let h = accepted (Step (names there)
      (λ n. Step dictionaries (λ ms. Step index
      (λ s. Step index (λ g. Done (record { names = n; dictionaries = ms; strings = s; subroutines = g })))))) bytes place t next e in
      let n = accepted (Step (at there index) (λ i. Done (map text i.items))) bytes place h.0 h.1 h.2 in
      let ds = h.3 in
      let m = accepted (Step index (λ i. Last (maps_of i.items))) bytes h.1 ds.0 ds.1 ds.2 in
      let maps = (reads_items d).only m.0.items ds.0 bytes m.1 ds.1 m.3 in
      let s = ds.3 in
      let g = s.3 in
      let q : Tables = record { names = h.0; dictionaries = ds.0; strings = s.0; subroutines = g.0 } in
      let whole : AreTables bytes there q g.1 = record {
        names = n.0;
        names_next = n.1;
        dictionaries = m.0;
        dictionaries_next = m.1;
        strings_next = s.1;
        are_names = index_at_has there bytes place n.0 n.1 n.2;
        texts = sym n.3.0;
        are_items = reads_indices.only bytes n.1 m.0 m.1 (subst (λ k. index bytes k ≡ Got m.0 m.1) (sym n.3.1) m.2);
        are_dictionaries = maps.0;
        are_strings = reads_indices.only bytes m.1 s.0 s.1 (subst (λ k. index bytes k ≡ Got s.0 s.1) maps.1 s.2);
        are_subroutines = reads_indices.only bytes s.1 g.0 g.1 g.2;
      } in
      let end = g.3 in
      subst (λ k. AreTables bytes there t k) end.1 (subst (λ k. AreTables bytes there k g.1) end.0 whole)

  -- ---- a font
  font_by_is : (manner : Manner) (bytes : List ℕ) (start : ℕ) (f : Font) (next : ℕ) → IsFontBy manner bytes start f next →
      (to : ℕ) × (font_by manner bytes start ≡ Got f to) × IsNext manner next to
  unfolding font_by behind parts
  font_by_is manner bytes start f next h =
      let ps = parts_are manner bytes start h.tables.dictionaries h.parts h.behind next h.are_parts h.behind (grind arith) in
      let whole : font_by manner bytes start ≡ Got f ps.0 =
      rw (
        h.header,
        in_range_is (start + f.header.header_size) bytes h.header_next h.place,
        tables_are bytes (start + f.header.header_size) h.tables h.header_next h.behind h.are_tables,
        ps.1,
        sym h.made_of,
      ) refl in
      (ps.0, whole, ps.2)

  pub font_by_has : (manner : Manner) (bytes : List ℕ) (start : ℕ) (f : Font) (next : ℕ) → font_by manner bytes start ≡ Got f next →
      IsFontBy manner bytes start f next
  unfolding font_by behind parts
  font_by_has manner bytes start f next e =
      let h = accepted (Step header
      (λ hd. Step (behind start hd) (λ t. Step (parts manner start t.dictionaries) (λ c. Done (font_of hd t c))))) bytes start f next e in
      let t = accepted (Step (in_range (start + h.0.header_size)) (λ there. Last (tables there))) bytes h.1 h.3.0 h.3.1 h.3.2 in
      let r = in_range_has (start + h.0.header_size) t.0 bytes h.1 t.1 t.2 in
      let c = accepted (Step (each (part manner start) h.3.0.dictionaries) (λ ps. Done (columns ps))) bytes h.3.1 h.3.3.0 h.3.3.1 h.3.3.2 in
      let whole : IsFontBy manner bytes start (font_of h.0 h.3.0 (columns c.0)) c.1 = record {
        header_next = h.1;
        tables = h.3.0;
        behind = h.3.1;
        parts = c.0;
        header = h.2;
        place = r.1;
        are_tables = subst (λ k. AreTables bytes k h.3.0 h.3.1) (sym r.0) (tables_have bytes t.0 h.3.0 t.1 h.3.1 t.3);
        are_parts = parts_have manner bytes start h.3.0.dictionaries c.0 h.3.1 c.1 c.2;
        made_of = refl;
      } in
      let is : font_of h.0 h.3.0 (columns c.0) ≡ f = ap (font_of h.0 h.3.0) c.3.0 ∙ h.3.3.3.0 in
      subst (λ k. IsFontBy manner bytes start f k) (c.3.1 ∙ h.3.3.3.1) (subst (λ k. IsFontBy manner bytes start k c.1) is whole)

  pub font_is : (bytes : List ℕ) (start : ℕ) (f : Font) (next : ℕ) → IsFont bytes start f next → font bytes start ≡ Got f next
  font_is bytes start f next h = let s = font_by_is Strict bytes start f next h in s.1 ∙ ap (λ k. Got f k) (sym s.2)

  pub font_has : (bytes : List ℕ) (start : ℕ) (f : Font) (next : ℕ) → font bytes start ≡ Got f next → IsFont bytes start f next
  font_has bytes start f next e = font_by_has Strict bytes start f next e

  pub reads_layout : ReadsLayout
  reads_layout = record {
    both_ways = λ bytes start f next. (font_has bytes start f next, font_is bytes start f next);
    alone = λ bytes start f g next other a b. got f g next other (sym (font_is bytes start f next a) ∙ font_is bytes start g other b);
  }

  -- ---- a font that may lack private dictionaries and local subroutines
  pub lenient_is : (bytes : List ℕ) (start : ℕ) (f : Font) → IsLenientFont bytes start f →
      (next : ℕ) × (lenient_font bytes start ≡ Got f next)
  lenient_is bytes start f h = let s = font_by_is Lenient bytes start f h.0 h.1 in (s.0, s.1)

  pub lenient_has : (bytes : List ℕ) (start : ℕ) (f : Font) (next : ℕ) → lenient_font bytes start ≡ Got f next → IsLenientFont bytes start f
  lenient_has bytes start f next e = (next, font_by_has Lenient bytes start f next e)

  pub reads_leniently : ReadsLeniently
  reads_leniently = record {
    both_ways = λ bytes start f. (λ h. lenient_has bytes start f h.0 h.1, lenient_is bytes start f);
    alone = λ bytes start f g a b. let x = lenient_is bytes start f a in let y = lenient_is bytes start g b in
        (got f g x.0 y.0 (sym x.1 ∙ y.1)).0;
    wider = λ bytes start f next h. (next, (grind (arith, wider_parts)));
  }
