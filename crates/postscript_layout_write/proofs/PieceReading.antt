-- Lookups of pairs that were written are read as their pairs.
use Rattle.std.proofs.Common.{◌≡◌, refl, sym, ap, subst, ◌∙◌, inl, inr, ℕ, zero, suc, ◌+◌, ◌-◌, ◌*◌, ◌<◌, ◌==◌, List, [], ◌∷◌, ◌++◌, length, length-append, get_or, take, drop, arith, Bool, true, false}
use Rattle.std.specs.Prelude.{Option, None, Some, nat_lt, if◌then◌else◌}
use Rattle.std.specs.List.{Contains}
use Rattle.std.proofs.lemmas.Bool.{eq-eqb, le-ltb}
use Rattle.std.proofs.lemmas.Nat.{from_be_bytes-to_be_bytes_4}
use Rattle.std.proofs.Math.Seq.{drop-append_seam, take-append_seam}
use Rattle.postscript_base.specs.Numbers.{big_endian}
use Rattle.postscript_base.specs.Index.{number_at}
use Rattle.postscript_layout.specs.Numbers.{word, long}
use Rattle.postscript_layout_write.specs.ClassPairs.{HasPairs, are_classed, are_listed}
use Rattle.postscript_layout_write.specs.Entries.{form_of}
use Rattle.postscript_layout_write.specs.First.{first_some}
use Rattle.postscript_layout_write.specs.Flags.{set_of, uses_set}
use Rattle.postscript_layout_write.specs.Forms.{HasSubtables}
use Rattle.postscript_layout_write.specs.Holds.{Holds}
use Rattle.postscript_layout_write.specs.Marks.{type_at}
use Rattle.postscript_layout_write.specs.Pairs.{by_lookup, by_part, found_in, or_nothing, pairs_at}
use Rattle.postscript_layout_write.specs.Pieces.{HasFar, HasLookup, HasNear, LookupFits, extension_text, extensions_text, is_far, is_near, lookup_text, set_size, uint32}
use Rattle.postscript_layout_write.specs.RuleSets.{rule_head_text}
use Rattle.postscript_layout_write.specs.Scopes.{mark_set_text}
use Rattle.postscript_layout_write.specs.Sets.{HasSubtable}
use Rattle.postscript_layout_write.specs.Text.{offsets_text, uint16}
use Rattle.postscript_layout_write.specs.declared.entries.Form.{Form}
use Rattle.postscript_layout_write.specs.declared.values.Adjustment.{Adjustment}
use Rattle.postscript_layout_write.proofs.ClassReading.{class-read}
use Rattle.postscript_layout_write.proofs.Firsts.{Found, first-cases, none_found, option_cases, some_found}
use Rattle.postscript_layout_write.proofs.Holding.{holds-first, holds-in, holds-second, holds-word, length-uint16}
use Rattle.postscript_layout_write.proofs.Reading.{SubtableRead, any-default, is-nothing, length-offsets, not_there, offsets-read, subtable-read, there}
use Rattle.postscript_layout_write.proofs.RuleKept.{IsHead, head-read, length-rule-head}

-- numbers of four bytes
length-uint32 : (n : ℕ) → length (uint32 n) ≡ 4
unfolding uint32
length-uint32 n = refl

value-uint32 : (n : ℕ) → n < 4294967296 → big_endian (uint32 n) ≡ n
unfolding uint32
value-uint32 n small = let e = from_be_bytes-to_be_bytes_4 n small in omega (arith, e)

holds-long : {bytes : List ℕ} {offset : ℕ} (n : ℕ) → n < 4294967296 → Holds (uint32 n) bytes offset → long bytes offset ≡ n
unfolding number_at
holds-long {bytes = bytes} {offset = offset} n small h =
    ap (λ (b : Bool). if b then 0 else number_at bytes offset 4) within
    ∙ ap (λ xs. big_endian (take 4 xs)) rest ∙ ap (λ k. big_endian (take k (uint32 n ++ h.behind))) (sym (length-uint32 n))
    ∙ ap big_endian (take-append_seam (uint32 n) h.behind) ∙ value-uint32 n small
  where
    within : nat_lt (length bytes) (offset + 4) ≡ false
    within = let a = ap length h.is in let b = h.place in
        le-ltb _ _ (omega (arith, a, b, length-append h.front (uint32 n ++ h.behind), length-append (uint32 n) h.behind, length-uint32 n))

    rest : drop offset bytes ≡ uint32 n ++ h.behind
    rest = ap (drop offset) h.is ∙ ap (λ k. drop k (h.front ++ (uint32 n ++ h.behind))) (sym h.place) ∙ drop-append_seam h.front (uint32 n ++ h.behind)

-- extensions
length-extension : (d : ℕ) → length (extension_text d) ≡ 8
unfolding extension_text uint16 uint32
length-extension d = refl

pub length-extensions : (distance : ℕ) (offsets : List ℕ) → length (extensions_text distance offsets) ≡ length offsets * 8
unfolding extensions_text
length-extensions distance [] = refl
length-extensions distance (o ∷ os) =
    let a = length-append (extension_text (8 + length os * 8 + distance + o)) (extensions_text distance os) in
    let b = length-extensions distance os in
    let c = length-extension (8 + length os * 8 + distance + o) in
    omega (arith, a, b, c)

-- extension j has a distance d
extensions-held : (t : List ℕ) (at distance : ℕ) (offsets : List ℕ) (j d : ℕ) → j < length offsets → d + j * 8 ≡ length offsets * 8 + distance + get_or offsets j 0 →
    Holds (extensions_text distance offsets) t at → Holds (extension_text d) t (at + j * 8)
unfolding extensions_text
extensions-held t at distance [] j d less is h = absurd (omega (arith, less))
extensions-held t at distance (o ∷ os) zero d less is h =
    subst (λ n. Holds (extension_text n) t (at + 0 * 8)) {x = 8 + length os * 8 + distance + o} {y = d} (omega (arith, is))
    (subst (Holds (extension_text (8 + length os * 8 + distance + o)) t) {x = at} {y = at + 0 * 8} (omega arith)
    (holds-first (extension_text (8 + length os * 8 + distance + o)) (extensions_text distance os) h))
extensions-held t at distance (o ∷ os) (suc j) d less is h =
    subst (Holds (extension_text d) t) {x = at + 8 + j * 8} {y = at + suc j * 8} (omega arith)
    (extensions-held t (at + 8) distance os j d (omega (arith, less)) (omega (arith, is))
    (holds-second (extension_text (8 + length os * 8 + distance + o)) (extensions_text distance os) 8 (length-extension (8 + length os * 8 + distance + o)) h))

extension-read : (t : List ℕ) (at d : ℕ) → d < 4294967296 → Holds (extension_text d) t at → (word t (at + 2) ≡ 2) × (long t (at + 4) ≡ d)
unfolding extension_text
extension-read t at d small h =
    let h2 = holds-second (uint16 1) (uint16 2 ++ uint32 d) 2 (length-uint16 1) h in
    let h4 = holds-second (uint16 2) (uint32 d) 2 (length-uint16 2) h2 in (
      holds-word 2 (omega arith) (holds-first (uint16 2) (uint32 d) h2),
      ap (long t) {x = at + 4} {y = at + 2 + 2} (omega arith) ∙ holds-long d small h4,
    )

-- the beginning of a lookup
length-set : (flag set : ℕ) → length (mark_set_text flag set) ≡ set_size flag
length-set flag set = by (uses_set flag)
  where
    by : (b : Bool) → length (if b then uint16 set else []) ≡ (if b then 2 else 0)
    by true = length-uint16 set
    by false = refl

pub length-lookup : (type flag set : ℕ) (offsets : List ℕ) → length (lookup_text type flag set offsets) ≡ 6 + length offsets * 2 + set_size flag
unfolding lookup_text
length-lookup type flag set offsets =
    let base = 6 + length offsets * 2 + set_size flag in
    let a = length-append (rule_head_text type flag (length offsets)) (offsets_text base offsets ++ mark_set_text flag set) in
    let b = length-append (offsets_text base offsets) (mark_set_text flag set) in
    let c = length-offsets base offsets in
    omega (arith, a, b, c, length-set flag set, length-rule-head type flag (length offsets))

module _ (type flag set : ℕ) (offsets rest t : List ℕ) (l : ℕ) (small : type < 65536) (fits : LookupFits flag set offsets)
    (held : Holds (lookup_text type flag set offsets ++ rest) t l) where
  whole : Holds (lookup_text type flag set offsets) t l
  whole = holds-first (lookup_text type flag set offsets) rest held

  head : IsHead t l type flag (length offsets)
  unfolding lookup_text
  head = (let few = fits.few in head-read t l type flag (length offsets) small fits.small (omega (arith, few))
      (holds-first (rule_head_text type flag (length offsets)) _ whole))

  tail : Holds (offsets_text (6 + length offsets * 2 + set_size flag) offsets ++ mark_set_text flag set) t (l + 6)
  unfolding lookup_text
  tail = holds-second (rule_head_text type flag (length offsets)) _ 6 (length-rule-head type flag (length offsets)) whole

  set-at : uses_set flag ≡ true → set_of t l ≡ set
  set-at uses =
      let at : Holds (mark_set_text flag set) t (l + 6 + length offsets * 2) = holds-second (offsets_text (6 + length offsets * 2 + set_size flag) offsets)
      (mark_set_text flag set) (length offsets * 2) (length-offsets (6 + length offsets * 2 + set_size flag) offsets) tail in
      let text : Holds (uint16 set) t (l + 6 + length offsets * 2) =
      subst (λ (b : Bool). Holds (if b then uint16 set else []) t (l + 6 + length offsets * 2)) uses at in
      ap (λ n. word t (l + 6 + n * 2)) head.count-is ∙ holds-word set fits.set_small text

  part-at : (j : ℕ) → j < length offsets → l + word t (l + 6 + j * 2) ≡ l + (6 + length offsets * 2 + set_size flag) + get_or offsets j 0
  part-at j less = (let at = offsets-read t (l + 6) (6 + length offsets * 2 + set_size flag) offsets j less fits.fit
      (holds-first (offsets_text (6 + length offsets * 2 + set_size flag) offsets) (mark_set_text flag set) tail) in
      ap (λ n. l + n) at ∙ omega arith)

  rest-held : Holds rest t (l + (6 + length offsets * 2 + set_size flag))
  rest-held = holds-second (lookup_text type flag set offsets) rest (6 + length offsets * 2 + set_size flag) (length-lookup type flag set offsets) held

-- the listed pairs of a lookup whose subtables are there
module _ (f : (x y : ℕ) → Adjustment) (t : List ℕ) (l : ℕ) (offsets subtables : List ℕ) (start : ℕ) (has : HasSubtables f offsets subtables)
    (held : Holds subtables t start) (count : word t (l + 4) ≡ length offsets)
    (part : (j : ℕ) → j < length offsets → pairs_at t l j ≡ Some (start + get_or offsets j 0)) where
  subtable-in : (form : Form) (firsts : List ℕ) (offset : ℕ) → HasSubtable form f firsts subtables offset → HasSubtable form f firsts t (start + offset)
  subtable-in form firsts offset s = record {
    offsets = s.offsets;
    sets = s.sets;
    are = s.are;
    fit = s.fit;
    few = s.few;
    there = holds-in held s.there;
  }

  pair-of : (j x y : ℕ) (form : Form) (firsts : List ℕ) → j < length offsets → HasSubtable form f firsts subtables (get_or offsets j 0) →
      SubtableRead form firsts x (f x y) (by_part t (pairs_at t l j) x y)
  pair-of j x y form firsts less s = subst (λ (p : Option ℕ). SubtableRead form firsts x (f x y) (by_part t p x y)) (sym (part j less))
      (subtable-read t (start + get_or offsets j 0) form f firsts (subtable-in form firsts (get_or offsets j 0) s) x y)

  -- a subtable that applies gives the adjustment
  sound : (form : Form) (firsts : List ℕ) (x : ℕ) (a b : Adjustment) (read : Option Adjustment) → SubtableRead form firsts x a read → read ≡ Some b → or_nothing (Some b) ≡ a
  sound form firsts x a b _ (not_there never) is = absurd (cc)
  sound form firsts x a b _ there is = cc

  -- a subtable with the form of the pair and its first glyph applies
  applies : (x : ℕ) (form : Form) (firsts : List ℕ) (a : Adjustment) (read : Option Adjustment) → SubtableRead form firsts x a read →
      form_of a ≡ Some form → Contains firsts x → read ≡ None → ⊥
  applies x form firsts a _ (not_there never) is listed none = never is listed
  applies x form firsts a _ there is listed none = absurd (cc)

  listed-read : (x y : ℕ) → by_lookup t l x y ≡ f x y
  listed-read x y = by (found_in t l x y) (first-cases (λ j. by_part t (pairs_at t l j) x y) (word t (l + 4)))
    where
      by : (a : Option Adjustment) → Found (λ j. by_part t (pairs_at t l j) x y) (word t (l + 4)) a → or_nothing a ≡ f x y
      by _ (none_found none) = elim (option_cases (form_of (f x y))) [
        | inl is ↦ sym (is-nothing (f x y) is)
        | inr is ↦ (let s = has.all is.0 x y is.1 in
            let j = s.listed.0 in
            let less : j < length offsets = s.listed.1 in
            let same : s.offset ≡ get_or offsets j 0 = sym (any-default offsets j 0 s.offset less ∙ s.listed.2) in
            absurd (applies x is.0 s.firsts (f x y) _
            (pair-of j x y is.0 s.firsts less (subst (HasSubtable is.0 f s.firsts subtables) same s.has)) is.1 s.first
            (none j (omega (arith, less, count)))))
      ]
      by _ (some_found j a less is) = (let within : j < length offsets = omega (arith, less, count) in
          let s = has.each j 0 within in
          sound s.0 s.1 x (f x y) a _ (pair-of j x y s.0 s.1 within s.2) is)

-- the pairs of a lookup
pairs-read : (f : (x y : ℕ) → Adjustment) (t : List ℕ) (l : ℕ) (offsets subtables : List ℕ) (start : ℕ) → HasPairs f offsets subtables → Holds subtables t start →
    word t (l + 4) ≡ length offsets → ((j : ℕ) → j < length offsets → pairs_at t l j ≡ Some (start + get_or offsets j 0)) → (x y : ℕ) → by_lookup t l x y ≡ f x y
pairs-read f t l offsets subtables start (are_listed has) held count part x y = listed-read f t l offsets subtables start has held count part x y
pairs-read f t l offsets subtables start (are_classed only has) held count part x y =
    ap (λ n. or_nothing (first_some (λ j. by_part t (pairs_at t l j) x y) n)) (count ∙ ap length only)
    ∙ ap (λ (p : Option ℕ). or_nothing (by_part t p x y))
    (part 0 (let one = ap length only in omega (arith, one)) ∙ ap (λ (os : List ℕ). Some (start + get_or os 0 0)) only ∙ ap (λ n. Some n) {x = start + 0} {y = start} (omega arith))
    ∙ class-read f t start subtables has held x y

-- a lookup whose subtables follow it
module _ (flag set : ℕ) (f : (x y : ℕ) → Adjustment) (t : List ℕ) (l : ℕ) (has : HasNear flag set f t l) where
  near-head : IsHead t l 2 flag (length has.offsets)
  near-head = head 2 flag set has.offsets has.subtables t l (omega arith) has.fits has.there

  near-read : (x y : ℕ) → by_lookup t l x y ≡ f x y
  near-read = pairs-read f t l has.offsets has.subtables (l + (6 + length has.offsets * 2 + set_size flag)) has.has
      (rest-held 2 flag set has.offsets has.subtables t l (omega arith) has.fits has.there) near-head.count-is
      (λ j less. (let part = l + word t (l + 6 + j * 2) in
      ap (λ (b : Bool). if b then Some part
      else (if word t l == 9 then (if word t (part + 2) == 2 then Some (part + long t (part + 4)) else None) else None)) (eq-eqb (word t l) 2 near-head.type-is)
      ∙ ap (λ n. Some n) (part-at 2 flag set has.offsets has.subtables t l (omega arith) has.fits has.there j less)))

-- a lookup with extensions
module _ (flag set : ℕ) (f : (x y : ℕ) → Adjustment) (t : List ℕ) (l : ℕ) (has : HasFar flag set f t l) where
  far-head : IsHead t l 9 flag (length has.extensions)
  far-head = head 9 flag set has.extensions (extensions_text has.distance has.offsets) t l (omega arith) has.fits has.there

  far-count : word t (l + 4) ≡ length has.offsets
  far-count = far-head.count-is ∙ has.are.many

  far-part : (j : ℕ) → j < length has.offsets → (d : ℕ) × (l + word t (l + 6 + j * 2) + d ≡ l + (6 + length has.offsets * 10 + set_size flag + has.distance) + get_or has.offsets j 0)
      × (word t (l + word t (l + 6 + j * 2) + 2) ≡ 2) × (long t (l + word t (l + 6 + j * 2) + 4) ≡ d)
  far-part j less =
      let many = has.are.many in
      let long = has.long j less in
      let d = length has.offsets * 8 + has.distance + get_or has.offsets j 0 - j * 8 in
      let base = l + (6 + length has.extensions * 2 + set_size flag) in
      let place : l + word t (l + 6 + j * 2) ≡ base + j * 8 =
      part-at 9 flag set has.extensions (extensions_text has.distance has.offsets) t l (omega arith) has.fits has.there j (omega (arith, less, many))
      ∙ ap (λ n. base + n) (has.are.each j less) in
      let held : Holds (extension_text d) t (l + word t (l + 6 + j * 2)) = subst (Holds (extension_text d) t) (sym place)
      (extensions-held t base has.distance has.offsets j d less (omega (arith, less))
      (rest-held 9 flag set has.extensions (extensions_text has.distance has.offsets) t l (omega arith) has.fits has.there)) in
      let read = extension-read t (l + word t (l + 6 + j * 2)) d (omega (arith, long, less)) held in
      (d, omega (arith, place, many, less), read.0, read.1)

  far-read : (x y : ℕ) → by_lookup t l x y ≡ f x y
  far-read = pairs-read f t l has.offsets has.subtables (l + (6 + length has.offsets * 10 + set_size flag + has.distance)) has.has has.behind far-count
      (λ j less. (let part = l + word t (l + 6 + j * 2) in
      let p = far-part j less in
      ap (λ k. if k == 2 then Some part
      else (if k == 9 then (if word t (part + 2) == 2 then Some (part + long t (part + 4)) else None) else None)) far-head.type-is
      ∙ ap (λ k. if k == 2 then Some (part + long t (part + 4)) else None) p.2
      ∙ ap (λ n. Some (part + n)) p.3 ∙ ap (λ n. Some n) p.1))

  far-type : type_at t l ≡ 2
  far-type = ap (λ k. if k == 9 then word t (l + word t (l + 6) + 2) else k) far-head.type-is
      ∙ ap (λ n. word t (l + word t n + 2)) {x = l + 6} {y = l + 6 + 0 * 2} (omega arith) ∙ (far-part 0 has.some).2

-- both
module _ (flag set : ℕ) (f : (x y : ℕ) → Adjustment) (t : List ℕ) (l : ℕ) where
  pub lookup-read : HasLookup flag set f t l → (x y : ℕ) → by_lookup t l x y ≡ f x y
  lookup-read (is_near h) = near-read flag set f t l h
  lookup-read (is_far h) = far-read flag set f t l h

  pub flag-read : HasLookup flag set f t l → word t (l + 2) ≡ flag
  flag-read (is_near h) = (near-head flag set f t l h).flag-is
  flag-read (is_far h) = (far-head flag set f t l h).flag-is

  pub set-read : HasLookup flag set f t l → uses_set flag ≡ true → set_of t l ≡ set
  set-read (is_near h) = set-at 2 flag set h.offsets h.subtables t l (omega arith) h.fits h.there
  set-read (is_far h) = set-at 9 flag set h.extensions (extensions_text h.distance h.offsets) t l (omega arith) h.fits h.there

  pub type-read : HasLookup flag set f t l → type_at t l ≡ 2
  type-read (is_near h) = ap (λ k. if k == 9 then word t (l + word t (l + 6) + 2) else k) (near-head flag set f t l h).type-is
  type-read (is_far h) = far-type flag set f t l h
