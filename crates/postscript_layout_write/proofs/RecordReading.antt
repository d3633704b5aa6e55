-- Records that are written are read as they were.
use Rattle.std.proofs.Common.{◌≡◌, refl, sym, ap, subst, ◌∙◌, inl, inr, ℕ, ◌+◌, ◌*◌, ◌/◌, ◌%◌, ◌≤◌, ◌<◌, List, [], ◌∷◌, ◌++◌, length, length-append, get_or, arith, add-one}
use Rattle.std.proofs.lemmas.List.{get_or_append_left}
use Rattle.postscript_layout.specs.Numbers.{long, word}
use Rattle.postscript_layout_write.specs.Holds.{Holds}
use Rattle.postscript_layout_write.specs.Records.{AddsRecord, AreRecords, HasRecord, Puts, Stands}
use Rattle.postscript_layout_write.specs.Sets.{Places}
use Rattle.postscript_layout_write.specs.Text.{array_text, uint16}
use Rattle.postscript_layout_write.proofs.Firsts.{nat_cases}
use Rattle.postscript_layout_write.proofs.Holding.{holds-array, holds-first, holds-in, holds-second, length-array}
use Rattle.postscript_layout_write.proofs.Longs.{holds-long, holds-two}
use Rattle.postscript_layout_write.proofs.Rows.{append-at}

pub stands-on : {Is : List ℕ → ℕ → Type 0} {bytes : List ℕ} {place : ℕ} (more : List ℕ) → Stands Is bytes place → Stands Is (bytes ++ more) place
stands-on {bytes = bytes} more s = record { within = λ t at h. s.within t at (holds-first bytes more h) }

pub puts-text : (Is : List ℕ → ℕ → Type 0) (old new text : List ℕ) → new ≡ old ++ text → ((t : List ℕ) (at : ℕ) → Holds text t at → Is t at) → Puts Is old new
puts-text Is old new text is reads = record {
  more = text;
  bytes = is;
  stands = record {
    within = λ t at h. reads t (at + length old) (holds-second old text (length old) refl (subst (λ (xs : List ℕ). Holds xs t at) is h));
  };
}

record-on : (tag : ℕ) (Is : List ℕ → ℕ → Type 0) (base j : ℕ) (numbers bytes more rest : List ℕ) → j * 3 + 3 ≤ length numbers →
    HasRecord tag Is base j numbers bytes → HasRecord tag Is base j (numbers ++ more) (bytes ++ rest)
record-on tag Is base j numbers bytes more rest within h = record {
  tag_small = h.tag_small;
  high = get_or_append_left numbers more 0 (j * 3) (omega (arith, within)) ∙ h.high;
  low = get_or_append_left numbers more 0 (j * 3 + 1) (omega (arith, within)) ∙ h.low;
  place = h.place;
  offset = get_or_append_left numbers more 0 (j * 3 + 2) (omega (arith, within)) ∙ h.offset;
  small = h.small;
  stands = stands-on rest h.stands;
}

pub records-none : (tag : ℕ → ℕ) (Is : ℕ → List ℕ → ℕ → Type 0) (base : ℕ) (bytes : List ℕ) → AreRecords tag Is base 0 [] bytes
records-none tag Is base bytes = record { many = refl; each = λ j less. absurd (omega (arith, less)) }

-- the numbers of a record
abbrev record_of : (tag offset : ℕ) → List ℕ
record_of tag offset = tag / 65536 ∷ tag % 65536 ∷ offset ∷ []

-- a table that was written is placed
stands-placed : (Is : List ℕ → ℕ → Type 0) (text old new : List ℕ) (place : ℕ) → Stands Is text 0 → Places text old new place → Stands Is new place
stands-placed Is text old new place s p = record {
  within = λ t at h. subst (Is t) (omega arith) (s.within t (at + place) (holds-in h p.there));
}

pub records-more : (tag : ℕ → ℕ) (Is : ℕ → List ℕ → ℕ → Type 0) (base n : ℕ) (numbers bytes newnumbers newbytes : List ℕ) (value from : ℕ) (text written before : List ℕ) →
    AreRecords tag Is base n numbers bytes → value ≡ tag n → value < 4294967296 → from ≡ base → text ≡ written → before ≡ [] → Puts (Is n) before written →
    AddsRecord value from text numbers bytes newnumbers newbytes → AreRecords tag Is base (n + 1) newnumbers newbytes
records-more tag Is base n numbers bytes newnumbers newbytes value from text written before are same low start copy none puts adds =
    subst (λ (xs : List ℕ). AreRecords tag Is base (n + 1) xs newbytes) (sym adds.record_is) (record {
      many = (let many = are.many in omega (arith, many, length-append numbers (record_of value (from + adds.place))));
      each = λ j less. elim (nat_cases j n) [
        | inl early ↦ subst (λ (xs : List ℕ). HasRecord (tag j) (Is j) base j (numbers ++ record_of value (from + adds.place)) xs) (sym adds.placed.bytes)
            (record-on (tag j) (Is j) base j numbers bytes (record_of value (from + adds.place)) adds.placed.more
            (let many = are.many in omega (arith, many, early)) (are.each j early))
        | inr late ↦ (let last : n ≡ j = omega (arith, less, late) in
            subst (λ k. HasRecord (tag k) (Is k) base k (numbers ++ record_of value (from + adds.place)) newbytes) last here)
      ];
    })
  where
    at : (k x : ℕ) → get_or (record_of value (from + adds.place)) k 0 ≡ x → get_or (numbers ++ record_of value (from + adds.place)) (n * 3 + k) 0 ≡ x
    at k x e = append-at numbers (record_of value (from + adds.place)) 0 (n * 3) k are.many ∙ e

    table : Stands (Is n) text 0
    table = subst (λ (xs : List ℕ). Stands (Is n) xs 0) (sym copy) (subst (Stands (Is n) written) (ap length none) puts.stands)

    here : HasRecord (tag n) (Is n) base n (numbers ++ record_of value (from + adds.place)) newbytes
    here = record {
      tag_small = subst (λ w. w < 4294967296) same low;
      high = ap (λ i. get_or (numbers ++ record_of value (from + adds.place)) i 0) {x = n * 3} {y = n * 3 + 0} (omega arith)
          ∙ at 0 (tag n / 65536) (ap (λ w. w / 65536) same);
      low = at 1 (tag n % 65536) (ap (λ w. w % 65536) same);
      place = adds.place;
      offset = at 2 (base + adds.place) (ap (λ w. w + adds.place) start);
      small = subst (λ w. w + adds.place < 65536) start adds.small;
      stands = stands-placed (Is n) text bytes newbytes adds.place table adds.placed;
    }

-- records behind the first numbers of a list
module _ (tag : ℕ → ℕ) (Is : ℕ → List ℕ → ℕ → Type 0) (base count : ℕ) (numbers bytes : List ℕ) (are : AreRecords tag Is base count numbers bytes)
    (t : List ℕ) (start lead : ℕ) (whole : base ≡ lead + count * 6) (held : Holds (array_text numbers ++ bytes) t (start + lead)) where
  pub bytes-held : Holds bytes t (start + base)
  bytes-held = subst (Holds bytes t) (let many = are.many in omega (arith, many, whole))
      (holds-second (array_text numbers) bytes (length numbers * 2) (length-array numbers) held)

  pub table-read : (j : ℕ) → j < count → Is j t (start + word t (start + lead + j * 6 + 4))
  table-read j less =
      let h = are.each j less in
      let many = are.many in
      let small : get_or numbers (j * 3 + 2) 0 < 65536 = subst (λ n. n < 65536) (sym h.offset) h.small in
      let read : word t (start + lead + j * 6 + 4) ≡ base + h.place =
      ap (word t) (omega arith) ∙ holds-array numbers (start + lead) (j * 3 + 2) (omega (arith, many, less)) small (holds-first (array_text numbers) bytes held)
      ∙ h.offset in
      subst (λ n. Is j t (start + n)) (sym read) (subst (Is j t) (omega arith) (h.stands.within t (start + base) bytes-held))

  pub tag-read : (j : ℕ) → j < count → long t (start + lead + j * 6) ≡ tag j
  tag-read j less =
      let h = are.each j less in
      let many = are.many in
      let tag_small = h.tag_small in
      let two : Holds (uint16 (tag j / 65536) ++ uint16 (tag j % 65536)) t (start + lead + j * 3 * 2) =
      subst (λ n. Holds (uint16 n ++ uint16 (tag j % 65536)) t (start + lead + j * 3 * 2)) h.high
      (subst (λ n. Holds (uint16 (get_or numbers (j * 3) 0) ++ uint16 n) t (start + lead + j * 3 * 2)) (ap (λ i. get_or numbers i 0) (sym (add-one (j * 3))) ∙ h.low)
      (holds-two numbers (start + lead) (j * 3) (omega (arith, many, less)) (holds-first (array_text numbers) bytes held))) in
      ap (long t) (omega arith) ∙ holds-long (tag j / 65536) (tag j % 65536) (omega (arith, tag_small)) (omega arith) two ∙ omega arith
