-- The records of a table with an added subtable.
use Rattle.std.proofs.Common.{◌≡◌, refl, sym, ap, subst, ◌∙◌, inl, inr, ℕ, zero, suc, ◌+◌, ◌-◌, ◌*◌, ◌^◌, ◌≤◌, ◌<◌, List, [], ◌∷◌, ◌++◌, length, take, drop, length-append, length-drop, length-take, arith}
use Rattle.std.proofs.lemmas.Bool.{cases_lt}
use Rattle.std.proofs.lemmas.List.{append-nil, drop-append-le, drop-drop}
use Rattle.std.proofs.Math.Seq.{drop-length, take-append_seam}
use Rattle.postscript_base.specs.Index.{number_at}
use Rattle.postscript_base.specs.Numbers.{big_endian}
use Rattle.postscript_sfnt.specs.Choice.{encoding_at, place_at, platform_at, records_of}
use Rattle.postscript_sfnt_write.specs.Grouping.{encoding_text}
use Rattle.postscript_sfnt_write.specs.Moving.{RecordsFit, moved_record, moved_text, with_text}
use Rattle.postscript_sfnt_write.specs.Numbers.{uint16}
use Rattle.postscript_sfnt_write.specs.Sequences.{HasSubtables, IsLower, IsSameRecord, IsWith}
use Rattle.postscript_sfnt_write.proofs.Chosen.{Encoding, encoding_stands, length-encoding, whole}
use Rattle.postscript_sfnt_write.proofs.Standing.{Stands, length-uint16, stands_first, stands_second, uint16_stands}

length-moved : (cmap : List ℕ) (from count : ℕ) → length (moved_text cmap from count) ≡ count * 8
unfolding moved_text
length-moved cmap from zero = refl
length-moved cmap from (suc n) =
    let both = length-append (moved_text cmap from n) (moved_record cmap (from + n)) in
    let rest = length-moved cmap from n in
    let one = length-encoding (platform_at cmap (from + n)) (encoding_at cmap (from + n)) (place_at cmap (from + n) + 8) in
    omega (arith, both, rest, one)

-- record `i` is at an offset, moved on
abbrev IsMoved : (cmap bytes : List ℕ) → (i at : ℕ) → Type 0
IsMoved cmap bytes i at = Encoding bytes at (platform_at cmap i) (encoding_at cmap i) (place_at cmap i + 8)

moved_there : (cmap bytes : List ℕ) (at from count k : ℕ) → k < count → RecordsFit cmap from count →
    Stands (moved_text cmap from count) bytes at → IsMoved cmap bytes (from + k) (at + k * 8)
unfolding moved_text
moved_there cmap bytes at from zero k less fit s = absurd (omega (arith, less))
moved_there cmap bytes at from (suc n) k less fit s = elim (cases_lt k n) [
  | inl before ↦ moved_there cmap bytes at from n k before (λ j small. fit j (omega (arith, small)))
      (stands_first (moved_text cmap from n) (moved_record cmap (from + n)) s)
  | inr last ↦
      let same : n ≡ k = omega (arith, less, last) in
      let it = fit n (omega arith) in
      let here = stands_second (moved_text cmap from n) (moved_record cmap (from + n)) (n * 8) (length-moved cmap from n) s in
      subst (λ j. IsMoved cmap bytes (from + j) (at + j * 8)) same
      (encoding_stands (at + n * 8) (platform_at cmap (from + n)) (encoding_at cmap (from + n)) (place_at cmap (from + n) + 8) it.platform
      it.encoding it.offset here)
]

empty : (xs : List ℕ) → length xs ≡ 0 → xs ≡ []
empty [] e = refl
empty (x ∷ xs) e = absurd (omega (arith, e))

-- a text that ends the bytes
ended : (bytes text : List ℕ) (place : ℕ) → Stands text bytes place → length bytes ≡ place + length text → drop place bytes ≡ text
ended bytes text place s size =
    let long = ap length s.there ∙ length-append text s.behind in
    let dropped = length-drop place bytes in
    let none : length s.behind ≡ 0 = omega (arith, long, dropped, size) in
    s.there ∙ ap (λ (xs : List ℕ). text ++ xs) (empty s.behind none) ∙ append-nil text

-- the parts of a written table
record Parts (cmap subtable new : List ℕ) (at count : ℕ) : Type 0 where
  version : number_at new 0 2 ≡ number_at cmap 0 2
  counted : records_of new ≡ count + 1
  before : (i : ℕ) → i < at → IsMoved cmap new i (4 + i * 8)
  added : Encoding new (4 + at * 8) 0 5 (length cmap + 8)
  after : (i : ℕ) → at ≤ i → i < count → IsMoved cmap new i (4 + (i + 1) * 8)
  rest : drop (12 + count * 8) new ≡ drop (4 + count * 8) cmap ++ subtable
  size : length new ≡ length cmap + 8 + length subtable

parts : (cmap subtable new : List ℕ) (at count : ℕ) → at ≤ count → count < 65535 → 4 + count * 8 ≤ length cmap → length cmap + 8 < 2 ^ 32 →
    RecordsFit cmap 0 at → RecordsFit cmap at (count - at) → new ≡ with_text cmap subtable at count → Parts cmap subtable new at count
unfolding with_text number_at
parts cmap subtable new at count listed few room short low high text =
    let e : List ℕ = drop (4 + count * 8) cmap ++ subtable in
    let d : List ℕ = moved_text cmap at (count - at) ++ e in
    let c : List ℕ = encoding_text 0 5 (length cmap + 8) ++ d in
    let b : List ℕ = moved_text cmap 0 at ++ c in
    let a : List ℕ = uint16 (count + 1) ++ b in
    let two : length (take 2 cmap) ≡ 2 = (let p = length-take 2 cmap in omega (arith, p, room)) in
    let s = whole new (take 2 cmap ++ a) text in
    let at2 = stands_second (take 2 cmap) a 2 two s in
    let at4 = stands_second (uint16 (count + 1)) b 2 (length-uint16 (count + 1)) at2 in
    let here = stands_second (moved_text cmap 0 at) c (at * 8) (length-moved cmap 0 at) at4 in
    let next = stands_second (encoding_text 0 5 (length cmap + 8)) d 8 (length-encoding 0 5 (length cmap + 8)) here in
    let last = stands_second (moved_text cmap at (count - at)) e ((count - at) * 8) (length-moved cmap at (count - at)) next in
    let end : 0 + 2 + 2 + at * 8 + 8 + (count - at) * 8 ≡ 12 + count * 8 = omega (arith, listed) in
    let long = length-append (take 2 cmap) a in
    let long_a = length-append (uint16 (count + 1)) b in
    let long_b = length-append (moved_text cmap 0 at) c in
    let long_c = length-append (encoding_text 0 5 (length cmap + 8)) d in
    let long_d = length-append (moved_text cmap at (count - at)) e in
    let long_e = length-append (drop (4 + count * 8) cmap) subtable in
    let m1 = length-uint16 (count + 1) in
    let m2 = length-moved cmap 0 at in
    let m3 = length-encoding 0 5 (length cmap + 8) in
    let m4 = length-moved cmap at (count - at) in
    let m5 = length-drop (4 + count * 8) cmap in
    let total : length new ≡ length (take 2 cmap ++ a) = ap length text in
    let size : length new ≡ length cmap + 8 + length subtable =
    omega (arith, total, long, long_a, long_b, long_c, long_d, long_e, m1, m2, m3, m4, m5, two, listed, room) in
    record {
      version = ap (λ (xs : List ℕ). big_endian (take 2 xs)) text
          ∙ ap (λ n. big_endian (take n (take 2 cmap ++ a))) (sym two) ∙ ap big_endian (take-append_seam (take 2 cmap) a);
      counted = uint16_stands (count + 1) (omega (arith, few)) (stands_first (uint16 (count + 1)) b at2);
      before = λ i less.
          let same : 0 + i ≡ i = omega arith in
          subst (λ n. IsMoved cmap new n (4 + i * 8)) same
          (moved_there cmap new 4 0 at i less low (stands_first (moved_text cmap 0 at) c at4));
      added = encoding_stands (4 + at * 8) 0 5 (length cmap + 8) (omega arith) (omega arith) short
          (stands_first (encoding_text 0 5 (length cmap + 8)) d here);
      after = λ i from less.
          let same : at + (i - at) ≡ i = omega (arith, from) in
          let place : 4 + at * 8 + 8 + (i - at) * 8 ≡ 4 + (i + 1) * 8 = omega (arith, from) in
          subst (λ n. IsMoved cmap new i n) place (subst (λ n. IsMoved cmap new n (4 + at * 8 + 8 + (i - at) * 8)) same
          (moved_there cmap new (4 + at * 8 + 8) at (count - at) (i - at) (omega (arith, from, less)) high
          (stands_first (moved_text cmap at (count - at)) e next)));
      rest = ended new e (12 + count * 8) (subst (λ k. Stands e new k) end last) (omega (arith, size, long_e, m5, room));
      size = size;
    }

-- the bytes at an offset, moved on
on_from : (cmap subtable new : List ℕ) (count p : ℕ) → drop (12 + count * 8) new ≡ drop (4 + count * 8) cmap ++ subtable →
    4 + count * 8 ≤ p → p ≤ length cmap → drop (p + 8) new ≡ drop p cmap ++ subtable
on_from cmap subtable new count p rest from to =
    let r : ℕ = 4 + count * 8 in
    let here : 12 + count * 8 + (p - r) ≡ p + 8 = omega (arith, from) in
    let back : r + (p - r) ≡ p = omega (arith, from) in
    let long = length-drop r cmap in
    ap (λ k. drop k new) (sym here) ∙ sym (drop-drop (p - r) (12 + count * 8) new) ∙ ap (drop (p - r)) rest
    ∙ drop-append-le (p - r) (drop r cmap) subtable (omega (arith, long, from, to))
    ∙ ap (λ (xs : List ℕ). xs ++ subtable) (drop-drop (p - r) r cmap ∙ ap (λ k. drop k cmap) back)

moved_same : (cmap subtable new : List ℕ) (i k : ℕ) → HasSubtables cmap → i < records_of cmap →
    drop (12 + records_of cmap * 8) new ≡ drop (4 + records_of cmap * 8) cmap ++ subtable → IsMoved cmap new i (4 + k * 8) →
    IsSameRecord cmap subtable new i k
moved_same cmap subtable new i k was less rest it =
    let within = was.within i less in
    record {
      platform = it.platform_is;
      encoding = it.encoding_is;
      offset = it.place_is;
      bytes = ap (λ n. drop n new) it.place_is
          ∙ on_from cmap subtable new (records_of cmap) (place_at cmap i) rest (was.behind i less) (omega (arith, within));
    }

with_records : (cmap subtable new : List ℕ) (at : ℕ) → HasSubtables cmap → records_of cmap < 65535 → length cmap + 8 < 2 ^ 32 →
    at ≤ records_of cmap → ((i : ℕ) → i < at → IsLower cmap i) → (at < records_of cmap → IsLower cmap at → ⊥) → RecordsFit cmap 0 at →
    RecordsFit cmap at (records_of cmap - at) → new ≡ with_text cmap subtable at (records_of cmap) → IsWith cmap subtable new
with_records cmap subtable new at was few short listed lower higher low high text =
    let p = parts cmap subtable new at (records_of cmap) listed few was.records short low high text in
    let room = was.records in
    record {
      was = was;
      version = p.version;
      counted = p.counted;
      size = p.size;
      at = at;
      listed = listed;
      lower = lower;
      higher = higher;
      platform = p.added.platform_is;
      encoding = p.added.encoding_is;
      offset = p.added.place_is;
      bytes = ap (λ n. drop n new) p.added.place_is
          ∙ on_from cmap subtable new (records_of cmap) (length cmap) p.rest (omega (arith, room)) (omega arith)
          ∙ ap (λ (xs : List ℕ). xs ++ subtable) (drop-length cmap);
      before = λ i less. moved_same cmap subtable new i i was (omega (arith, less, listed)) p.rest (p.before i less);
      after = λ i from less. moved_same cmap subtable new i (i + 1) was less p.rest (p.after i from less);
    }

pub written_with : (cmap subtable new : List ℕ) (at count : ℕ) → count ≡ records_of cmap → HasSubtables cmap → count < 65535 →
    length cmap + 8 < 2 ^ 32 → at ≤ count → ((i : ℕ) → i < at → IsLower cmap i) → (at < count → IsLower cmap at → ⊥) →
    RecordsFit cmap 0 at → RecordsFit cmap at (count - at) → new ≡ with_text cmap subtable at count → IsWith cmap subtable new
written_with cmap subtable new at count same was few short listed lower higher low high text =
    with_records cmap subtable new at was (subst (λ n. n < 65535) same few) short (subst (λ n. at ≤ n) same listed) lower
    (subst (λ n. at < n → IsLower cmap at → ⊥) same higher) low (subst (λ n. RecordsFit cmap at (n - at)) same high)
    (subst (λ n. new ≡ with_text cmap subtable at n) same text)
