-- Files of tables that were sorted.
use Rattle.std.proofs.Common.{◌≡◌, ◌≢◌, refl, sym, ap, ◌∙◌, subst, inl, inr, ℕ, ◌+◌, ◌^◌, ◌<◌, ◌≤◌, List, [], ◌∷◌, ◌++◌, Bool, true, false, length, take, drop, get_or, arith, length-append, append_assoc}
use Rattle.std.specs.Prelude.{◌==◌, ◌&&◌, nat_lt, Result, Ok, Err, IfOk, IfErr, Vec}
use Rattle.std.specs.declared.alloc.Global.{Global}
use Rattle.std.specs.List.{Contains, sum_by}
use Rattle.std.specs.List.Sorted.{IsNonDecreasingBy, IsPermutation}
use Rattle.std.proofs.Math.Seq.{drop-append_seam, take-append_seam}
use Rattle.std.proofs.lemmas.Bool.{eqb-true}
use Rattle.std.proofs.lemmas.List.{length-take-le}
use Rattle.std.proofs.lemmas.List.Sorted.{Contains-permutation, IsPermutation-sym, length_permutation, sum_by-IsPermutation}
use Rattle.std.proofs.lemmas.List.Sums.{sum_by-cons}
use Rattle.std.proofs.lemmas.Option.{get_or_from_slice_get, slice_get-get_or, slice_get_read, slice_get_within}
use Rattle.std.specs.Int.{to_be_bytes, w32}
use Rattle.postscript_base.specs.Numbers.{big_endian}
use Rattle.postscript_sfnt.specs.declared.file.FontFile.{FontFile}
use Rattle.postscript_sfnt_write.specs.Files.{AreLent, HasTables, IsSoundFile, Opens}
use Rattle.postscript_sfnt_write.specs.Numbers.{uint32}
use Rattle.postscript_sfnt_write.specs.Tables.{IsGiven, TagsRise, adjusts, in_file, room_of, rooms, size_of}
use Rattle.postscript_sfnt_write.specs.declared.file.Table.{Table}
use Rattle.postscript_sfnt_write.proofs.Placing.{length-in_file}
use Rattle.postscript_sfnt_write.proofs.Sums.{adjusts-long, length-uint32, value-uint32, with_none, with_number}
use Rattle.postscript_files.specs.Copies.{HasAll, IsCopy, IsFileOf, NoFileOf, NoNeighbours}
use Rattle.postscript_files.specs.Refused.{IsTooMuch}
use Rattle.postscript_files.specs.declared.error.Error.{Error}
use Rattle.postscript_files.specs.declared.error.Error.TheVariants.{Cut, File, Font, Memory, MissingCharacter, MissingTable, NoAdvances, NoMap, Overlap, SameTag, TooLarge}

-- a table of no bytes
abbrev none : Table
none = record { tag = 0; bytes = record { ref_ptr = (0, 0); now = [] } }

pub given-contained : (tables : List Table) (i : ℕ) (t : Table) → IsGiven tables i t → Contains tables t
given-contained tables i t h = (i, slice_get_within tables i t h, get_or_from_slice_get tables i t t h)

pub contained-given : (tables : List Table) (t : Table) → Contains tables t → (i : ℕ) × IsGiven tables i t
contained-given tables t h = (h.0, slice_get_read tables (length tables) h.0 t refl h.1 (sym h.2))

first-of-both : (a b : Bool) → (a && b) ≡ true → a ≡ true
first-of-both true b h = refl
first-of-both false b h = h

-- the bytes of a table in a file are a copy
pub is-copy : (n : ℕ) (t : Table) → IsCopy t.tag t.bytes.now (in_file n t)
is-copy n t = by (adjusts t) refl
  where
    bytes : List ℕ
    bytes = t.bytes.now

    by : (b : Bool) → adjusts t ≡ b → IsCopy t.tag t.bytes.now (in_file n t)
    by false e =
        let is = with_none n t e in
        subst (λ (xs : List ℕ). IsCopy t.tag t.bytes.now xs) (sym is)
        (record { size = refl; same = λ other. refl; front = refl; after = refl })
    by true e =
        let is = with_number n t e in
        let long : 11 < length t.bytes.now = adjusts-long t e in
        let front : length (take 8 t.bytes.now) ≡ 8 = length-take-le 8 t.bytes.now (omega arith) in
        let both : length (take 8 t.bytes.now ++ uint32 n) ≡ 12 =
        omega (arith, length-append (take 8 t.bytes.now) (uint32 n), front, length-uint32 n) in
        record {
          size = length-in_file n t;
          same = λ other. absurd (other (eqb-true t.tag 0x68656164 (first-of-both (t.tag == 0x68656164) (nat_lt 11 (length t.bytes.now)) e)));
          front = ap (take 8) is ∙ ap (λ k. take k (take 8 t.bytes.now ++ (uint32 n ++ drop 12 t.bytes.now))) (sym front)
              ∙ take-append_seam (take 8 t.bytes.now) (uint32 n ++ drop 12 t.bytes.now);
          after = ap (drop 12) (is ∙ sym (append_assoc (take 8 t.bytes.now) (uint32 n) (drop 12 t.bytes.now)))
              ∙ ap (λ k. drop k ((take 8 t.bytes.now ++ uint32 n) ++ drop 12 t.bytes.now)) (sym both)
              ∙ drop-append_seam (take 8 t.bytes.now ++ uint32 n) (drop 12 t.bytes.now);
        }

-- the size of a table with its padding
abbrev room : Table → ℕ
room t = room_of (length t.bytes.now)

rooms-sum : (tables : List Table) → rooms tables ≡ sum_by room tables
unfolding rooms
rooms-sum [] = refl
rooms-sum (t ∷ tables) = ap (λ n. room t + n) (rooms-sum tables) ∙ sym (sum_by-cons room t tables)

same-size : (tables sorted : List Table) → IsPermutation tables sorted → size_of sorted ≡ size_of tables
same-size tables sorted moved =
    let long = length_permutation tables sorted moved in
    let all = rooms-sum sorted ∙ sum_by-IsPermutation room tables sorted moved ∙ sym (rooms-sum tables) in
    omega (arith, long, all)

has-all : (tables sorted : List Table) (face : FontFile) → IsPermutation tables sorted → HasTables face sorted → HasAll face tables
has-all tables sorted face moved it = record {
  each = λ i t given.
      let there = contained-given sorted t (Contains-permutation tables sorted t moved (given-contained tables i t given)) in
      (in_file it.adjustment t, it.bytes there.0 t there.1, is-copy it.adjustment t);
  only = λ i below.
      let t : Table = get_or sorted i none in
      let within : i < length sorted = let n = it.counted in omega (arith, n, below) in
      let given : IsGiven sorted i (get_or sorted i none) = slice_get-get_or sorted i none within in
      let there = contained-given tables (get_or sorted i none) (Contains-permutation sorted tables (get_or sorted i none)
      (IsPermutation-sym tables sorted moved) (given-contained sorted i (get_or sorted i none) given)) in
      (there.0, get_or sorted i none, there.1, sym (it.tag i (get_or sorted i none) given));
  counted = it.counted ∙ length_permutation tables sorted moved;
}

pub is-file : (tables sorted : List Table) (bytes : List ℕ) → IsPermutation tables sorted → Opens bytes (length sorted) →
    AreLent bytes sorted → length bytes ≡ size_of sorted → (0 < length sorted → IsSoundFile bytes) → IsFileOf tables bytes
is-file tables sorted bytes moved opens lent size sound = record {
  opens = subst (Opens bytes) (length_permutation tables sorted moved) opens;
  sound = subst (λ n. 0 < n → IsSoundFile bytes) (length_permutation tables sorted moved) sound;
  has = λ face read. has-all tables sorted face moved (lent face read);
  size = size ∙ same-size tables sorted moved;
}

-- tags that do not fall rise if no neighbours are equal
pub tags-rise : (tables : List Table) → IsNonDecreasingBy (λ t. t.tag) tables → NoNeighbours tables → TagsRise tables
tags-rise tables up apart i j a b less first second =
    let within : j < length tables = slice_get_within tables j b second in
    let next : Table = get_or tables (i + 1) none in
    let given : IsGiven tables (i + 1) (get_or tables (i + 1) none) = slice_get-get_or tables (i + 1) none (omega (arith, less, within)) in
    let a-is = get_or_from_slice_get tables i a none first in
    let b-is = get_or_from_slice_get tables j b none second in
    let one : a.tag ≤ (get_or tables (i + 1) none).tag =
    subst (λ (t : Table). t.tag ≤ (get_or tables (i + 1) none).tag) a-is (up i (i + 1) none (omega arith) (omega (arith, less, within))) in
    let two : (get_or tables (i + 1) none).tag ≤ b.tag =
    subst (λ (t : Table). (get_or tables (i + 1) none).tag ≤ t.tag) b-is (up (i + 1) j none (omega (arith, less)) within) in
    let other : a.tag ≢ (get_or tables (i + 1) none).tag = apart i a (get_or tables (i + 1) none) first given in
    omega (arith, one, two, other)

pub if-written : (r : Result (Vec ℕ Global) Error) (tables sorted : List Table) → IsPermutation tables sorted →
    IfOk r (λ file. Opens file.items (length sorted)) → IfOk r (λ file. AreLent file.items sorted) →
    IfOk r (λ file. length file.items ≡ size_of sorted) → IfOk r (λ file. 0 < length sorted → IsSoundFile file.items) →
    IfOk r (λ file. IsFileOf tables file.items)
if-written (Ok file) tables sorted moved opens lent size sound = is-file tables sorted file.items moved opens lent size sound
if-written (Err e) tables sorted moved opens lent size sound = tt

too-much : (e : Error) (tables sorted : List Table) → IsPermutation tables sorted → IsTooMuch e sorted → NoFileOf e tables
too-much Memory tables sorted moved h = tt
too-much TooLarge tables sorted moved h =
    let long = length_permutation tables sorted moved in
    let size = same-size tables sorted moved in
    elim h [ inl many ↦ inl (omega (arith, long, many)) | inr big ↦ inr (subst (λ n. 2 ^ 32 ≤ n) size big) ]
too-much (File e) tables sorted moved h = absurd h
too-much (MissingTable tag) tables sorted moved h = absurd h
too-much NoMap tables sorted moved h = absurd h
too-much NoAdvances tables sorted moved h = absurd h
too-much (MissingCharacter char) tables sorted moved h = absurd h
too-much (Font e) tables sorted moved h = absurd h
too-much Overlap tables sorted moved h = absurd h
too-much (SameTag tag) tables sorted moved h = absurd h
too-much Cut tables sorted moved h = absurd h

pub if-not-written : (r : Result (Vec ℕ Global) Error) (tables sorted : List Table) → IsPermutation tables sorted →
    IfErr r (λ e. IsTooMuch e sorted) → IfErr r (λ e. NoFileOf e tables)
if-not-written (Ok file) tables sorted moved h = tt
if-not-written (Err e) tables sorted moved h = too-much e tables sorted moved h

-- a tag, spelled by its bytes
pub tag-back : (n : ℕ) → n < 2 ^ 32 → big_endian (to_be_bytes w32 n) ≡ n
unfolding uint32
tag-back n small = value-uint32 n small
