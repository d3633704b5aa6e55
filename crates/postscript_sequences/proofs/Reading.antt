-- A subtable that is written is read back.
use Rattle.std.proofs.Common.{◌≡◌, ℕ, zero, suc, ◌+◌, ◌-◌, ◌*◌, ◌/◌, ◌<◌, ◌≤◌, Bool, false, List, [], ◌∷◌, ◌++◌, length, length-append, get_or, take, drop, flat_map, min, arith, refl, sym, ap, subst, ◌∙◌}
use Rattle.std.specs.Prelude.{nat_lt, ◌==◌, if◌then◌else◌}
use Rattle.std.specs.List.{Contains}
use Rattle.std.proofs.Math.Seq.{drop-append_seam, take-append_seam}
use Rattle.std.proofs.lemmas.Bool.{le-ltb, ne_eqb}
use Rattle.std.proofs.lemmas.List.{append_assoc, get_or_default}
use Rattle.std.proofs.lemmas.Nat.{from_be_bytes-to_be_bytes_2, from_be_bytes-to_be_bytes_4}
use Rattle.postscript_base.specs.Index.{number_at}
use Rattle.postscript_base.specs.Numbers.{big_endian}
use Rattle.postscript_sequences.specs.Rows.{Holds, IsAt, absent_at, there_at}
use Rattle.postscript_sequences.specs.Sequences.{IsMapping, IsRange}
use Rattle.postscript_sequences.specs.Tables.{char_at, first_at, glyph_at, last_at, mappings_of, number, ranges_of}
use Rattle.postscript_sequences.specs.Text.{defaults_text, head_text, mapped_text, mapping_text, range_text, row_text, uint16, uint24, uint32}
use Rattle.postscript_sequences.specs.declared.writing.Row.{Row}
use Rattle.postscript_sequences.proofs.Rising.{Rises}

pub holds_first : {bytes : List ℕ} {offset : ℕ} (a b : List ℕ) → Holds (a ++ b) bytes offset → Holds a bytes offset
holds_first a b h = record {
  front = h.front;
  behind = b ++ h.behind;
  is = h.is ∙ ap (λ xs. h.front ++ xs) (append_assoc a b h.behind);
  place = h.place;
}

pub holds_second : {bytes : List ℕ} {offset : ℕ} (a b : List ℕ) (n : ℕ) → length a ≡ n → Holds (a ++ b) bytes offset → Holds b bytes (offset + n)
holds_second a b n long h = record {
  front = h.front ++ a;
  behind = h.behind;
  is = h.is ∙ ap (λ xs. h.front ++ xs) (append_assoc a b h.behind) ∙ sym (append_assoc h.front a (b ++ h.behind));
  place = (let place = h.place in omega (arith, length-append h.front a, long, place));
}

pub holds_room : {bytes : List ℕ} {offset : ℕ} (text : List ℕ) → Holds text bytes offset → offset + length text ≤ length bytes
holds_room text h =
    let a = ap length h.is in let b = h.place in
    omega (arith, a, b, length-append h.front (text ++ h.behind), length-append text h.behind)

-- an entry of an array
pub holds_item : {X : Type 0} {bytes : List ℕ} (f : X → List ℕ) (size : ℕ) → ((x : X) → length (f x) ≡ size) → (xs : List X)
    (offset k : ℕ) (d : X) → k < length xs → Holds (flat_map f xs) bytes offset → Holds (f (get_or xs k d)) bytes (offset + k * size)
holds_item f size sized [] offset k d less h = absurd (omega (arith, less))
holds_item {bytes = bytes} f size sized (x ∷ xs) offset zero d less h =
    let same : offset ≡ offset + 0 * size = omega arith in
    subst (λ n. Holds (f x) bytes n) same (holds_first (f x) (flat_map f xs) h)
holds_item {bytes = bytes} f size sized (x ∷ xs) offset (suc k) d less h =
    let same : offset + size + k * size ≡ offset + suc k * size = omega arith in
    subst (λ n. Holds (f (get_or xs k d)) bytes n) same
    (holds_item f size sized xs (offset + size) k d (omega (arith, less)) (holds_second (f x) (flat_map f xs) size (sized x) h))

pub length_items : {X : Type 0} (f : X → List ℕ) (size : ℕ) → ((x : X) → length (f x) ≡ size) → (xs : List X) →
    length (flat_map f xs) ≡ length xs * size
length_items f size sized [] = omega arith
length_items f size sized (x ∷ xs) =
    let rest = length_items f size sized xs in
    let here = sized x in
    omega (arith, rest, here, length-append (f x) (flat_map f xs))

-- numbers
holds_number : {bytes : List ℕ} {offset : ℕ} (text : List ℕ) (n size : ℕ) → length text ≡ size → big_endian text ≡ n →
    Holds text bytes offset → number bytes offset size ≡ n
unfolding number number_at
holds_number {bytes = bytes} {offset = offset} text n size long value h =
    ap (λ (b : Bool). if b then 0 else number_at bytes offset size) within
    ∙ ap (λ xs. big_endian (take size xs)) rest ∙ ap (λ k. big_endian (take k (text ++ h.behind))) (sym long)
    ∙ ap big_endian (take-append_seam text h.behind) ∙ value
  where
    within : nat_lt (length bytes) (offset + size) ≡ false
    within = let room = holds_room text h in le-ltb _ _ (omega (arith, room, long))

    rest : drop offset bytes ≡ text ++ h.behind
    rest = ap (drop offset) h.is ∙ ap (λ k. drop k (h.front ++ (text ++ h.behind))) (sym h.place) ∙ drop-append_seam h.front (text ++ h.behind)

pub length16 : (n : ℕ) → length (uint16 n) ≡ 2
unfolding uint16
length16 n = refl

pub length24 : (n : ℕ) → length (uint24 n) ≡ 3
unfolding uint24
length24 n = refl

pub length32 : (n : ℕ) → length (uint32 n) ≡ 4
unfolding uint32
length32 n = refl

value16 : (n : ℕ) → n < 65536 → big_endian (uint16 n) ≡ n
unfolding uint16
value16 n small = let e = from_be_bytes-to_be_bytes_2 n small in omega (arith, e)

value24 : (n : ℕ) → n < 16777216 → big_endian (uint24 n) ≡ n
unfolding uint24
value24 n small = let e = from_be_bytes-to_be_bytes_4 n (omega (arith, small)) in omega (arith, e, small)

value32 : (n : ℕ) → n < 4294967296 → big_endian (uint32 n) ≡ n
unfolding uint32
value32 n small = let e = from_be_bytes-to_be_bytes_4 n small in omega (arith, e)

pub number16 : {bytes : List ℕ} {offset : ℕ} (n : ℕ) → n < 65536 → Holds (uint16 n) bytes offset → number bytes offset 2 ≡ n
number16 n small h = holds_number (uint16 n) n 2 (length16 n) (value16 n small) h

pub number24 : {bytes : List ℕ} {offset : ℕ} (n : ℕ) → n < 16777216 → Holds (uint24 n) bytes offset → number bytes offset 3 ≡ n
number24 n small h = holds_number (uint24 n) n 3 (length24 n) (value24 n small) h

pub number32 : {bytes : List ℕ} {offset : ℕ} (n : ℕ) → n < 4294967296 → Holds (uint32 n) bytes offset → number bytes offset 4 ≡ n
number32 n small h = holds_number (uint32 n) n 4 (length32 n) (value32 n small) h

number8 : {bytes : List ℕ} {offset : ℕ} → Holds (0 ∷ []) bytes offset → number bytes offset 1 ≡ 0
number8 h = holds_number (0 ∷ []) 0 1 refl refl h

-- the ranges of a Default UVS table
pub length_range : (char : ℕ) → length (range_text char) ≡ 4
length_range char = let a = length24 char in omega (arith, a, length-append (uint24 char) (0 ∷ []))

pub ranges_at : (bytes : List ℕ) (ds : List ℕ) (offset : ℕ) → IsAt ds (defaults_text ds) bytes offset → ranges_of bytes offset ≡ length ds
unfolding ranges_of
ranges_at bytes ds offset (absent_at none start) =
    ap (λ k. if k == 0 then 0 else min (number bytes k 4) ((length bytes - (k + 4)) / 4)) start ∙ sym (ap length none)
ranges_at bytes ds offset (there_at few some small h) =
    let count = number32 (length ds) few (holds_first (uint32 (length ds)) (flat_map range_text ds) h) in
    let room = holds_room (defaults_text ds) h in
    let a = length32 (length ds) in
    let b = length_items range_text 4 length_range ds in
    let c = length-append (uint32 (length ds)) (flat_map range_text ds) in
    ap (λ (t : Bool). if t then 0 else min (number bytes offset 4) ((length bytes - (offset + 4)) / 4))
    (ne_eqb offset 0 (λ e. absurd (omega (arith, e, some))))
    ∙ omega (arith, count, room, a, b, c)

range_holds : (bytes : List ℕ) (ds : List ℕ) (offset k : ℕ) → k < length ds → IsAt ds (defaults_text ds) bytes offset →
    Holds (range_text (get_or ds k 0)) bytes (offset + 4 + k * 4)
range_holds bytes ds offset k less (absent_at none start) = let e = ap length none in absurd (omega (arith, e, less))
range_holds bytes ds offset k less (there_at few some small h) =
    holds_item range_text 4 length_range ds (offset + 4) k 0 less
    (holds_second (uint32 (length ds)) (flat_map range_text ds) 4 (length32 (length ds)) h)

pub first_is : (bytes : List ℕ) (ds : List ℕ) (offset k : ℕ) → k < length ds → get_or ds k 0 < 16777216 →
    IsAt ds (defaults_text ds) bytes offset → first_at bytes offset k ≡ get_or ds k 0
first_is bytes ds offset k less small h =
    number24 (get_or ds k 0) small (holds_first (uint24 (get_or ds k 0)) (0 ∷ []) (range_holds bytes ds offset k less h))

pub last_is : (bytes : List ℕ) (ds : List ℕ) (offset k : ℕ) → k < length ds → get_or ds k 0 < 16777216 →
    IsAt ds (defaults_text ds) bytes offset → last_at bytes offset k ≡ get_or ds k 0
last_is bytes ds offset k less small h =
    let first = first_is bytes ds offset k less small h in
    let more = number8 (holds_second (uint24 (get_or ds k 0)) (0 ∷ []) 3 (length24 (get_or ds k 0)) (range_holds bytes ds offset k less h)) in
    omega (arith, first, more)

-- each character has 24 bits
pub record AreSmall (ds : List ℕ) : Type 0 where
  pub each : (char : ℕ) → Contains ds char → char < 16777216

pub small_at : (ds : List ℕ) → AreSmall ds → (k : ℕ) → k < length ds → get_or ds k 0 < 16777216
small_at ds small k less = small.each (get_or ds k 0) (k, less, get_or_default ds k (get_or ds k 0) 0 less)

pub range_there : (bytes : List ℕ) (ds : List ℕ) (offset : ℕ) → AreSmall ds → IsAt ds (defaults_text ds) bytes offset → (char k : ℕ) →
    IsRange bytes offset char k → Contains ds char
range_there bytes ds offset small h char k is =
    let count = ranges_at bytes ds offset h in
    let less : k < length ds = let listed = is.listed in omega (arith, listed, count) in
    let first = first_is bytes ds offset k less (small_at ds small k less) h in
    let last = last_is bytes ds offset k less (small_at ds small k less) h in
    let from = is.from in let to = is.to in
    let same : get_or ds k 0 ≡ char = omega (arith, first, last, from, to) in
    (k, less, get_or_default ds k char 0 less ∙ same)

pub there_range : (bytes : List ℕ) (ds : List ℕ) (offset : ℕ) → AreSmall ds → Rises (λ x. x) ds → IsAt ds (defaults_text ds) bytes offset →
    (char : ℕ) → Contains ds char → (k : ℕ) × IsRange bytes offset char k
there_range bytes ds offset small rises h char there =
    let k : ℕ = there.0 in
    let less : k < length ds = there.1 in
    let count = ranges_at bytes ds offset h in
    let same : get_or ds k 0 ≡ char = get_or_default ds k 0 char less ∙ there.2 in
    let first = first_is bytes ds offset k less (small_at ds small k less) h in
    let last = last_is bytes ds offset k less (small_at ds small k less) h in (
      k,
      record {
        listed = omega (arith, less, count);
        small = small.each char there;
        from = omega (arith, first, same);
        to = omega (arith, last, same);
        before = λ j below.
            let within : j < length ds = omega (arith, below, less) in
            let early = last_is bytes ds offset j within (small_at ds small j within) h in
            let low = rises.apart j k 0 below less in
            omega (arith, early, low, same);
      },
    )

-- the mappings of a Non-Default UVS table
pub length_mapping : (each : ℕ × ℕ) → length (mapping_text each) ≡ 5
length_mapping each = let a = length24 each.0 in let b = length16 each.1 in omega (arith, a, b, length-append (uint24 each.0) (uint16 each.1))

pub mappings_at : (bytes : List ℕ) (ms : List (ℕ × ℕ)) (offset : ℕ) → IsAt ms (mapped_text ms) bytes offset →
    mappings_of bytes offset ≡ length ms
unfolding mappings_of
mappings_at bytes ms offset (absent_at none start) =
    ap (λ k. if k == 0 then 0 else min (number bytes k 4) ((length bytes - (k + 4)) / 5)) start ∙ sym (ap length none)
mappings_at bytes ms offset (there_at few some small h) =
    let count = number32 (length ms) few (holds_first (uint32 (length ms)) (flat_map mapping_text ms) h) in
    let room = holds_room (mapped_text ms) h in
    let a = length32 (length ms) in
    let b = length_items mapping_text 5 length_mapping ms in
    let c = length-append (uint32 (length ms)) (flat_map mapping_text ms) in
    ap (λ (t : Bool). if t then 0 else min (number bytes offset 4) ((length bytes - (offset + 4)) / 5))
    (ne_eqb offset 0 (λ e. absurd (omega (arith, e, some))))
    ∙ omega (arith, count, room, a, b, c)

mapping_holds : (bytes : List ℕ) (ms : List (ℕ × ℕ)) (offset k : ℕ) (d : ℕ × ℕ) → k < length ms → IsAt ms (mapped_text ms) bytes offset →
    Holds (mapping_text (get_or ms k d)) bytes (offset + 4 + k * 5)
mapping_holds bytes ms offset k d less (absent_at none start) = let e = ap length none in absurd (omega (arith, e, less))
mapping_holds bytes ms offset k d less (there_at few some small h) =
    holds_item mapping_text 5 length_mapping ms (offset + 4) k d less
    (holds_second (uint32 (length ms)) (flat_map mapping_text ms) 4 (length32 (length ms)) h)

-- each character has 24 bits, and each glyph 16
pub record MappedSmall (ms : List (ℕ × ℕ)) : Type 0 where
  pub char : (each : ℕ × ℕ) → Contains ms each → each.0 < 16777216
  pub glyph : (each : ℕ × ℕ) → Contains ms each → each.1 < 65536

here : (ms : List (ℕ × ℕ)) (k : ℕ) (d : ℕ × ℕ) → k < length ms → Contains ms (get_or ms k d)
here ms k d less = (k, less, get_or_default ms k (get_or ms k d) d less)

char_is : (bytes : List ℕ) (ms : List (ℕ × ℕ)) (offset k : ℕ) (d : ℕ × ℕ) → k < length ms → MappedSmall ms →
    IsAt ms (mapped_text ms) bytes offset → char_at bytes offset k ≡ (get_or ms k d).0
char_is bytes ms offset k d less small h =
    number24 (get_or ms k d).0 (small.char (get_or ms k d) (here ms k d less))
    (holds_first (uint24 (get_or ms k d).0) (uint16 (get_or ms k d).1) (mapping_holds bytes ms offset k d less h))

glyph_is : (bytes : List ℕ) (ms : List (ℕ × ℕ)) (offset k : ℕ) (d : ℕ × ℕ) → k < length ms → MappedSmall ms →
    IsAt ms (mapped_text ms) bytes offset → glyph_at bytes offset k ≡ (get_or ms k d).1
glyph_is bytes ms offset k d less small h =
    number16 (get_or ms k d).1 (small.glyph (get_or ms k d) (here ms k d less))
    (holds_second (uint24 (get_or ms k d).0) (uint16 (get_or ms k d).1) 3 (length24 (get_or ms k d).0) (mapping_holds bytes ms offset k d less h))

pub mapping_there : (bytes : List ℕ) (ms : List (ℕ × ℕ)) (offset : ℕ) → MappedSmall ms → IsAt ms (mapped_text ms) bytes offset →
    (char k glyph : ℕ) → IsMapping bytes offset char k → glyph_at bytes offset k ≡ glyph → Contains ms (char, glyph)
mapping_there bytes ms offset small h char k glyph is at =
    let count = mappings_at bytes ms offset h in
    let less : k < length ms = let listed = is.listed in omega (arith, listed, count) in
    let a : (get_or ms k (char, glyph)).0 ≡ char = sym (char_is bytes ms offset k (char, glyph) less small h) ∙ is.is in
    let b : (get_or ms k (char, glyph)).1 ≡ glyph = sym (glyph_is bytes ms offset k (char, glyph) less small h) ∙ at in
    (k, less, ap (λ x. (x, (get_or ms k (char, glyph)).1)) a ∙ ap (λ x. (char, x)) b)

pub there_mapping : (bytes : List ℕ) (ms : List (ℕ × ℕ)) (offset : ℕ) → MappedSmall ms → Rises (λ each. each.0) ms →
    IsAt ms (mapped_text ms) bytes offset → (char glyph : ℕ) → Contains ms (char, glyph) →
    (k : ℕ) × IsMapping bytes offset char k × (glyph_at bytes offset k ≡ glyph)
there_mapping bytes ms offset small rises h char glyph there =
    let d : ℕ × ℕ = (char, glyph) in
    let k : ℕ = there.0 in
    let less : k < length ms = there.1 in
    let count = mappings_at bytes ms offset h in
    let same : (get_or ms k d).0 ≡ char = ap (λ x. x.0) there.2 in
    let at = char_is bytes ms offset k d less small h in (
      k,
      record {
        listed = omega (arith, less, count);
        small = small.char d there;
        is = at ∙ same;
        before = λ j below.
            let within : j < length ms = omega (arith, below, less) in
            let early = char_is bytes ms offset j d within small h in
            let low = rises.apart j k d below less in
            omega (arith, early, low, same);
      },
      glyph_is bytes ms offset k d less small h ∙ ap (λ x. x.1) there.2,
    )

-- the header and the records
pub length_row : (own : Row) → length (row_text own) ≡ 11
length_row own =
    let a = length24 own.selector in let b = length32 own.defaults in let c = length32 own.mapped in
    omega (arith, a, b, c, length-append (uint24 own.selector) (uint32 own.defaults ++ uint32 own.mapped), length-append (uint32 own.defaults) (uint32 own.mapped))

pub length_head : (size count : ℕ) → length (head_text size count) ≡ 10
length_head size count =
    let a = length16 14 in let b = length32 size in let c = length32 count in
    omega (arith, a, b, c, length-append (uint16 14) (uint32 size ++ uint32 count), length-append (uint32 size) (uint32 count))
