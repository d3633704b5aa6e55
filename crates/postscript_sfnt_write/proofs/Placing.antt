-- Where records and tables stand.
use Rattle.std.proofs.Common.{◌≡◌, refl, ap, subst, ◌∙◌, ℕ, zero, suc, ◌+◌, ◌-◌, ◌*◌, ◌%◌, ◌≤◌, ◌<◌, Bool, true, false, List, [], ◌∷◌, ◌++◌, length, take, drop, length-append, length-drop, arith}
use Rattle.std.specs.Prelude.{Some}
use Rattle.std.proofs.lemmas.List.{length-take-le, length-replicate}
use Rattle.postscript_sfnt_write.specs.Layout.{header_text, record_text, records_text, table_text, tables_text, zeros}
use Rattle.postscript_sfnt_write.specs.Numbers.{uint16, uint32}
use Rattle.postscript_sfnt_write.specs.Tables.{IsGiven, adjusts, in_file, room_of, rooms}
use Rattle.postscript_sfnt_write.specs.declared.file.Table.{Table}
use Rattle.postscript_sfnt_write.proofs.Standing.{Stands, stands_first, stands_second}
use Rattle.postscript_sfnt_write.proofs.Sums.{length-uint32, with_number, with_none, adjusts-long}

-- where table i begins, of tables that stand one behind the other from a place on
unfoldable pub place_in : (place : ℕ) → List Table → (i : ℕ) → ℕ
place_in place [] i = place
place_in place (t ∷ ts) zero = place
place_in place (t ∷ ts) (suc i) = place_in (place + room_of (length t.bytes.now)) ts i

-- one is given below their number, and none past it
pub given_at : (tables : List Table) (i : ℕ) → i < length tables → (t : Table) × IsGiven tables i t
given_at [] i h = absurd (omega arith)
given_at (t ∷ ts) zero h = (t, refl)
given_at (t ∷ ts) (suc i) h = given_at ts i (omega arith)

pub given_below : (tables : List Table) (i : ℕ) (t : Table) → IsGiven tables i t → i < length tables
given_below [] i t e = absurd (cc)
given_below (u ∷ us) zero t e = omega arith
given_below (u ∷ us) (suc i) t e = let less = given_below us i t e in omega (arith, less)

pub same_table : (u t : Table) → Some u ≡ Some t → u ≡ t
same_table u t e = cc

-- lengths
pub length-in_file : (n : ℕ) (t : Table) → length (in_file n t) ≡ length t.bytes.now
length-in_file n t = by (adjusts t) refl
  where
    by : (b : Bool) → adjusts t ≡ b → length (in_file n t) ≡ length t.bytes.now
    by false e = ap length (with_none n t e)
    by true e =
        let long : 11 < length t.bytes.now = adjusts-long t e in
        let a : length (take 8 t.bytes.now) ≡ 8 = length-take-le 8 t.bytes.now (omega arith) in
        let f : length (in_file n t) ≡ length (take 8 t.bytes.now ++ (uint32 n ++ drop 12 t.bytes.now)) = ap length (with_number n t e) in
        let g = length-append (take 8 t.bytes.now) (uint32 n ++ drop 12 t.bytes.now) in
        let h = length-append (uint32 n) (drop 12 t.bytes.now) in
        let k = length-uint32 n in
        let l = length-drop 12 t.bytes.now in
        omega (arith, long, a, f, g, h, k, l)

pub length-table_text : (n : ℕ) (t : Table) → length (table_text n t) ≡ room_of (length t.bytes.now)
unfolding table_text
length-table_text n t =
    let e = length-append (in_file n t) (zeros (length t.bytes.now)) in
    let f = length-in_file n t in
    let g = length-replicate {A = ℕ} (room_of (length t.bytes.now) - length t.bytes.now) 0 in
    omega (arith, e, f, g)

pub length-tables_text : (n : ℕ) (ts : List Table) → length (tables_text n ts) ≡ rooms ts
unfolding tables_text rooms
length-tables_text n [] = refl
length-tables_text n (t ∷ ts) =
    let e = length-append (table_text n t) (tables_text n ts) in
    let f = length-table_text n t in
    let g = length-tables_text n ts in
    omega (arith, e, f, g)

pub length-record_text : (place : ℕ) (t : Table) → length (record_text place t) ≡ 16
unfolding record_text uint32
length-record_text place t = refl

pub length-records_text : (place : ℕ) (ts : List Table) → length (records_text place ts) ≡ length ts * 16
unfolding records_text
length-records_text place [] = refl
length-records_text place (t ∷ ts) =
    let e = length-append (record_text place t) (records_text (place + room_of (length t.bytes.now)) ts) in
    let f = length-record_text place t in
    let g = length-records_text (place + room_of (length t.bytes.now)) ts in
    omega (arith, e, f, g)

pub length-header_text : (count selector : ℕ) → length (header_text count selector) ≡ 12
unfolding header_text uint16 uint32
length-header_text count selector = refl

-- places
pub place_within : (place : ℕ) (ts : List Table) (i : ℕ) (t : Table) → IsGiven ts i t →
    place_in place ts i + room_of (length t.bytes.now) ≤ place + rooms ts
unfolding place_in rooms
place_within place [] i t e = absurd (cc)
place_within place (u ∷ us) zero t e =
    let same : room_of (length u.bytes.now) ≡ room_of (length t.bytes.now) = ap (λ (x : Table). room_of (length x.bytes.now))
    (same_table u t e) in omega (arith, same)
place_within place (u ∷ us) (suc i) t e = let within = place_within (place + room_of (length u.bytes.now)) us i t e in omega (arith, within)

pub place_next : (place : ℕ) (ts : List Table) (i : ℕ) (t : Table) → IsGiven ts i t →
    place_in place ts (suc i) ≡ place_in place ts i + room_of (length t.bytes.now)
unfolding place_in
place_next place [] i t e = absurd (cc)
place_next place (u ∷ us) zero t e = first us ∙ ap (λ (x : Table). place + room_of (length x.bytes.now)) (same_table u t e)
  where
    first : (us : List Table) → place_in (place + room_of (length u.bytes.now)) us 0 ≡ place + room_of (length u.bytes.now)
    first [] = refl
    first (v ∷ vs) = refl
place_next place (u ∷ us) (suc i) t e = place_next (place + room_of (length u.bytes.now)) us i t e

pub place_first : (place : ℕ) (ts : List Table) → place_in place ts 0 ≡ place
unfolding place_in
place_first place [] = refl
place_first place (t ∷ ts) = refl

pub place_last : (place : ℕ) (ts : List Table) → place_in place ts (length ts) ≡ place + rooms ts
unfolding place_in rooms
place_last place [] = omega arith
place_last place (t ∷ ts) = let e = place_last (place + room_of (length t.bytes.now)) ts in omega (arith, e)

pub place_aligned : (place : ℕ) (ts : List Table) (i : ℕ) → place % 4 ≡ 0 → place_in place ts i % 4 ≡ 0
unfolding place_in
place_aligned place [] i h = h
place_aligned place (t ∷ ts) zero h = h
place_aligned place (t ∷ ts) (suc i) h = place_aligned (place + room_of (length t.bytes.now)) ts i (omega arith)

-- what stands there
pub records_stand : {bytes : List ℕ} (place at : ℕ) (ts : List Table) (i : ℕ) (t : Table) → IsGiven ts i t →
    Stands (records_text place ts) bytes at →
    Stands (record_text (place_in place ts i) t) bytes (at + i * 16)
unfolding records_text place_in
records_stand place at [] i t e s = absurd (cc)
records_stand {bytes = bytes} place at (u ∷ us) zero t e s =
    let none : at ≡ at + 0 * 16 = omega arith in
    subst (λ m. Stands (record_text place t) bytes m) none
    (subst (λ (x : Table). Stands (record_text place x) bytes at) (same_table u t e)
    (stands_first (record_text place u) (records_text (place + room_of (length u.bytes.now)) us) s))
records_stand {bytes = bytes} place at (u ∷ us) (suc i) t e s =
    let on : at + 16 + i * 16 ≡ at + suc i * 16 = omega arith in
    subst (λ m. Stands (record_text (place_in (place + room_of (length u.bytes.now)) us i) t) bytes m) on
    (records_stand (place + room_of (length u.bytes.now)) (at + 16) us i t e
    (stands_second (record_text place u) (records_text (place + room_of (length u.bytes.now)) us) 16 (length-record_text place u) s))

pub tables_stand : {bytes : List ℕ} (n at : ℕ) (ts : List Table) (i : ℕ) (t : Table) → IsGiven ts i t → Stands (tables_text n ts) bytes at →
    Stands (table_text n t) bytes (place_in at ts i)
unfolding tables_text place_in
tables_stand n at [] i t e s = absurd (cc)
tables_stand {bytes = bytes} n at (u ∷ us) zero t e s =
    subst (λ (x : Table). Stands (table_text n x) bytes at) (same_table u t e) (stands_first (table_text n u) (tables_text n us) s)
tables_stand n at (u ∷ us) (suc i) t e s =
    tables_stand n (at + room_of (length u.bytes.now)) us i t e
    (stands_second (table_text n u) (tables_text n us) (room_of (length u.bytes.now)) (length-table_text n u) s)
