-- What was written is a file of the tables.
use Rattle.std.proofs.Common.{◌≡◌, refl, sym, ap, subst, ◌∙◌, inl, inr, ℕ, suc, ◌+◌, ◌-◌, ◌*◌, ◌%◌, ◌^◌, ◌≤◌, ◌<◌, List, [], ◌++◌, length, take, drop, add-one, length-append, arith}
use Rattle.std.specs.List.{slice_range}
use Rattle.std.specs.Prelude.{All}
use Rattle.std.proofs.lemmas.List.{append-nil, length-replicate}
use Rattle.std.proofs.lemmas.List.Elements.{All-replicate}
use Rattle.postscript_base.specs.Index.{number_at}
use Rattle.postscript_sfnt.specs.Directory.{IsFace, IsTable, tag_at, offset_at, length_at}
use Rattle.postscript_sfnt_write.specs.Checksum.{checksum}
use Rattle.postscript_sfnt_write.specs.Files.{AreLent, AreListed, ArePacked, CanStand, IsRecordOf, IsSearched, Opens, end_of}
use Rattle.postscript_sfnt_write.specs.Layout.{IsSelector, IsWritten, header_text, record_text, records_text, table_text, tables_text, zeros}
use Rattle.postscript_sfnt_write.specs.Numbers.{uint16, uint32}
use Rattle.postscript_sfnt_write.specs.Tables.{AreTagged, IsGiven, in_file, room_of, rooms, size_of}
use Rattle.postscript_sfnt_write.specs.declared.file.Table.{Table}
use Rattle.postscript_sfnt_write.proofs.Placing.{given_at, given_below, length-header_text, length-in_file, length-records_text, length-tables_text, place_aligned, place_first, place_in, place_last, place_next, place_within, records_stand, tables_stand}
use Rattle.postscript_sfnt_write.proofs.Standing.{Stands, length-uint16, stands_first, stands_second, stands_slice, uint16_stands, uint32_stands}
use Rattle.postscript_sfnt_write.proofs.Sums.{length-uint32}

-- the three parts
record Parts (ts : List Table) (bytes : List ℕ) (n selector : ℕ) : Type 0 where
  header : Stands (header_text (length ts) selector) bytes 0
  records : Stands (records_text (12 + length ts * 16) ts) bytes 12
  tables : Stands (tables_text n ts) bytes (12 + length ts * 16)
  size : length bytes ≡ size_of ts

parts : (ts : List Table) (bytes : List ℕ) → (w : IsWritten ts bytes) → Parts ts bytes w.adjustment w.selector
parts ts bytes w =
    let h = header_text (length ts) w.selector in
    let r = records_text (12 + length ts * 16) ts in
    let t = tables_text w.adjustment ts in
    let whole : Stands ((h ++ r) ++ t) bytes
    0 = record { within = omega arith; behind = []; there = w.text ∙ sym (append-nil ((h ++ r) ++ t)) } in
    let e : length (h ++ r) ≡ 12 + length ts * 16 = length-append h r
    ∙ (let a = length-header_text (length ts) w.selector in let b = length-records_text (12 + length ts * 16) ts in omega (arith, a, b)) in
    record {
      header = stands_first h r (stands_first (h ++ r) t whole);
      records = stands_second h r 12 (length-header_text (length ts) w.selector) (stands_first (h ++ r) t whole);
      tables = (let none : 0 + (12 + length ts * 16) ≡ 12 + length ts * 16 = omega arith in
          subst (λ m. Stands t bytes m) none (stands_second (h ++ r) t (12 + length ts * 16) e whole));
      size = ap length w.text ∙ length-append (h ++ r) t ∙ (let b = length-tables_text w.adjustment ts in omega (arith, e, b));
    }

pub written_size : (ts : List Table) (bytes : List ℕ) → IsWritten ts bytes → length bytes ≡ size_of ts
written_size ts bytes w = (parts ts bytes w).size

-- what the header says
record Header (bytes : List ℕ) (count selector : ℕ) : Type 0 where
  version : number_at bytes 0 4 ≡ 0x4f54544f
  counted : number_at bytes 4 2 ≡ count
  range : number_at bytes 6 2 ≡ 2 ^ selector * 16
  logarithm : number_at bytes 8 2 ≡ selector
  shift : number_at bytes 10 2 ≡ count * 16 - 2 ^ selector * 16

header_stands : {bytes : List ℕ} (count selector : ℕ) → count < 4096 → IsSelector count selector →
    Stands (header_text count selector) bytes 0 → Header bytes count selector
unfolding header_text
header_stands count selector few is s =
    let r : ℕ = 2 ^ selector * 16 in
    let d : List ℕ = uint16 (count * 16 - r) in
    let c : List ℕ = uint16 selector ++ d in
    let b : List ℕ = uint16 r ++ c in
    let a : List ℕ = uint16 count ++ b in
    let at4 = stands_second (uint32 0x4f54544f) a 4 (length-uint32 0x4f54544f) s in
    let at6 = stands_second (uint16 count) b 2 (length-uint16 count) at4 in
    let at8 = stands_second (uint16 r) c 2 (length-uint16 r) at6 in
    let at10 = stands_second (uint16 selector) d 2 (length-uint16 selector) at8 in
    record {
      version = uint32_stands 0x4f54544f (omega arith) (stands_first (uint32 0x4f54544f) a s);
      counted = uint16_stands count (omega arith) (stands_first (uint16 count) b at4);
      range = uint16_stands r is.room (stands_first (uint16 r) c at6);
      logarithm = uint16_stands selector (let small = is.small in omega (arith, small)) (stands_first (uint16 selector) d at8);
      shift = uint16_stands (count * 16 - r) (omega arith) at10;
    }

-- what a record says
record Fields (bytes : List ℕ) (at place : ℕ) (t : Table) : Type 0 where
  tag : number_at bytes at 4 ≡ t.tag
  sum : number_at bytes (at + 4) 4 ≡ checksum (in_file 0 t)
  offset : number_at bytes (at + 8) 4 ≡ place
  size : number_at bytes (at + 12) 4 ≡ length t.bytes.now

fields : {bytes : List ℕ} (at place : ℕ) (t : Table) → t.tag < 2 ^ 32 → place < 2 ^ 32 → length t.bytes.now < 2 ^ 32 →
    Stands (record_text place t) bytes at → Fields bytes at place t
unfolding record_text
fields {bytes = bytes} at place t tagged low small s =
    let c : List ℕ = uint32 (length t.bytes.now) in
    let b : List ℕ = uint32 place ++ c in
    let n : ℕ = checksum (in_file 0 t) in
    let a : List ℕ = uint32 n ++ b in
    let at4 = stands_second (uint32 t.tag) a 4 (length-uint32 t.tag) s in
    let at8 = stands_second (uint32 n) b 4 (length-uint32 n) at4 in
    let at12 = stands_second (uint32 place) c 4 (length-uint32 place) at8 in
    let eight : at + 4 + 4 ≡ at + 8 = omega arith in
    let twelve : at + 4 + 4 + 4 ≡ at + 12 = omega arith in
    record {
      tag = uint32_stands t.tag tagged (stands_first (uint32 t.tag) a s);
      sum = uint32_stands n (omega arith) (stands_first (uint32 n) b at4);
      offset = subst (λ m. number_at bytes m 4 ≡ place) eight (uint32_stands place low (stands_first (uint32 place) c at8));
      size = subst (λ m. number_at bytes m 4 ≡ length t.bytes.now) twelve (uint32_stands (length t.bytes.now) small at12);
    }

-- what the record of a table says, and where it is
record Told (ts : List Table) (bytes : List ℕ) (i : ℕ) (t : Table) : Type 0 where
  told : IsRecordOf bytes i t
  offset : offset_at bytes 0 i ≡ place_in (12 + length ts * 16) ts i
  within : place_in (12 + length ts * 16) ts i + room_of (length t.bytes.now) ≤ length bytes

told : (ts : List Table) (bytes : List ℕ) (n selector : ℕ) → CanStand ts → AreTagged ts → Parts ts bytes n selector → (i : ℕ)
    (t : Table) → IsGiven ts i t → Told ts bytes i t
told ts bytes n selector can tagged p i t e =
    let place : ℕ = place_in (12 + length ts * 16) ts i in
    let within : place + room_of (length t.bytes.now) ≤ 12 + length ts * 16 + rooms ts = place_within (12 + length ts * 16) ts i t e in
    let fits = can.fits in
    let f : Fields bytes (12 + i * 16) place t = fields (12 + i * 16) place t (tagged i t e) (omega (arith, within, fits))
    (omega (arith, within, fits))
    (records_stand (12 + length ts * 16) 12 ts i t e p.records) in
    record {
      told = record { tag = f.tag; sum = f.sum; size = f.size };
      offset = f.offset;
      within = let size = p.size in omega (arith, within, size);
    }

-- the bytes between two places
between : (bytes text : List ℕ) (from to place : ℕ) → from ≡ place → to - from ≡ length text → Stands text bytes place →
    slice_range bytes from to ≡ text
between bytes text from to place e f s =
    ap (λ m. take m (drop from bytes)) f ∙ ap (λ m. take (length text) (drop m bytes)) e ∙ stands_slice text s

-- a table, and the zeros behind it
first_stands : {bytes : List ℕ} {place : ℕ} (n : ℕ) (t : Table) → Stands (table_text n t) bytes place → Stands (in_file n t) bytes place
unfolding table_text
first_stands n t s = stands_first (in_file n t) (zeros (length t.bytes.now)) s

zeros_stand : {bytes : List ℕ} {place : ℕ} (n : ℕ) (t : Table) → Stands (table_text n t) bytes place →
    Stands (zeros (length t.bytes.now)) bytes (place + length t.bytes.now)
unfolding table_text
zeros_stand n t s = stands_second (in_file n t) (zeros (length t.bytes.now)) (length t.bytes.now) (length-in_file n t) s

pub opens : (ts : List Table) (bytes : List ℕ) → CanStand ts → IsWritten ts bytes → Opens bytes (length ts)
opens ts bytes can w =
    let p = parts ts bytes w in
    let h = header_stands (length ts) w.selector can.counted w.selected p.header in
    let size = p.size in
    record {
      version = h.version;
      face = inl (record { alone = record { within = omega (arith, size); version = inr (inl h.version) }; first = refl; begins = refl });
      directory = record { version = inr (inl h.version); counted = sym h.counted; room = omega (arith, size) };
    }

pub listed : (ts : List Table) (bytes : List ℕ) → CanStand ts → IsWritten ts bytes → AreListed bytes ts
listed ts bytes can w i t e = (told ts bytes w.adjustment w.selector can w.tagged (parts ts bytes w) i t e).told

-- where a face that is read from the file begins, and how many tables it has
begins : (bytes : List ℕ) (count : ℕ) → Opens bytes count → number_at bytes 0 4 ≡ 0x4f54544f → (start : ℕ) → IsFace bytes 0 start →
    start ≡ 0
begins bytes count it version start face = elim face [
  | inl only ↦ only.begins
  | inr other ↦ (let tag = other.header.tag in absurd (omega (arith, version, tag)))
]

pub lent : (ts : List Table) (bytes : List ℕ) → CanStand ts → IsWritten ts bytes → AreLent bytes ts
lent ts bytes can w face of = record {
  counted = many;
  tag = λ i t e. ap (λ (xs : List ℕ). tag_at xs face.start i) of.lent ∙ ap (λ m. tag_at bytes m i) first ∙ (all i t e).told.tag;
  adjustment = w.adjustment;
  small = w.small;
  bytes = λ i t e. subst (λ (xs : List ℕ). IsTable xs face.start face.count t.tag (in_file w.adjustment t)) (sym of.lent)
      (subst (λ m. IsTable bytes m face.count t.tag (in_file w.adjustment t)) (sym first)
      (subst (λ m. IsTable bytes 0 m t.tag (in_file w.adjustment t)) (sym many) (one i t e)));
}
  where
    h : Header bytes (length ts) w.selector
    h = header_stands (length ts) w.selector can.counted w.selected (parts ts bytes w).header

    first : face.start ≡ 0
    first = begins bytes (length ts) (opens ts bytes can w) h.version face.start of.begins

    many : face.count ≡ length ts
    many = of.directory.counted ∙ ap (λ m. number_at bytes (m + 4) 2) first ∙ h.counted

    p : Parts ts bytes w.adjustment w.selector
    p = parts ts bytes w

    all : (i : ℕ) (t : Table) → IsGiven ts i t → Told ts bytes i t
    all = told ts bytes w.adjustment w.selector can w.tagged p

    one : (i : ℕ) (t : Table) → IsGiven ts i t → IsTable bytes 0 (length ts) t.tag (in_file w.adjustment t)
    one i t e =
        let it = all i t e in
        let off = it.offset in
        let size = it.told.size in
        let within = it.within in
        let long = length-in_file w.adjustment t in
        record {
          i = i;
          chosen = record {
            listed = given_below ts i t e;
            names = record { named = it.told.tag; within = omega (arith, off, size, within) };
            first = λ k less names.
                let below : k < length ts = (let there = given_below ts i t e in omega (arith, less, there)) in
                let other = given_at ts k below in
                let lower : other.0.tag < t.tag = can.rise k i other.0 t less other.1 e in
                let is : tag_at bytes 0 k ≡ other.0.tag = (all k other.0 other.1).told.tag in
                let named : tag_at bytes 0 k ≡ t.tag = names.named in
                absurd (omega (arith, lower, is, named));
          };
          slice =
              sym (between bytes (in_file w.adjustment t) (offset_at bytes 0 i) (offset_at bytes 0 i + length_at bytes 0 i)
              (place_in (12 + length ts * 16) ts i) off (omega (arith, size, long))
              (first_stands w.adjustment t (tables_stand w.adjustment (12 + length ts * 16) ts i t e p.tables)));
        }

pub packed : (ts : List Table) (bytes : List ℕ) → CanStand ts → IsWritten ts bytes → ArePacked bytes (length ts)
packed ts bytes can w = record {
  aligned = λ i less.
      let t = given_at ts i less in
      let at = (all i t.0 t.1).offset in
      let four = place_aligned start ts i (omega arith) in
      subst (λ m. m % 4 ≡ 0) (sym at) four;
  first = λ some. let t = given_at ts 0 some in (all 0 t.0 t.1).offset ∙ place_first start ts;
  next = λ i less.
      let t = given_at ts i (omega (arith, less)) in
      let u = given_at ts (i + 1) less in
      (all (i + 1) u.0 u.1).offset ∙ ap (place_in start ts) (add-one i) ∙ place_next start ts i t.0 t.1 ∙ sym (ends i t.0 t.1);
  last = λ i e.
      let less : i < length ts = omega (arith, e) in
      let t = given_at ts i less in
      let same : suc i ≡ length ts = sym (add-one i) ∙ e in
      p.size ∙ sym (place_last start ts) ∙ ap (place_in start ts) (sym same) ∙ place_next start ts i t.0 t.1 ∙ sym (ends i t.0 t.1);
  zeros = λ i less. let t = given_at ts i less in none i t.0 t.1;
}
  where
    start : ℕ
    start = 12 + length ts * 16

    p : Parts ts bytes w.adjustment w.selector
    p = parts ts bytes w

    all : (i : ℕ) (t : Table) → IsGiven ts i t → Told ts bytes i t
    all = told ts bytes w.adjustment w.selector can w.tagged p

    ends : (i : ℕ) (t : Table) → IsGiven ts i t → end_of bytes i ≡ place_in (12 + length ts * 16) ts i + room_of (length t.bytes.now)
    ends i t e =
        ap (λ m. m + room_of (length_at bytes 0 i)) (all i t e).offset
        ∙ ap (λ m. place_in (12 + length ts * 16) ts i + room_of m) (all i t e).told.size

    none : (i : ℕ) (t : Table) → IsGiven ts i t → All (λ byte. byte ≡ 0)
        (slice_range bytes (offset_at bytes 0 i + length_at bytes 0 i) (end_of bytes i))
    none i t e =
        let off = (all i t e).offset in
        let size = (all i t e).told.size in
        let end = ends i t e in
        let many = length-replicate {A = ℕ} (room_of (length t.bytes.now) - length t.bytes.now) 0 in
        let there = zeros_stand w.adjustment t (tables_stand w.adjustment (12 + length ts * 16) ts i t e p.tables) in
        let slice : slice_range bytes (offset_at bytes 0 i + length_at bytes 0 i) (end_of bytes i) ≡ zeros (length t.bytes.now) =
        between bytes (zeros (length t.bytes.now)) (offset_at bytes 0 i + length_at bytes 0 i) (end_of bytes i)
        (place_in (12 + length ts * 16) ts i + length t.bytes.now) (omega (arith, off, size)) (omega (arith, off, size, end, many)) there in
        subst (All (λ byte. byte ≡ 0)) (sym slice)
        (All-replicate (λ byte. byte ≡ 0) (room_of (length t.bytes.now) - length t.bytes.now) 0 refl)

pub searched : (ts : List Table) (bytes : List ℕ) → CanStand ts → IsWritten ts bytes → 0 < length ts → IsSearched bytes (length ts)
searched ts bytes can w some =
    let p = parts ts bytes w in
    let h = header_stands (length ts) w.selector can.counted w.selected p.header in
    let power : 2 ^ number_at bytes 8 2 ≡ 2 ^ w.selector = ap (λ m. 2 ^ m) h.logarithm in
    let most = w.selected.most some in
    let least = w.selected.least in
    let range = h.range in
    let shift = h.shift in
    record {
      most = omega (arith, power, most);
      least = omega (arith, power, least);
      range = omega (arith, power, range);
      shift = omega (arith, range, shift, most);
    }
