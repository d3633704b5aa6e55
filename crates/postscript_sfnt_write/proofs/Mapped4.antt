-- What segments that were written say to the reader.
use Rattle.std.proofs.Common.{◌≡◌, refl, sym, ap, subst, ◌∙◌, inl, inr, ℕ, zero, suc, ◌+◌, ◌-◌, ◌*◌, ◌/◌, ◌%◌, ◌^◌, ◌≤◌, ◌<◌, Bool, true, false, List, [], ◌∷◌, ◌++◌, length, length-append, arith}
use Rattle.std.specs.Prelude.{◌⊎◌, ◌==◌, Some, if◌then◌else◌}
use Rattle.std.proofs.lemmas.Bool.{eq-eqb, eqb-false, eqb-true}
use Rattle.postscript_base.specs.Index.{number_at}
use Rattle.postscript_sfnt.specs.CharacterMap.{first4, last4, delta4, offset4, gives4, listed4, place4}
use Rattle.postscript_sfnt_write.specs.Grouping.{AreBelow, IsGroup, end, head4_text, row_number, row_text, rows_text}
use Rattle.postscript_sfnt_write.specs.Mappings.{CharsRise, IsGlyphIn, IsMapping}
use Rattle.postscript_sfnt_write.specs.Numbers.{uint16}
use Rattle.postscript_sfnt_write.specs.Sequences.{IsClosed, ListsInside}
use Rattle.postscript_sfnt_write.specs.declared.mapping.Group.{Group}
use Rattle.postscript_sfnt_write.specs.declared.mapping.Mapping.{Mapping}
use Rattle.postscript_sfnt_write.specs.declared.mapping.Row.{Row}
use Rattle.postscript_sfnt_write.specs.declared.mapping.Row.TheVariants.{Delta, End, Offset, Start}
use Rattle.postscript_sfnt_write.proofs.Groups.{Say, group_at, mapping_below}
use Rattle.postscript_sfnt_write.proofs.Mapped.{Are}
use Rattle.postscript_sfnt_write.proofs.Standing.{Stands, length-uint16, stands_first, stands_second, stands_within, uint16_stands}

-- rows
length-row_text : (row : Row) (gs : List Group) → length (row_text row gs) ≡ length gs * 2
unfolding row_text
length-row_text row [] = refl
length-row_text row (g ∷ gs) =
    let e = length-append (uint16 (row_number row g)) (row_text row gs) in
    let f = length-uint16 (row_number row g) in
    let h = length-row_text row gs in
    omega (arith, e, f, h)

row_stands : {bytes : List ℕ} (at : ℕ) (row : Row) (gs : List Group) (i : ℕ) (g : Group) → IsGroup gs i g →
    Stands (row_text row gs) bytes at → Stands (uint16 (row_number row g)) bytes (at + i * 2)
unfolding row_text
row_stands at row [] i g e s = absurd (cc)
row_stands {bytes = bytes} at row (u ∷ us) zero g e s =
    let same : u ≡ g = cc in
    let here : at ≡ at + 0 * 2 = omega arith in
    subst (λ k. Stands (uint16 (row_number row g)) bytes k) here
    (subst (λ (x : Group). Stands (uint16 (row_number row x)) bytes at) same (stands_first (uint16 (row_number row u)) (row_text row us) s))
row_stands {bytes = bytes} at row (u ∷ us) (suc i) g e s =
    let on : at + 2 + i * 2 ≡ at + suc i * 2 = omega arith in
    subst (λ k. Stands (uint16 (row_number row g)) bytes k) on
    (row_stands (at + 2) row us i g e (stands_second (uint16 (row_number row u)) (row_text row us) 2 (length-uint16 (row_number row u)) s))

row_small : (row : Row) (g : Group) → row_number row g < 2 ^ 16
row_small End g = omega arith
row_small Start g = omega arith
row_small Delta g = omega arith
row_small Offset g = omega arith

row_said : {bytes : List ℕ} (at : ℕ) (row : Row) (gs : List Group) (i : ℕ) (g : Group) → IsGroup gs i g →
    Stands (row_text row gs) bytes at → number_at bytes (at + i * 2) 2 ≡ row_number row g
row_said at row gs i g e s = uint16_stands (row_number row g) (row_small row g) (row_stands at row gs i g e s)

pub length-rows_text : (gs : List Group) → length (rows_text gs) ≡ 2 + length gs * 8
unfolding rows_text
length-rows_text gs =
    let c : List ℕ = row_text Delta gs ++ row_text Offset gs in
    let b : List ℕ = row_text Start gs ++ c in
    let e1 = length-append (row_text End gs) (uint16 0 ++ b) in
    let e2 = length-append (uint16 0) b in
    let e3 = length-append (row_text Start gs) c in
    let e4 = length-append (row_text Delta gs) (row_text Offset gs) in
    let f1 = length-row_text End gs in
    let f2 = length-uint16 0 in
    let f3 = length-row_text Start gs in
    let f4 = length-row_text Delta gs in
    let f5 = length-row_text Offset gs in
    omega (arith, e1, e2, e3, e4, f1, f2, f3, f4, f5)

-- what a map of so many segments says
pub record Map4 (table : List ℕ) (gs : List Group) : Type 0 where
  pub format : number_at table 0 2 ≡ 4
  pub counted : number_at table 6 2 / 2 ≡ length gs
  pub ends : Stands (row_text End gs) table 14
  pub starts : Stands (row_text Start gs) table (16 + length gs * 2)
  pub deltas : Stands (row_text Delta gs) table (16 + length gs * 4)
  pub offsets : Stands (row_text Offset gs) table (16 + length gs * 6)
  pub room : 16 + length gs * 8 ≤ length table

length-head4 : (count selector : ℕ) → length (head4_text count selector) ≡ 14
unfolding head4_text uint16
length-head4 count selector = refl

record Head4 (table : List ℕ) (count : ℕ) : Type 0 where
  format : number_at table 0 2 ≡ 4
  counted : number_at table 6 2 ≡ count * 2

head4 : (table : List ℕ) (count selector : ℕ) → count < 8002 → Stands (head4_text count selector) table 0 → Head4 table count
unfolding head4_text
head4 table count selector few s =
    let e : List ℕ = uint16 (2 ^ selector * 2) ++ (uint16 selector ++ uint16 (count * 2 - 2 ^ selector * 2)) in
    let d : List ℕ = uint16 (count * 2) ++ e in
    let c : List ℕ = uint16 0 ++ d in
    let b : List ℕ = uint16 (16 + count * 8) ++ c in
    let at2 = stands_second (uint16 4) b 2 (length-uint16 4) s in
    let at4 = stands_second (uint16 (16 + count * 8)) c 2 (length-uint16 (16 + count * 8)) at2 in
    let at6 = stands_second (uint16 0) d 2 (length-uint16 0) at4 in
    record {
      format = uint16_stands 4 (omega arith) (stands_first (uint16 4) b s);
      counted = uint16_stands (count * 2) (omega arith) (stands_first (uint16 (count * 2)) e at6);
    }

pub map4 : (table : List ℕ) (gs : List Group) (selector : ℕ) → length gs < 8002 →
    Stands (head4_text (length gs) selector ++ rows_text gs) table 0 → Map4 table gs
unfolding rows_text
map4 table gs selector few s =
    let n : ℕ = length gs in
    let h = head4 table n selector few (stands_first (head4_text n selector) (rows_text gs) s) in
    let counted = h.counted in
    let c : List ℕ = row_text Delta gs ++ row_text Offset gs in
    let b : List ℕ = row_text Start gs ++ c in
    let a : List ℕ = uint16 0 ++ b in
    let at14 = stands_second (head4_text n selector) (rows_text gs) 14 (length-head4 n selector) s in
    let pad = stands_second (row_text End gs) a (n * 2) (length-row_text End gs) at14 in
    let starts = stands_second (uint16 0) b 2 (length-uint16 0) pad in
    let deltas = stands_second (row_text Start gs) c (n * 2) (length-row_text Start gs) starts in
    let offsets = stands_second (row_text Delta gs) (row_text Offset gs) (n * 2) (length-row_text Delta gs) deltas in
    let within = stands_within (row_text Offset gs) offsets in
    let long = length-row_text Offset gs in
    let p1 : 0 + 14 + n * 2 + 2 ≡ 16 + n * 2 = omega arith in
    let p2 : 0 + 14 + n * 2 + 2 + n * 2 ≡ 16 + n * 4 = omega arith in
    let p3 : 0 + 14 + n * 2 + 2 + n * 2 + n * 2 ≡ 16 + n * 6 = omega arith in
    record {
      format = h.format;
      counted = omega (arith, counted);
      ends = stands_first (row_text End gs) a at14;
      starts = subst (λ k. Stands (row_text Start gs) table k) p1 (stands_first (row_text Start gs) c starts);
      deltas = subst (λ k. Stands (row_text Delta gs) table k) p2 (stands_first (row_text Delta gs) (row_text Offset gs) deltas);
      offsets = subst (λ k. Stands (row_text Offset gs) table k) p3 offsets;
      room = omega (arith, within, long);
    }

-- where all characters are below 65536, so are the segments
pub record AreLow (gs : List Group) : Type 0 where
  pub starts : (i : ℕ) (g : Group) → IsGroup gs i g → g.start < 65536
  pub ends : (i : ℕ) (g : Group) → IsGroup gs i g → g.end < 65536

pub low_groups : (gs : List Group) (ms : List Mapping) → Say gs ms → ((i : ℕ) (m : Mapping) → IsMapping ms i m → m.char < 65536) → AreLow gs
low_groups gs ms say low =
    record { starts = λ i g e. (let less = at_end i g e in let whole = say.whole i g e in omega (arith, less, whole)); ends = at_end }
  where
    at_end : (i : ℕ) (g : Group) → IsGroup gs i g → g.end < 65536
    at_end i g e =
        let whole = say.whole i g e in
        let has = say.none i g g.end (g.glyph + (g.end - g.start)) e
        (record { from = whole; to = omega arith; is = omega (arith, whole) }) in
        let less = low has.i has.mapping has.there in
        let same = has.char_is in
        omega (arith, less, same)

pub zero_offset : (table : List ℕ) (count i char : ℕ) → offset4 table count i ≡ 0 →
    gives4 table count i char ≡ (char + delta4 table count i) % 65536
zero_offset table count i char e =
    ap (λ b. if b then (char + delta4 table count i) % 65536 else if listed4 table
    (place4 table count i char) == 0 then 0 else (listed4 table (place4 table count i char) + delta4 table count i) % 65536)
    (eq-eqb (offset4 table count i) 0 e)

pub are4 : (table : List ℕ) (gs : List Group) → AreLow gs → Map4 table gs → Are (first4 table (length gs)) (last4 table)
    (gives4 table (length gs)) (length gs) gs
are4 table gs low m = record {
  counted = refl;
  from = λ i g e. row_said (16 + length gs * 2) Start gs i g e m.starts
      ∙ (let less = low.starts i g e in let same : g.start % 65536 ≡ g.start = omega (arith, less) in same);
  to = λ i g e. row_said 14 End gs i g e m.ends
      ∙ (let less = low.ends i g e in let same : g.end % 65536 ≡ g.end = omega (arith, less) in same);
  tell = λ i g char glyph e gives small.
      let none = row_said (16 + length gs * 6) Offset gs i g e m.offsets in
      let delta : delta4 table (length gs) i ≡ (g.glyph + 65536 - g.start % 65536) % 65536 = row_said
      (16 + length gs * 4) Delta gs i g e m.deltas in
      let less = low.starts i g e in
      let is = gives.is in
      zero_offset table (length gs) i char none
      ∙ (let sum : (char + delta4 table (length gs) i) % 65536 ≡ glyph = omega (arith, delta, less, is, small) in sum);
}

-- no glyphs are listed
no_offsets : (table : List ℕ) (gs : List Group) → Map4 table gs → ListsInside table
no_offsets table gs m i char held =
    let counted = m.counted in
    let listed = held.listed in
    let one = group_at gs i (omega (arith, counted, listed)) in
    inl (ap (λ k. offset4 table k i) counted ∙ row_said (16 + length gs * 6) Offset gs i one.0 one.1 m.offsets)

pub closed4 : (table : List ℕ) (gs : List Group) → Map4 table gs → IsClosed table
closed4 table gs m =
    let room = m.room in
    let counted = m.counted in
    record { whole = inl (m.format, omega (arith, room, counted)); lists = λ format. no_offsets table gs m }

-- the character that ends all segments
pub left_in : (ms : List Mapping) (i : ℕ) (m : Mapping) → IsMapping ms i m → IsMapping (ms ++ end ∷ []) i m
left_in [] i m e = absurd (cc)
left_in (u ∷ us) zero m e = e
left_in (u ∷ us) (suc i) m e = left_in us i m e

pub end_in : (ms : List Mapping) → IsMapping (ms ++ end ∷ []) (length ms) end
end_in [] = refl
end_in (u ∷ us) = end_in us

pub in_either : (ms : List Mapping) (i : ℕ) (m : Mapping) → IsMapping (ms ++ end ∷ []) i m →
    IsMapping ms i m ⊎ ((i ≡ length ms) × (end ≡ m))
in_either [] zero m e = inr (refl, (let same : Some end ≡ Some m = e in cc))
in_either [] (suc i) m e = absurd (cc)
in_either (u ∷ us) zero m e = inl e
in_either (u ∷ us) (suc i) m e = elim (in_either us i m e) [
  | inl there ↦ inl there
  | inr last ↦ inr (ap suc last.0, last.1)
]

pub end_rises : (ms : List Mapping) → CharsRise ms → AreBelow ms → CharsRise (ms ++ end ∷ [])
end_rises ms rise below i j a b less x y = elim (in_either ms j b y) [
  | inl there ↦ elim (in_either ms i a x) [
    | inl here ↦ rise i j a b less here there
    | inr last ↦ (let past = mapping_below ms j b there in let at = last.0 in absurd (omega (arith, past, at, less)))
  ]
  | inr last ↦ elim (in_either ms i a x) [
    | inl here ↦ (let low = below i a here in let same : 0xffff ≡ b.char = ap (λ (z : Mapping). z.char) last.1 in omega (arith, low, same))
    | inr also ↦ (let p = last.0 in let q = also.0 in absurd (omega (arith, p, q, less)))
  ]
]

pub low_with_end : (ms : List Mapping) → AreBelow ms → (i : ℕ) (m : Mapping) → IsMapping (ms ++ end ∷ []) i m → m.char < 65536
low_with_end ms below i m e = elim (in_either ms i m e) [
  | inl there ↦ (let low = below i m there in omega (arith, low))
  | inr last ↦ (let same : 0xffff ≡ m.char = ap (λ (z : Mapping). z.char) last.1 in omega (arith, same))
]

-- it is not seen
pub without_end : (ms : List Mapping) (char glyph : ℕ) → IsGlyphIn (ms ++ end ∷ []) char glyph → IsGlyphIn ms char glyph
without_end ms char glyph it = record {
  given = λ i m e. it.given i m (left_in ms i m e);
  lost = λ none. by none (char == 0xffff) refl;
}
  where
    by : ((i : ℕ) (m : Mapping) → IsMapping ms i m → m.char ≡ char → ⊥) → (b : Bool) → (char == 0xffff) ≡ b → glyph ≡ 0
    by none true e = it.given (length ms) end (end_in ms) (sym (eqb-true char 0xffff e))
    by none false e = it.lost (λ i m there same. elim (in_either ms i m there) [
      | inl here ↦ none i m here same
      | inr last ↦ (let is : 0xffff ≡ m.char = ap (λ (z : Mapping). z.char) last.1 in eqb-false char 0xffff e (omega (arith, is, same)))
    ])
