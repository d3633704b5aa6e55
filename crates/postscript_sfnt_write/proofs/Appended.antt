-- A map whose bytes are followed by others.
use Rattle.std.proofs.Common.{◌≡◌, refl, sym, ap, subst, ◌∙◌, inl, inr, ℕ, ◌+◌, ◌-◌, ◌*◌, ◌/◌, ◌%◌, ◌≤◌, ◌<◌, List, ◌++◌, length, take, drop, length-append, length-drop, arith}
use Rattle.std.specs.Prelude.{◌⊎◌, Bool, ◌==◌, ◌||◌, true, false, if◌then◌else◌, nat_lt}
use Rattle.std.proofs.lemmas.Bool.{le-ltb, ltb-false}
use Rattle.std.proofs.lemmas.List.{drop-append-le, take-append-le}
use Rattle.postscript_base.specs.Index.{number_at}
use Rattle.postscript_base.specs.Numbers.{big_endian}
use Rattle.postscript_sfnt.specs.CharacterMap.{Holds, IsGlyphOf, Rise, delta4, first12, first4, gives12, gives4, glyph12, glyph6, last12, last4, listed4, offset4, place4}
use Rattle.postscript_sfnt.specs.Maps.{IsMapAt, IsWhole, Maps}
use Rattle.postscript_sfnt.specs.declared.character_map.CharacterMap.{CharacterMap}
use Rattle.postscript_sfnt.specs.declared.character_map.CharacterMap.TheVariants.{Segments, Groups, Trimmed}
use Rattle.postscript_sfnt_write.specs.Records.{Ascends, IsEnded}
use Rattle.postscript_sfnt_write.specs.Sequences.{IsClosed, ListsInside, segments_in}
use Rattle.postscript_sfnt_write.proofs.Mapped4.{zero_offset}

pub number_within : (t s : List ℕ) (p n : ℕ) → p + n ≤ length t → number_at (t ++ s) p n ≡ number_at t p n
unfolding number_at
number_within t s p n room =
    let before : p ≤ length t = omega (arith, room) in
    let long = length-drop p t in
    let inside : n ≤ length (drop p t) = omega (arith, room, long) in
    ap (λ (xs : List ℕ). big_endian (take n xs)) (drop-append-le p t s before) ∙ ap big_endian (take-append-le n (drop p t) s inside)

-- segments with the same bounds that give the same glyphs
same_glyph : (first last first' last' : ℕ → ℕ) (gives gives' : (i char : ℕ) → ℕ) (count char glyph : ℕ) →
    ((i : ℕ) → i < count → first' i ≡ first i) → ((i : ℕ) → i < count → last' i ≡ last i) →
    ((i : ℕ) → Holds first last count i char → gives' i char ≡ gives i char) →
    IsGlyphOf first' last' gives' count char glyph → IsGlyphOf first last gives count char glyph
same_glyph first last first' last' gives gives' count char glyph firsts lasts same of = record {
  held = λ i there. of.held i (record { holds = on i there.holds; before = λ k less held. there.before k less (back k held) })
      ∙ same i there.holds;
  lost = λ none. of.lost (λ i held. none i (back i held));
}
  where
    on : (i : ℕ) → Holds first last count i char → Holds first' last' count i char
    on i held =
        let listed = held.listed in
        let from = held.from in
        let to = held.to in
        let a = firsts i listed in
        let b = lasts i listed in
        record { listed = listed; from = omega (arith, from, a); to = omega (arith, to, b) }

    back : (i : ℕ) → Holds first' last' count i char → Holds first last count i char
    back i held =
        let listed = held.listed in
        let from = held.from in
        let to = held.to in
        let a = firsts i listed in
        let b = lasts i listed in
        record { listed = listed; from = omega (arith, from, a); to = omega (arith, to, b) }

same_rise : (first last first' last' : ℕ → ℕ) (count : ℕ) → ((i : ℕ) → i < count → first' i ≡ first i) →
    ((i : ℕ) → i < count → last' i ≡ last i) → Rise first last count → Rise first' last' count
same_rise first last first' last' count firsts lasts rise = record {
  whole = λ i less.
      let a = firsts i less in
      let b = lasts i less in
      let whole = rise.whole i less in
      omega (arith, a, b, whole);
  apart = λ i j less below.
      let a = firsts j below in
      let b = lasts i (omega (arith, less, below)) in
      let apart = rise.apart i j less below in
      omega (arith, a, b, apart);
}

same_end : (first last first' last' : ℕ → ℕ) (count : ℕ) → ((i : ℕ) → i < count → first' i ≡ first i) →
    ((i : ℕ) → i < count → last' i ≡ last i) → IsEnded first last count → IsEnded first' last' count
same_end first last first' last' count firsts lasts ended i last_one =
    let less : i < count = omega (arith, last_one) in
    let is = ended i last_one in
    (firsts i less ∙ is.0, lasts i less ∙ is.1)

-- format 4
firsts4 : (t s : List ℕ) (n : ℕ) → 16 + n * 8 ≤ length t → (i : ℕ) → i < n → first4 (t ++ s) n i ≡ first4 t n i
firsts4 t s n room i less = number_within t s (16 + n * 2 + i * 2) 2 (omega (arith, room, less))

lasts4 : (t s : List ℕ) (n : ℕ) → 16 + n * 8 ≤ length t → (i : ℕ) → i < n → last4 (t ++ s) i ≡ last4 t i
lasts4 t s n room i less = number_within t s (14 + i * 2) 2 (omega (arith, room, less))

deltas4 : (t s : List ℕ) (n : ℕ) → 16 + n * 8 ≤ length t → (i : ℕ) → i < n → delta4 (t ++ s) n i ≡ delta4 t n i
deltas4 t s n room i less = number_within t s (16 + n * 4 + i * 2) 2 (omega (arith, room, less))

offsets4 : (t s : List ℕ) (n : ℕ) → 16 + n * 8 ≤ length t → (i : ℕ) → i < n → offset4 (t ++ s) n i ≡ offset4 t n i
offsets4 t s n room i less = number_within t s (16 + n * 6 + i * 2) 2 (omega (arith, room, less))

places4 : (t s : List ℕ) (n : ℕ) → 16 + n * 8 ≤ length t → (i char : ℕ) → i < n → place4 (t ++ s) n i char ≡ place4 t n i char
places4 t s n room i char less =
    ap (λ k. 16 + n * 6 + i * 2 + k + (char - first4 (t ++ s) n i) * 2) (offsets4 t s n room i less)
    ∙ ap (λ k. 16 + n * 6 + i * 2 + offset4 t n i + (char - k) * 2) (firsts4 t s n room i less)

not_past : (table : List ℕ) (place : ℕ) → place + 2 ≤ length table → listed4 table place ≡ number_at table place 2
not_past table place room = ap (λ b. if b then 0 else number_at table place 2) (le-ltb (length table) (place + 2) room)

listed_within : (t s : List ℕ) (place : ℕ) → place + 2 ≤ length t → listed4 (t ++ s) place ≡ listed4 t place
listed_within t s place room =
    let long = length-append t s in
    not_past (t ++ s) place (omega (arith, long, room)) ∙ number_within t s place 2 room ∙ sym (not_past t place room)

gives : (offset char delta listed : ℕ) → ℕ
gives offset char delta listed =
    if offset == 0 then (char + delta) % 65536 else if listed == 0 then 0 else (listed + delta) % 65536

gives_within : (t s : List ℕ) (n : ℕ) → 16 + n * 8 ≤ length t → (i char : ℕ) → i < n →
    (offset4 t n i ≡ 0) ⊎ (place4 t n i char + 2 ≤ length t) → gives4 (t ++ s) n i char ≡ gives4 t n i char
unfolding gives
gives_within t s n room i char less either = elim either [
  | inl zero ↦ zero_offset (t ++ s) n i char (offsets4 t s n room i less ∙ zero)
      ∙ ap (λ k. (char + k) % 65536) (deltas4 t s n room i less) ∙ sym (zero_offset t n i char zero)
  | inr inside ↦
      let listed : listed4 (t ++ s) (place4 (t ++ s) n i char) ≡ listed4 t (place4 t n i char) =
      ap (listed4 (t ++ s)) (places4 t s n room i char less) ∙ listed_within t s (place4 t n i char) inside in
      ap (λ k. gives k char (delta4 (t ++ s) n i) (listed4 (t ++ s) (place4 (t ++ s) n i char))) (offsets4 t s n room i less)
      ∙ ap (λ k. gives (offset4 t n i) char k (listed4 (t ++ s) (place4 (t ++ s) n i char))) (deltas4 t s n room i less)
      ∙ ap (gives (offset4 t n i) char (delta4 t n i)) listed
]

-- format 12
firsts12 : (t s : List ℕ) (n : ℕ) → 16 + n * 12 ≤ length t → (i : ℕ) → i < n → first12 (t ++ s) i ≡ first12 t i
firsts12 t s n room i less = number_within t s (16 + i * 12) 4 (omega (arith, room, less))

lasts12 : (t s : List ℕ) (n : ℕ) → 16 + n * 12 ≤ length t → (i : ℕ) → i < n → last12 (t ++ s) i ≡ last12 t i
lasts12 t s n room i less = number_within t s (16 + i * 12 + 4) 4 (omega (arith, room, less))

glyphs12 : (t s : List ℕ) (n : ℕ) → 16 + n * 12 ≤ length t → (i char : ℕ) → i < n → gives12 (t ++ s) i char ≡ gives12 t i char
glyphs12 t s n room i char less =
    ap (λ k. if nat_lt (k + (char - first12 (t ++ s) i)) 65536 then k + (char - first12 (t ++ s) i) else 0)
    (number_within t s (16 + i * 12 + 8) 4 (omega (arith, room, less)))
    ∙ ap (λ k. if nat_lt (glyph12 t i + (char - k)) 65536 then glyph12 t i + (char - k) else 0) (firsts12 t s n room i less)

-- format 6
neither : (a b : Bool) → (a || b) ≡ false → (a ≡ false) × (b ≡ false)
neither true b e = absurd (cc)
neither false b e = (refl, e)

pick : (b : Bool) (x y : ℕ) → (b ≡ false → x ≡ y) → (if b then 0 else x) ≡ (if b then 0 else y)
pick true x y same = refl
pick false x y same = same refl

glyphs6 : (t s : List ℕ) (first count : ℕ) → 10 + count * 2 ≤ length t → (char : ℕ) → glyph6 (t ++ s) first count char ≡ glyph6 t first count char
glyphs6 t s first count room char =
    pick (nat_lt char first || nat_lt (first + count) (char + 1)) (number_at (t ++ s) (10 + (char - first) * 2) 2)
    (number_at t (10 + (char - first) * 2) 2)
    (λ e.
    let both = neither (nat_lt char first) (nat_lt (first + count) (char + 1)) e in
    let low = ltb-false char first both.0 in
    let high = ltb-false (first + count) (char + 1) both.1 in
    number_within t s (10 + (char - first) * 2) 2 (omega (arith, room, low, high)))

-- the map of the bytes alone
pub record IsAlone (cmap : List ℕ) (place : ℕ) (map : CharacterMap) : Type 0 where
  pub it : CharacterMap
  pub stands : IsMapAt cmap place it
  pub tells : (char glyph : ℕ) → Maps map char glyph → Maps it char glyph
  pub rises : Ascends it → Ascends map

-- a whole table has ten bytes
ten : (t : List ℕ) → IsWhole t → 10 ≤ length t
ten t whole = elim whole [
  | inl four ↦ (let room = four.1 in omega (arith, room))
  | inr more ↦ elim more [
    | inl twelve ↦ (let room = twelve.1 in omega (arith, room))
    | inr six ↦ (let room = six.1 in omega (arith, room))
  ]
]

room4 : (t : List ℕ) → IsWhole t → number_at t 0 2 ≡ 4 → 16 + number_at t 6 2 / 2 * 8 ≤ length t
room4 t whole format = elim whole [
  | inl four ↦ four.1
  | inr more ↦ elim more [
    | inl twelve ↦ (let other = twelve.0 in absurd (omega (arith, other, format)))
    | inr six ↦ (let other = six.0 in absurd (omega (arith, other, format)))
  ]
]

room12 : (t : List ℕ) → IsWhole t → number_at t 0 2 ≡ 12 → 16 + number_at t 12 4 * 12 ≤ length t
room12 t whole format = elim whole [
  | inl four ↦ (let other = four.0 in absurd (omega (arith, other, format)))
  | inr more ↦ elim more [
    | inl twelve ↦ twelve.1
    | inr six ↦ (let other = six.0 in absurd (omega (arith, other, format)))
  ]
]

room6 : (t : List ℕ) → IsWhole t → number_at t 0 2 ≡ 6 → 10 + number_at t 8 2 * 2 ≤ length t
room6 t whole format = elim whole [
  | inl four ↦ (let other = four.0 in absurd (omega (arith, other, format)))
  | inr more ↦ elim more [
    | inl twelve ↦ (let other = twelve.0 in absurd (omega (arith, other, format)))
    | inr six ↦ six.1
  ]
]

-- the segments of a map
glyphs_alone4 : (t s : List ℕ) (n : ℕ) → n ≡ segments_in t → 16 + n * 8 ≤ length t → ListsInside t → (char glyph : ℕ) →
    IsGlyphOf (first4 (t ++ s) n) (last4 (t ++ s)) (gives4 (t ++ s) n) n char glyph →
    IsGlyphOf (first4 t n) (last4 t) (gives4 t n) n char glyph
glyphs_alone4 t s n counted room lists char glyph of =
    let inside = subst (λ k. (i c : ℕ) → Holds (first4 t k) (last4 t) k i c → (offset4 t k i ≡ 0) ⊎ (place4 t k i c + 2 ≤ length t))
    (sym counted) lists in
    same_glyph (first4 t n) (last4 t) (first4 (t ++ s) n) (last4 (t ++ s)) (gives4 t n) (gives4 (t ++ s) n) n char glyph
    (firsts4 t s n room) (lasts4 t s n room) (λ i held. gives_within t s n room i char held.listed (inside i char held)) of

glyphs_alone12 : (t s : List ℕ) (n : ℕ) → 16 + n * 12 ≤ length t → (char glyph : ℕ) →
    IsGlyphOf (first12 (t ++ s)) (last12 (t ++ s)) (gives12 (t ++ s)) n char glyph →
    IsGlyphOf (first12 t) (last12 t) (gives12 t) n char glyph
glyphs_alone12 t s n room char glyph of =
    same_glyph (first12 t) (last12 t) (first12 (t ++ s)) (last12 (t ++ s)) (gives12 t) (gives12 (t ++ s)) n char glyph
    (firsts12 t s n room) (lasts12 t s n room) (λ i held. glyphs12 t s n room i char held.listed) of

pub alone : (t s cmap new : List ℕ) (old_place place : ℕ) (map : CharacterMap) → IsClosed t → drop old_place cmap ≡ t →
    drop place new ≡ t ++ s → IsMapAt new place map → IsAlone cmap old_place map
alone t s cmap new old_place place (Segments m) closed was is stands =
    let long = ten t closed.whole in
    let now : m.table.now ≡ t ++ s = stands.bytes ∙ is in
    let format : number_at t 0 2 ≡ 4 = sym (number_within t s 0 2 (omega (arith, long)))
    ∙ ap (λ (xs : List ℕ). number_at xs 0 2) (sym is) ∙ stands.format in
    let counted : m.count ≡ segments_in t = stands.counted ∙ ap (λ (xs : List ℕ). number_at xs 6 2 / 2) is
    ∙ ap (λ k. k / 2) (number_within t s 6 2 (omega (arith, long))) in
    let whole = room4 t closed.whole format in
    let room : 16 + m.count * 8 ≤ length t = omega (arith, whole, counted) in
    record {
      it = Segments (record {
        table = record { ref_ptr = (0, 0); now = t };
        count = m.count;
        rises = false;
        room = room;
        counted = m.counted;
        risen = λ e. absurd (cc);
      });
      stands = record {
        format = ap (λ (xs : List ℕ). number_at xs 0 2) was ∙ format;
        bytes = sym was;
        counted = counted ∙ ap (λ (xs : List ℕ). number_at xs 6 2 / 2) (sym was);
      };
      tells = λ char glyph of. glyphs_alone4 t s m.count counted room (closed.lists format) char glyph
          (subst (λ (xs : List ℕ). IsGlyphOf (first4 xs m.count) (last4 xs) (gives4 xs m.count) m.count char glyph) now of);
      rises = λ rise.
          subst (λ (xs : List ℕ). Rise (first4 xs m.count) (last4 xs) m.count × IsEnded (first4 xs m.count) (last4 xs) m.count) (sym now) (
            same_rise (first4 t m.count) (last4 t) (first4 (t ++ s) m.count) (last4 (t ++ s)) m.count (firsts4 t s m.count room)
                (lasts4 t s m.count room) rise.0,
            same_end (first4 t m.count) (last4 t) (first4 (t ++ s) m.count) (last4 (t ++ s)) m.count (firsts4 t s m.count room)
                (lasts4 t s m.count room) rise.1,
          );
    }
alone t s cmap new old_place place (Groups m) closed was is stands =
    let long = ten t closed.whole in
    let now : m.table.now ≡ t ++ s = stands.bytes ∙ is in
    let format : number_at t 0 2 ≡ 12 = sym (number_within t s 0 2 (omega (arith, long)))
    ∙ ap (λ (xs : List ℕ). number_at xs 0 2) (sym is) ∙ stands.format in
    let whole = room12 t closed.whole format in
    let counted : m.count ≡ number_at t 12 4 = stands.counted ∙ ap (λ (xs : List ℕ). number_at xs 12 4) is
    ∙ number_within t s 12 4 (omega (arith, whole)) in
    let room : 16 + m.count * 12 ≤ length t = omega (arith, whole, counted) in
    record {
      it = Groups (record {
        table = record { ref_ptr = (0, 0); now = t };
        count = m.count;
        rises = false;
        room = room;
        counted = m.counted;
        risen = λ e. absurd (cc);
      });
      stands = record {
        format = ap (λ (xs : List ℕ). number_at xs 0 2) was ∙ format;
        bytes = sym was;
        counted = counted ∙ ap (λ (xs : List ℕ). number_at xs 12 4) (sym was);
      };
      tells = λ char glyph of. glyphs_alone12 t s m.count room char glyph
          (subst (λ (xs : List ℕ). IsGlyphOf (first12 xs) (last12 xs) (gives12 xs) m.count char glyph) now of);
      rises = λ rise. subst (λ (xs : List ℕ). Rise (first12 xs) (last12 xs) m.count) (sym now)
          (same_rise (first12 t) (last12 t) (first12 (t ++ s)) (last12 (t ++ s)) m.count (firsts12 t s m.count room)
          (lasts12 t s m.count room) rise);
    }
alone t s cmap new old_place place (Trimmed m) closed was is stands =
    let long = ten t closed.whole in
    let now : m.table.now ≡ t ++ s = stands.bytes ∙ is in
    let format : number_at t 0 2 ≡ 6 = sym (number_within t s 0 2 (omega (arith, long)))
    ∙ ap (λ (xs : List ℕ). number_at xs 0 2) (sym is) ∙ stands.format in
    let whole = room6 t closed.whole format in
    let begins : m.first ≡ number_at t 6 2 = stands.begins ∙ ap (λ (xs : List ℕ). number_at xs 6 2) is
    ∙ number_within t s 6 2 (omega (arith, long)) in
    let counted : m.count ≡ number_at t 8 2 = stands.counted ∙ ap (λ (xs : List ℕ). number_at xs 8 2) is
    ∙ number_within t s 8 2 (omega (arith, long)) in
    let room : 10 + m.count * 2 ≤ length t = omega (arith, whole, counted) in
    record {
      it = Trimmed (record { table = record { ref_ptr = (0, 0); now = t }; first = m.first; count = m.count; room = room });
      stands = record {
        format = ap (λ (xs : List ℕ). number_at xs 0 2) was ∙ format;
        bytes = sym was;
        begins = begins ∙ ap (λ (xs : List ℕ). number_at xs 6 2) (sym was);
        counted = counted ∙ ap (λ (xs : List ℕ). number_at xs 8 2) (sym was);
      };
      tells = λ char glyph of. of ∙ ap (λ (xs : List ℕ). glyph6 xs m.first m.count char) now ∙ glyphs6 t s m.first m.count room char;
      rises = λ rise. tt;
    }
