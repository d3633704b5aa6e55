-- What groups that were written say to the reader.
use Rattle.std.proofs.Common.{◌≡◌, refl, ap, subst, ◌∙◌, inl, inr, ℕ, zero, suc, ◌+◌, ◌-◌, ◌*◌, ◌^◌, ◌≤◌, ◌<◌, List, [], ◌∷◌, ◌++◌, length, length-append, arith}
use Rattle.std.specs.Prelude.{if◌then◌else◌, nat_lt}
use Rattle.std.proofs.lemmas.Bool.{lt-ltb}
use Rattle.postscript_base.specs.Index.{number_at}
use Rattle.postscript_sfnt.specs.CharacterMap.{Holds, IsFirst, IsGlyphOf, Rise, first12, last12, glyph12, gives12}
use Rattle.postscript_sfnt_write.specs.Grouping.{MappingsFit, GroupFits, GroupsFit, IsGroup, format12_text, group_text, groups_text}
use Rattle.postscript_sfnt_write.specs.Mappings.{IsGlyphIn, IsMapping}
use Rattle.postscript_sfnt_write.specs.Numbers.{uint16, uint32}
use Rattle.postscript_sfnt_write.specs.Sequences.{IsClosed}
use Rattle.postscript_sfnt_write.specs.declared.mapping.Group.{Group}
use Rattle.postscript_sfnt_write.specs.declared.mapping.Mapping.{Mapping}
use Rattle.postscript_sfnt_write.proofs.Groups.{Gives, Say, group_at, group_below}
use Rattle.postscript_sfnt_write.proofs.Standing.{Stands, length-uint16, stands_first, stands_second, stands_within, uint16_stands, uint32_stands}
use Rattle.postscript_sfnt_write.proofs.Sums.{length-uint32}

-- The reader's segments are the groups.
pub record Are (first last : ℕ → ℕ) (gives : (i char : ℕ) → ℕ) (count : ℕ) (gs : List Group) : Type 0 where
  pub counted : count ≡ length gs
  pub from : (i : ℕ) (g : Group) → IsGroup gs i g → first i ≡ g.start
  pub to : (i : ℕ) (g : Group) → IsGroup gs i g → last i ≡ g.end
  pub tell : (i : ℕ) (g : Group) (char glyph : ℕ) → IsGroup gs i g → Gives g char glyph → glyph < 65536 → gives i char ≡ glyph

is_first : (first last : ℕ → ℕ) (gives : (i char : ℕ) → ℕ) (count : ℕ) (gs : List Group) (ms : List Mapping) (char i : ℕ) (g : Group) →
    Are first last gives count gs → Say gs ms →
    IsGroup gs i g → g.start ≤ char → char ≤ g.end → IsFirst first last count char i
is_first first last gives count gs ms char i g are say there low high = record {
  holds = record {
    listed = let less = group_below gs i g there in let many = are.counted in omega (arith, less, many);
    from = let e = are.from i g there in omega (arith, e, low);
    to = let e = are.to i g there in omega (arith, e, high);
  };
  before = λ k less held.
      let here = group_below gs i g there in
      let one = group_at gs k (omega (arith, less, here)) in
      let apart = say.apart k i one.0 g less one.1 there in
      let e = are.to k one.0 one.1 in
      let to = held.to in
      absurd (omega (arith, apart, e, to, low));
}

lacks : (first last : ℕ → ℕ) (gives : (i char : ℕ) → ℕ) (count : ℕ) (gs : List Group) (ms : List Mapping) (char : ℕ) →
    Are first last gives count gs → Say gs ms →
    ((i : ℕ) (m : Mapping) → IsMapping ms i m → m.char ≡ char → ⊥) → (i : ℕ) → Holds first last count i char → ⊥
lacks first last gives count gs ms char are say none i held =
    let listed = held.listed in
    let many = are.counted in
    let one = group_at gs i (omega (arith, listed, many)) in
    let a = are.from i one.0 one.1 in
    let b = are.to i one.0 one.1 in
    let from = held.from in
    let to = held.to in
    let has = say.none i one.0 char (one.0.glyph + (char - one.0.start)) one.1
    (record { from = omega (arith, a, from); to = omega (arith, b, to); is = omega (arith, a, from) }) in
    none has.i has.mapping has.there has.char_is

pub told_glyph : (first last : ℕ → ℕ) (gives : (i char : ℕ) → ℕ) (count : ℕ) (gs : List Group) (ms : List Mapping) (char glyph : ℕ) →
    Are first last gives count gs → Say gs ms → MappingsFit ms →
    IsGlyphOf first last gives count char glyph → IsGlyphIn ms char glyph
told_glyph first last gives count gs ms char glyph are say fit of = record {
  given = λ i m there e.
      let one = say.all i m there in
      let it = one.gives in
      let low = it.from in
      let high = it.to in
      let is = it.is in
      let small = (fit i m there).glyph in
      of.held one.i (is_first first last gives count gs ms char one.i one.group are say one.there (omega (arith, low, e))
      (omega (arith, high, e)))
      ∙ are.tell one.i one.group char m.glyph one.there
      (record { from = omega (arith, low, e); to = omega (arith, high, e); is = omega (arith, is, e) }) small;
  lost = λ none. of.lost (lacks first last gives count gs ms char are say none);
}

-- so they are in order
pub rises : (first last : ℕ → ℕ) (gives : (i char : ℕ) → ℕ) (count : ℕ) (gs : List Group) (ms : List Mapping) →
    Are first last gives count gs → Say gs ms → Rise first last count
rises first last gives count gs ms are say = record {
  whole = λ i less.
      let many = are.counted in
      let one = group_at gs i (omega (arith, less, many)) in
      let from = are.from i one.0 one.1 in
      let to = are.to i one.0 one.1 in
      let whole = say.whole i one.0 one.1 in
      omega (arith, from, to, whole);
  apart = λ i j less below.
      let many = are.counted in
      let one = group_at gs i (omega (arith, less, below, many)) in
      let other = group_at gs j (omega (arith, below, many)) in
      let to = are.to i one.0 one.1 in
      let from = are.from j other.0 other.1 in
      let apart = say.apart i j one.0 other.0 less one.1 other.1 in
      omega (arith, from, to, apart);
}

-- format 12
length-group_text : (g : Group) → length (group_text g) ≡ 12
unfolding group_text uint32
length-group_text g = refl

pub length-groups_text : (gs : List Group) → length (groups_text gs) ≡ length gs * 12
unfolding groups_text
length-groups_text [] = refl
length-groups_text (g ∷ gs) =
    let e = length-append (group_text g) (groups_text gs) in
    let f = length-group_text g in
    let h = length-groups_text gs in
    omega (arith, e, f, h)

groups_stand : {bytes : List ℕ} (at : ℕ) (gs : List Group) (i : ℕ) (g : Group) → IsGroup gs i g → Stands (groups_text gs) bytes at →
    Stands (group_text g) bytes (at + i * 12)
unfolding groups_text
groups_stand at [] i g e s = absurd (cc)
groups_stand {bytes = bytes} at (u ∷ us) zero g e s =
    let same : u ≡ g = cc in
    let here : at ≡ at + 0 * 12 = omega arith in
    subst (λ k. Stands (group_text g) bytes k) here
    (subst (λ (x : Group). Stands (group_text x) bytes at) same (stands_first (group_text u) (groups_text us) s))
groups_stand {bytes = bytes} at (u ∷ us) (suc i) g e s =
    let on : at + 12 + i * 12 ≡ at + suc i * 12 = omega arith in
    subst (λ k. Stands (group_text g) bytes k) on
    (groups_stand (at + 12) us i g e (stands_second (group_text u) (groups_text us) 12 (length-group_text u) s))

-- what a group says
record Said (bytes : List ℕ) (at : ℕ) (g : Group) : Type 0 where
  start : number_at bytes at 4 ≡ g.start
  end : number_at bytes (at + 4) 4 ≡ g.end
  glyph : number_at bytes (at + 8) 4 ≡ g.glyph

said : {bytes : List ℕ} (at : ℕ) (g : Group) → GroupFits g → Stands (group_text g) bytes at → Said bytes at g
unfolding group_text
said {bytes = bytes} at g fits s =
    let b : List ℕ = uint32 g.end ++ uint32 g.glyph in
    let at4 = stands_second (uint32 g.start) b 4 (length-uint32 g.start) s in
    let at8 = stands_second (uint32 g.end) (uint32 g.glyph) 4 (length-uint32 g.end) at4 in
    let eight : at + 4 + 4 ≡ at + 8 = omega arith in
    record {
      start = uint32_stands g.start fits.start (stands_first (uint32 g.start) b s);
      end = uint32_stands g.end fits.end (stands_first (uint32 g.end) (uint32 g.glyph) at4);
      glyph = subst (λ k. number_at bytes k 4 ≡ g.glyph) eight (uint32_stands g.glyph fits.glyph at8);
    }

-- what the header says
pub record Header12 (table : List ℕ) (gs : List Group) : Type 0 where
  pub format : number_at table 0 2 ≡ 12
  pub counted : number_at table 12 4 ≡ length gs
  pub groups : Stands (groups_text gs) table 16
  pub room : 16 + length gs * 12 ≤ length table

pub header12 : (table : List ℕ) (gs : List Group) → 16 + length gs * 12 < 2 ^ 32 → Stands (format12_text gs) table 0 → Header12 table gs
unfolding format12_text
header12 table gs small s =
    let size : ℕ = 16 + length gs * 12 in
    let e : List ℕ = groups_text gs in
    let d : List ℕ = uint32 (length gs) ++ e in
    let c : List ℕ = uint32 0 ++ d in
    let b : List ℕ = uint32 size ++ c in
    let a : List ℕ = uint16 0 ++ b in
    let at2 = stands_second (uint16 12) a 2 (length-uint16 12) s in
    let at4 = stands_second (uint16 0) b 2 (length-uint16 0) at2 in
    let at8 = stands_second (uint32 size) c 4 (length-uint32 size) at4 in
    let at12 = stands_second (uint32 0) d 4 (length-uint32 0) at8 in
    let at16 = stands_second (uint32 (length gs)) e 4 (length-uint32 (length gs)) at12 in
    let within = stands_within e at16 in
    let long = length-groups_text gs in
    record {
      format = uint16_stands 12 (omega arith) (stands_first (uint16 12) a s);
      counted = uint32_stands (length gs) (omega arith) (stands_first (uint32 (length gs)) e at12);
      groups = at16;
      room = omega (arith, within, long);
    }

pub closed12 : (table : List ℕ) (gs : List Group) → Header12 table gs → IsClosed table
closed12 table gs h =
    let room = h.room in
    let counted = h.counted in
    let is = h.format in
    record {
      whole = inr (inl (is, omega (arith, room, counted)));
      lists = λ format. absurd (omega (arith, is, format));
    }

-- a glyph that is small is given
gives_small : (n : ℕ) → n < 65536 → (if nat_lt n 65536 then n else 0) ≡ n
gives_small n small = ap (λ b. if b then n else 0) (lt-ltb n 65536 small)

pub are12 : (table : List ℕ) (gs : List Group) → GroupsFit gs → Header12 table gs → Are (first12 table) (last12 table) (gives12 table)
    (number_at table 12 4) gs
are12 table gs fit h = record {
  counted = h.counted;
  from = λ i g there. (one i g there).start;
  to = λ i g there. (one i g there).end;
  tell = λ i g char glyph there gives small.
      let first = (one i g there).start in
      let start = (one i g there).glyph in
      let from = gives.from in
      let is = gives.is in
      let sum : glyph12 table i + (char - first12 table i) ≡ glyph = omega (arith, first, start, from, is) in
      ap (λ n. if nat_lt n 65536 then n else 0) sum ∙ gives_small glyph small;
}
  where
    one : (i : ℕ) (g : Group) → IsGroup gs i g → Said table (16 + i * 12) g
    one i g there = said (16 + i * 12) g (fit i g there) (groups_stand 16 gs i g there h.groups)
