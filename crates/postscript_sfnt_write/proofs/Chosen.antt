-- Which map the reader takes of what was written.
use Rattle.std.proofs.Common.{◌≡◌, refl, sym, ap, subst, ◌∙◌, inl, inr, ℕ, zero, suc, ◌+◌, ◌*◌, ◌/◌, ◌^◌, ◌≤◌, ◌<◌, List, [], ◌∷◌, ◌++◌, length, drop, length-append, length-drop, arith}
use Rattle.std.specs.Prelude.{◌⊎◌}
use Rattle.std.proofs.lemmas.Bool.{cases_lt}
use Rattle.std.proofs.lemmas.List.{append-nil}
use Rattle.postscript_base.specs.Index.{number_at}
use Rattle.postscript_sfnt.specs.CharacterMap.{IsGlyphOf, Rise, first12, last12, gives12, first4, last4, gives4}
use Rattle.postscript_sfnt.specs.Choice.{IsChosen, place_at, rank, rank_at, records_of}
use Rattle.postscript_sfnt.specs.Maps.{IsMapAt, IsWhole}
use Rattle.postscript_sfnt.specs.declared.character_map.CharacterMap.{CharacterMap}
use Rattle.postscript_sfnt.specs.declared.character_map.CharacterMap.TheVariants.{Segments, Groups, Trimmed}
use Rattle.postscript_sfnt_write.specs.Grouping.{MappingsFit, AreBelow, GroupsFit, IsGroup, IsLarge, IsSmall, encoding_text, end, format12_text, groups, head4_text, large_text, rows_text, small_text}
use Rattle.postscript_sfnt_write.specs.Headers.{HasHeader12, HasHeader4, HaveHeaders}
use Rattle.postscript_sfnt_write.specs.Mappings.{AreTold, AreToldIn4, CharsRise, HasFormat4, HasOnlyFormat4, IsGlyphIn, IsReadable, Tells, in_segments}
use Rattle.postscript_sfnt_write.specs.Numbers.{uint16, uint32}
use Rattle.postscript_sfnt_write.specs.Records.{AllAscend, Ascends, HasRecords, IsEnded, IsRecord}
use Rattle.postscript_sfnt_write.specs.Sequences.{AreClosed, IsClosed}
use Rattle.postscript_sfnt_write.specs.declared.mapping.Group.{Group}
use Rattle.postscript_sfnt_write.specs.declared.mapping.Mapping.{Mapping}
use Rattle.postscript_sfnt_write.proofs.Groups.{Gives, Say, group_at, group_below, say}
use Rattle.postscript_sfnt_write.proofs.Headed.{headed12, headed4, length-format12}
use Rattle.postscript_sfnt_write.proofs.Mapped.{are12, closed12, header12, rises, told_glyph}
use Rattle.postscript_sfnt_write.proofs.Segments.{all_in, in_segments_below, in_segments_rise}
use Rattle.postscript_sfnt_write.proofs.Mapped4.{AreLow, Map4, are4, closed4, end_in, end_rises, length-rows_text, low_groups, low_with_end, map4, without_end}
use Rattle.postscript_sfnt_write.proofs.Standing.{Stands, length-uint16, stands_dropped, stands_first, stands_second, uint16_stands, uint32_stands}

-- a record of a platform, an encoding and a place
pub record Encoding (bytes : List ℕ) (at platform encoding place : ℕ) : Type 0 where
  pub platform_is : number_at bytes at 2 ≡ platform
  pub encoding_is : number_at bytes (at + 2) 2 ≡ encoding
  pub place_is : number_at bytes (at + 4) 4 ≡ place

pub encoding_stands : {bytes : List ℕ} (at platform encoding place : ℕ) → platform < 2 ^ 16 → encoding < 2 ^ 16 → place < 2 ^ 32 →
    Stands (encoding_text platform encoding place) bytes at → Encoding bytes at platform encoding place
unfolding encoding_text
encoding_stands {bytes = bytes} at platform encoding place p e o s =
    let b : List ℕ = uint16 encoding ++ uint32 place in
    let at2 = stands_second (uint16 platform) b 2 (length-uint16 platform) s in
    let at4 = stands_second (uint16 encoding) (uint32 place) 2 (length-uint16 encoding) at2 in
    let four : at + 2 + 2 ≡ at + 4 = omega arith in
    record {
      platform_is = uint16_stands platform p (stands_first (uint16 platform) b s);
      encoding_is = uint16_stands encoding e (stands_first (uint16 encoding) (uint32 place) at2);
      place_is = subst (λ k. number_at bytes k 4 ≡ place) four (uint32_stands place o at4);
    }

pub length-encoding : (platform encoding place : ℕ) → length (encoding_text platform encoding place) ≡ 8
unfolding encoding_text uint16 uint32
length-encoding platform encoding place = refl

-- a table from its beginning
pub whole : (bytes text : List ℕ) → bytes ≡ text → Stands text bytes 0
whole bytes text e = record { within = omega arith; behind = []; there = e ∙ sym (append-nil text) }

-- two records
record Two (cmap : List ℕ) : Type 0 where
  version : number_at cmap 0 2 ≡ 0
  counted : number_at cmap 2 2 ≡ 2
  first : Encoding cmap 4 0 3 20
  second : Encoding cmap 12 3 1 20

two : {cmap : List ℕ} → Stands small_text cmap 0 → Two cmap
unfolding small_text
two s =
    let b : List ℕ = encoding_text 0 3 20 ++ encoding_text 3 1 20 in
    let a : List ℕ = uint16 2 ++ b in
    let at2 = stands_second (uint16 0) a 2 (length-uint16 0) s in
    let at4 = stands_second (uint16 2) b 2 (length-uint16 2) at2 in
    let at12 = stands_second (encoding_text 0 3 20) (encoding_text 3 1 20) 8 (length-encoding 0 3 20) at4 in
    record {
      version = uint16_stands 0 (omega arith) (stands_first (uint16 0) a s);
      counted = uint16_stands 2 (omega arith) (stands_first (uint16 2) b at2);
      first = encoding_stands 4 0 3 20 (omega arith) (omega arith) (omega arith)
          (stands_first (encoding_text 0 3 20) (encoding_text 3 1 20) at4);
      second = encoding_stands 12 3 1 20 (omega arith) (omega arith) (omega arith) at12;
    }

ranked : {cmap : List ℕ} (i at platform encoding place : ℕ) → 4 + i * 8 ≡ at → Encoding cmap at platform encoding place →
    rank_at cmap i ≡ rank platform encoding
ranked {cmap = cmap} i at platform encoding place e it =
    ap (λ k. rank (number_at cmap k 2) (number_at cmap (k + 2) 2)) e
    ∙ ap (λ k. rank k (number_at cmap (at + 2) 2)) it.platform_is ∙ ap (rank platform) it.encoding_is

placed : {cmap : List ℕ} (i at platform encoding place : ℕ) → 4 + i * 8 ≡ at → Encoding cmap at platform encoding place →
    place_at cmap i ≡ place
placed {cmap = cmap} i at platform encoding place e it = ap (λ k. number_at cmap (k + 4) 4) e ∙ it.place_is

-- the second of two is taken
record IsTaken (cmap : List ℕ) (at : ℕ) : Type 0 where
  i : ℕ
  chosen : IsChosen cmap i
  alone : (k : ℕ) → IsChosen cmap k → place_at cmap k ≡ at
  place : place_at cmap i ≡ at

small_taken : (cmap : List ℕ) → Two cmap → 22 ≤ length cmap → IsTaken cmap 20
small_taken cmap it long =
    let r0 : rank_at cmap 0 ≡ 1 = ranked 0 4 0 3 20 refl it.first in
    let r1 : rank_at cmap 1 ≡ 2 = ranked 1 12 3 1 20 refl it.second in
    let p1 : place_at cmap 1 ≡ 20 = placed 1 12 3 1 20 refl it.second in
    let p0 : place_at cmap 0 ≡ 20 = placed 0 4 0 3 20 refl it.first in
    let many : records_of cmap ≡ 2 = it.counted in
    record {
      i = 1;
      chosen = record {
        records = omega (arith, many, long);
        best = record {
          listed = omega (arith, many);
          ranked = omega (arith, r1);
          highest = λ k less. below k (omega (arith, less, many)) r0 r1;
          first = λ k less. first k less r0 r1;
        };
        within = omega (arith, p1, long);
      };
      alone = λ k chosen. (let listed = chosen.best.listed in places k (omega (arith, listed, many)) p0 p1);
      place = p1;
    }
  where
    below : (k : ℕ) → k < 2 → rank_at cmap 0 ≡ 1 → rank_at cmap 1 ≡ 2 → rank_at cmap k ≤ rank_at cmap 1
    below zero less a b = omega (arith, a, b)
    below (suc zero) less a b = omega arith
    below (suc (suc k)) less a b = absurd (omega (arith, less))

    first : (k : ℕ) → k < 1 → rank_at cmap 0 ≡ 1 → rank_at cmap 1 ≡ 2 → rank_at cmap k < rank_at cmap 1
    first zero less a b = omega (arith, a, b)
    first (suc k) less a b = absurd (omega (arith, less))

    places : (k : ℕ) → k < 2 → place_at cmap 0 ≡ 20 → place_at cmap 1 ≡ 20 → place_at cmap k ≡ 20
    places zero less a b = a
    places (suc zero) less a b = b
    places (suc (suc k)) less a b = absurd (omega (arith, less))

-- four records
record Four (cmap : List ℕ) (behind : ℕ) : Type 0 where
  version : number_at cmap 0 2 ≡ 0
  counted : number_at cmap 2 2 ≡ 4
  first : Encoding cmap 4 0 3 36
  second : Encoding cmap 12 0 4 behind
  third : Encoding cmap 20 3 1 36
  fourth : Encoding cmap 28 3 10 behind

four : {cmap : List ℕ} (behind : ℕ) → behind < 2 ^ 32 → Stands (large_text behind) cmap 0 → Four cmap behind
unfolding large_text
four behind small s =
    let d : List ℕ = encoding_text 3 1 36 ++ encoding_text 3 10 behind in
    let c : List ℕ = encoding_text 0 4 behind ++ d in
    let b : List ℕ = encoding_text 0 3 36 ++ c in
    let a : List ℕ = uint16 4 ++ b in
    let at2 = stands_second (uint16 0) a 2 (length-uint16 0) s in
    let at4 = stands_second (uint16 4) b 2 (length-uint16 4) at2 in
    let at12 = stands_second (encoding_text 0 3 36) c 8 (length-encoding 0 3 36) at4 in
    let at20 = stands_second (encoding_text 0 4 behind) d 8 (length-encoding 0 4 behind) at12 in
    let at28 = stands_second (encoding_text 3 1 36) (encoding_text 3 10 behind) 8 (length-encoding 3 1 36) at20 in
    record {
      version = uint16_stands 0 (omega arith) (stands_first (uint16 0) a s);
      counted = uint16_stands 4 (omega arith) (stands_first (uint16 4) b at2);
      first = encoding_stands 4 0 3 36 (omega arith) (omega arith) (omega arith) (stands_first (encoding_text 0 3 36) c at4);
      second = encoding_stands 12 0 4 behind (omega arith) (omega arith) small (stands_first (encoding_text 0 4 behind) d at12);
      third = encoding_stands 20 3 1 36 (omega arith) (omega arith) (omega arith)
          (stands_first (encoding_text 3 1 36) (encoding_text 3 10 behind) at20);
      fourth = encoding_stands 28 3 10 behind (omega arith) (omega arith) small at28;
    }

record Ranks4 (cmap : List ℕ) : Type 0 where
  r0 : rank_at cmap 0 ≡ 1
  r1 : rank_at cmap 1 ≡ 3
  r2 : rank_at cmap 2 ≡ 2
  r3 : rank_at cmap 3 ≡ 4

large_taken : (cmap : List ℕ) (behind : ℕ) → Four cmap behind → 36 ≤ length cmap → behind + 2 ≤ length cmap → IsTaken cmap behind
large_taken cmap behind it long within =
    let r : Ranks4 cmap = record {
      r0 = ranked 0 4 0 3 36 refl it.first;
      r1 = ranked 1 12 0 4 behind refl it.second;
      r2 = ranked 2 20 3 1 36 refl it.third;
      r3 = ranked 3 28 3 10 behind refl it.fourth;
    } in
    let p3 : place_at cmap 3 ≡ behind = placed 3 28 3 10 behind refl it.fourth in
    let many : records_of cmap ≡ 4 = it.counted in
    let top = r.r3 in
    record {
      i = 3;
      chosen = record {
        records = omega (arith, many, long);
        best = record {
          listed = omega (arith, many);
          ranked = omega (arith, top);
          highest = λ k less. below k (omega (arith, less, many)) r;
          first = λ k less. first k less r;
        };
        within = omega (arith, p3, within);
      };
      alone = λ k chosen.
          let listed = chosen.best.listed in
          let high = chosen.best.highest 3 (omega (arith, many)) in
          let less : k < 4 = omega (arith, listed, many) in
          let last : k ≡ 3 = only k less r high in
          ap (place_at cmap) last ∙ p3;
      place = p3;
    }
  where
    below : (k : ℕ) → k < 4 → Ranks4 cmap → rank_at cmap k ≤ rank_at cmap 3
    below zero less r = let a = r.r0 in let b = r.r3 in omega (arith, a, b)
    below (suc zero) less r = let a = r.r1 in let b = r.r3 in omega (arith, a, b)
    below (suc (suc zero)) less r = let a = r.r2 in let b = r.r3 in omega (arith, a, b)
    below (suc (suc (suc zero))) less r = omega arith
    below (suc (suc (suc (suc k)))) less r = absurd (omega (arith, less))

    first : (k : ℕ) → k < 3 → Ranks4 cmap → rank_at cmap k < rank_at cmap 3
    first zero less r = let a = r.r0 in let b = r.r3 in omega (arith, a, b)
    first (suc zero) less r = let a = r.r1 in let b = r.r3 in omega (arith, a, b)
    first (suc (suc zero)) less r = let a = r.r2 in let b = r.r3 in omega (arith, a, b)
    first (suc (suc (suc k))) less r = absurd (omega (arith, less))

    only : (k : ℕ) → k < 4 → Ranks4 cmap → rank_at cmap 3 ≤ rank_at cmap k → k ≡ 3
    only zero less r high = let a = r.r0 in let b = r.r3 in absurd (omega (arith, a, b, high))
    only (suc zero) less r high = let a = r.r1 in let b = r.r3 in absurd (omega (arith, a, b, high))
    only (suc (suc zero)) less r high = let a = r.r2 in let b = r.r3 in absurd (omega (arith, a, b, high))
    only (suc (suc (suc zero))) less r high = refl
    only (suc (suc (suc (suc k)))) less r high = absurd (omega (arith, less))

readable : (cmap : List ℕ) (at : ℕ) → IsTaken cmap at → IsWhole (drop at cmap) → IsReadable cmap
readable cmap at taken w = record { i = taken.i; chosen = taken.chosen; whole = subst (λ k. IsWhole (drop k cmap)) (sym taken.place) w }

-- format 4
pub record Answer (cmap : List ℕ) (ms : List Mapping) : Type 0 where
  pub read : IsReadable cmap
  pub told : AreTold cmap ms
  pub headers : HaveHeaders cmap
  pub format4 : HasFormat4 cmap
  pub told_in_4 : AreToldIn4 cmap (in_segments ms)
  pub records : HasRecords cmap
  pub ascend : AllAscend cmap
  pub closed : AreClosed cmap
  pub size : length cmap ≤ 64076 + length ms * 12

tells4 : (table : List ℕ) (ms : List Mapping) (n : ℕ) (map : CharacterMap) → number_at table 0 2 ≡ 4 → number_at table 6 2 / 2 ≡ n →
    ((char glyph : ℕ) → IsGlyphOf (first4 table n) (last4 table) (gives4 table n) n char glyph → IsGlyphIn ms char glyph) →
    (cmap : List ℕ) (at : ℕ) → drop at cmap ≡ table → IsMapAt cmap at map → Tells map ms
tells4 table ms n (Segments it) format counted tell cmap at e is char glyph maps =
    let same : it.table.now ≡ table = is.bytes ∙ e in
    let many : it.count ≡ n = is.counted ∙ ap (λ (xs : List ℕ). number_at xs 6 2 / 2) e ∙ counted in
    tell char glyph (subst (λ k. IsGlyphOf (first4 table k) (last4 table) (gives4 table k) k char glyph) many
    (subst (λ (xs : List ℕ). IsGlyphOf (first4 xs it.count) (last4 xs) (gives4 xs it.count) it.count char glyph) same maps))
tells4 table ms n (Groups it) format counted tell cmap at e is char glyph maps =
    let f = is.format in
    let g = ap (λ (xs : List ℕ). number_at xs 0 2) e in
    absurd (omega (arith, f, g, format))
tells4 table ms n (Trimmed it) format counted tell cmap at e is char glyph maps =
    let f = is.format in
    let g = ap (λ (xs : List ℕ). number_at xs 0 2) e in
    absurd (omega (arith, f, g, format))

tells12 : (table : List ℕ) (ms : List Mapping) (map : CharacterMap) → number_at table 0 2 ≡ 12 →
    ((char glyph : ℕ) → IsGlyphOf (first12 table) (last12 table) (gives12 table)
    (number_at table 12 4) char glyph → IsGlyphIn ms char glyph) →
    (cmap : List ℕ) (at : ℕ) → drop at cmap ≡ table → IsMapAt cmap at map → Tells map ms
tells12 table ms (Groups it) format tell cmap at e is char glyph maps =
    let same : it.table.now ≡ table = is.bytes ∙ e in
    let many : it.count ≡ number_at table 12 4 = is.counted ∙ ap (λ (xs : List ℕ). number_at xs 12 4) e in
    tell char glyph (subst (λ k. IsGlyphOf (first12 table) (last12 table) (gives12 table) k char glyph) many
    (subst (λ (xs : List ℕ). IsGlyphOf (first12 xs) (last12 xs) (gives12 xs) it.count char glyph) same maps))
tells12 table ms (Segments it) format tell cmap at e is char glyph maps =
    let f = is.format in
    let g = ap (λ (xs : List ℕ). number_at xs 0 2) e in
    absurd (omega (arith, f, g, format))
tells12 table ms (Trimmed it) format tell cmap at e is char glyph maps =
    let f = is.format in
    let g = ap (λ (xs : List ℕ). number_at xs 0 2) e in
    absurd (omega (arith, f, g, format))

-- the segments or groups of a map are in order
ascends4 : (table : List ℕ) (n : ℕ) (map : CharacterMap) → number_at table 0 2 ≡ 4 → number_at table 6 2 / 2 ≡ n →
    Rise (first4 table n) (last4 table) n × IsEnded (first4 table n) (last4 table) n → (cmap : List ℕ) (at : ℕ) → drop at cmap ≡ table →
    IsMapAt cmap at map → Ascends map
ascends4 table n (Segments it) format counted rise cmap at e is =
    let same : it.table.now ≡ table = is.bytes ∙ e in
    let many : it.count ≡ n = is.counted ∙ ap (λ (xs : List ℕ). number_at xs 6 2 / 2) e ∙ counted in
    subst (λ (xs : List ℕ). Rise (first4 xs it.count) (last4 xs) it.count × IsEnded (first4 xs it.count) (last4 xs) it.count) (sym same)
    (subst (λ k. Rise (first4 table k) (last4 table) k × IsEnded (first4 table k) (last4 table) k) (sym many) rise)
ascends4 table n (Groups it) format counted rise cmap at e is =
    let f = is.format in
    let g = ap (λ (xs : List ℕ). number_at xs 0 2) e in
    absurd (omega (arith, f, g, format))
ascends4 table n (Trimmed it) format counted rise cmap at e is = tt

ascends12 : (table : List ℕ) (map : CharacterMap) → number_at table 0 2 ≡ 12 →
    Rise (first12 table) (last12 table) (number_at table 12 4) →
    (cmap : List ℕ) (at : ℕ) → drop at cmap ≡ table → IsMapAt cmap at map → Ascends map
ascends12 table (Groups it) format rise cmap at e is =
    let same : it.table.now ≡ table = is.bytes ∙ e in
    let many : it.count ≡ number_at table 12 4 = is.counted ∙ ap (λ (xs : List ℕ). number_at xs 12 4) e in
    subst (λ (xs : List ℕ). Rise (first12 xs) (last12 xs) it.count) (sym same)
    (subst (λ k. Rise (first12 table) (last12 table) k) (sym many) rise)
ascends12 table (Segments it) format rise cmap at e is =
    let f = is.format in
    let g = ap (λ (xs : List ℕ). number_at xs 0 2) e in
    absurd (omega (arith, f, g, format))
ascends12 table (Trimmed it) format rise cmap at e is = tt

-- what segments at an offset tell
told4 : (cmap : List ℕ) (at : ℕ) (gs : List Group) (ms : List Mapping) → CharsRise ms → AreBelow ms → gs ≡ groups (ms ++ end ∷ []) →
    MappingsFit (ms ++ end ∷ []) → Map4 (drop at cmap) gs → (place : ℕ) → place ≡ at → (map : CharacterMap) → IsMapAt cmap place map →
    Tells map ms
told4 cmap at gs ms rise below is fit m place there map stands =
    let says : Say gs (ms ++ end ∷ []) = subst (λ xs. Say xs (ms ++ end ∷ [])) (sym is) (say (ms ++ end ∷ []) (end_rises ms rise below)) in
    let are = are4 (drop at cmap) gs (low_groups gs (ms ++ end ∷ []) says (low_with_end ms below)) m in
    tells4 (drop at cmap) ms (length gs) map m.format m.counted
    (λ char glyph of. without_end ms char glyph (told_glyph _ _ _ (length gs) gs (ms ++ end ∷ []) char glyph are says fit of))
    cmap place (ap (λ k. drop k cmap) there) stands

-- the group of U+FFFF, without a glyph, is the last one
last_group : (gs : List Group) (ms : List Mapping) (k i : ℕ) (g : Group) → Say gs ms → AreLow gs → IsGroup gs k g → Gives g 0xffff 0 →
    i + 1 ≡ length gs → IsGroup gs i g × (g.start ≡ 0xffff) × (g.end ≡ 0xffff)
last_group gs ms k i g says low there gives last =
    let from = gives.from in
    let to = gives.to in
    let is = gives.is in
    let below = group_below gs k g there in
    let small = low.ends k g there in
    let same : k ≡ i = elim (cases_lt k i) [
      | inl less ↦
          let final = group_at gs i (omega (arith, last)) in
          let apart = says.apart k i g final.0 less there final.1 in
          let start = low.starts i final.0 final.1 in
          absurd (omega (arith, to, apart, start))
      | inr more ↦ omega (arith, more, below, last)
    ] in (
      subst (λ n. IsGroup gs n g) same there,
      omega (arith, from, is),
      omega (arith, to, small),
    )

-- segments of low characters are in order
low_rises : (table : List ℕ) (gs : List Group) (ms : List Mapping) → CharsRise ms → AreBelow ms → gs ≡ groups (ms ++ end ∷ []) →
    Map4 table gs → Rise (first4 table (length gs)) (last4 table) (length gs) × IsEnded (first4 table (length gs)) (last4 table) (length gs)
low_rises table gs ms rise below is m =
    let says : Say gs (ms ++ end ∷ []) = subst (λ xs. Say xs (ms ++ end ∷ [])) (sym is) (say (ms ++ end ∷ []) (end_rises ms rise below)) in
    let low = low_groups gs (ms ++ end ∷ []) says (low_with_end ms below) in
    let are = are4 table gs low m in
    let one = says.all (length ms) end (end_in ms) in (
      rises _ _ _ (length gs) gs (ms ++ end ∷ []) are says,
      λ i last.
          let it = last_group gs (ms ++ end ∷ []) one.i i one.group says low one.there one.gives last in
          (are.from i one.group it.0 ∙ it.1, are.to i one.group it.0 ∙ it.2),
    )

-- the record of the first plane of Unicode on Windows
has_format4 : {cmap : List ℕ} (i at place : ℕ) → 4 + i * 8 ≡ at → i < records_of cmap → Encoding cmap at 3 1 place →
    number_at cmap place 2 ≡ 4 → HasFormat4 cmap
has_format4 {cmap = cmap} i at place e listed it format = record {
  i = i;
  listed = listed;
  platform = ap (λ k. number_at cmap k 2) e ∙ it.platform_is;
  encoding = ap (λ k. number_at cmap (k + 2) 2) e ∙ it.encoding_is;
  format = ap (λ k. number_at cmap k 2) (placed i at 3 1 place e it) ∙ format;
}

small_told : {cmap : List ℕ} (ms : List Mapping) → Two cmap →
    ((place : ℕ) → place ≡ 20 → (map : CharacterMap) → IsMapAt cmap place map → Tells map ms) → AreToldIn4 cmap ms
small_told ms it tell zero map less format stands = tell _ (placed 0 4 0 3 20 refl it.first) map stands
small_told ms it tell (suc zero) map less format stands = tell _ (placed 1 12 3 1 20 refl it.second) map stands
small_told ms it tell (suc (suc i)) map less format stands = let many = it.counted in absurd (omega (arith, less, many))

large_told : {cmap : List ℕ} (behind : ℕ) (ms : List Mapping) → Four cmap behind → number_at cmap behind 2 ≡ 12 →
    ((place : ℕ) → place ≡ 36 → (map : CharacterMap) → IsMapAt cmap place map → Tells map ms) → AreToldIn4 cmap ms
large_told behind ms it other tell zero map less format stands = tell _ (placed 0 4 0 3 36 refl it.first) map stands
large_told {cmap = cmap} behind ms it other tell (suc zero) map less format stands =
    let at = ap (λ k. number_at cmap k 2) (placed 1 12 0 4 behind refl it.second) in absurd (omega (arith, at, other, format))
large_told behind ms it other tell (suc (suc zero)) map less format stands = tell _ (placed 2 20 3 1 36 refl it.third) map stands
large_told {cmap = cmap} behind ms it other tell (suc (suc (suc zero))) map less format stands =
    let at = ap (λ k. number_at cmap k 2) (placed 3 28 3 10 behind refl it.fourth) in absurd (omega (arith, at, other, format))
large_told behind ms it other tell (suc (suc (suc (suc i)))) map less format stands =
    let many = it.counted in absurd (omega (arith, less, many))

length-small : length small_text ≡ 20
unfolding small_text encoding_text uint16 uint32
length-small = refl

length-head : (count selector : ℕ) → length (head4_text count selector) ≡ 14
unfolding head4_text uint16
length-head count selector = refl

-- the length of a subtable of format 4
length-format4 : (gs : List Group) (selector : ℕ) → length (head4_text (length gs) selector ++ rows_text gs) ≡ 16 + length gs * 8
length-format4 gs selector =
    let both = length-append (head4_text (length gs) selector) (rows_text gs) in
    let head = length-head (length gs) selector in
    let rows = length-rows_text gs in
    omega (arith, both, head, rows)

is_record : {cmap : List ℕ} (i at platform encoding place format : ℕ) → 4 + i * 8 ≡ at → Encoding cmap at platform encoding place →
    number_at cmap place 2 ≡ format → IsRecord cmap i platform encoding format
is_record {cmap = cmap} i at platform encoding place format e it is = (
  ap (λ k. number_at cmap k 2) e ∙ it.platform_is,
  ap (λ k. number_at cmap (k + 2) 2) e ∙ it.encoding_is,
  ap (λ k. number_at cmap k 2) (placed i at platform encoding place e it) ∙ is,
)

two_records : {cmap : List ℕ} → Two cmap → number_at cmap 20 2 ≡ 4 → HasRecords cmap
two_records it is = record {
  version = it.version;
  are = inl (record {
    counted = it.counted;
    unicode = is_record 0 4 0 3 20 4 refl it.first is;
    windows = is_record 1 12 3 1 20 4 refl it.second is;
  });
}

four_records : {cmap : List ℕ} (behind : ℕ) → Four cmap behind → number_at cmap 36 2 ≡ 4 → number_at cmap behind 2 ≡ 12 → HasRecords cmap
four_records behind it is last = record {
  version = it.version;
  are = inr (record {
    counted = it.counted;
    unicode = is_record 0 4 0 3 36 4 refl it.first is;
    unicode_full = is_record 1 12 0 4 behind 12 refl it.second last;
    windows = is_record 2 20 3 1 36 4 refl it.third is;
    windows_full = is_record 3 28 3 10 behind 12 refl it.fourth last;
  });
}

-- what holds at the places of the subtables
two_places : {cmap : List ℕ} (P : ℕ → Type 0) → Two cmap → P 20 → (i : ℕ) → i < records_of cmap → P (place_at cmap i)
two_places P it is zero less = subst P (sym (placed 0 4 0 3 20 refl it.first)) is
two_places P it is (suc zero) less = subst P (sym (placed 1 12 3 1 20 refl it.second)) is
two_places P it is (suc (suc i)) less = let many = it.counted in absurd (omega (arith, less, many))

four_places : {cmap : List ℕ} (P : ℕ → Type 0) (behind : ℕ) → Four cmap behind → P 36 → P behind → (i : ℕ) → i < records_of cmap →
    P (place_at cmap i)
four_places P behind it is last zero less = subst P (sym (placed 0 4 0 3 36 refl it.first)) is
four_places P behind it is last (suc zero) less = subst P (sym (placed 1 12 0 4 behind refl it.second)) last
four_places P behind it is last (suc (suc zero)) less = subst P (sym (placed 2 20 3 1 36 refl it.third)) is
four_places P behind it is last (suc (suc (suc zero))) less = subst P (sym (placed 3 28 3 10 behind refl it.fourth)) last
four_places P behind it is last (suc (suc (suc (suc i)))) less = let many = it.counted in absurd (omega (arith, less, many))

-- a table of segments has only format 4
pub small_only : (cmap : List ℕ) (gs : List Group) → length gs < 8002 → IsSmall cmap gs → HasOnlyFormat4 cmap
small_only cmap gs few text =
    let body = head4_text (length gs) text.selector ++ rows_text gs in
    let s = whole cmap (small_text ++ body) text.text in
    let head = headed4 20 text.selector gs few text.selected text.few_bits (stands_second small_text body 20 length-small s) in
    two_places (λ place. number_at cmap place 2 ≡ 4) (two (stands_first small_text body s)) head.format

pub small_answer : (cmap : List ℕ) (gs : List Group) (ms : List Mapping) → CharsRise ms → AreBelow ms → gs ≡ groups (ms ++ end ∷ []) →
    length gs < 8002 → MappingsFit (ms ++ end ∷ []) → IsSmall cmap gs → Answer cmap ms
small_answer cmap gs ms rise below is few fit text =
    let body = head4_text (length gs) text.selector ++ rows_text gs in
    let s = whole cmap (small_text ++ body) text.text in
    let there : Stands body (drop 20 cmap) 0 = stands_dropped body 20 (stands_second small_text body 20 length-small s) in
    let m = map4 (drop 20 cmap) gs text.selector few there in
    let says : Say gs (ms ++ end ∷ []) = subst (λ xs. Say xs (ms ++ end ∷ [])) (sym is) (say (ms ++ end ∷ []) (end_rises ms rise below)) in
    let are = are4 (drop 20 cmap) gs (low_groups gs (ms ++ end ∷ []) says (low_with_end ms below)) m in
    let room = m.room in
    let counted = m.counted in
    let rest = length-drop 20 cmap in
    let taken = small_taken cmap (two (stands_first small_text body s)) (omega (arith, room, rest)) in
    let head = headed4 20 text.selector gs few text.selected text.few_bits (stands_second small_text body 20 length-small s) in
    let records = (two (stands_first small_text body s)).counted in
    record {
      read = readable cmap 20 taken (inl (m.format, omega (arith, room, counted)));
      told = λ i map chosen at. tells4 (drop 20 cmap) ms (length gs) map m.format m.counted
          (λ char glyph of. without_end ms char glyph (told_glyph _ _ _ (length gs) gs (ms ++ end ∷ []) char glyph are says fit of))
          cmap (place_at cmap i) (ap (λ k. drop k cmap) (taken.alone i chosen)) at;
      headers = two_places (λ place. HasHeader4 cmap place ⊎ HasHeader12 cmap place) (two (stands_first small_text body s)) (inl head);
      format4 = has_format4 1 12 20 refl (omega (arith, records)) (two (stands_first small_text body s)).second head.format;
      told_in_4 = subst (AreToldIn4 cmap) (sym (all_in ms below (subst (λ xs. length xs < 8002) is few)))
          (small_told ms (two (stands_first small_text body s)) (told4 cmap 20 gs ms rise below is fit m));
      records = two_records (two (stands_first small_text body s)) head.format;
      ascend = λ i map less. two_places (λ place. IsMapAt cmap place map → Ascends map) (two (stands_first small_text body s))
          (ascends4 (drop 20 cmap) (length gs) map m.format m.counted (low_rises (drop 20 cmap) gs ms rise below is m) cmap 20 refl) i less;
      closed = two_places (λ place. IsClosed (drop place cmap)) (two (stands_first small_text body s)) (closed4 (drop 20 cmap) gs m);
      size =
          let both = ap length text.text ∙ length-append small_text body in
          let first = length-small in
          let last = length-format4 gs text.selector in
          omega (arith, both, first, last, few);
    }

length-large : (behind : ℕ) → length (large_text behind) ≡ 36
unfolding large_text encoding_text uint16 uint32
length-large behind = refl

pub large_answer : (cmap : List ℕ) (low gs : List Group) (ms : List Mapping) → CharsRise ms → gs ≡ groups ms →
    low ≡ groups (in_segments ms ++ end ∷ []) → MappingsFit (in_segments ms ++ end ∷ []) → length low < 8002 →
    16 + length gs * 12 < 2 ^ 32 → length gs ≤ length ms → MappingsFit ms → GroupsFit gs → IsLarge cmap low gs → Answer cmap ms
large_answer cmap low gs ms rise is low_is low_fit few small less fit fits text =
    let behind : ℕ = 52 + length low * 8 in
    let head : List ℕ = head4_text (length low) text.selector ++ rows_text low in
    let body : List ℕ = format12_text gs in
    let s = whole cmap (large_text behind ++ (head ++ body)) text.text in
    let at36 = stands_second (large_text behind) (head ++ body) 36 (length-large behind) s in
    let long : length head ≡ 16 + length low * 8 = length-format4 low text.selector in
    let there = stands_second head body (16 + length low * 8) long at36 in
    let on : 0 + 36 + (16 + length low * 8) ≡ behind = omega arith in
    let here : Stands body (drop behind cmap) 0 = stands_dropped body behind (subst (λ k. Stands body cmap k) on there) in
    let h = header12 (drop behind cmap) gs small here in
    let says : Say gs ms = subst (λ xs. Say xs ms) (sym is) (say ms rise) in
    let are = are12 (drop behind cmap) gs fits h in
    let room = h.room in
    let counted = h.counted in
    let rest = length-drop behind cmap in
    let records = four behind (omega (arith, few)) (stands_first (large_text behind) (head ++ body) s) in
    let counted4 = records.counted in
    let taken = large_taken cmap behind records (omega (arith, room, rest)) (omega (arith, room, rest)) in
    let m = map4 (drop 36 cmap) low text.selector few (stands_dropped head 36 (stands_first head body at36)) in
    let head4 = headed4 36 text.selector low few text.selected text.few_bits (stands_first head body at36) in
    let total : length cmap ≡ behind + (16 + length gs * 12) = ap length text.text
    ∙ length-append (large_text behind) (head ++ body) ∙ (let a = length-large behind in let b = length-append head body in
    let c = length-format12 gs in omega (arith, a, b, c, long)) in
    let head12 = headed12 behind gs small (subst (λ k. Stands body cmap k) on there) total in
    record {
      read = readable cmap behind taken (inr (inl (h.format, omega (arith, room, counted))));
      told = λ i map chosen at. tells12 (drop behind cmap) ms map h.format
          (λ char glyph of. told_glyph _ _ _ (number_at (drop behind cmap) 12 4) gs ms char glyph are says fit of)
          cmap (place_at cmap i) (ap (λ k. drop k cmap) (taken.alone i chosen)) at;
      headers = four_places (λ place. HasHeader4 cmap place ⊎ HasHeader12 cmap place) behind records (inl head4) (inr head12);
      format4 = has_format4 2 20 36 refl (omega (arith, counted4)) records.third head4.format;
      told_in_4 = large_told behind (in_segments ms) records head12.format
          (told4 cmap 36 low (in_segments ms) (in_segments_rise ms rise) (in_segments_below ms) low_is low_fit m);
      records = four_records behind records head4.format head12.format;
      ascend = λ i map less. four_places (λ place. IsMapAt cmap place map → Ascends map) behind records
          (ascends4 (drop 36 cmap) (length low) map m.format m.counted
          (low_rises (drop 36 cmap) low (in_segments ms) (in_segments_rise ms rise) (in_segments_below ms) low_is m) cmap 36 refl)
          (ascends12 (drop behind cmap) map h.format (rises _ _ _ (number_at (drop behind cmap) 12 4) gs ms are says) cmap behind refl)
          i less;
      closed = four_places (λ place. IsClosed (drop place cmap)) behind records (closed4 (drop 36 cmap) low m)
          (closed12 (drop behind cmap) gs h);
      size = omega (arith, total, few, less);
    }
