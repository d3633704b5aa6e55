-- What a table with an added subtable says.
use Rattle.std.proofs.Common.{◌≡◌, refl, sym, ap, subst, ◌∙◌, inl, inr, ℕ, ◌+◌, ◌-◌, ◌≤◌, ◌<◌, List, ◌++◌, drop, length-append, length-drop, arith}
use Rattle.std.specs.Prelude.{◌⊎◌}
use Rattle.std.proofs.lemmas.Bool.{cases_lt}
use Rattle.postscript_base.specs.Index.{number_at}
use Rattle.postscript_sfnt.specs.Choice.{IsChosen, encoding_at, place_at, platform_at, rank, rank_at, records_of}
use Rattle.postscript_sfnt.specs.Maps.{IsMapAt, IsWhole}
use Rattle.postscript_sfnt.specs.declared.character_map.CharacterMap.{CharacterMap}
use Rattle.postscript_sfnt.specs.declared.character_map.CharacterMap.TheVariants.{Segments, Groups, Trimmed}
use Rattle.postscript_sfnt_write.specs.Mappings.{AreTold, AreToldIn4, HasFormat4, IsReadable, Tells}
use Rattle.postscript_sfnt_write.specs.Records.{AllAscend}
use Rattle.postscript_sfnt_write.specs.Sequences.{AreClosed, IsSameRecord, IsWith}
use Rattle.postscript_sfnt_write.specs.declared.mapping.Mapping.{Mapping}
use Rattle.postscript_sfnt_write.proofs.Appended.{IsAlone, alone, number_within}

-- the index of an old record in the new table
abbrev IsIndex : (at i k : ℕ) → Type 0
IsIndex at i k = ((i < at) × (k ≡ i)) ⊎ ((at ≤ i) × (k ≡ i + 1))

-- an old record and its index in the new table
record Both (old subtable new : List ℕ) (at i k : ℕ) : Type 0 where
  listed : i < records_of old
  listed_now : k < records_of new
  index : IsIndex at i k
  same : IsSameRecord old subtable new i k

there : {old subtable new : List ℕ} (w : IsWith old subtable new) (i : ℕ) → i < records_of old → (k : ℕ) × Both old subtable new w.at i k
there w i less = elim (cases_lt i w.at) [
  | inl before ↦
      let counted = w.counted in
      (i, record { listed = less; listed_now = omega (arith, less, counted); index = inl (before, refl); same = w.before i before })
  | inr after ↦
      let counted = w.counted in (
        i + 1,
        record { listed = less; listed_now = omega (arith, less, counted); index = inr (after, refl); same = w.after i after less },
      )
]

-- a record of the new table is an old one, or the added one
origin : {old subtable new : List ℕ} (w : IsWith old subtable new) (k : ℕ) → k < records_of new → (k ≡ w.at → ⊥) →
    (i : ℕ) × Both old subtable new w.at i k
origin {old = old} {subtable = subtable} {new = new} w k less other = elim (cases_lt k w.at) [
  | inl before ↦
      let listed = w.listed in
      (k, record { listed = omega (arith, before, listed); listed_now = less; index = inl (before, refl); same = w.before k before })
  | inr after ↦
      let counted = w.counted in
      let past : w.at < k = grind (arith, after, λ (e : k ≡ w.at). other e) in
      let back : k - 1 + 1 ≡ k = omega (arith, past) in
      let from : w.at ≤ k - 1 = omega (arith, past) in
      let inside : k - 1 < records_of old = omega (arith, past, less, counted) in (
        k - 1,
        record {
          listed = inside;
          listed_now = less;
          index = inr (from, sym back);
          same = subst (λ n. IsSameRecord old subtable new (k - 1) n) back (w.after (k - 1) from inside);
        },
      )
]

same_rank : {old subtable new : List ℕ} {i k : ℕ} → IsSameRecord old subtable new i k → rank_at new k ≡ rank_at old i
same_rank {old = old} {new = new} {i = i} {k = k} same =
    ap (λ n. rank n (encoding_at new k)) same.platform ∙ ap (rank (platform_at old i)) same.encoding

-- the added record is not chosen
unranked : {old subtable new : List ℕ} (w : IsWith old subtable new) → rank_at new w.at ≡ 0
unranked {new = new} w = ap (λ n. rank n (encoding_at new w.at)) w.platform ∙ ap (rank 0) w.encoding

chosen_other : {old subtable new : List ℕ} (w : IsWith old subtable new) (k : ℕ) → IsChosen new k → k ≡ w.at → ⊥
chosen_other {new = new} w k chosen same =
    let ranked = chosen.best.ranked in
    let none = unranked w in
    let is : rank_at new k ≡ rank_at new w.at = ap (rank_at new) same in
    absurd (omega (arith, ranked, none, is))

in_order : (at i j a b : ℕ) → IsIndex at i a → IsIndex at j b → i < j → a < b
in_order at i j a b x y less = elim x [
  | inl first ↦
      let p = first.0 in
      let q = first.1 in
      elim y [
        | inl second ↦ (let r = second.1 in omega (arith, q, r, less))
        | inr second ↦ (let r = second.1 in omega (arith, q, r, less))
      ]
  | inr first ↦
      let p = first.0 in
      let q = first.1 in
      elim y [
        | inl second ↦ (let r = second.0 in absurd (omega (arith, p, r, less)))
        | inr second ↦ (let r = second.1 in omega (arith, q, r, less))
      ]
]

out_of_order : (at i j a b : ℕ) → IsIndex at i a → IsIndex at j b → a < b → i < j
out_of_order at i j a b x y less = elim x [
  | inl first ↦
      let p = first.0 in
      let q = first.1 in
      elim y [
        | inl second ↦ (let r = second.1 in omega (arith, q, r, less))
        | inr second ↦ (let r = second.0 in omega (arith, p, r))
      ]
  | inr first ↦
      let p = first.0 in
      let q = first.1 in
      elim y [
        | inl second ↦ (let r = second.1 in let s = second.0 in absurd (omega (arith, p, q, r, s, less)))
        | inr second ↦ (let r = second.1 in omega (arith, q, r, less))
      ]
]

-- the old record of the one that is chosen is chosen
was_chosen : {old subtable new : List ℕ} (w : IsWith old subtable new) (i k : ℕ) → Both old subtable new w.at i k → IsChosen new k →
    IsChosen old i
was_chosen {old = old} {new = new} w i k both chosen =
    let rank_is = same_rank both.same in
    let ranked = chosen.best.ranked in
    record {
      records = w.was.records;
      best = record {
        listed = both.listed;
        ranked = omega (arith, rank_is, ranked);
        highest = λ j less.
            let other = there w j less in
            let is = same_rank other.1.same in
            let high = chosen.best.highest other.0 other.1.listed_now in
            omega (arith, rank_is, is, high);
        first = λ j less.
            let listed = both.listed in
            let other = there w j (omega (arith, less, listed)) in
            let is = same_rank other.1.same in
            let low = chosen.best.first other.0 (in_order w.at j i other.0 k other.1.index both.index less) in
            omega (arith, rank_is, is, low);
      };
      within = w.was.within i both.listed;
    }

-- the record of the one that was chosen is chosen
is_chosen : {old subtable new : List ℕ} (w : IsWith old subtable new) (i k : ℕ) → Both old subtable new w.at i k → IsChosen old i →
    IsChosen new k
is_chosen {old = old} {subtable = subtable} {new = new} w i k both chosen =
    let rank_is = same_rank both.same in
    let ranked = chosen.best.ranked in
    let counted = w.counted in
    let size = w.size in
    let records = chosen.records in
    let within = chosen.within in
    let offset = both.same.offset in
    record {
      records = omega (arith, counted, size, records);
      best = record {
        listed = both.listed_now;
        ranked = omega (arith, rank_is, ranked);
        highest = λ j less. elim (cases_lt j w.at) [
          | inl before ↦ high j less (λ (e : j ≡ w.at). absurd (omega (arith, before, e)))
          | inr after ↦ elim (cases_lt w.at j) [
            | inl past ↦ high j less (λ (e : j ≡ w.at). absurd (omega (arith, past, e)))
            | inr upto ↦
                let same : j ≡ w.at = omega (arith, after, upto) in
                let none : rank_at new j ≡ 0 = ap (rank_at new) same ∙ unranked w in
                omega (arith, none)
          ]
        ];
        first = λ j less. elim (cases_lt j w.at) [
          | inl before ↦ low j less (λ (e : j ≡ w.at). absurd (omega (arith, before, e)))
          | inr after ↦ elim (cases_lt w.at j) [
            | inl past ↦ low j less (λ (e : j ≡ w.at). absurd (omega (arith, past, e)))
            | inr upto ↦
                let same : j ≡ w.at = omega (arith, after, upto) in
                let none : rank_at new j ≡ 0 = ap (rank_at new) same ∙ unranked w in
                omega (arith, none, rank_is, ranked)
          ]
        ];
      };
      within = omega (arith, offset, within, size);
    }
  where
    high : (j : ℕ) → j < records_of new → (j ≡ w.at → ⊥) → rank_at new j ≤ rank_at new k
    high j less other =
        let from = origin w j less other in
        let is = same_rank from.1.same in
        let mine = same_rank both.same in
        let top = chosen.best.highest from.0 from.1.listed in
        omega (arith, is, mine, top)

    low : (j : ℕ) → j < k → (j ≡ w.at → ⊥) → rank_at new j < rank_at new k
    low j less other =
        let listed = both.listed_now in
        let from = origin w j (omega (arith, less, listed)) other in
        let is = same_rank from.1.same in
        let mine = same_rank both.same in
        let below = chosen.best.first from.0 (out_of_order w.at from.0 i j k from.1.index both.index less) in
        omega (arith, is, mine, below)

-- a table with more bytes is whole
still_whole : (t s : List ℕ) → IsWhole t → IsWhole (t ++ s)
still_whole t s whole =
    let long = length-append t s in
    elim whole [
      | inl four ↦
          let room = four.1 in
          let same = number_within t s 6 2 (omega (arith, room)) in
          inl (number_within t s 0 2 (omega (arith, room)) ∙ four.0, omega (arith, same, room, long))
      | inr more ↦ elim more [
        | inl twelve ↦
            let room = twelve.1 in
            let same = number_within t s 12 4 (omega (arith, room)) in
            inr (inl (number_within t s 0 2 (omega (arith, room)) ∙ twelve.0, omega (arith, same, room, long)))
        | inr six ↦
            let room = six.1 in
            let same = number_within t s 8 2 (omega (arith, room)) in
            inr (inr (number_within t s 0 2 (omega (arith, room)) ∙ six.0, omega (arith, same, room, long)))
      ]
    ]

pub still_readable : {old subtable new : List ℕ} → IsWith old subtable new → IsReadable old → IsReadable new
still_readable {old = old} {subtable = subtable} {new = new} w read =
    let on = there w read.i read.chosen.best.listed in
    record {
      i = on.0;
      chosen = is_chosen w read.i on.0 on.1 read.chosen;
      whole = subst IsWhole (sym on.1.same.bytes) (still_whole (drop (place_at old read.i) old) subtable read.whole);
    }

-- the map of a record is that of the old one
was_alone : {old subtable new : List ℕ} (w : IsWith old subtable new) (i k : ℕ) → Both old subtable new w.at i k → AreClosed old →
    (map : CharacterMap) → IsMapAt new (place_at new k) map → IsAlone old (place_at old i) map
was_alone {old = old} {subtable = subtable} {new = new} w i k both closed map stands =
    alone (drop (place_at old i) old) subtable old new (place_at old i) (place_at new k) map (closed i both.listed) refl both.same.bytes
    stands

tells_on : (old : List ℕ) (place : ℕ) (map : CharacterMap) (ms : List Mapping) (it : IsAlone old place map) → Tells it.it ms → Tells map ms
tells_on old place map ms it tell char glyph maps = tell char glyph (it.tells char glyph maps)

pub still_told : {old subtable new : List ℕ} → IsWith old subtable new → (ms : List Mapping) → AreClosed old → AreTold old ms →
    AreTold new ms
still_told {old = old} {new = new} w ms closed told k map chosen stands =
    let from = origin w k chosen.best.listed (chosen_other w k chosen) in
    let it = was_alone w from.0 k from.1 closed map stands in
    tells_on old (place_at old from.0) map ms it (told from.0 it.it (was_chosen w from.0 k from.1 chosen) it.stands)

-- the format of the added subtable
format_at : {old subtable new : List ℕ} (w : IsWith old subtable new) (k format : ℕ) → number_at subtable 0 2 ≡ format → k ≡ w.at →
    number_at (drop (place_at new k) new) 0 2 ≡ format
format_at {new = new} w k format is same =
    ap (λ n. number_at (drop (place_at new n) new) 0 2) same ∙ ap (λ (xs : List ℕ). number_at xs 0 2) w.bytes ∙ is

no_map : (new : List ℕ) (place : ℕ) (map : CharacterMap) → number_at (drop place new) 0 2 ≡ 14 → IsMapAt new place map → ⊥
no_map new place (Segments m) format stands = let is = stands.format in absurd (omega (arith, is, format))
no_map new place (Groups m) format stands = let is = stands.format in absurd (omega (arith, is, format))
no_map new place (Trimmed m) format stands = let is = stands.format in absurd (omega (arith, is, format))

-- a record with a map is an old one
mapped_other : {old subtable new : List ℕ} (w : IsWith old subtable new) (k : ℕ) (map : CharacterMap) → number_at subtable 0 2 ≡ 14 →
    IsMapAt new (place_at new k) map → k ≡ w.at → ⊥
mapped_other {new = new} w k map format stands same = no_map new (place_at new k) map (format_at w k 14 format same) stands

-- the format of a record is the old one
same_format : {old subtable new : List ℕ} (w : IsWith old subtable new) (i k : ℕ) → Both old subtable new w.at i k →
    number_at new (place_at new k) 2 ≡ number_at old (place_at old i) 2
unfolding number_at
same_format {old = old} {subtable = subtable} {new = new} w i k both =
    let within = w.was.within i both.listed in
    let long = length-drop (place_at old i) old in
    ap (λ (xs : List ℕ). number_at xs 0 2) both.same.bytes
    ∙ number_within (drop (place_at old i) old) subtable 0 2 (omega (arith, within, long))

pub still_format4 : {old subtable new : List ℕ} → IsWith old subtable new → HasFormat4 old → HasFormat4 new
still_format4 w has =
    let on = there w has.i has.listed in
    record {
      i = on.0;
      listed = on.1.listed_now;
      platform = on.1.same.platform ∙ has.platform;
      encoding = on.1.same.encoding ∙ has.encoding;
      format = same_format w has.i on.0 on.1 ∙ has.format;
    }

pub still_told_in_4 : {old subtable new : List ℕ} → IsWith old subtable new → (ms : List Mapping) → AreClosed old →
    number_at subtable 0 2 ≡ 14 → AreToldIn4 old ms → AreToldIn4 new ms
still_told_in_4 {old = old} {new = new} w ms closed added told k map less format stands =
    let from = origin w k less (mapped_other w k map added stands) in
    let it = was_alone w from.0 k from.1 closed map stands in
    tells_on old (place_at old from.0) map ms it (told from.0 it.it from.1.listed (sym (same_format w from.0 k from.1) ∙ format) it.stands)

pub still_ascends : {old subtable new : List ℕ} → IsWith old subtable new → AreClosed old → number_at subtable 0 2 ≡ 14 →
    AllAscend old → AllAscend new
still_ascends w closed added rise k map less stands =
    let from = origin w k less (mapped_other w k map added stands) in
    let it = was_alone w from.0 k from.1 closed map stands in
    it.rises (rise from.0 it.it from.1.listed it.stands)
