-- How many segments there are, and which characters are in them.
use Rattle.std.proofs.Common.{◌≡◌, refl, sym, ap, subst, ◌∙◌, ℕ, zero, suc, ◌+◌, ◌≤◌, ◌<◌, Bool, true, false, List, [], ◌∷◌, ◌++◌, length, arith}
use Rattle.std.specs.Prelude.{Some, nat_lt, if◌then◌else◌}
use Rattle.std.specs.List.{filter}
use Rattle.std.proofs.lemmas.Bool.Decides.{nat_tests}
use Rattle.postscript_sfnt_write.specs.Grouping.{AreBelow, MappingsFit, end, goes_on, group_of, grouped, groups, longer}
use Rattle.postscript_sfnt_write.specs.Mappings.{CharsRise, IsMapping, continues, in_segments, low, segments, segments_after}
use Rattle.postscript_sfnt_write.specs.declared.mapping.Group.{Group}
use Rattle.postscript_sfnt_write.specs.declared.mapping.Mapping.{Mapping}
use Rattle.postscript_sfnt_write.proofs.Groups.{cases, goes}

-- a group that ends with a mapping
pub record EndsWith (g : Group) (m : Mapping) : Type 0 where
  pub end : g.end ≡ m.char
  pub from : g.start ≤ m.char
  pub glyph : m.glyph + g.start ≡ g.glyph + m.char

one_ends : (m : Mapping) → EndsWith (group_of m) m
one_ends m = record { end = refl; from = omega arith; glyph = refl }

longer_ends : (g : Group) (l m : Mapping) → EndsWith g l → goes_on g m ≡ true → EndsWith (longer g m.char) m
longer_ends g l m ends e =
    let on = goes g m e in
    let next = on.next in
    let last = ends.end in
    let from = ends.from in
    record { end = refl; from = omega (arith, next, last, from); glyph = on.glyph }

goes_continues : (g : Group) (l m : Mapping) → EndsWith g l → goes_on g m ≡ true → continues l m ≡ true
goes_continues g l m ends e =
    let on = goes g m e in
    let next = on.next in
    let same = on.glyph in
    let last = ends.end in
    let own = ends.glyph in
    let char : m.char ≡ l.char + 1 = omega (arith, next, last) in
    let glyph : m.glyph ≡ l.glyph + 1 = omega (arith, same, own, char) in
    grind (arith, nat_tests)

stops_continues : (g : Group) (l m : Mapping) → EndsWith g l → goes_on g m ≡ false → continues l m ≡ false
stops_continues g l m ends e = by (continues l m) refl
  where
    by : (b : Bool) → continues l m ≡ b → continues l m ≡ false
    by false f = f
    by true f =
        let last = ends.end in
        let own = ends.glyph in
        let char : m.char ≡ l.char + 1 = grind (arith, nat_tests) in
        let glyph : m.glyph ≡ l.glyph + 1 = grind (arith, nat_tests) in
        let next : m.char ≡ g.end + 1 = omega (arith, char, last) in
        let same : m.glyph + g.start ≡ g.glyph + m.char = omega (arith, glyph, own, char) in
        let on : goes_on g m ≡ true = grind (arith, nat_tests) in
        absurd (cc)

end_stops : (g : Group) (l : Mapping) → EndsWith g l → l.char < 0xffff → goes_on g end ≡ true → (n : ℕ) → n ≡ 2
end_stops g l ends low e n =
    let same = (goes g end e).glyph in
    let from = ends.from in
    absurd (omega (arith, same, from, low))

pub segments_grouped : (g : Group) (l : Mapping) (ms : List Mapping) → EndsWith g l → l.char < 0xffff → AreBelow ms →
    length (grouped g (ms ++ end ∷ [])) ≡ segments_after l ms + 2
unfolding grouped
segments_grouped g l [] ends low below = cases g end [] (λ gs. length gs ≡ 2)
    (λ e. end_stops g l ends low e _)
    (λ e. refl)
segments_grouped g l (m ∷ ms) ends low below =
    let here : m.char < 0xffff = below 0 m refl in
    let rest : AreBelow ms = λ i n there. below (suc i) n there in
    cases g m (ms ++ end ∷ []) (λ gs. length gs ≡ (if continues l m then 0 else 1) + segments_after m ms + 2)
    (λ e.
    let is = goes_continues g l m ends e in
    let more = segments_grouped (longer g m.char) m ms (longer_ends g l m ends e) here rest in
    rw is (omega (arith, more)))
    (λ e.
    let is = stops_continues g l m ends e in
    let more = segments_grouped (group_of m) m ms (one_ends m) here rest in
    rw is (omega (arith, more)))

pub segments_counted : (ms : List Mapping) → AreBelow ms → length (groups (ms ++ end ∷ [])) ≡ segments ms + 1
unfolding groups grouped
segments_counted [] below = refl
segments_counted (m ∷ ms) below =
    let more = segments_grouped (group_of m) m ms (one_ends m) (below 0 m refl) (λ i n there. below (suc i) n there) in
    omega (arith, more)

-- the characters below U+FFFF
first_passes : (p : Mapping → Bool) (m : Mapping) (ms : List Mapping) (P : List Mapping → Type 0) →
    (p m ≡ true → P (m ∷ filter p ms)) → (p m ≡ false → P (filter p ms)) → P (filter p (m ∷ ms))
first_passes p m ms P on off = by (p m) refl
  where
    by : (b : Bool) → p m ≡ b → P (if p m then m ∷ filter p ms else filter p ms)
    by true e = rw e (on e)
    by false e = rw e (off e)

-- a mapping that passes is one of all
record Among (p : Mapping → Bool) (ms : List Mapping) (m : Mapping) : Type 0 where
  i : ℕ
  there : IsMapping ms i m
  passes : p m ≡ true

AllAmong : (p : Mapping → Bool) → List Mapping → Type 0
AllAmong p ms = (i : ℕ) (m : Mapping) → IsMapping (filter p ms) i m → Among p ms m

first_among : (p : Mapping → Bool) (u : Mapping) (us : List Mapping) → AllAmong p us → p u ≡ true → (i : ℕ) (m : Mapping) →
    IsMapping (u ∷ filter p us) i m → Among p (u ∷ us) m
unfolding AllAmong
first_among p u us rest f zero m there =
    let same : u ≡ m = cc in record { i = 0; there = ap Some same; passes = subst (λ x. p x ≡ true) same f }
first_among p u us rest f (suc i) m there = let one = rest i m there in record { i = suc one.i; there = one.there; passes = one.passes }

among : (p : Mapping → Bool) (ms : List Mapping) → AllAmong p ms
unfolding AllAmong
among p [] i m e = absurd (cc)
among p (u ∷ us) i m e = first_passes p u us (λ xs. IsMapping xs i m → Among p (u ∷ us) m)
    (λ f there. first_among p u us (among p us) f i m there)
    (λ f there. (let one = among p us i m there in record { i = suc one.i; there = one.there; passes = one.passes }))
    e

pub low_below : (ms : List Mapping) → AreBelow (low ms)
unfolding AllAmong
low_below ms i m e =
    let one = among (λ mapping. nat_lt mapping.char 0xffff) ms i m e in
    let passes : nat_lt m.char 0xffff ≡ true = one.passes in
    grind (arith, nat_tests)

first_rises : (m : Mapping) (ms : List Mapping) → CharsRise (m ∷ ms) → CharsRise (low ms) → CharsRise (m ∷ low ms)
unfolding AllAmong
first_rises m ms rise rest k zero a b under there after = absurd (omega arith)
first_rises m ms rise rest zero (suc l) a b under there after =
    let same : m ≡ a = cc in
    let one = among (λ mapping. nat_lt mapping.char 0xffff) ms l b after in
    subst (λ (x : Mapping). x.char < b.char) same (rise 0 (suc one.i) m b (omega arith) refl one.there)
first_rises m ms rise rest (suc k) (suc l) a b under there after = rest k l a b (omega arith) there after

pub low_rise : (ms : List Mapping) → CharsRise ms → CharsRise (low ms)
low_rise [] rise = λ i j a b less x y. absurd (cc)
low_rise (m ∷ ms) rise =
    let rest = low_rise ms (λ k l c d under there after. rise (suc k) (suc l) c d (omega arith) there after) in
    first_passes (λ mapping. nat_lt mapping.char 0xffff) m ms CharsRise (λ f. first_rises m ms rise rest) (λ f. rest)

pub all_low : (ms : List Mapping) → AreBelow ms → low ms ≡ ms
all_low [] below = refl
all_low (m ∷ ms) below =
    let here : m.char < 0xffff = below 0 m refl in
    let passes : nat_lt m.char 0xffff ≡ true = grind (arith, nat_tests) in
    let rest = all_low ms (λ i n there. below (suc i) n there) in
    rw passes (ap (λ xs. m ∷ xs) rest)

none_below : AreBelow []
none_below i m e = absurd (cc)

none_rise : CharsRise []
none_rise i j a b less x y = absurd (cc)

-- those in segments
in_either_case : (ms : List Mapping) (P : List Mapping → Type 0) → P [] → P (low ms) → P (in_segments ms)
in_either_case ms P none all = by (nat_lt 8000 (segments (low ms)))
  where
    by : (b : Bool) → P (if b then [] else low ms)
    by true = none
    by false = all

pub in_segments_below : (ms : List Mapping) → AreBelow (in_segments ms)
in_segments_below ms = in_either_case ms AreBelow none_below (low_below ms)

pub in_segments_rise : (ms : List Mapping) → CharsRise ms → CharsRise (in_segments ms)
in_segments_rise ms rise = in_either_case ms CharsRise none_rise (low_rise ms rise)

pub few_in : (ms : List Mapping) → length (groups (low ms ++ end ∷ [])) < 8002 → in_segments ms ≡ low ms
few_in ms few =
    let counted = segments_counted (low ms) (low_below ms) in
    let most : segments (low ms) ≤ 8000 = omega (arith, counted, few) in
    let is : nat_lt 8000 (segments (low ms)) ≡ false = grind (arith, nat_tests) in
    rw is refl

pub many_out : (ms : List Mapping) → 8001 < length (groups (low ms ++ end ∷ [])) → in_segments ms ≡ []
many_out ms many =
    let counted = segments_counted (low ms) (low_below ms) in
    let most : 8000 < segments (low ms) = omega (arith, counted, many) in
    let is : nat_lt 8000 (segments (low ms)) ≡ true = grind (arith, nat_tests) in
    rw is refl

pub all_in : (ms : List Mapping) → AreBelow ms → length (groups (ms ++ end ∷ [])) < 8002 → in_segments ms ≡ ms
all_in ms below few =
    let all = all_low ms below in
    few_in ms (subst (λ xs. length (groups (xs ++ end ∷ [])) < 8002) (sym all) few) ∙ all

-- the segments of the low characters, or only the last one
pub kept_low : (ms xs : List Mapping) (gs : List Group) → xs ≡ low ms → gs ≡ groups (xs ++ end ∷ []) → length gs ≤ 8001 →
    MappingsFit (xs ++ end ∷ []) → (gs ≡ groups (in_segments ms ++ end ∷ [])) × MappingsFit (in_segments ms ++ end ∷ [])
kept_low ms xs gs is of few fit =
    let few_low : length (groups (low ms ++ end ∷ [])) < 8002 =
    subst (λ ys. length (groups (ys ++ end ∷ [])) < 8002) is (subst (λ hs. length hs < 8002) of (omega (arith, few))) in
    let same : xs ≡ in_segments ms = is ∙ sym (few_in ms few_low) in
    (of ∙ ap (λ ys. groups (ys ++ end ∷ [])) same, subst (λ ys. MappingsFit (ys ++ end ∷ [])) same fit)

pub left_low : (ms xs none : List Mapping) (gs hs : List Group) → xs ≡ low ms → gs ≡ groups (xs ++ end ∷ []) → 8001 < length gs →
    none ≡ [] → hs ≡ groups (none ++ end ∷ []) → MappingsFit (none ++ end ∷ []) →
    (hs ≡ groups (in_segments ms ++ end ∷ [])) × MappingsFit (in_segments ms ++ end ∷ [])
left_low ms xs none gs hs is of many empty last fit =
    let many_low : 8001 < length (groups (low ms ++ end ∷ [])) =
    subst (λ ys. 8001 < length (groups (ys ++ end ∷ []))) is (subst (λ hs. 8001 < length hs) of many) in
    let same : none ≡ in_segments ms = empty ∙ sym (many_out ms many_low) in
    (last ∙ ap (λ ys. groups (ys ++ end ∷ [])) same, subst (λ ys. MappingsFit (ys ++ end ∷ [])) same fit)
