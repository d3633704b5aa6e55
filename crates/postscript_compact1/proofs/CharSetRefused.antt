-- A char set is refused where none stands, and for what the bytes are not.
use Rattle.std.proofs.Common.{◌≡◌, ◌≢◌, ◌⊎◌, inl, inr, refl, sym, ap, subst, ◌∙◌, ℕ, zero, suc, ◌+◌, ◌-◌, ◌<◌, ◌≤◌, Bool, true, false, ◌==◌, List, [], ◌∷◌, length, arith, if◌then◌else◌}
use Rattle.std.specs.Prelude.{sum_by}
use Rattle.std.proofs.lemmas.Bool.Decides.{nat_tests}
use Rattle.std.proofs.lemmas.List.Sums.{sum_by-cons}
use Rattle.postscript_base.specs.Numbers.{number}
use Rattle.postscript_base.specs.Refusal.{Refusal, malformed_char_set, unknown_char_set_format}
use Rattle.postscript_base.specs.Tape.Loops.{many, until, until_from}
use Rattle.postscript_base.specs.Tape.Onward.{MovesOn, TakesBytes}
use Rattle.postscript_base.specs.Tape.Outcome.{Outcome, Got, Fault, Past, Reading, after, fault}
use Rattle.postscript_base.proofs.Onward.{number_takes}
use Rattle.postscript_compact1.specs.CharSets.{char_set, char_set_0, char_set_of, covered, covered_1, covered_2, covering, glyphs_of_1, glyphs_of_2, if_any, listed, none_wanting, range_1, range_2, uncovered}
use Rattle.postscript_compact1.specs.CharSets.Formats.{Listed, Covered}
use Rattle.postscript_compact1.specs.CharSetLaw.{ReadsCharSets}
use Rattle.postscript_compact1.specs.CharSetAt.{StandAt, ListsGlyphs, CoversGlyphs1, CoversGlyphs2, IsCharSet}
use Rattle.postscript_compact1.specs.CharSetCauses.{BehindFormat, CutFormat, CutIdentifier, CutRange, NoCharSet, NoCharSet0, NoCharSet1, NoCharSet2, NoCover, NoFormat, NoGlyphs, NoneToName, NoRanges1, NoRanges2, NoRangesOf, OtherFormat, WrongFormat, TooManyGlyphs}
use Rattle.postscript_compact1.specs.declared.char_set.CharSet.{CharSet}
use Rattle.postscript_compact1.specs.declared.char_set.CharSet.TheVariants.{Format0, Format1, Format2}
use Rattle.postscript_compact1.proofs.Ranges.{range_1_takes, range_2_takes}
use Rattle.postscript_compact1.proofs.CharSetIs.{Gives, all, all_0, all_of, all_until, covering_all, covering_gives, covers_some_1, covers_some_2, gives_0, gives_any, gives_of, is_format}

-- what holds of a refusal; no place past the end is sought
abbrev pub Fails : {A : Type 0} → (Refusal → Type 0) → Outcome A → Type 0
Fails Q (Got value next) = Unit {0}
Fails Q (Fault refusal) = Q refusal
Fails Q Past = ⊥

pub fails_after : {A B : Type 0} (o : Outcome A) (f : A → ℕ → Outcome B) (P Q : Refusal → Type 0) → Fails P o →
    ((refusal : Refusal) → P refusal → Q refusal) → ((value : A) (next : ℕ) → o ≡ Got value next → Fails Q (f value next)) →
    Fails Q (after o f)
fails_after o f P Q h0 h1 h2 = grind arith

-- a reading that moves on is refused as it is
pub moves_fails : {A : Type 0} (o : Outcome A) (place size : ℕ) → MovesOn place size o → Fails (λ refusal. o ≡ Fault refusal) o
moves_fails o place size h = grind arith

module _ {A : Type 0} (one : Reading A) where
  -- behind fewer than so many one is cut
  abbrev pub CutBehind : ℕ → List ℕ → ℕ → Refusal → Type 0
  CutBehind count bytes place refusal =
      (values : List A) × (next : ℕ) × StandAt one bytes place values next × (length values < count) × (one bytes next ≡ Fault refusal)

  pub many_fails : TakesBytes one → (count : ℕ) (bytes : List ℕ) (place : ℕ) → Fails (CutBehind count bytes place)
      (many one count bytes place)
  unfolding many
  many_fails takes zero bytes place = tt
  many_fails takes (suc count) bytes place =
      fails_after (one bytes place) _ _ _ (moves_fails (one bytes place) place (length bytes) (takes bytes place))
      (λ refusal e. ([], place, refl, omega arith, e))
      (λ value at e. fails_after (many one count bytes at) _ _ _ (many_fails takes count bytes at)
      (λ refusal h. let fewer = h.3 in (value ∷ h.0, h.1, (at, e, h.2), omega arith, h.4)) (λ values next e. tt))

  pub many_cut : (values : List A) (count : ℕ) (bytes : List ℕ) (place next : ℕ) (refusal : Refusal) →
      StandAt one bytes place values next → length values < count → one bytes next ≡ Fault refusal →
      many one count bytes place ≡ Fault refusal
  unfolding many
  many_cut values zero bytes place next refusal h fewer cut = absurd (omega arith)
  many_cut [] (suc count) bytes place next refusal h fewer cut =
      let here : one bytes place ≡ Fault refusal = ap (one bytes) (sym h) ∙ cut in rw here refl
  many_cut (value ∷ values) (suc count) bytes place next refusal h fewer cut =
      rw (h.1, many_cut values count bytes h.0 next refusal h.2 (omega arith) cut) refl

module _ {A : Type 0} (size : A → ℕ) (one : Reading A) (takes : TakesBytes one) where
  -- the next value is cut, or covers more than are still to be covered
  abbrev pub StopsAt : ℕ → List ℕ → ℕ → Refusal → Type 0
  StopsAt wanting bytes place refusal =
      (one bytes place ≡ Fault refusal) ⊎ ((last : A) × (end : ℕ) × (one bytes place ≡ Got last end) × (wanting < size
      last) × (refusal ≡ malformed_char_set))

  -- behind values that cover fewer than are still to be covered
  abbrev pub StopsBehind : ℕ → List ℕ → ℕ → Refusal → Type 0
  StopsBehind wanting bytes place refusal =
      (values : List A) × (next : ℕ) × StandAt one bytes place values next × (sum_by size values < wanting) × StopsAt
      (wanting - sum_by size values) bytes next refusal

  pub until_fails : (most wanting : ℕ) (bytes : List ℕ) (place : ℕ) → length bytes - place < most →
      Fails (StopsBehind wanting bytes place) (all_until size one most wanting bytes place)
  unfolding until_from covering
  until_fails zero wanting bytes place few = absurd (omega arith)
  until_fails (suc most) wanting bytes place few = by (none_wanting wanting) refl (λ less at fewer. until_fails most less bytes at fewer)
    where
      by : (b : Bool) → none_wanting wanting ≡ b →
          ((less at : ℕ) → length bytes - at < most → Fails (StopsBehind less bytes at) (all_until size one most less bytes at))
          → Fails (StopsBehind wanting bytes place)
          (if b then Got [] place else after (covering size one wanting bytes place)
          (λ value at. after (all_until size one most (uncovered size wanting value) bytes at) (λ values next. Got (value ∷ values) next)))
      by true e later = tt
      by false e later = fails_after (covering size one wanting bytes place) _ _ _ (grind arith)
          (λ refusal h. let all : wanting ≡ wanting - 0 = omega arith in
          ([], place, refl, grind (arith, nat_tests), subst (λ left. StopsAt left bytes place refusal) all h))
          (λ value at g.
          let first = subst (Gives (λ value next. (one bytes place ≡ Got value next) × (size value ≤ wanting))) g
          (covering_gives size one wanting bytes place) in
          let moved : (place < at) × (at ≤ length bytes) = subst (MovesOn place (length bytes)) first.0 (takes bytes place) in
          let up = moved.0 in
          let within = moved.1 in
          let covered = first.1 in
          fails_after (all_until size one most (wanting - size value) bytes at) _ _ _ (later (wanting - size value) at (omega arith))
          (λ refusal h.
          let fewer = h.3 in
          let sum = sum_by-cons size value h.0 in
          let left : (wanting - size value) - sum_by size h.0 ≡ wanting - sum_by size (value ∷ h.0) = omega arith in
          (value ∷ h.0, h.1, (at, first.0, h.2), omega arith, subst (λ left. StopsAt left bytes h.1 refusal) left h.4))
          (λ values next e. tt))

  pub until_stops : (most wanting : ℕ) (bytes : List ℕ) (place : ℕ) (values : List A) (next : ℕ) (refusal : Refusal) →
      StandAt one bytes place values next → sum_by size values < wanting
      → StopsAt (wanting - sum_by size values) bytes next refusal → length bytes - place < most → all_until size one most wanting bytes
      place ≡ Fault refusal
  unfolding until_from covering
  until_stops zero wanting bytes place values next refusal h fewer stop few = absurd (omega arith)
  until_stops (suc most) wanting bytes place [] next refusal h fewer stop few = grind (arith, nat_tests, all)
  until_stops (suc most) wanting bytes place (value ∷ values) next refusal h fewer stop few =
      let moved : (place < h.0) × (h.0 ≤ length bytes) = subst (MovesOn place (length bytes)) h.1 (takes bytes place) in
      let up = moved.0 in
      let within = moved.1 in
      let sum = sum_by-cons size value values in
      let more : none_wanting wanting ≡ false = grind (arith, nat_tests) in
      let left : wanting - sum_by size (value ∷ values) ≡ (wanting - size value) - sum_by size values = omega arith in
      rw (
        more,
        covering_all size one wanting bytes place h.0 value h.1 (omega arith),
        until_stops most (wanting - size value) bytes h.0 values next refusal h.2 (omega arith)
            (subst (λ left. StopsAt left bytes next refusal) left stop) (omega arith),
      ) refl

-- what refuses behind the byte of the format
abbrev NoneOr : ℕ → (Refusal → Type 0) → Refusal → Type 0
NoneOr glyphs Q refusal = ((glyphs ≡ 0) × (refusal ≡ malformed_char_set)) ⊎ Q refusal

no_list : (bytes : List ℕ) (place glyphs format behind : ℕ) → number 1 bytes place ≡ Got format behind → format ≡ 0 →
    (refusal : Refusal) → NoneOr glyphs (CutBehind (number 2) (glyphs - 1) bytes behind) refusal → NoCharSet bytes place glyphs refusal
no_list bytes place glyphs format behind e is refusal (inl h) = NoGlyphs format behind e (omega arith) h.0 h.1
no_list bytes place glyphs format behind e is refusal (inr h) =
    let fewer = h.3 in CutIdentifier behind h.0 h.1 (e ∙ ap (λ format. Got format behind) is) h.2 (omega arith) h.4

-- char sets of ranges, whatever their format
module _ {A : Type 0} (format : ℕ) (size : A → ℕ) (one : Reading A) (takes : TakesBytes one) where
  pub covered_fails : (glyphs : ℕ) (bytes : List ℕ) (place : ℕ) →
      Fails (NoneOr glyphs (StopsBehind size one takes (glyphs - 1) bytes place)) (covered format size one glyphs bytes place)
  unfolding covered if_any until
  covered_fails glyphs bytes place = grind (arith, is_format, fails_after, until_fails)

  -- what refuses behind the byte is a char set without glyphs, or ranges that do not cover them
  pub no_cover : (bytes : List ℕ) (place glyphs first behind : ℕ) → number 1 bytes place ≡ Got first behind → first ≡ format →
      (Q : Refusal → Type 0)
      → ((refusal : Refusal) → glyphs ≡ 0 → refusal ≡ malformed_char_set → Q refusal) → ((refusal : Refusal) → NoCover format size one
      bytes place glyphs refusal → Q refusal)
      → (refusal : Refusal) → NoneOr glyphs (StopsBehind size one takes (glyphs - 1) bytes behind) refusal → Q refusal
  no_cover bytes place glyphs first behind e is Q none stop refusal (inl h) = none refusal h.0 h.1
  no_cover bytes place glyphs first behind e is Q none stop refusal (inr h) = stop refusal (by h.4)
    where
      by : StopsAt size one takes ((glyphs - 1) - sum_by size h.0) bytes h.1 refusal → NoCover format size one bytes place glyphs refusal
      by (inl cut) = let fewer = h.3 in CutRange behind h.0 h.1 (e ∙ ap (λ first. Got first behind) is) h.2 (omega arith) cut
      by (inr last) =
          let fewer = h.3 in let more = last.3 in
          TooManyGlyphs behind h.0 h.1 last.0 last.1 (e ∙ ap (λ first. Got first behind) is) h.2 (omega arith) last.2 (omega arith) last.4

  pub covered_none : (glyphs : ℕ) (bytes : List ℕ) (place : ℕ) → glyphs ≡ 0 →
      covered format size one glyphs bytes place ≡ Fault malformed_char_set
  unfolding covered if_any
  covered_none glyphs bytes place none = rw none refl

  covered_stops : (glyphs : ℕ) (bytes : List ℕ) (place : ℕ) (values : List A) (next : ℕ) (refusal : Refusal) →
      StandAt one bytes place values next → 1 + sum_by size values < glyphs
      → StopsAt size one takes ((glyphs - 1) - sum_by size values) bytes next refusal → covered format size one glyphs bytes place ≡ Fault
      refusal
  unfolding covered if_any until
  covered_stops glyphs bytes place values next refusal h fewer stop =
      let any : (glyphs == 0) ≡ false = grind (arith, nat_tests) in
      rw (
        any,
        until_stops size one takes (suc (length bytes)) (glyphs - 1) bytes place values next refusal h (omega arith) stop
            (omega arith),
      ) refl

  -- where ranges do not cover the glyphs, they are refused behind the byte
  pub covered_refused : (glyphs : ℕ) (bytes : List ℕ) (place : ℕ) (refusal : Refusal) →
      NoCover format size one bytes place glyphs refusal →
      (behind : ℕ) × (number 1 bytes place ≡ Got format behind) × (covered format size one glyphs bytes behind ≡ Fault refusal)
  covered_refused glyphs bytes place refusal (CutRange behind values next e h fewer cut) =
      (behind, e, covered_stops glyphs bytes behind values next refusal h fewer (inl cut))
  covered_refused glyphs bytes place refusal (TooManyGlyphs behind values next last end e h fewer got more is) =
      (behind, e, covered_stops glyphs bytes behind values next refusal h fewer (inr (last, end, got, omega arith, is)))

any_fails : (glyphs : ℕ) (bytes : List ℕ) (place : ℕ) → Fails (NoCharSet bytes place glyphs) (char_set glyphs bytes place)
unfolding char_set listed
any_fails glyphs bytes place =
    fails_after (number 1 bytes place) _ _ _
    (moves_fails (number 1 bytes place) place (length bytes) (number_takes 1 (omega arith) bytes place)) (λ refusal e. NoFormat e)
    (λ format behind e. by format behind e (format == 0) (format == 1) (format == 2) refl refl refl)
  where
    by : (format behind : ℕ) → number 1 bytes place ≡ Got format behind → (zeroth first second : Bool) → (format == 0) ≡ zeroth →
        (format == 1) ≡ first → (format == 2) ≡ second
        → Fails {A = CharSet} (NoCharSet bytes place glyphs)
        ((if zeroth then (λ bytes place. after (listed glyphs bytes place)
        (λ set next. Got (Format0 set) next)) else if first then (λ bytes place. after (covered_1 glyphs bytes place)
        (λ set next. Got (Format1 set) next)) else if second then (λ bytes place. after (covered_2 glyphs bytes place)
        (λ set next. Got (Format2 set) next)) else fault unknown_char_set_format) bytes behind)
    by format behind e true first second is other others =
        fails_after (listed glyphs bytes behind) _ _ _ (grind (arith, is_format, fails_after, many_fails, number_takes))
        (no_list bytes place glyphs format behind e (is_format format 0 is)) (λ set next g. tt)
    by format behind e false true second other is others =
        let first = is_format format 1 is in
        fails_after (covered_1 glyphs bytes behind) _ _ _ (covered_fails 1 glyphs_of_1 range_1 range_1_takes glyphs bytes behind)
        (no_cover 1 glyphs_of_1 range_1 range_1_takes bytes place glyphs format behind e first (NoCharSet bytes place glyphs)
        (λ refusal none is. NoGlyphs format behind e (omega arith) none is) (λ refusal h. NoRanges1 h)) (λ set next g. tt)
    by format behind e false false true other others is =
        let second = is_format format 2 is in
        fails_after (covered_2 glyphs bytes behind) _ _ _ (covered_fails 2 glyphs_of_2 range_2 range_2_takes glyphs bytes behind)
        (no_cover 2 glyphs_of_2 range_2 range_2_takes bytes place glyphs format behind e second (NoCharSet bytes place glyphs)
        (λ refusal none is. NoGlyphs format behind e (omega arith) none is) (λ refusal h. NoRanges2 h)) (λ set next g. tt)
    by format behind e false false false zeroth first second = OtherFormat format behind e (grind (arith, nat_tests)) refl

listed_none : (glyphs : ℕ) (bytes : List ℕ) (place : ℕ) → glyphs ≡ 0 → listed glyphs bytes place ≡ Fault malformed_char_set
unfolding listed
listed_none glyphs bytes place none = rw none refl

listed_cut : (glyphs : ℕ) (bytes : List ℕ) (place : ℕ) (values : List ℕ) (next : ℕ) (refusal : Refusal) →
    StandAt (number 2) bytes place values next → 1 + length values < glyphs → number 2 bytes next ≡ Fault refusal →
    listed glyphs bytes place ≡ Fault refusal
unfolding listed
listed_cut glyphs bytes place values next refusal h fewer cut = grind (arith, nat_tests, many_cut)

refused : (glyphs : ℕ) (bytes : List ℕ) (place : ℕ) (refusal : Refusal) → NoCharSet bytes place glyphs refusal →
    char_set glyphs bytes place ≡ Fault refusal
unfolding char_set
refused glyphs bytes place refusal (NoFormat e) = rw e refl
refused glyphs bytes place refusal (NoGlyphs zero behind e first none is) = rw (e, listed_none glyphs bytes behind none) (ap Fault (sym is))
refused glyphs bytes place refusal (NoGlyphs (suc zero) behind e first none is) =
    rw (e, covered_none 1 glyphs_of_1 range_1 range_1_takes glyphs bytes behind none) (ap Fault (sym is))
refused glyphs bytes place refusal (NoGlyphs (suc (suc zero)) behind e first none is) =
    rw (e, covered_none 2 glyphs_of_2 range_2 range_2_takes glyphs bytes behind none) (ap Fault (sym is))
refused glyphs bytes place refusal (NoGlyphs (suc (suc (suc format))) behind e first none is) = absurd (omega arith)
refused glyphs bytes place refusal (CutIdentifier behind values next e h fewer cut) =
    rw (e, listed_cut glyphs bytes behind values next refusal h fewer cut) refl
refused glyphs bytes place refusal (NoRanges1 h) =
    let stop = covered_refused 1 glyphs_of_1 range_1 range_1_takes glyphs bytes place refusal h in rw (stop.1, stop.2) refl
refused glyphs bytes place refusal (NoRanges2 h) =
    let stop = covered_refused 2 glyphs_of_2 range_2 range_2_takes glyphs bytes place refusal h in rw (stop.1, stop.2) refl
refused glyphs bytes place refusal (OtherFormat format behind e greater is) =
    grind (arith, listed_none, range_1_takes, range_2_takes, listed_cut, nat_tests)

-- ---- char sets of one format
fails_more : {A : Type 0} (o : Outcome A) (P Q : Refusal → Type 0) → ((refusal : Refusal) → P refusal → Q refusal) → Fails P o → Fails Q o
fails_more o P Q more h = grind arith

other_format : (first format : ℕ) → first ≢ format → (first == format) ≡ false
other_format first format other = grind arith

wrong_format : (first format : ℕ) → (first == format) ≡ false → first ≢ format
wrong_format first format e is = absurd (grind (arith, nat_tests))

not_listed : (bytes : List ℕ) (place glyphs format behind : ℕ) → number 1 bytes place ≡ Got format behind → format ≡ 0 →
    (refusal : Refusal) → NoneOr glyphs (CutBehind (number 2) (glyphs - 1) bytes behind) refusal → NoCharSet0 bytes place glyphs refusal
not_listed bytes place glyphs format behind e is refusal (inl h) = NoneToName behind (e ∙ ap (λ format. Got format behind) is) h.0 h.1
not_listed bytes place glyphs format behind e is refusal (inr h) =
    let fewer = h.3 in BehindFormat (behind, h.0, h.1, e ∙ ap (λ format. Got format behind) is, h.2, omega arith, h.4)

fails_0 : (glyphs : ℕ) (bytes : List ℕ) (place : ℕ) → Fails (NoCharSet0 bytes place glyphs) (char_set_0 glyphs bytes place)
unfolding char_set_0 listed
fails_0 glyphs bytes place =
    fails_after (number 1 bytes place) _ _ _
    (moves_fails (number 1 bytes place) place (length bytes) (number_takes 1 (omega arith) bytes place)) (λ refusal e. CutFormat e)
    (λ format behind e. by format behind e (format == 0) refl)
  where
    by : (format behind : ℕ) → number 1 bytes place ≡ Got format behind → (b : Bool) → (format == 0) ≡ b → Fails {A = Listed}
        (NoCharSet0 bytes place glyphs) ((if b then listed glyphs else fault malformed_char_set) bytes behind)
    by format behind e true is =
        fails_more (listed glyphs bytes behind) _ _ (not_listed bytes place glyphs format behind e (is_format format 0 is))
        (grind (arith, is_format, fails_after, many_fails, number_takes))
    by format behind e false is = WrongFormat format behind e (wrong_format format 0 is) refl

refused_0 : (glyphs : ℕ) (bytes : List ℕ) (place : ℕ) (refusal : Refusal) → NoCharSet0 bytes place glyphs refusal →
    char_set_0 glyphs bytes place ≡ Fault refusal
unfolding char_set_0
refused_0 glyphs bytes place refusal h0 = grind (arith, other_format, listed_none, listed_cut)

module _ {A : Type 0} (format : ℕ) (size : A → ℕ) (one : Reading A) (takes : TakesBytes one) where
  fails_of : (glyphs : ℕ) (bytes : List ℕ) (place : ℕ) → Fails (NoRangesOf format size one bytes place glyphs)
      (char_set_of format size one glyphs bytes place)
  unfolding char_set_of
  fails_of glyphs bytes place =
      fails_after (number 1 bytes place) _ _ _
      (moves_fails (number 1 bytes place) place (length bytes) (number_takes 1 (omega arith) bytes place)) (λ refusal e. CutFormat e)
      (λ first behind e. by first behind e (first == format) refl)
    where
      by : (first behind : ℕ) → number 1 bytes place ≡ Got first behind → (b : Bool) → (first == format) ≡ b → Fails {A = Covered A}
          (NoRangesOf format size one bytes place glyphs)
          ((if b then covered format size one glyphs else fault malformed_char_set) bytes behind)
      by first behind e true is =
          let same = is_format first format is in
          fails_more (covered format size one glyphs bytes behind) _ _
          (no_cover format size one takes bytes place glyphs first behind e same (NoRangesOf format size one bytes place glyphs)
          (λ refusal none is. NoneToName behind (e ∙ ap (λ first. Got first behind) same) none is) (λ refusal h. BehindFormat h))
          (covered_fails format size one takes glyphs bytes behind)
      by first behind e false is = WrongFormat first behind e (wrong_format first format is) refl

  refused_of : (glyphs : ℕ) (bytes : List ℕ) (place : ℕ) (refusal : Refusal) → NoRangesOf format size one bytes place glyphs refusal →
      char_set_of format size one glyphs bytes place ≡ Fault refusal
  unfolding char_set_of
  refused_of glyphs bytes place refusal (CutFormat e) = rw e refl
  refused_of glyphs bytes place refusal (WrongFormat first behind e other is) = rw (e, other_format first format other) (ap Fault (sym is))
  refused_of glyphs bytes place refusal (NoneToName behind e none is) =
      let same : (format == format) ≡ true = grind (arith, nat_tests) in
      rw (e, same, covered_none format size one takes glyphs bytes behind none) (ap Fault (sym is))
  refused_of glyphs bytes place refusal (BehindFormat h) =
      let same : (format == format) ≡ true = grind (arith, nat_tests) in
      let stop = covered_refused format size one takes glyphs bytes place refusal h in
      rw (stop.1, same, stop.2) refl

pub reads_char_sets : ReadsCharSets
reads_char_sets = record {
  all = all;
  only = λ glyphs bytes place set next e. subst (Gives (IsCharSet bytes place glyphs)) e (gives_any glyphs bytes place);
  why = λ glyphs bytes place refusal e. subst (Fails (NoCharSet bytes place glyphs)) e (any_fails glyphs bytes place);
  refused = refused;
  never_past = λ glyphs bytes place e. subst (Fails (NoCharSet bytes place glyphs)) e (any_fails glyphs bytes place);
  all_0 = all_0;
  only_0 = λ glyphs bytes place set next e. subst (Gives (ListsGlyphs bytes place glyphs)) e (gives_0 glyphs bytes place);
  all_1 = all_of 1 glyphs_of_1 range_1 range_1_takes covers_some_1;
  only_1 = λ glyphs bytes place set next e. subst (Gives (CoversGlyphs1 bytes place glyphs)) e
      (gives_of 1 glyphs_of_1 range_1 glyphs bytes place);
  all_2 = all_of 2 glyphs_of_2 range_2 range_2_takes covers_some_2;
  only_2 = λ glyphs bytes place set next e. subst (Gives (CoversGlyphs2 bytes place glyphs)) e
      (gives_of 2 glyphs_of_2 range_2 glyphs bytes place);
  why_0 = λ glyphs bytes place refusal e. subst (Fails (NoCharSet0 bytes place glyphs)) e (fails_0 glyphs bytes place);
  refused_0 = refused_0;
  never_past_0 = λ glyphs bytes place e. subst (Fails (NoCharSet0 bytes place glyphs)) e (fails_0 glyphs bytes place);
  why_1 = λ glyphs bytes place refusal e. subst (Fails (NoCharSet1 bytes place glyphs)) e
      (fails_of 1 glyphs_of_1 range_1 range_1_takes glyphs bytes place);
  refused_1 = refused_of 1 glyphs_of_1 range_1 range_1_takes;
  never_past_1 = λ glyphs bytes place e. subst (Fails (NoCharSet1 bytes place glyphs)) e
      (fails_of 1 glyphs_of_1 range_1 range_1_takes glyphs bytes place);
  why_2 = λ glyphs bytes place refusal e. subst (Fails (NoCharSet2 bytes place glyphs)) e
      (fails_of 2 glyphs_of_2 range_2 range_2_takes glyphs bytes place);
  refused_2 = refused_of 2 glyphs_of_2 range_2 range_2_takes;
  never_past_2 = λ glyphs bytes place e. subst (Fails (NoCharSet2 bytes place glyphs)) e
      (fails_of 2 glyphs_of_2 range_2 range_2_takes glyphs bytes place);
}
