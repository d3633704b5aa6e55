-- More glyphs and more lookups: what could apply or was called still can.
use Rattle.std.proofs.Common.{◌≡◌, refl, sym, ap, subst, ◌∙◌, inl, inr, ℕ, zero, suc, ◌+◌, ◌*◌, ◌<◌, ◌==◌, ◌&&◌, List, [], ◌∷◌, ◌++◌, length, append-nil, get_or, arith, add-one, Bool, true, false}
use Rattle.std.specs.Prelude.{Option, None, Some, filter, map, if◌then◌else◌}
use Rattle.std.proofs.lemmas.List.{length-append}
use Rattle.std.specs.List.{All, Contains, range_with_len}
use Rattle.std.proofs.lemmas.List.Elements.{All-append, All-cons, All-contains, All-contains_itself, All-weaker, Contains-get_or}
use Rattle.postscript_layout.specs.Closure.{IsClosed, IsClosure}
use Rattle.postscript_layout.specs.Numbers.{word}
use Rattle.postscript_layout.specs.Texts.{no_step, step_more}
use Rattle.postscript_layout.specs.Texts.{TextStays as StepsStay}
use Rattle.postscript_layout_write.specs.Calls.{Calls, CallsBy, CallsIn, CallsInSet, HasCalled}
use Rattle.postscript_layout_write.specs.ContextRules.{is_label, label_of, labelled, labelled_at, rule_context, rule_of, rule_parts, set_of}
use Rattle.postscript_layout_write.specs.Contexts.{context_by, parts_of, sets_at}
use Rattle.postscript_layout_write.specs.Reached.{AreReached, AreWhole}
use Rattle.postscript_layout_write.specs.Reaching.{AddsOnly, AreFollowed}
use Rattle.postscript_layout_write.specs.RuleSets.{Begins}
use Rattle.postscript_layout_write.specs.Sequences.{Context, all_some, can_apply, covered_of, covers, is_some_glyph, kept_by}
use Rattle.postscript_layout_write.specs.Texts.{MayBecome, TextStays, called, substituted, unchanged}
use Rattle.postscript_layout_write.specs.declared.contexts.Parts.{Parts}
use Rattle.postscript_layout_write.specs.declared.labels.Role.{Role}
use Rattle.postscript_layout_write.specs.declared.labels.Role.TheVariants.{After, Before, Input, Start}
use Rattle.postscript_layout_write.proofs.ContextReading.{passes-there}
use Rattle.postscript_layout_write.proofs.Covering.{filter-more}
use Rattle.postscript_layout_write.proofs.Reaching.{begins-has}
use Rattle.postscript_layout_write.proofs.Reading.{any-default}

some-passes : (p : ℕ → Bool) (n : ℕ) → is_some_glyph (filter p (range_with_len 0 n)) ≡ true → (k : ℕ) × (k < n) × (p k ≡ true)
some-passes p zero is = absurd (cc)
some-passes p (suc m) is = by (some-passes p m) (p m) refl
    (subst (λ (xs : List ℕ). is_some_glyph xs ≡ true) (ap (λ i. filter p (range_with_len 0 i)) (sym (add-one m)) ∙ filter-more p m) is)
  where
    by : (is_some_glyph (filter p (range_with_len 0 m)) ≡ true → (k : ℕ) × (k < m) × (p k ≡ true)) → (b : Bool) → p m ≡ b →
        is_some_glyph (filter p (range_with_len 0 m) ++ (if b then m ∷ [] else [])) ≡ true → (k : ℕ) × (k < suc m) × (p k ≡ true)
    by early true passes h = (m, omega arith, passes)
    by early false fails h =
        let one = early (subst (λ (xs : List ℕ). is_some_glyph xs ≡ true) (append-nil (filter p (range_with_len 0 m))) h) in
        (one.0, (let less = one.1 in omega (arith, less)), one.2)

is-there : (xs : List ℕ) (x : ℕ) → Contains xs x → is_some_glyph xs ≡ true
is-there [] x there = (let within = there.1 in absurd (omega (arith, within)))
is-there (y ∷ ys) x there = refl

both-true : (a b : Bool) → a ≡ true → b ≡ true → (a && b) ≡ true
both-true true b x y = y
both-true false b x y = x

and-more : (a b c d : Bool) → (a ≡ true → c ≡ true) → (b ≡ true → d ≡ true) → (a && b) ≡ true → (c && d) ≡ true
and-more true b c d f g h = both-true c d (f refl) (g h)
and-more false b c d f g h = absurd (cc)

all-some-wider : {X : Type 0} (f g : X → List ℕ) (xs : List X) → ((x : X) → is_some_glyph (f x) ≡ true → is_some_glyph (g x) ≡ true) →
    all_some (map f xs) ≡ true → all_some (map g xs) ≡ true
all-some-wider f g [] each h = refl
all-some-wider f g (x ∷ xs) each h = and-more (is_some_glyph (f x)) (all_some (map f xs)) (is_some_glyph (g x)) (all_some (map g xs)) (each x)
    (all-some-wider f g xs each) h

applies-wider : (a b : Context) → (all_some a.before ≡ true → all_some b.before ≡ true) → (all_some a.input ≡ true → all_some b.input ≡ true) →
    (all_some a.after ≡ true → all_some b.after ≡ true) → can_apply a ≡ true → can_apply b ≡ true
applies-wider a b before input after = and-more (all_some a.before && all_some a.input) (all_some a.after) (all_some b.before && all_some b.input)
    (all_some b.after) (and-more (all_some a.before) (all_some a.input) (all_some b.before) (all_some b.input) before input) after

-- more glyphs
module _ (gsub kept more : List ℕ) (wider : All (Contains more) kept) where
  some-wider : (has : ℕ → Bool) → is_some_glyph (kept_by kept has) ≡ true → is_some_glyph (kept_by more has) ≡ true
  some-wider has is =
      let one = some-passes (λ k. has (get_or kept k 0)) (length kept) is in
      let there = All-contains (Contains more) kept (get_or kept one.0 0) wider (Contains-get_or kept one.0 0 one.1) in
      is-there (kept_by more has) there.0 (passes-there (λ k. has (get_or more k 0)) (length more) there.0 there.1 (same there one.2))
    where
      same : {x : ℕ} → (there : Contains more x) → has x ≡ true → has (get_or more there.0 0) ≡ true
      same there passes = subst (λ (g : ℕ). has g ≡ true) (sym (any there)) passes
        where
          any : {x : ℕ} → (there : Contains more x) → get_or more there.0 0 ≡ x
          any {x} there = any-default more there.0 0 x there.1 ∙ there.2

  sets-wider : (s array count : ℕ) → all_some (sets_at gsub kept s array count) ≡ true → all_some (sets_at gsub more s array count) ≡ true
  sets-wider s array count = all-some-wider (λ p. covered_of gsub kept (s + word gsub (array + p * 2))) (λ p. covered_of gsub more (s + word gsub (array + p * 2)))
      (range_with_len 0 count) (λ p. some-wider (covers gsub (s + word gsub (array + p * 2))))

  context-wider : (s : ℕ) (parts : Parts) → can_apply (context_by gsub kept s parts) ≡ true → can_apply (context_by gsub more s parts) ≡ true
  context-wider s parts = applies-wider (context_by gsub kept s parts) (context_by gsub more s parts) (sets-wider s parts.before_at parts.before)
      (sets-wider s parts.input_at parts.input) (sets-wider s parts.after_at parts.after)

  module _ (type s : ℕ) where
    labelled-wider : (role : Role) (number : ℕ) → is_some_glyph (labelled gsub kept type s role number) ≡ true →
        is_some_glyph (labelled gsub more type s role number) ≡ true
    labelled-wider role number = some-wider (λ glyph. is_label (label_of gsub type s role glyph) number)

    labels-wider : (role : Role) (array count : ℕ) → all_some (labelled_at gsub kept type s role array count) ≡ true →
        all_some (labelled_at gsub more type s role array count) ≡ true
    labels-wider role array count = all-some-wider (λ p. labelled gsub kept type s role (word gsub (array + p * 2)))
        (λ p. labelled gsub more type s role (word gsub (array + p * 2))) (range_with_len 0 count) (λ p. labelled-wider role (word gsub (array + p * 2)))

    rule-wider : (i : ℕ) (parts : Parts) → can_apply (rule_context gsub kept type s i parts) ≡ true → can_apply (rule_context gsub more type s i parts) ≡ true
    rule-wider i parts = applies-wider (rule_context gsub kept type s i parts) (rule_context gsub more type s i parts)
        (labels-wider Before parts.before_at parts.before)
        (and-more (is_some_glyph (labelled gsub kept type s Start i)) (all_some (labelled_at gsub kept type s Input parts.input_at parts.input))
        (is_some_glyph (labelled gsub more type s Start i)) (all_some (labelled_at gsub more type s Input parts.input_at parts.input))
        (labelled-wider Start i) (labels-wider Input parts.input_at parts.input))
        (labels-wider After parts.after_at parts.after)

    set-wider : (i : ℕ) (set : Option ℕ) (m : ℕ) → CallsInSet gsub kept type s i set m → CallsInSet gsub more type s i set m
    set-wider i None m c = c
    set-wider i (Some set) m c = (c.0, c.1, (rule-wider i (rule_parts gsub type (rule_of gsub set c.0)) c.2.0, c.2.1))

    by-wider : (b : Bool) (m : ℕ) → CallsBy gsub kept type s b m → CallsBy gsub more type s b m
    by-wider true m c = (context-wider s (parts_of gsub type s) c.0, c.1)
    by-wider false m c = (c.0, c.1, set-wider c.0 (set_of gsub type s c.0) m c.2)

  in-wider : (type : ℕ) (subtable : Option ℕ) (m : ℕ) → CallsIn gsub kept type subtable m → CallsIn gsub more type subtable m
  in-wider type None m c = c
  in-wider type (Some s) m c = by-wider type s (word gsub s == 3) m c

  pub calls-wider : (i m : ℕ) → Calls gsub kept i m → Calls gsub more i m
  calls-wider i m c = record { there = c.there; contextual = c.contextual; j = c.j; calls = (c.calls.0, in-wider _ _ m c.calls.1) }

  called-narrower : (lookups : List ℕ) → HasCalled gsub more lookups → HasCalled gsub kept lookups
  called-narrower lookups has i m there calls = has i m there (calls-wider i m calls)

-- fewer lookups
closed-fewer : (gsub lookups others glyphs : List ℕ) → All (Contains others) lookups → IsClosed gsub others glyphs → IsClosed gsub lookups glyphs
closed-fewer gsub lookups others glyphs has closed ins outs is =
    closed ins outs (is.0, All-contains (Contains others) lookups is.0 has is.1, is.2)

-- the search
module _ (gsub chosen given : List ℕ) where
  -- each whole list with the chosen lookups and the given glyphs has these lookups
  abbrev pub IsLeast : (lookups : List ℕ) → Type 0
  IsLeast lookups = (others more : List ℕ) → All (Contains others) chosen → All (Contains more) given → AreWhole gsub others more → All (Contains others) lookups

  pub least-first : (none lookups : List ℕ) → none ≡ [] → AddsOnly (λ m. Contains chosen m) none lookups → IsLeast lookups
  least-first none lookups empty adds others more has holds whole = All-weaker (Contains lookups) (Contains others)
      (λ m there. elim (adds.only m there) [
        | inl was ↦ (let within = was.1 in let nothing = ap length empty in absurd (omega (arith, within, nothing)))
        | inr is ↦ All-contains (Contains others) chosen m has is
      ]) lookups (All-contains_itself lookups)

  pub least-glyphs : (lookups glyphs : List ℕ) → IsLeast lookups → IsClosure gsub lookups given glyphs → (others more : List ℕ) →
      All (Contains others) chosen → All (Contains more) given → AreWhole gsub others more → All (Contains more) glyphs
  least-glyphs lookups glyphs least closure others more has holds whole =
      closure.least more holds (closed-fewer gsub lookups others more (least others more has holds whole) whole.made)

  pub least-more : (old new glyphs : List ℕ) → IsLeast old → IsClosure gsub old given glyphs → AreFollowed gsub glyphs old new → IsLeast new
  least-more old new glyphs least closure followed others more has holds whole =
      followed.least others (called-narrower gsub glyphs more (least-glyphs old glyphs least closure others more has holds whole) others whole.called)
      (least others more has holds whole)

  pub all-reached : (lookups glyphs : List ℕ) → All (Contains lookups) chosen → IsLeast lookups → IsClosure gsub lookups given glyphs →
      HasCalled gsub glyphs lookups → AreReached gsub chosen given lookups glyphs
  all-reached lookups glyphs has least closure calls = record {
    chosen_there = has;
    given_there = closure.holds;
    whole = record { made = closure.closed; called = calls };
    least = λ others more h g w. (least others more h g w, least-glyphs lookups glyphs least closure others more h g w);
  }

pub begins-all : (chosen old new : List ℕ) → Begins old new → All (Contains old) chosen → All (Contains new) chosen
begins-all chosen old new begins has = All-weaker (Contains old) (Contains new) (λ m. begins-has old new m begins) chosen has

-- nothing was added
pub begins-equal : (old new : List ℕ) → Begins old new → length new ≡ length old → new ≡ old
begins-equal old new begins same = begins.is ∙ nothing begins.more (let long = length-append old begins.more in let is = ap length begins.is in omega (arith, long, is, same))
  where
    nothing : (xs : List ℕ) → length xs ≡ 0 → old ++ xs ≡ old
    nothing [] none = append-nil old
    nothing (x ∷ xs) none = absurd (omega (arith, none))

-- texts
module _ (steps : StepsStay) (gsub lookups glyphs chosen first : List ℕ) (whole : AreWhole gsub lookups glyphs) (has : All (Contains lookups) chosen)
    (holds : All (Contains glyphs) first) where
  keeps : (used had last : List ℕ) → MayBecome gsub chosen first used had last →
      All (Contains lookups) used × All (Contains glyphs) had × All (Contains glyphs) last
  keeps _ _ _ unchanged = (has, holds, holds)
  keeps _ _ _ (substituted used had before after b step) =
      let k = keeps used had before b in
      let later = steps gsub used glyphs before after (closed-fewer gsub used lookups glyphs k.0 whole.made) k.2 (step_more before after no_step step) in
      (k.0, All-append (Contains glyphs) had after k.1 later, later)
  keeps _ _ _ (called used had text i m b there calls) =
      let k = keeps used had text b in (
        All-cons (Contains lookups) m used (whole.called i m (All-contains (Contains lookups) used i k.0 there) (calls-wider gsub had glyphs k.1 i m calls)) k.0,
        k.1,
        k.2,
      )

pub stays : StepsStay → TextStays
stays steps gsub lookups glyphs chosen first used had last whole has holds may = (keeps steps gsub lookups glyphs chosen first whole has holds used had last may).2
