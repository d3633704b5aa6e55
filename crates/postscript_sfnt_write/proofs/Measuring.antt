-- What metrics that were written say.
use Rattle.std.proofs.Common.{◌≡◌, refl, sym, ap, subst, ◌∙◌, ℕ, zero, suc, ◌+◌, ◌-◌, ◌*◌, ◌^◌, ◌≤◌, ◌<◌, true, List, [], ◌∷◌, ◌++◌, length, take, drop, get_or, length-append, length-drop, arith}
use Rattle.std.specs.Prelude.{pos, if◌then◌else◌, nat_lt}
use Rattle.std.specs.Int.{cast_unsigned, w16}
use Rattle.std.proofs.lemmas.Bool.{lt-ltb}
use Rattle.std.proofs.lemmas.List.{append-nil, append_assoc, at_drop_more, at_drop_all, drop-take, drop_at, length-take-le, take_at}
use Rattle.postscript_base.specs.Numbers.{two_sided}
use Rattle.postscript_base.specs.Index.{number_at}
use Rattle.postscript_sfnt.specs.Metrics.{IsWord, advance_of}
use Rattle.postscript_sfnt_write.specs.Layout.{MetricsFit, metric_text, metrics_text}
use Rattle.postscript_sfnt_write.specs.Metrics.{CanBeRead, IsMetric, KeepsBut, TellsAdvances, TellsBearings}
use Rattle.postscript_sfnt_write.specs.Numbers.{uint16, uint32}
use Rattle.postscript_sfnt_write.specs.declared.metrics.Metric.{Metric}
use Rattle.postscript_sfnt_write.proofs.Standing.{Stands, length-uint16, stands_first, stands_second, stands_within, uint16_stands}

-- the metrics that a loop still goes over
abbrev pub none : Metric
none = record { advance = 0; bearing = pos 0 }

pub metrics_more : (metrics : List Metric) (i : ℕ) → i < length metrics →
    metrics_text (drop i metrics) ≡ metric_text (get_or metrics i none) ++ metrics_text (drop (i + 1) metrics)
unfolding metrics_text
metrics_more metrics i h = at_drop_more metrics_text metrics i none h

pub metrics_done : (metrics : List Metric) (i : ℕ) → length metrics ≤ i → metrics_text (drop i metrics) ≡ []
unfolding metrics_text
metrics_done metrics i h = at_drop_all metrics_text metrics i h

pub metric_is : (metrics : List Metric) (i : ℕ) (m d : Metric) → IsMetric metrics i m → get_or metrics i d ≡ m
metric_is [] i m d e = absurd (cc)
metric_is (u ∷ us) zero m d e = cc
metric_is (u ∷ us) (suc i) m d e = metric_is us i m d e

pub metric_below : (metrics : List Metric) (i : ℕ) (m : Metric) → IsMetric metrics i m → i < length metrics
metric_below [] i m e = absurd (cc)
metric_below (u ∷ us) zero m e = omega arith
metric_below (u ∷ us) (suc i) m e = let less = metric_below us i m e in omega (arith, less)

length-metric_text : (m : Metric) → length (metric_text m) ≡ 4
unfolding metric_text uint16
length-metric_text m = refl

pub length-metrics_text : (metrics : List Metric) → length (metrics_text metrics) ≡ length metrics * 4
unfolding metrics_text
length-metrics_text [] = refl
length-metrics_text (m ∷ ms) =
    let e = length-append (metric_text m) (metrics_text ms) in
    let f = length-metric_text m in
    let g = length-metrics_text ms in
    omega (arith, e, f, g)

metrics_stand : {bytes : List ℕ} (at : ℕ) (metrics : List Metric) (i : ℕ) (m : Metric) → IsMetric metrics i m →
    Stands (metrics_text metrics) bytes at → Stands (metric_text m) bytes (at + i * 4)
unfolding metrics_text
metrics_stand at [] i m e s = absurd (cc)
metrics_stand {bytes = bytes} at (u ∷ us) zero m e s =
    let same : u ≡ m = cc in
    let here : at ≡ at + 0 * 4 = omega arith in
    subst (λ k. Stands (metric_text m) bytes k) here
    (subst (λ (x : Metric). Stands (metric_text x) bytes at) same (stands_first (metric_text u) (metrics_text us) s))
metrics_stand {bytes = bytes} at (u ∷ us) (suc i) m e s =
    let on : at + 4 + i * 4 ≡ at + suc i * 4 = omega arith in
    subst (λ k. Stands (metric_text m) bytes k) on
    (metrics_stand (at + 4) us i m e (stands_second (metric_text u) (metrics_text us) 4 (length-metric_text u) s))

-- what is told of a glyph
record Told (bytes : List ℕ) (i : ℕ) (m : Metric) : Type 0 where
  advance : number_at bytes (i * 4) 2 ≡ m.advance
  bearing : number_at bytes (i * 4 + 2) 2 ≡ cast_unsigned w16 m.bearing

told : (bytes : List ℕ) (metrics : List Metric) → bytes ≡ metrics_text metrics → MetricsFit metrics → (i : ℕ) (m : Metric) →
    IsMetric metrics i m → Told bytes i m
unfolding metric_text
told bytes metrics text fit i m e =
    let whole : Stands (metrics_text metrics) bytes
    0 = record { within = omega arith; behind = []; there = text ∙ sym (append-nil (metrics_text metrics)) } in
    let zero_on : 0 + i * 4 ≡ i * 4 = omega arith in
    let here : Stands (metric_text m) bytes (i * 4) = subst (λ k. Stands (metric_text m) bytes k) zero_on
    (metrics_stand 0 metrics i m e whole) in
    let a : List ℕ = uint16 m.advance in
    let b : List ℕ = uint16 (cast_unsigned w16 m.bearing) in
    record {
      advance = uint16_stands m.advance (fit i m e).advance (stands_first a b here);
      bearing = uint16_stands (cast_unsigned w16 m.bearing) (fit i m e).small (stands_second a b 2 (length-uint16 m.advance) here);
    }

pub tells_advances : (bytes : List ℕ) (metrics : List Metric) → bytes ≡ metrics_text metrics → MetricsFit metrics → TellsAdvances bytes metrics
tells_advances bytes metrics text fit hhea n advances word few of i m less e =
    let count : advances.count ≡ n = of.told.counted.value ∙ sym word.value in
    let here : number_at bytes (i * 4) 2 ≡ m.advance = (told bytes metrics text fit i m e).advance in
    let yes : nat_lt i advances.count ≡ true = lt-ltb i advances.count (omega (arith, less, count)) in
    ap (λ (xs : List ℕ). advance_of xs advances.count i) of.lent
    ∙ ap (λ b. if b then number_at bytes (i * 4) 2 else number_at bytes ((advances.count - 1) * 4) 2) yes ∙ here

pub tells_bearings : (bytes : List ℕ) (metrics : List Metric) → bytes ≡ metrics_text metrics → MetricsFit metrics → TellsBearings bytes metrics
tells_bearings bytes metrics text fit i m e = ap (two_sided 32768) (told bytes metrics text fit i m e).bearing ∙ (fit i m e).bearing

pub can_be_read : (bytes : List ℕ) (metrics : List Metric) → bytes ≡ metrics_text metrics → CanBeRead bytes metrics
can_be_read bytes metrics text hhea n word some few =
    let long : length bytes ≡ length metrics * 4 = ap length text ∙ length-metrics_text metrics in
    record { counted = word; some = some; room = omega (arith, long, few) }

-- a table with another number
pub has_word : (place n : ℕ) (old new : List ℕ) → place + 2 ≤ length old → n < 2 ^ 16 →
    new ≡ take place old ++ (uint16 n ++ drop (place + 2) old) → IsWord new place n
has_word place n old new room small text =
    let a : List ℕ = take place old in
    let b : List ℕ = uint16 n ++ drop (place + 2) old in
    let front : length a ≡ place = length-take-le place old (omega arith) in
    let whole : Stands (a ++ b) new 0 = record { within = omega arith; behind = []; there = text ∙ sym (append-nil (a ++ b)) } in
    let on : 0 + place ≡ place = omega arith in
    let here : Stands (uint16 n) new place = subst (λ k. Stands (uint16 n) new k) on
    (stands_first (uint16 n) (drop (place + 2) old) (stands_second a b place front whole)) in
    let within = stands_within (uint16 n) here in
    let two = length-uint16 n in
    record { within = omega (arith, within, two); value = sym (uint16_stands n small here) }

pub keeps_but : (place n : ℕ) (old new : List ℕ) → place + 2 ≤ length old → new ≡ take place old ++ (uint16 n ++ drop (place + 2) old) →
    KeepsBut place old new
keeps_but place n old new room text =
    let a : List ℕ = take place old in
    let c : List ℕ = drop (place + 2) old in
    let front : length a ≡ place = length-take-le place old (omega arith) in
    let e = length-append a (uint16 n ++ c) in
    let f = length-append (uint16 n) c in
    let g = length-drop (place + 2) old in
    let two = length-uint16 n in
    let head = length-append a (uint16 n) in
    record {
      size = ap length text ∙ (let long : length (a ++ (uint16 n ++ c)) ≡ length old = omega (arith, front, e, f, g, two) in long);
      before = ap (take place) text ∙ take_at a (uint16 n ++ c) place front;
      behind = ap (drop (place + 2)) (text ∙ sym (append_assoc a (uint16 n) c))
          ∙ drop_at (a ++ uint16 n) c (place + 2) (omega (arith, head, front, two));
    }

-- a table `post` of version 3.0
pub version_is : (new rest : List ℕ) → new ≡ uint32 0x00030000 ++ rest → number_at new 0 4 ≡ 0x00030000
unfolding number_at uint32
version_is new rest e = ap (λ xs. number_at xs 0 4) e

pub rest_is : (new post : List ℕ) → new ≡ uint32 0x00030000 ++ take 28 (drop 4 post) → drop 4 new ≡ drop 4 (take 32 post)
unfolding uint32
rest_is new post e = ap (drop 4) e ∙ sym (drop-take 4 28 post)
