-- A tag has one first record.
use Rattle.std.proofs.Common.{◌≡◌, ◌≢◌, inl, inr, ℕ, ◌<◌, ℤ, List, Option, Some, None, subst, arith}
use Rattle.std.proofs.lemmas.Bool.{cases_lt}
use Rattle.std.specs.Prelude.{MatchOption}
use Rattle.postscript_variation.specs.LentAdvances.{HasNoItem, VariesBy}
use Rattle.postscript_variation.specs.LentMetrics.{HasNoMetric, MetricVariesBy}
use Rattle.postscript_variation.specs.Metrics.{IsFirstRecord, inner_at, outer_at, tag_at}
use Rattle.postscript_variation.specs.declared.metrics.MetricVariations.{MetricVariations}
use Rattle.postscript_variation.specs.declared.store.Store.{Store}

one_first : (bytes : List ℕ) (size count tag i j : ℕ) → IsFirstRecord bytes size count tag i → IsFirstRecord bytes size count tag j → i ≡ j
one_first bytes size count tag i j a b =
    elim (cases_lt i j) [
      | inl h ↦ absurd (b.others i h a.tagged)
      | inr h ↦ elim (cases_lt j i) [
        | inl k ↦ absurd (a.others j k b.tagged)
        | inr k ↦ omega arith
      ]
    ]

one_store : (named : Option Store) (a b : Store) → named ≡ Some a → named ≡ Some b → a ≡ b
one_store named a b e f = cc

no_store : (named : Option Store) (a : Store) → named ≡ None → named ≡ Some a → ⊥
no_store named a e f = cc

pub unnamed : (metrics : MetricVariations) (tag : ℕ)
    → ((i : ℕ) → i < metrics.count → tag_at metrics.bytes.now metrics.size i ≢ tag) → HasNoMetric metrics tag
unnamed metrics tag none entry store first stored = absurd (none entry first.listed first.tagged)

pub storeless : (metrics : MetricVariations) (tag : ℕ) → metrics.store ≡ None → HasNoMetric metrics tag
storeless metrics tag none entry store first stored = absurd (no_store metrics.store store none stored)

untold : (metrics : MetricVariations) (tag i : ℕ) (store : Store) → IsFirstRecord metrics.bytes.now metrics.size metrics.count tag i
    → metrics.store ≡ Some store → HasNoItem store (outer_at metrics.bytes.now metrics.size i) (inner_at metrics.bytes.now metrics.size i)
    → HasNoMetric metrics tag
untold metrics tag i store first stored never entry other is there =
    let s = one_store metrics.store store other stored there in
    let e = one_first metrics.bytes.now metrics.size metrics.count tag i entry first is in
    subst (λ n. HasNoItem other (outer_at metrics.bytes.now metrics.size n) (inner_at metrics.bytes.now metrics.size n)) e
    (subst (λ t. HasNoItem t (outer_at metrics.bytes.now metrics.size i) (inner_at metrics.bytes.now metrics.size i)) s never)

pub varied : (metrics : MetricVariations) (tag i : ℕ) (store : Store) (coordinates : List ℤ) (result : Option ℤ)
    → IsFirstRecord metrics.bytes.now metrics.size metrics.count tag i → metrics.store ≡ Some store
    → MatchOption result (HasNoItem store (outer_at metrics.bytes.now metrics.size i) (inner_at metrics.bytes.now metrics.size i))
    (λ total. VariesBy store (outer_at metrics.bytes.now metrics.size i) (inner_at metrics.bytes.now metrics.size i) coordinates total)
    → MatchOption result (HasNoMetric metrics tag) (λ total. MetricVariesBy metrics tag coordinates total)
varied metrics tag i store coordinates None first stored never = untold metrics tag i store first stored never
varied metrics tag i store coordinates (Some total) first stored varies =
    record { entry = i; store = store; first = first; stored = stored; varies = varies }
