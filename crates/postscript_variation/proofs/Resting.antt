-- What does not vary at the default.
use Rattle.std.proofs.Common.{◌≡◌, inl, inr, ℕ, zero, suc, ◌*◌, ◌<◌, ℤ, pos, ◌*ℤ◌, List, [], Option, Some, None, refl, sym, ◌∙◌, arith}
use Rattle.std.proofs.Math.Nat.{div-eq_of_lt}
use Rattle.std.proofs.lemmas.Bool.{cases_eq}
use Rattle.std.proofs.lemmas.Int.{ints}
use Rattle.std.specs.Prelude.{nat_lt}
use Rattle.postscript_variation.specs.Coordinates.{coordinate_along, coordinate_by, mapped_with}
use Rattle.postscript_variation.specs.Deltas.{delta_at}
use Rattle.postscript_variation.specs.DefaultLaws.{AreDefault, CountsAlong, DependsOnAxis}
use Rattle.postscript_variation.specs.Lent.{delta_count, region_of, scalar_at, scalar_in}
use Rattle.postscript_variation.specs.LentAxes.{axis_count, axis_place, bytes_of}
use Rattle.postscript_variation.specs.LentDeltas.{item_place, share_of, sum_by, variation_of}
use Rattle.postscript_variation.specs.LentMaps.{map_count}
use Rattle.postscript_variation.specs.Axes.{axis_at}
use Rattle.postscript_variation.specs.Maps.{map_place, mapped}
use Rattle.postscript_variation.specs.Scalars.{IsAxisScalar, IsIgnored, nearest, scaled}
use Rattle.postscript_variation.specs.Scalars.IsAxisScalar.{ignored, outside, at_peak, rising, falling}
use Rattle.postscript_variation.specs.Store.{scalar_by}
use Rattle.postscript_variation.specs.declared.axes.Axes.{Axes}
use Rattle.postscript_variation.specs.declared.axes.Axis.{Axis}
use Rattle.postscript_variation.specs.declared.maps.Maps.{Maps}
use Rattle.postscript_variation.specs.declared.regions.Regions.{Regions}
use Rattle.postscript_variation.specs.declared.store.Data.{Data}
use Rattle.postscript_variation.proofs.AxisScalars.{computed, counts_of, has_one, some}
use Rattle.postscript_variation.proofs.Deciding.{chosen}
use Rattle.postscript_variation.proofs.Segments.{defaults as maps_keep}
use Rattle.postscript_variation.proofs.Normalizing.{defaults}

-- ---- where nothing is asked for

kept : (maps : Option Maps) (axis : ℕ) → mapped_with maps axis (pos 0) ≡ pos 0
kept None axis = refl
kept (Some maps) axis =
    chosen (nat_lt axis (map_count maps)) (mapped maps.bytes.now (map_place maps.bytes.now axis) _ (pos 0)) (pos 0) (λ t. maps_keep _ _ _)

by_record : (found : Axis) (axis : ℕ) (maps : Option Maps) → coordinate_by found axis maps [] ≡ pos 0
by_record found axis maps = rw (defaults found.minimum found.default found.maximum) (rw (kept maps axis) refl)

pub asked_for_none : (axes : Axes) (maps : Option Maps) (axis : ℕ) → coordinate_along axes maps [] axis ≡ pos 0
asked_for_none axes maps axis =
    chosen (nat_lt axis (axis_count axes)) (coordinate_by (axis_at (bytes_of axes) (axis_place axes axis)) axis maps []) (pos 0)
    (λ t. by_record (axis_at (bytes_of axes) (axis_place axes axis)) axis maps)

-- ---- scalars

of_nothing : (n whole : ℕ) → n ≡ 0 → 0 < whole → nearest n whole ≡ 0
of_nothing n whole e h = div-eq_of_lt (omega (arith, e, h))

times_none : (n part : ℕ) → part ≡ 0 → n * part ≡ 0
times_none n part e = rw e (omega arith)

none_times : (part : ℕ) → 0 * part ≡ 0
none_times part = omega arith

no_part : (start peak last : ℤ) (part whole : ℕ) → (IsIgnored start peak last → ⊥) → IsAxisScalar start peak last (pos 0) part whole →
    part ≡ 0
no_part start peak last part whole n (ignored i p w) = absurd (n i)
no_part start peak last part whole n (outside m o p w) = p
no_part start peak last part whole n (at_peak m e p w) = absurd ((counts_of start peak last n).some (sym e))
no_part start peak last part whole n (rising m h k p w) =
    let c = counts_of start peak last n in omega (arith, ints, h, k, p, c.one_side, c.falls)
no_part start peak last part whole n (falling m h k p w) =
    let c = counts_of start peak last n in omega (arith, ints, h, k, p, c.one_side, c.rises)

counted : (scalar : ℕ) (start peak last : ℤ) → (IsIgnored start peak last → ⊥) → scaled scalar start peak last (pos 0) ≡ 0
counted scalar start peak last n =
    let one = has_one start peak last (pos 0) in
    let p = no_part start peak last one.part one.whole n one.is in
    computed scalar start peak last (pos 0) one.part one.whole one.is
    ∙ of_nothing (scalar * one.part) one.whole (times_none scalar one.part p) (some start peak last (pos 0) one.part one.whole one.is)

of_zero : (start peak last at : ℤ) → scaled 0 start peak last at ≡ 0
of_zero start peak last at =
    let one = has_one start peak last at in
    computed 0 start peak last at one.part one.whole one.is
    ∙ of_nothing (0 * one.part) one.whole (none_times one.part) (some start peak last at one.part one.whole one.is)

by_axes : (bytes : List ℕ) (place axes region : ℕ) (coordinates : List ℤ) (count axis : ℕ) → AreDefault coordinates → axis < count
    → CountsAlong bytes place axes region axis → scalar_by bytes place axes region coordinates count ≡ 0
by_axes bytes place axes region coordinates zero axis d h n = absurd (omega (arith, h))
by_axes bytes place axes region coordinates (suc count) axis d h n =
    elim (cases_eq axis count) [
      | inl e ↦ rw (d count) (counted (scalar_by bytes place axes region coordinates count) _ _ _ (rw e at n.counts))
      | inr o ↦ rw (by_axes bytes place axes region coordinates count axis d (omega (arith, h, o)) n) (of_zero _ _ _ _)
    ]

pub scalars : (regions : Regions) (coordinates : List ℤ) (region : ℕ) → AreDefault coordinates → DependsOnAxis regions region
    → scalar_in regions coordinates region ≡ 0
scalars regions coordinates region d on =
    chosen (nat_lt region regions.count) (scalar_by regions.bytes.now regions.place regions.axes region coordinates regions.axes) 0
    (λ t. by_axes regions.bytes.now regions.place regions.axes region coordinates regions.axes on.axis d on.listed on.counts)

-- ---- sums

times_zero : (delta : ℤ) → delta *ℤ pos 0 ≡ pos 0
times_zero delta = omega (arith, ints)

shares : (table : Data) (coordinates : List ℤ) (row j : ℕ) → scalar_at table coordinates j ≡ 0 → share_of table coordinates row j ≡ pos 0
unfolding share_of
shares table coordinates row j e = rw e (times_zero (delta_at table.bytes.now row table.sizes j))

sums_by : (table : Data) (coordinates : List ℤ) (row n : ℕ) → ((j : ℕ) → j < n → scalar_at table coordinates j ≡ 0)
    → sum_by table coordinates row n ≡ pos 0
sums_by table coordinates row zero h = refl
sums_by table coordinates row (suc n) h =
    rw (sums_by table coordinates row n (λ j k. h j (omega (arith, k)))) (rw (shares table coordinates row n (h n (omega arith))) refl)

pub sums : (table : Data) (coordinates : List ℤ) (item : ℕ) → AreDefault coordinates
    → ((j : ℕ) → j < delta_count table → DependsOnAxis table.regions (region_of table j))
    → variation_of table coordinates item ≡ pos 0
sums table coordinates item d on =
    sums_by table coordinates (item_place table item) table.count (λ j k. scalars table.regions coordinates (region_of table j) d (on j k))
