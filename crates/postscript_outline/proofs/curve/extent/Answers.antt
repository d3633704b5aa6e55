use Rattle.std.proofs.Common.{◌≡◌, ◌^◌, pos, ◌+ℤ◌, arith, to_z, of_z, w32}
use Rattle.std.proofs.lemmas.Int.{ints}
use Rattle.postscript_outline.specs.declared.curve.Curve.{Curve}
use Rattle.postscript_outline.proofs.curve.extent.Goals as goal
use Rattle.postscript_outline.proofs.Reaching.{spans-high, spans-low, spans-reaches}

pub coordinate_at-requires : goal.coordinate_at-requires
coordinate_at-requires c =
    let curve : Curve = record { from = c.distance_from_least.result; first = c.distance_from_least-2.result; second = c.distance_from_least-3.result; to = c.distance_from_least-4.result } in
    spans-low curve c.span-low.result c.distance_from_least.ensures.room c.span-low.ensures

pub coordinate_at-requires-2 : goal.coordinate_at-requires-2
coordinate_at-requires-2 c =
    let curve : Curve = record { from = c.distance_from_least.result; first = c.distance_from_least-2.result; second = c.distance_from_least-3.result; to = c.distance_from_least-4.result } in
    spans-high curve c.span-low.result
    (record {
      from = c.distance_from_least.ensures.room;
      first = c.distance_from_least-2.ensures.room;
      second = c.distance_from_least-3.ensures.room;
      to = c.distance_from_least-4.ensures.room;
    }) c.span-low.ensures

pub returns : goal.returns
returns c =
    let curve : Curve = record { from = c.distance_from_least.result; first = c.distance_from_least-2.result; second = c.distance_from_least-3.result; to = c.distance_from_least-4.result } in
    let low : to_z w32 (of_z w32 c.coordinate_at.result) +ℤ pos (2 ^ 31) ≡ pos c.span-low.result.low = omega (arith, ints) in
    let high : to_z w32 (of_z w32 c.coordinate_at-2.result) +ℤ pos (2 ^ 31) ≡ pos c.span-low.result.high = omega (arith, ints) in
    let a : c.args.from +ℤ pos (2 ^ 31) ≡ pos c.distance_from_least.result = omega (arith, ints) in
    let b : c.args.first +ℤ pos (2 ^ 31) ≡ pos c.distance_from_least-2.result = omega (arith, ints) in
    let d : c.args.second +ℤ pos (2 ^ 31) ≡ pos c.distance_from_least-3.result = omega (arith, ints) in
    let e : c.args.to +ℤ pos (2 ^ 31) ≡ pos c.distance_from_least-4.result = omega (arith, ints) in
    spans-reaches curve c.span-low.result _ _ c.args.from c.args.first c.args.second c.args.to a b d e low high c.span-low.ensures
