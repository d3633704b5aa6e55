-- Tight bounds grow by what one more segment draws.
use Rattle.std.proofs.Common.{◌≡◌, ℕ, suc, ◌+◌, ◌*◌, ◌≤◌, ℤ, pos, negsuc, ◌*ℤ◌, ◌≤ℤ◌, List, [], ◌∷◌, ◌++◌, Option, Some, None, sym, ap, ◌∙◌, subst, inl, inr, ◌⊎◌, arith, append_assoc, append-nil, length-append, mul-le-mul_right}
use Rattle.std.proofs.lemmas.Int.{ints}
use Rattle.std.proofs.lemmas.List.Elements.{All-append, All-nil, All-push}
use Rattle.std.proofs.lemmas.List.Quantifiers.{Any-push}
use Rattle.std.proofs.lemmas.List.{get_or_append_left}
use Rattle.std.proofs.Math.IntN.{negsuc-*ℤ-pos}
use Rattle.std.specs.Prelude.{Any}
use Rattle.postscript_outline.proofs.Bounding.{least, greatest, ≤ℤ_trans}
use Rattle.postscript_outline.specs.declared.bounds.Bounds.{Bounds}
use Rattle.postscript_outline.specs.declared.segment.Segment.{Segment}
use Rattle.postscript_outline.specs.declared.point.Point.{Point}
use Rattle.postscript_outline.specs.Arcs.{Reaches}
use Rattle.postscript_outline.specs.Bounds.{lower, upper}
use Rattle.postscript_outline.specs.Points.{point}
use Rattle.postscript_outline.specs.Tight.{Arc, Contains, DipsTo, IsAbove, IsBelow, IsTightBoundsOf, RisesTo, Surrounds, TakesIn, TightlyBounded, after, arcs, arcs_of, both}
use Rattle.postscript_outline.specs.Sinks.{Receives}
use Rattle.postscript_outline.specs.declared.tight.TightBounds.{TightBounds}

-- a sum so often
times_mono : (a b : ℤ) (w : ℕ) → a ≤ℤ b → (a *ℤ pos w) ≤ℤ (b *ℤ pos w)
times_mono (pos a) (pos b) w h = let l : a ≤ b = omega (arith, ints) in let m = mul-le-mul_right w l in omega (arith, ints)
times_mono (pos a) (negsuc b) w h = absurd (omega (arith, ints))
times_mono (negsuc a) (pos b) w h = omega (arith, ints, negsuc-*ℤ-pos a w)
times_mono (negsuc a) (negsuc b) w h =
    let l : suc b ≤ suc a = omega (arith, ints) in
    let m = mul-le-mul_right w l in
    omega (arith, ints, negsuc-*ℤ-pos a w, negsuc-*ℤ-pos b w)

above-lower : (axis : Point → ℤ) (low new : ℤ) (a : Arc) → new ≤ℤ low → IsAbove axis low a → IsAbove axis new a
above-lower axis low new a h is = λ m n. ≤ℤ_trans (times_mono new low ((m + n) * (m + n) * (m + n)) h) (is m n)

below-upper : (axis : Point → ℤ) (high new : ℤ) (a : Arc) → high ≤ℤ new → IsBelow axis high a → IsBelow axis new a
below-upper axis high new a h is = λ m n. ≤ℤ_trans (is m n) (times_mono high new ((m + n) * (m + n) * (m + n)) h)

wider-left : (b c : Bounds) (a : Arc) → Contains b a → Contains (record { low = lower b.low c.low; high = upper b.high c.high }) a
wider-left b c a is = record {
  left = above-lower (λ p. p.x) b.low.x _ a (least b.low.x c.low.x).0 is.left;
  right = below-upper (λ p. p.x) b.high.x _ a (greatest b.high.x c.high.x).0 is.right;
  bottom = above-lower (λ p. p.y) b.low.y _ a (least b.low.y c.low.y).0 is.bottom;
  top = below-upper (λ p. p.y) b.high.y _ a (greatest b.high.y c.high.y).0 is.top;
}

wider-right : (b c : Bounds) (a : Arc) → Contains c a → Contains (record { low = lower b.low c.low; high = upper b.high c.high }) a
wider-right b c a is = record {
  left = above-lower (λ p. p.x) c.low.x _ a (least b.low.x c.low.x).1 is.left;
  right = below-upper (λ p. p.x) c.high.x _ a (greatest b.high.x c.high.x).1 is.right;
  bottom = above-lower (λ p. p.y) c.low.y _ a (least b.low.y c.low.y).1 is.bottom;
  top = below-upper (λ p. p.y) c.high.y _ a (greatest b.high.y c.high.y).1 is.top;
}

-- what holds of some item of a list holds of some of a longer one
any-left : {X : Type 0} (P : X → Type 0) (xs ys : List X) → Any P xs → Any P (xs ++ ys)
any-left P xs ys some =
    (some.0, some.1, omega (arith, length-append xs ys), get_or_append_left xs ys some.1 some.0 some.2 ∙ some.3, some.4)

any-right : {X : Type 0} (P : X → Type 0) (xs ys : List X) → Any P ys → Any P (xs ++ ys)
any-right P [] ys some = some
any-right P (x ∷ xs) ys some = let rest = any-right P xs ys some in (suc rest.0, rest.1, omega (arith, rest.2), rest.3, rest.4)

-- a side of either is one of both
any-either : {X : Type 0} (P : ℤ → X → Type 0) (xs ys : List X) (a b new : ℤ) → (new ≡ a) ⊎ (new ≡ b) → Any (P a) xs → Any (P b) ys →
    Any (P new) (xs ++ ys)
any-either P xs ys a b new (inl same) p q = subst (λ n. Any (P n) (xs ++ ys)) (sym same) (any-left (P a) xs ys p)
any-either P xs ys a b new (inr same) p q = subst (λ n. Any (P n) (xs ++ ys)) (sym same) (any-right (P b) xs ys q)

bounded-both : (b c : Bounds) (xs ys : List Arc) → TightlyBounded b xs → TightlyBounded c ys →
    TightlyBounded (record { low = lower b.low c.low; high = upper b.high c.high }) (xs ++ ys)
bounded-both b c xs ys p q = record {
  within = All-append (Contains (record { low = lower b.low c.low; high = upper b.high c.high })) xs ys
      (λ k d lt. wider-left b c _ (p.within k d lt)) (λ k d lt. wider-right b c _ (q.within k d lt));
  left = any-either (DipsTo (λ p. p.x)) xs ys _ _ _ (least b.low.x c.low.x).2 p.left q.left;
  right = any-either (RisesTo (λ p. p.x)) xs ys _ _ _ (greatest b.high.x c.high.x).2 p.right q.right;
  bottom = any-either (DipsTo (λ p. p.y)) xs ys _ _ _ (least b.low.y c.low.y).2 p.bottom q.bottom;
  top = any-either (RisesTo (λ p. p.y)) xs ys _ _ _ (greatest b.high.y c.high.y).2 p.top q.top;
}

pub tight-both : (b c : Option Bounds) (xs ys : List Arc) → IsTightBoundsOf b xs → IsTightBoundsOf c ys → IsTightBoundsOf (both b c)
    (xs ++ ys)
tight-both None c xs ys p q = subst (λ v. IsTightBoundsOf c (v ++ ys)) (sym p) q
tight-both (Some b) None xs ys p q = subst (λ v. TightlyBounded b (xs ++ v)) (sym q) (subst (TightlyBounded b) (sym (append-nil xs)) p)
tight-both (Some b) (Some c) xs ys p q = bounded-both b c xs ys p q

pub surrounds : (l r b t l' r' b' t' : ℤ) (a : Arc) → l' ≡ l → r' ≡ r → b' ≡ b → t' ≡ t →
    Reaches l r a.from.x a.first.x a.second.x a.to.x → Reaches b t a.from.y a.first.y a.second.y a.to.y
    → Surrounds (record { low = point l' b'; high = point r' t' }) a
surrounds l r b t l' r' b' t' a el er eb et p q = record {
  across = subst (λ v. Reaches v r' a.from.x a.first.x a.second.x a.to.x) (sym el)
      (subst (λ v. Reaches l v a.from.x a.first.x a.second.x a.to.x) (sym er) p);
  upwards = subst (λ v. Reaches v t' a.from.y a.first.y a.second.y a.to.y) (sym eb)
      (subst (λ v. Reaches b v a.from.y a.first.y a.second.y a.to.y) (sym et) q);
}

pub of-curve : (b : Bounds) (a : Arc) → Surrounds b a → TightlyBounded b (a ∷ [])
of-curve b a is = record {
  within = All-push (Contains b) [] a (All-nil (Contains b))
      (record { left = is.across.above; right = is.across.below; bottom = is.upwards.above; top = is.upwards.below });
  left = Any-push (DipsTo (λ p. p.x) b.low.x) [] a (record { near = is.across.dips; within = is.across.low_within });
  right = Any-push (RisesTo (λ p. p.x) b.high.x) [] a (record { near = is.across.rises; within = is.across.high_within });
  bottom = Any-push (DipsTo (λ p. p.y) b.low.y) [] a (record { near = is.upwards.dips; within = is.upwards.low_within });
  top = Any-push (RisesTo (λ p. p.y) b.high.y) [] a (record { near = is.upwards.rises; within = is.upwards.high_within });
}

-- tight bounds that take in segments, one after another
pub tight-taken : (segments : List Segment) (old new : TightBounds) (curves : List Arc) → IsTightBoundsOf old.bounds curves →
    Receives TakesIn old segments new → IsTightBoundsOf new.bounds (curves ++ arcs old.at segments)
tight-taken [] old new curves h is =
    subst (IsTightBoundsOf new.bounds) (sym (append-nil curves)) (subst (λ v. IsTightBoundsOf v.bounds curves) (sym is) h)
tight-taken (segment ∷ segments) old new curves h is =
    let next = is.0 in
    let step = is.1 in
    let drawn = curves ++ arcs_of old.at segment in
    let grown = subst (λ v. IsTightBoundsOf v drawn) (sym step.bounds_are)
    (tight-both old.bounds step.more curves (arcs_of old.at segment) h step.tight) in
    subst (IsTightBoundsOf new.bounds)
    (ap (λ v. drawn ++ arcs v segments) step.stands ∙ append_assoc curves (arcs_of old.at segment) (arcs (after old.at segment) segments))
    (tight-taken segments next new drawn grown is.2)
