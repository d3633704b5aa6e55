use Rattle.std.proofs.Common.{◌≡◌, sym, subst, ℕ, ◌<◌, List, ◌∷◌, [], get_or, length, take, arith, inl, inr}
use Rattle.std.proofs.lemmas.List.{take_more}
use Rattle.postscript_write.specs.Closure.{Grow}
use Rattle.postscript_write.proofs.Places.{nat_cases}
use Rattle.postscript_write.proofs.Reaching.{grow-none, grow-then}
use Rattle.postscript_write.proofs.closure.reach_all.Goals as goal

pub loop-i-init : goal.loop-i-init
loop-i-init c = (grow-none c.args.marks.now.items c.args.glyphs.now.items c.requires.marked, λ k less. absurd (omega (arith, less)))

pub loop-i-preserved : goal.loop-i-preserved
loop-i-preserved c =
    let i = c.loop-i.i in
    let added = c.args.added.now in
    let one : ℕ = get_or added i 0 in
    let so_far = c.loop-i.invariant in
    let many = so_far.0.many in
    let below = c.if-glyph-len.false in
    let len = c.len.ensures in
    let here : one < length c.args.marks.now.items = omega (arith, many, below, len) in
    let both = grow-then c.args.marks.now.items c.loop-i.marks.items c.reach.new.marks.items c.args.glyphs.now.items c.loop-i.glyphs.items
    c.reach.new.glyphs.items (take i added) (one ∷ []) so_far.0 c.in_ok-reach.ensures.grown in (
      subst (λ (xs : List ℕ). Grow c.args.marks.now.items c.args.glyphs.now.items xs c.reach.new.marks.items c.reach.new.glyphs.items)
          (sym (take_more added i 0 c.loop-i-test.true)) both,
      λ k less. elim (nat_cases k i) [
        | inl before ↦ so_far.1 k before
        | inr far ↦ (let same : i ≡ k = omega (arith, less, far) in subst (λ j. get_or added j 0 < length c.args.marks.now.items) same here)
      ],
    )
