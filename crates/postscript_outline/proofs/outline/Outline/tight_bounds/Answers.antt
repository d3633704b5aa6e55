use Rattle.std.proofs.Common.{◌≡◌, [], refl, rules, take}
use Rattle.std.proofs.lemmas.List.{take_all}
use Rattle.postscript_outline.proofs.Receiving.{received-next}
use Rattle.postscript_outline.proofs.Tightening.{tight-taken}
use Rattle.postscript_outline.proofs.outline.Outline.tight_bounds.Goals as goal
use Rattle.postscript_outline.specs.Tight.{no_bounds}

pub loop-segment-preserved : goal.loop-segment-preserved
loop-segment-preserved c =
    let same = c.deref-segment-items.ensures.value in
    let more = rw same at c.loop-segment-test.true in
    let step = rw same at c.taking-bounds.ensures in
    received-next _ _ _ _ c.args.self.now.segments.items _ _ more c.loop-segment.invariant step

pub returns : goal.returns
returns c =
    let all = c.args.self.now.segments.items in
    let whole : take c.loop-segment.segment-index all ≡ all = search (rules, take_all) in
    tight-taken all no_bounds c.loop-segment.bounds [] refl (rw whole at c.loop-segment.invariant)
