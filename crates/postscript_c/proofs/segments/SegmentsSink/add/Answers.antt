use Rattle.std.proofs.Common.{rules, ◌≡◌, ◌∷◌, ◌++◌, [], None, ap, fold, map, ◌∙◌, subst, sym}
use Rattle.std.proofs.lemmas.List.Sums.{fold-append}
use Rattle.postscript_c.specs.Corners.{AreCornersOf}
use Rattle.postscript_c.specs.Segments.{meant, shown}
use Rattle.postscript_c.proofs.Sketching.{given}
use Rattle.postscript_outline.specs.Bounds.{taking}
use Rattle.postscript_c.proofs.segments.SegmentsSink.add.Goals as goal

pub invariant_of-self-2-clause-bounded : goal.invariant_of-self-2-clause-bounded
invariant_of-self-2-clause-bounded c =
    let before = map meant c.args.self.now.segments.items in
    let pushed : c.push.new.self.items ≡ c.args.self.now.segments.items ++ shown c.args.segment ∷ [] = search rules in
    let all = ap (map meant) pushed ∙ given c.args.self.now.segments.items c.args.segment in
    let grown = ap (fold taking None) all ∙ fold-append taking None before (c.args.segment ∷ []) in
    subst (λ bounds. AreCornersOf bounds c.with_segment-self.result) (sym grown)
    (c.with_segment-self.ensures (fold taking None before) c.args.self.now.bounded)

pub returns-clause-taken : goal.returns-clause-taken
returns-clause-taken c =
    let pushed : c.push.new.self.items ≡ c.args.self.now.segments.items ++ shown c.args.segment ∷ [] = search rules in
    ap (map meant) pushed ∙ given c.args.self.now.segments.items c.args.segment
