use Rattle.std.proofs.Common.{◌≡◌, sym, ap, ◌∙◌, List, ℕ, ◌+◌, ◌<◌, max, length, take, arith}
use Rattle.std.proofs.lemmas.List.{take_more}
use Rattle.postscript_base.specs.Index.Lent.{items_of}
use Rattle.postscript_view.specs.Fitting.{longest}
use Rattle.postscript_view.proofs.Limiting.{longest-more}
use Rattle.postscript_view.proofs.fitting.longest_of.Goals as goal

pub loop-i-preserved : goal.loop-i-preserved
loop-i-preserved c =
    let xs : List (List ℕ) = items_of c.args.items.now in
    let more : c.loop-i.i < length xs = omega (arith, c.loop-i-test.true, c.len-i-end.ensures) in
    let item : List ℕ = c.item.result.now in
    let all : longest (take (c.loop-i.i + 1) xs) ≡ max (longest (take c.loop-i.i xs)) (length item) =
    ap longest (take_more xs c.loop-i.i item more) ∙ longest-more (take c.loop-i.i xs) _
    ∙ ap (λ code. max (longest (take c.loop-i.i xs)) (length code)) (sym c.item.ensures) in
    c.max-most.ensures ∙ ap (λ n. max n (length item)) c.loop-i.invariant ∙ sym all
