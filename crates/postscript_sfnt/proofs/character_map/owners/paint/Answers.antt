use Rattle.std.proofs.Common.{◌≡◌, ◌≤◌, ◌<◌, ◌+◌, ℕ, refl, get_or, arith}
use Rattle.postscript_sfnt.proofs.Owning.{painted_first, painted_more, painted_links, set_links_here}
use Rattle.postscript_sfnt.proofs.character_map.owners.paint.Goals as goal
use Rattle.postscript_sfnt.proofs.character_map.owners.paint.Goals.{then-first-lt-END, else-first-lt-END}

pub loop-char-init : goal.loop-char-init
loop-char-init c =
    let firsts : ℕ → ℕ = λ k. get_or c.args.firsts.now k 0 in
    let lasts : ℕ → ℕ = λ k. get_or c.args.lasts.now k 0 in
    let from : ℕ = c.if-first-lt-END.from in
    let low : from ≤ firsts c.args.i = elim c.if-first-lt-END.branch
    [ then-first-lt-END w ↦ omega (arith, w.from-is) | else-first-lt-END w ↦ omega (arith, w.from-is, w.if-first-lt-END.false) ] in
    let same : from < 0x110000 → from ≡ firsts c.args.i = λ there. elim c.if-first-lt-END.branch
    [ then-first-lt-END w ↦ omega (arith, w.from-is) | else-first-lt-END w ↦ omega (arith, w.from-is, there) ] in
    let past : 0x110000 ≤ from → 0x110000 ≤ firsts c.args.i = λ there. omega (arith, there, low) in
    let new = c.free_from-char in
    painted_first firsts lasts c.args.i from new.result c.args.owners.now c.args.links.now new.new.links new.ensures.within low same past
    c.requires.owners new.ensures.chain
    (new.ensures.links firsts lasts c.args.i 0 c.requires.links) (new.ensures.free firsts lasts c.args.i 0 c.requires.links)

pub loop-char-smaller : goal.loop-char-smaller
loop-char-smaller c =
    let firsts : ℕ → ℕ = λ k. get_or c.args.firsts.now k 0 in
    let lasts : ℕ → ℕ = λ k. get_or c.args.lasts.now k 0 in
    let new = c.free_from-char-in-loop-char in
    let linked = set_links_here firsts lasts c.args.i c.loop-char.char
    (c.loop-char.char + 1) c.loop-char.owners c.loop-char.links c.loop-char.invariant c.loop-char-test.true c.if-char-last.true refl in
    let free = new.ensures.free firsts lasts c.args.i (c.loop-char.char + 1) linked in
    omega (arith, free.behind, new.ensures.within, c.loop-char-test.true)

pub loop-char-preserved : goal.loop-char-preserved
loop-char-preserved c =
    let firsts : ℕ → ℕ = λ k. get_or c.args.firsts.now k 0 in
    let lasts : ℕ → ℕ = λ k. get_or c.args.lasts.now k 0 in
    let new = c.free_from-char-in-loop-char in
    let linked = set_links_here firsts lasts c.args.i c.loop-char.char
    (c.loop-char.char + 1) c.loop-char.owners c.loop-char.links c.loop-char.invariant c.loop-char-test.true c.if-char-last.true refl in
    painted_more firsts lasts c.args.i c.loop-char.char c.args.i new.result c.loop-char.owners c.loop-char.links new.new.links
    c.loop-char.invariant c.loop-char-test.true c.if-char-last.true refl new.ensures.within new.ensures.chain
    (new.ensures.links firsts lasts c.args.i (c.loop-char.char + 1) linked)
    (new.ensures.free firsts lasts c.args.i (c.loop-char.char + 1) linked)

pub returns-else-char-last-clause-links : goal.returns-else-char-last-clause-links
returns-else-char-last-clause-links c =
    painted_links (λ k. get_or c.args.firsts.now k 0)
    (λ k. get_or c.args.lasts.now k 0) c.args.i c.loop-char.char c.loop-char.owners c.loop-char.links c.loop-char.invariant
    (λ _. c.if-char-last.false)

pub returns-after-loop-char-clause-links : goal.returns-after-loop-char-clause-links
returns-after-loop-char-clause-links c =
    painted_links (λ k. get_or c.args.firsts.now k 0)
    (λ k. get_or c.args.lasts.now k 0) c.args.i c.loop-char.char c.loop-char.owners c.loop-char.links c.loop-char.invariant
    (λ there. absurd (omega (arith, there, c.loop-char-test.false)))
