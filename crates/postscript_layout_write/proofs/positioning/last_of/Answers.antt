use Rattle.std.proofs.Common.{◌≡◌, ◌∙◌, ◌+◌, ◌-◌, ◌*◌, ℕ, ap, subst, arith}
use Rattle.postscript_layout.specs.Numbers.{word}
use Rattle.postscript_layout_write.specs.Lookups.{MakesPosition}
use Rattle.postscript_layout_write.specs.Pairs.{lookup_at, lookups_of}
use Rattle.postscript_layout_write.proofs.Placing.{last-more}
use Rattle.postscript_layout_write.proofs.positioning.last_of.Goals as goal

pub loop-k-preserved : goal.loop-k-preserved
loop-k-preserved c =
    let gpos = c.args.gpos.now in
    let kept = c.args.kept.now in
    let old = c.loop-k.last in
    let new = c.add.new.self in
    let piece = c.in_ok-piece.piece in
    let i = c.word-count.result - 1 - c.loop-k.k in
    let count : c.word-count.result ≡ lookups_of gpos = c.word-count.ensures.exact ∙ ap (word gpos) c.word-list.ensures.exact in
    let place : c.word-list.result + c.word.result ≡ lookup_at gpos i = ap (λ (n : ℕ). c.word-list.result + n) c.word.ensures.exact
    ∙ ap (λ (n : ℕ). n + word gpos (n + 2 + i * 2)) c.word-list.ensures.exact in
    record {
      last = last-more c.args.scope gpos kept c.loop-k.k i piece.lookup.items piece.subtables.items old new (omega (arith, count)) c.loop-k.invariant.last
          (subst (λ (n : ℕ). MakesPosition c.args.scope gpos kept (lookup_at gpos i) n piece.lookup.items piece.subtables.items) c.in_ok-size.ensures.exact
          (subst (λ (n : ℕ). MakesPosition c.args.scope gpos kept n c.in_ok-size.size piece.lookup.items piece.subtables.items) place c.in_ok-piece.ensures.done))
          c.in_ok-add.ensures.added;
      spent = omega (arith, c.pay.ensures.spends, c.piece_of.ensures.spends, c.loop-k.invariant.spent);
    }
