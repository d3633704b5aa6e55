use Rattle.std.proofs.Common.{◌≡◌, ◌<◌, ◌+◌, ◌∙◌, ap, ℕ, subst, sym, arith, below_more}
use Rattle.postscript_layout.specs.Numbers.{word}
use Rattle.postscript_layout_write.specs.ScriptLists.{ScriptEnds, named}
use Rattle.postscript_layout_write.proofs.Ends.{script-up}
use Rattle.postscript_layout_write.proofs.script_lists.scripts_end.Goals as goal

pub loop-i-preserved : goal.loop-i-preserved
loop-i-preserved c =
    let gpos = c.args.gpos.now in
    let list = word gpos 4 in
    let old = c.loop-i.end in
    let end = c.later-end.result in
    let i = c.loop-i.i in
    let place : c.table_at.result ≡ named gpos list (list + 2) i = c.table_at.ensures.exact ∙ ap (λ (l : ℕ). named gpos l (l + 2) i) c.word-list.ensures.exact in
    let P : ℕ → Type 0 = λ k. ScriptEnds gpos end (named gpos list (list + 2) k) in
    let here : P i = subst (λ (t : ℕ). ScriptEnds gpos end t) place
    (script-up gpos c.in_ok-script.script end c.table_at.result c.in_ok-script.ensures.exact.holds c.later-end.ensures.b) in
    let within : i < word gpos list = subst (λ (n : ℕ). i < n) (c.word-count.ensures.exact ∙ ap (word gpos) c.word-list.ensures.exact) c.loop-i-test.true in
    record {
      records = omega (arith, c.loop-i.invariant.records, c.later-end.ensures.a);
      scripts = below_more P i (λ k less. script-up gpos old end (named gpos list (list + 2) k) (c.loop-i.invariant.scripts k less) c.later-end.ensures.a) here;
      least = λ m ends. c.later-end.ensures.least m (c.loop-i.invariant.least m ends)
          (c.in_ok-script.ensures.exact.least m (subst (λ (t : ℕ). ScriptEnds gpos m t) (sym place) (ends.scripts i within)));
      spent = omega (arith, c.pay.ensures.spends, c.script_end.ensures.spends, c.loop-i.invariant.spent);
    }
