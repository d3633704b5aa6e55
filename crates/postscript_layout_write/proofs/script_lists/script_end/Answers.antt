use Rattle.std.proofs.Common.{◌<◌, ◌+◌, ℕ, subst, sym, arith, below_more}
use Rattle.postscript_layout.specs.Numbers.{word}
use Rattle.postscript_layout_write.specs.ScriptLists.{LanguageEnds, named}
use Rattle.postscript_layout_write.proofs.Ends.{default-up, language-up}
use Rattle.postscript_layout_write.proofs.script_lists.script_end.Goals as goal

pub loop-j-init : goal.loop-j-init
loop-j-init c =
    let gpos = c.args.gpos.now in
    record {
      records = omega (arith, c.word-count.ensures.exact, c.later-end.ensures.a);
      default = default-up gpos c.default_end.result c.later-end.result c.args.script c.default_end.ensures.holds c.later-end.ensures.b;
      languages = λ j less. absurd (omega (arith, less));
      least = λ m ends. (let records = ends.records in
          c.later-end.ensures.least m (omega (arith, c.word-count.ensures.exact, records)) (c.default_end.ensures.least m ends.default));
      spent = omega arith;
    }

pub loop-j-preserved : goal.loop-j-preserved
loop-j-preserved c =
    let gpos = c.args.gpos.now in
    let script = c.args.script in
    let old = c.loop-j.end in
    let end = c.later-end-in-loop-j.result in
    let j = c.loop-j.j in
    let P : ℕ → Type 0 = λ k. LanguageEnds gpos end (named gpos script (script + 4) k) in
    let here : P j = subst (λ (t : ℕ). LanguageEnds gpos end t) c.table_at.ensures.exact
    (language-up gpos c.language_end.result end c.table_at.result c.language_end.ensures.holds c.later-end-in-loop-j.ensures.b) in
    let within : j < word gpos (script + 2) = subst (λ (n : ℕ). j < n) c.word-count.ensures.exact c.loop-j-test.true in
    record {
      records = omega (arith, c.loop-j.invariant.records, c.later-end-in-loop-j.ensures.a);
      default = default-up gpos old end script c.loop-j.invariant.default c.later-end-in-loop-j.ensures.a;
      languages = below_more P j (λ k less. language-up gpos old end (named gpos script (script + 4) k) (c.loop-j.invariant.languages k less) c.later-end-in-loop-j.ensures.a) here;
      least = λ m ends. c.later-end-in-loop-j.ensures.least m (c.loop-j.invariant.least m ends)
          (c.language_end.ensures.least m (subst (λ (t : ℕ). LanguageEnds gpos m t) (sym c.table_at.ensures.exact) (ends.languages j within)));
      spent = omega (arith, c.pay.ensures.spends, c.loop-j.invariant.spent);
    }
