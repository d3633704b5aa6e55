use Rattle.std.proofs.Common.{◌+◌, ◌*◌, ◌++◌, ◌∙◌, ◌<◌, ℕ, List, ap, sym, subst, arith}
use Rattle.std.proofs.lemmas.List.Elements.{All-append}
use Rattle.postscript_layout.specs.Numbers.{word}
use Rattle.postscript_layout_write.specs.CaretLists.{AreWords, values_of}
use Rattle.postscript_layout_write.specs.Carets.{Caret, caret_at}
use Rattle.postscript_layout_write.specs.First.{all_below}
use Rattle.postscript_layout_write.proofs.CaretCollecting.{values-append}
use Rattle.postscript_layout_write.proofs.RuleRows.{below-more}
use Rattle.postscript_layout_write.proofs.carets.values_in.Goals as goal

pub loop-i-preserved : goal.loop-i-preserved
loop-i-preserved c =
    let gdef = c.args.gdef.now in
    let ligature = c.args.ligature in
    let i = c.loop-i.i in
    let old = c.loop-i.values.items in
    let f : ℕ → List Caret = λ j. caret_at gdef (ligature + word gdef (ligature + 2 + j * 2)) in
    let more = c.in_ok-push_value.ensures.exact in
    record {
      exact = more ∙ ap (λ n. old ++ values_of (caret_at gdef (ligature + n))) c.word.ensures.exact ∙ ap (λ xs. xs ++ values_of (f i)) c.loop-i.invariant.exact
          ∙ sym (values-append (all_below f i) (f i)) ∙ ap values_of (sym (below-more f i));
      small = subst AreWords (sym more) (All-append (λ n. n < 65536) old (values_of (caret_at gdef (ligature + c.word.result))) c.loop-i.invariant.small
          c.in_ok-push_value.ensures.small);
      spent = omega (arith, c.pay.ensures.spends, c.loop-i.invariant.spent);
    }
