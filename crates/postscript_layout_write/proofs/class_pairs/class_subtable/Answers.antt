use Rattle.std.proofs.Common.{◌∙◌, subst, ℕ, List, length}
use Rattle.postscript_layout_write.specs.ClassPairs.{AreFirsts}
use Rattle.postscript_layout_write.proofs.ClassCollecting.{has-classes, text-as}
use Rattle.postscript_layout_write.proofs.class_pairs.class_subtable.Goals as goal

pub returns-clause-exact : goal.returns-clause-exact
returns-clause-exact c = (
  c.if-not-rows.false,
  λ f are beyond. (
      let rows = c.args.rows.now in
      let columns = c.in_ok-columns.columns in
      let facts = c.in_ok-columns.ensures.exact c.if-not-columns.false in
      has-classes f rows columns c.in_ok-values.values.items c.in_ok-firsts.firsts.items c.in_ok-text.text.items c.if-not-rows.false c.if-not-columns.false are beyond
      facts.0 facts.1 c.in_ok-values.ensures.exact
      (subst (λ (xs : List ℕ). AreFirsts xs (length xs) c.in_ok-firsts.firsts.items) c.deref.ensures.value c.in_ok-firsts.ensures.exact)
      (text-as _ _ _ _ _ _ _ _ _ _ _ _ _ (c.len-4.ensures ∙ rows.keys.ok.0) (c.len-5.ensures ∙ columns.keys.ok.0) c.deref-2.ensures.value c.deref-3.ensures.value
      c.deref-4.ensures.value c.deref-5.ensures.value c.in_ok-text.ensures.exact)),
)
