use Rattle.std.proofs.Common.{◌≡◌, ◌∙◌, ◌++◌, ◌∷◌, [], ap, sym, ℕ, length, get_or, arith}
use Rattle.std.specs.Prelude.{Option}
use Rattle.std.proofs.lemmas.List.FromFn.{length-map-range_with_len, map-range_with_len_more}
use Rattle.postscript_layout_write.specs.ContextRules.{label_of}
use Rattle.postscript_layout_write.specs.Labels.{labels_below}
use Rattle.postscript_layout_write.proofs.labels.role_labels.Goals as goal

pub loop-k-preserved : goal.loop-k-preserved
loop-k-preserved c =
    let gsub = c.args.gsub.now in
    let kept = c.args.kept.now in
    let k = c.loop-k.k in
    let f : ℕ → Option ℕ = λ i. label_of gsub c.args.kind c.args.subtable c.args.role (get_or kept i 0) in
    record {
      labels = c.in_ok-push.ensures.items ∙ ap (λ xs. xs ++ c.in_ok-label.label ∷ []) c.loop-k.invariant.labels
          ∙ ap (λ x. labels_below gsub kept c.args.kind c.args.subtable c.args.role k ++ x ∷ []) c.in_ok-label.ensures.exact
          ∙ sym (map-range_with_len_more f 0 k k (omega arith));
      spent = omega (arith, c.pay.ensures.spends, c.label_of.ensures.spends, c.loop-k.invariant.spent);
    }

pub returns-clause-exact : goal.returns-clause-exact
returns-clause-exact c =
    let gsub = c.args.gsub.now in
    let kept = c.args.kept.now in
    let f : ℕ → Option ℕ = λ i. label_of gsub c.args.kind c.args.subtable c.args.role (get_or kept i 0) in
    let all : c.loop-k.k ≡ length kept = omega arith in
    let are = c.loop-k.invariant.labels ∙ ap (labels_below gsub kept c.args.kind c.args.subtable c.args.role) all in
    record {
      are = are;
      few = (let many = ap length are ∙ length-map-range_with_len f 0 (length kept) in let few = c.requires.few in omega (arith, many, few));
    }
