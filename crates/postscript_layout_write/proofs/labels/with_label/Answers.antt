use Rattle.std.proofs.Common.{◌≡◌, ◌∙◌, ◌++◌, ◌∷◌, [], ap, sym, ℕ, List, Bool}
use Rattle.std.specs.Prelude.{None, slice_index_or, if◌then◌else◌, filter}
use Rattle.std.specs.List.{range_with_len}
use Rattle.postscript_layout_write.specs.ContextRules.{is_label}
use Rattle.postscript_layout_write.proofs.Covering.{filter-more, filter-skips}
use Rattle.postscript_layout_write.proofs.labels.with_label.Goals.{then-is_label+in_ok-push, else-is_label}
use Rattle.postscript_layout_write.proofs.labels.with_label.Goals as goal

pub loop-k-preserved : goal.loop-k-preserved
loop-k-preserved c =
    let k = c.loop-k.k in
    let labels = c.args.labels.now in
    let p : ℕ → Bool = λ i. is_label (slice_index_or labels i None) c.args.number in
    let told : c.is_label.result ≡ p k = c.is_label.ensures in
    let more = filter-more p k in
    let list : List ℕ = filter p (range_with_len 0 k) in
    elim c.if-is_label.branch [
      | then-is_label+in_ok-push w ↦ (let yes = sym told ∙ w.if-is_label.true in
          ap (λ v. v.items) w.numbers-is ∙ w.in_ok-push.ensures.items ∙ ap (λ xs. xs ++ k ∷ []) c.loop-k.invariant
          ∙ ap (λ (b : Bool). list ++ (if b then k ∷ [] else [])) (sym yes) ∙ sym more)
      | else-is_label w ↦ (let no = sym told ∙ w.if-is_label.false in
          ap (λ v. v.items) w.numbers-is ∙ c.loop-k.invariant ∙ sym (filter-skips p k no))
    ]
