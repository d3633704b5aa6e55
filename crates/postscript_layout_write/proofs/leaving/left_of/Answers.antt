use Rattle.std.proofs.Common.{◌≡◌, ◌+◌, ◌*◌, ◌++◌, ◌∷◌, [], ◌∙◌, ℕ, List, Bool, ap, sym, append-nil}
use Rattle.std.specs.Prelude.{if◌then◌else◌}
use Rattle.postscript_layout.specs.Numbers.{word}
use Rattle.postscript_layout_write.specs.Leaving.{is_left, left_by}
use Rattle.postscript_layout_write.specs.Pairs.{lookup_at}
use Rattle.postscript_layout_write.proofs.RuleRows.{below-more}
use Rattle.postscript_layout_write.proofs.leaving.left_of.Goals.{then-is_left+in_ok-push, else-is_left}
use Rattle.postscript_layout_write.proofs.leaving.left_of.Goals as goal

pub loop-i-preserved : goal.loop-i-preserved
loop-i-preserved c =
    let gsub = c.args.gsub.now in
    let chosen = c.args.lookups.now in
    let whole = c.args.whole in
    let i = c.loop-i.i in
    let f : ℕ → List ℕ = λ i. if is_left whole gsub chosen i (lookup_at gsub i) then i ∷ [] else [] in
    let place : c.word-list.result + c.word.result ≡ lookup_at gsub i = ap (λ (n : ℕ). c.word-list.result + n) c.word.ensures.exact
    ∙ ap (λ (n : ℕ). n + word gsub (n + 2 + i * 2)) c.word-list.ensures.exact in
    let here : c.is_left.result ≡ is_left whole gsub chosen i (lookup_at gsub i) = c.is_left.ensures ∙ ap (is_left whole gsub chosen i) place in
    let front = left_by whole gsub chosen i in
    elim c.if-is_left.branch [
      | then-is_left+in_ok-push w ↦ ap (λ v. v.items) w.left-is ∙ w.in_ok-push.ensures.items ∙ ap (λ xs. xs ++ i ∷ []) c.loop-i.invariant
          ∙ ap (λ (b : Bool). front ++ (if b then i ∷ [] else [])) (sym w.if-is_left.true ∙ here) ∙ sym (below-more f i)
      | else-is_left w ↦ ap (λ v. v.items) w.left-is ∙ c.loop-i.invariant ∙ sym (append-nil front)
          ∙ ap (λ (b : Bool). front ++ (if b then i ∷ [] else [])) (sym w.if-is_left.false ∙ here) ∙ sym (below-more f i)
    ]
