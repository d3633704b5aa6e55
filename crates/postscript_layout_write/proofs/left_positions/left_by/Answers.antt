use Rattle.std.proofs.Common.{◌≡◌, ◌+◌, ◌*◌, ◌++◌, ◌∷◌, [], ◌∙◌, ℕ, List, Bool, ap, sym, append-nil, arith}
use Rattle.std.specs.Prelude.{if◌then◌else◌}
use Rattle.postscript_layout.specs.Numbers.{word}
use Rattle.postscript_layout_write.specs.LeftPositions.{is_left, left_by}
use Rattle.postscript_layout_write.specs.Pairs.{lookup_at}
use Rattle.postscript_layout_write.proofs.RuleRows.{below-more}
use Rattle.postscript_layout_write.proofs.left_positions.left_by.Goals.{then-is_left+in_ok-push, else-is_left}
use Rattle.postscript_layout_write.proofs.left_positions.left_by.Goals as goal

pub loop-i-preserved : goal.loop-i-preserved
loop-i-preserved c =
    let gpos = c.args.gpos.now in
    let scope = c.args.scope in
    let i = c.loop-i.i in
    let f : ℕ → List ℕ = λ i. if is_left scope gpos (lookup_at gpos i) then i ∷ [] else [] in
    let place : c.word-list.result + c.word.result ≡ lookup_at gpos i = ap (λ (n : ℕ). c.word-list.result + n) c.word.ensures.exact
    ∙ ap (λ (n : ℕ). n + word gpos (n + 2 + i * 2)) c.word-list.ensures.exact in
    let here : c.in_ok-is_left.is_left ≡ is_left scope gpos (lookup_at gpos i) = c.in_ok-is_left.ensures.exact ∙ ap (is_left scope gpos) place in
    let front = left_by scope gpos i in
    record {
      left = elim c.if-is_left.branch [
        | then-is_left+in_ok-push w ↦ ap (λ v. v.items) w.left-is ∙ w.in_ok-push.ensures.items ∙ ap (λ xs. xs ++ i ∷ []) c.loop-i.invariant.left
            ∙ ap (λ (b : Bool). front ++ (if b then i ∷ [] else [])) (sym w.if-is_left.true ∙ here) ∙ sym (below-more f i)
        | else-is_left w ↦ ap (λ v. v.items) w.left-is ∙ c.loop-i.invariant.left ∙ sym (append-nil front)
            ∙ ap (λ (b : Bool). front ++ (if b then i ∷ [] else [])) (sym w.if-is_left.false ∙ here) ∙ sym (below-more f i)
      ];
      spent = omega (arith, c.pay.ensures.spends, c.is_left.ensures.spends, c.loop-i.invariant.spent);
    }
