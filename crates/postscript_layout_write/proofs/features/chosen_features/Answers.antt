use Rattle.std.proofs.Common.{◌≡◌, ◌∙◌, ◌+◌, ◌*◌, ◌++◌, ◌∷◌, [], ap, sym, ℕ, List, Bool, length, length-append, arith}
use Rattle.std.specs.Prelude.{◌==◌, filter, if◌then◌else◌}
use Rattle.std.specs.List.{list_any, range_with_len}
use Rattle.postscript_layout.specs.Features.{tag_of}
use Rattle.postscript_layout.specs.Numbers.{long}
use Rattle.postscript_layout_write.proofs.Covering.{filter-more, filter-skips}
use Rattle.postscript_layout_write.proofs.features.chosen_features.Goals.{then-contains+in_ok-push, else-contains}
use Rattle.postscript_layout_write.proofs.features.chosen_features.Goals as goal

pub loop-i-preserved : goal.loop-i-preserved
loop-i-preserved c =
    let table = c.args.table.now in
    let tags = c.args.tags.now in
    let i = c.loop-i.i in
    let p : ℕ → Bool = λ k. list_any (λ tag. tag == tag_of table k) tags in
    let list : List ℕ = filter p (range_with_len 0 i) in
    let tag : c.long-tag.result ≡ tag_of table i = c.long-tag.ensures.exact ∙ ap (λ n. long table (n + 2 + i * 6)) c.word-list.ensures.exact in
    let told : c.contains.result ≡ p i = c.contains.ensures.value ∙ ap (λ n. list_any (λ t. t == n) tags) tag in
    let before = c.loop-i.invariant.few in
    record {
      kept = elim c.if-contains.branch [
        | then-contains+in_ok-push w ↦ (let yes = sym told ∙ w.if-contains.true in
            ap (λ v. v.items) w.kept-is ∙ w.in_ok-push.ensures.items ∙ ap (λ xs. xs ++ i ∷ []) c.loop-i.invariant.kept
            ∙ ap (λ (b : Bool). list ++ (if b then i ∷ [] else [])) (sym yes) ∙ sym (filter-more p i))
        | else-contains w ↦ (let no = sym told ∙ w.if-contains.false in
            ap (λ v. v.items) w.kept-is ∙ c.loop-i.invariant.kept ∙ sym (filter-skips p i no))
      ];
      few = elim c.if-contains.branch [
        | then-contains+in_ok-push w ↦ (let e = ap (λ v. length v.items) w.kept-is in let d = ap length w.in_ok-push.ensures.items in
            omega (arith, before, e, d, length-append c.loop-i.kept.items (i ∷ [])))
        | else-contains w ↦ (let e = ap (λ v. length v.items) w.kept-is in omega (arith, before, e))
      ];
      spent = omega (arith, c.pay.ensures.spends, c.pay_all.ensures.spends, c.loop-i.invariant.spent);
    }
