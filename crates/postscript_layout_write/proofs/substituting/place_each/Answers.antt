use Rattle.std.proofs.Common.{◌≡◌, ◌∙◌, ◌+◌, ◌*◌, ◌++◌, ◌∷◌, [], ℕ, List, ap, subst, arith}
use Rattle.postscript_layout.specs.Numbers.{word}
use Rattle.postscript_layout_write.specs.Pairs.{lookup_at}
use Rattle.postscript_layout_write.specs.RuleLookups.{PutsNext}
use Rattle.postscript_layout_write.specs.Sets.{Places}
use Rattle.postscript_layout_write.proofs.RuleCollecting.{rule-lookups-more}
use Rattle.postscript_layout_write.proofs.substituting.place_each.Goals as goal

pub loop-i-preserved : goal.loop-i-preserved
loop-i-preserved c =
    let gsub = c.args.gsub.now in
    let kept = c.args.kept.now in
    let chosen = c.args.lookups.now in
    let whole = c.args.whole in
    let i = c.loop-i.i in
    let old = c.loop-i.placed in
    let place : c.word-list.result + c.word.result ≡ lookup_at gsub i = ap (λ (n : ℕ). c.word-list.result + n) c.word.ensures.exact
    ∙ ap (λ (n : ℕ). n + word gsub (n + 2 + i * 2)) c.word-list.ensures.exact in
    record {
      lookups = rule-lookups-more whole gsub chosen kept i c.in_ok-offset.offset c.put_next.new.bytes.items old.offsets.items old.bytes.items c.push.new.self.items c.place.new.self.bytes.items
          c.loop-i.invariant.lookups
          (subst (λ (xs : List ℕ). PutsNext whole gsub chosen kept (lookup_at gsub i) i xs c.put_next.new.bytes.items) c.new-text.ensures.items
          (subst (λ (p : ℕ). PutsNext whole gsub chosen kept p i c.new-text.result.items c.put_next.new.bytes.items) place c.in_ok-put_next.ensures.done))
          (subst (λ (xs : List ℕ). Places xs old.bytes.items c.place.new.self.bytes.items c.in_ok-offset.offset) c.deref.ensures.value c.in_ok-offset.ensures.placed)
          (c.in_ok-push.ensures.items ∙ ap (λ xs. xs ++ c.in_ok-offset.offset ∷ []) c.in_ok-offset.ensures.offsets);
      spent = omega (arith, c.pay.ensures.spends, c.pay_all.ensures.spends, c.put_next.ensures.spends, c.loop-i.invariant.spent);
    }
