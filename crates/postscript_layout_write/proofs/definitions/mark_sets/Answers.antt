use Rattle.std.proofs.Common.{◌≡◌, ◌+◌, ◌<◌, ◌++◌, ◌∷◌, [], ◌∙◌, ap, subst, arith, length, rules}
use Rattle.postscript_layout_write.proofs.DefinitionSets.{sets-more}
use Rattle.postscript_layout_write.proofs.definitions.mark_sets.Goals as goal

pub loop-set-preserved : goal.loop-set-preserved
loop-set-preserved c =
    let long : c.len.result ≡ length c.loop-set.bytes.items = search rules in
    record {
      are = sets-more c.args.gdef.now c.args.base c.args.kept.now c.loop-set.set c.loop-set.numbers.items c.loop-set.bytes.items c.push_offset.new.numbers.items
          c.put_members.new.out.items c.loop-set.invariant.are
          (c.in_ok-push_offset.ensures.text ∙ ap (λ n. c.loop-set.numbers.items ++ (0 ∷ (c.args.base + n) ∷ [])) long)
          (subst (λ n. c.args.base + n < 65536) long c.in_ok-push_offset.ensures.small) c.in_ok-put_members.ensures.done;
      spent = omega (arith, c.pay.ensures.spends, c.put_members.ensures.spends, c.loop-set.invariant.spent);
    }
