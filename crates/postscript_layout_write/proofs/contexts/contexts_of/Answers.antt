use Rattle.std.proofs.Common.{◌+◌, ◌∙◌, ◌++◌, ap, sym, subst, append-nil, List, ℕ, arith, false}
use Rattle.std.specs.Prelude.{Option}
use Rattle.postscript_layout_write.specs.Contexts.{contexts_below, contexts_in}
use Rattle.postscript_layout_write.specs.Sequences.{Context}
use Rattle.postscript_layout_write.specs.Coverages.{HaveContexts}
use Rattle.postscript_layout_write.specs.Flags.{set_of}
use Rattle.postscript_layout_write.specs.Holds.{Holds}
use Rattle.postscript_layout_write.specs.Rules.{part_at}
use Rattle.postscript_layout_write.specs.Scopes.{mark_set_text}
use Rattle.postscript_layout_write.specs.declared.contexts.Contexts.{Contexts}
use Rattle.postscript_layout_write.proofs.ContextCollecting.{holds-begins}
use Rattle.postscript_layout_write.proofs.RuleRows.{below-more}
use Rattle.postscript_layout_write.proofs.contexts.contexts_of.Goals.{in-Some+in_ok-add, in_default}
use Rattle.postscript_layout_write.proofs.contexts.contexts_of.Goals as goal

pub loop-j-preserved : goal.loop-j-preserved
loop-j-preserved c =
    let gsub = c.args.source.now.gsub.now in
    let kept = c.args.source.now.kept.now in
    let kind = c.args.kind in
    let j = c.loop-j.j in
    let before : List Context = contexts_below gsub kept c.args.lookup kind j in
    let more = below-more (λ j. contexts_in gsub kept kind (part_at gsub c.args.lookup kind j)) j in
    elim c.match-part_at.branch [
      | in-Some+in_ok-add w ↦ record {
        have = subst (λ (new : Contexts). HaveContexts false (contexts_below gsub kept c.args.lookup kind (j + 1)) new.offsets.items new.bytes.items) (sym w.contexts-is)
            (subst (λ (xs : List Context). HaveContexts false xs w.add.new.self.offsets.items w.add.new.self.bytes.items)
            (sym (more ∙ ap (λ (p : Option ℕ). before ++ contexts_in gsub kept kind p) (sym c.part_at.ensures.exact ∙ w.in-Some.is)))
            (w.in_ok-add.ensures.added.have before c.loop-j.invariant.have));
        begins = subst (λ (new : Contexts). Holds (mark_set_text c.args.flag (set_of gsub c.args.lookup)) new.bytes.items 0) (sym w.contexts-is)
            (holds-begins w.in_ok-add.ensures.added.more c.loop-j.invariant.begins);
        spent = (let is = w.limit-is in omega (arith, is, w.add.ensures.spends, c.pay.ensures.spends, c.loop-j.invariant.spent));
      }
      | in_default w ↦ record {
        have = subst (λ (new : Contexts). HaveContexts false (contexts_below gsub kept c.args.lookup kind (j + 1)) new.offsets.items new.bytes.items) (sym w.contexts-is)
            (subst (λ (xs : List Context). HaveContexts false xs c.loop-j.contexts.offsets.items c.loop-j.contexts.bytes.items)
            (sym (more ∙ ap (λ (p : Option ℕ). before ++ contexts_in gsub kept kind p) (sym c.part_at.ensures.exact ∙ w.in_default.is) ∙ append-nil before))
            c.loop-j.invariant.have);
        begins = subst (λ (new : Contexts). Holds (mark_set_text c.args.flag (set_of gsub c.args.lookup)) new.bytes.items 0) (sym w.contexts-is)
            c.loop-j.invariant.begins;
        spent = (let is = w.limit-is in omega (arith, is, c.pay.ensures.spends, c.loop-j.invariant.spent));
      }
    ]
