use Rattle.std.proofs.Common.{◌≡◌, ◌+◌, ◌∙◌, ◌++◌, ap, sym, subst, append-nil, true, List, ℕ, arith}
use Rattle.std.specs.Prelude.{Option}
use Rattle.postscript_layout.specs.Numbers.{word}
use Rattle.postscript_layout_write.specs.Coverages.{HaveContexts}
use Rattle.postscript_layout_write.specs.First.{all_below}
use Rattle.postscript_layout_write.specs.Flags.{set_of}
use Rattle.postscript_layout_write.specs.Holds.{Holds}
use Rattle.postscript_layout_write.specs.Reverses.{reverses_in}
use Rattle.postscript_layout_write.specs.Rules.{part_at}
use Rattle.postscript_layout_write.specs.Scopes.{mark_set_text}
use Rattle.postscript_layout_write.specs.Sequences.{Context}
use Rattle.postscript_layout_write.specs.declared.contexts.Contexts.{Contexts}
use Rattle.postscript_layout_write.proofs.ContextCollecting.{holds-begins}
use Rattle.postscript_layout_write.proofs.RuleRows.{below-more}
use Rattle.postscript_layout_write.proofs.reverses.reverses_of.Goals.{in-Some+in_ok-add_reverse, in_default}
use Rattle.postscript_layout_write.proofs.reverses.reverses_of.Goals as goal

pub loop-j-preserved : goal.loop-j-preserved
loop-j-preserved c =
    let gsub = c.args.source.now.gsub.now in
    let kept = c.args.source.now.kept.now in
    let j = c.loop-j.j in
    let f : ℕ → List Context = λ j. reverses_in gsub kept (part_at gsub c.args.lookup 8 j) in
    let before : List Context = all_below f j in
    let more = below-more f j in
    elim c.match-part_at.branch [
      | in-Some+in_ok-add_reverse w ↦ record {
        have = subst (λ (new : Contexts). HaveContexts true (all_below f (j + 1)) new.offsets.items new.bytes.items) (sym w.contexts-is)
            (subst (λ (xs : List Context). HaveContexts true xs w.add_reverse.new.self.offsets.items w.add_reverse.new.self.bytes.items)
            (sym (more ∙ ap (λ (p : Option ℕ). before ++ reverses_in gsub kept p) (sym c.part_at.ensures.exact ∙ w.in-Some.is)))
            (w.in_ok-add_reverse.ensures.added.have before c.loop-j.invariant.have));
        begins = subst (λ (new : Contexts). Holds (mark_set_text c.args.flag (set_of gsub c.args.lookup)) new.bytes.items 0) (sym w.contexts-is)
            (holds-begins w.in_ok-add_reverse.ensures.added.more c.loop-j.invariant.begins);
        spent = (let is = w.limit-is in omega (arith, is, w.add_reverse.ensures.spends, c.pay.ensures.spends, c.loop-j.invariant.spent));
      }
      | in_default w ↦ record {
        have = subst (λ (new : Contexts). HaveContexts true (all_below f (j + 1)) new.offsets.items new.bytes.items) (sym w.contexts-is)
            (subst (λ (xs : List Context). HaveContexts true xs c.loop-j.contexts.offsets.items c.loop-j.contexts.bytes.items)
            (sym (more ∙ ap (λ (p : Option ℕ). before ++ reverses_in gsub kept p) (sym c.part_at.ensures.exact ∙ w.in_default.is) ∙ append-nil before))
            c.loop-j.invariant.have);
        begins = subst (λ (new : Contexts). Holds (mark_set_text c.args.flag (set_of gsub c.args.lookup)) new.bytes.items 0) (sym w.contexts-is)
            c.loop-j.invariant.begins;
        spent = (let is = w.limit-is in omega (arith, is, c.pay.ensures.spends, c.loop-j.invariant.spent));
      }
    ]

pub returns-clause-exact : goal.returns-clause-exact
returns-clause-exact c =
    let gsub = c.args.source.now.gsub.now in
    let kept = c.args.source.now.kept.now in
    let f : ℕ → List Context = λ j. reverses_in gsub kept (part_at gsub c.args.lookup 8 j) in
    let last : c.loop-j.j ≡ word gsub (c.args.lookup + 4) = omega (arith, c.loop-j-test.false, c.loop-j.auto.j-end, c.word-count.ensures.exact) in
    subst (λ n. HaveContexts true (all_below f n) c.loop-j.contexts.offsets.items c.loop-j.contexts.bytes.items) last c.loop-j.invariant.have
