use Rattle.std.proofs.Common.{ap, subst, ◌∙◌}
use Rattle.std.specs.Prelude.{MatchBool}
use Rattle.postscript_sequences.specs.Keeping.{IsEmpty}
use Rattle.postscript_sequences.proofs.Numbered.{kept_less, kept_more, kept_start}
use Rattle.postscript_sequences.proofs.renumbering.kept_parts.Goals as goal
use Rattle.postscript_sequences.proofs.renumbering.kept_parts.Goals.{then-has_sequences+in_ok-push, else-has_sequences}

pub loop-part-init : goal.loop-part-init
loop-part-init c = kept_start c.args.glyphs.now c.new-kept.result.items c.new-kept.ensures.items

pub loop-part-preserved : goal.loop-part-preserved
loop-part-preserved c =
    elim c.if-has_sequences.branch [
      | then-has_sequences+in_ok-push w ↦
          kept_more c.args.glyphs.now c.args.parts.now c.loop-part.part-index c.part-item.result c.in_ok-new.new c.loop-part.kept.items
          c.if-has_sequences.kept.items c.loop-part-test.true c.part-item.is c.loop-part.invariant c.in_ok-new.ensures.exact
          (subst (λ b. MatchBool b (IsEmpty c.in_ok-new.new → ⊥) (IsEmpty c.in_ok-new.new)) w.if-has_sequences.true c.has_sequences.ensures)
          (ap (λ v. v.items) w.kept-is ∙ w.in_ok-push.ensures.items)
      | else-has_sequences w ↦
          kept_less c.args.glyphs.now c.args.parts.now c.loop-part.part-index c.part-item.result c.in_ok-new.new c.loop-part.kept.items
          c.if-has_sequences.kept.items c.loop-part-test.true c.part-item.is c.loop-part.invariant c.in_ok-new.ensures.exact
          (subst (λ b. MatchBool b (IsEmpty c.in_ok-new.new → ⊥) (IsEmpty c.in_ok-new.new)) w.if-has_sequences.false c.has_sequences.ensures)
          (ap (λ v. v.items) w.kept-is)
    ]
