use Rattle.std.proofs.Common.{ap, sym, ◌∙◌}
use Rattle.postscript_sequences.proofs.Numbered.{mapped_less, mapped_more, mapped_start}
use Rattle.postscript_sequences.proofs.renumbering.renumber_part.Goals as goal
use Rattle.postscript_sequences.proofs.renumbering.renumber_part.Goals.{in-Some+in_ok-push-in-Some, in-None}

pub loop-char-init : goal.loop-char-init
loop-char-init c = mapped_start c.args.glyphs.now c.new-mapped.result.items c.new-mapped.ensures.items

pub loop-char-preserved : goal.loop-char-preserved
loop-char-preserved c =
    elim c.match-number_of.branch [
      | in-Some+in_ok-push-in-Some w ↦
          mapped_more c.args.glyphs.now c.deref-char-items.result.now c.loop-char.char-index (0, 0) c.loop-char.mapped.items
          c.match-number_of.mapped.items w.in-Some.number c.loop-char-test.true c.loop-char.invariant (sym w.in-Some.ensures)
          (ap (λ v. v.items) w.mapped-is ∙ w.in_ok-push-in-Some.ensures.items)
      | in-None w ↦
          mapped_less c.args.glyphs.now c.deref-char-items.result.now c.loop-char.char-index (0, 0) c.loop-char.mapped.items
          c.match-number_of.mapped.items c.loop-char-test.true c.loop-char.invariant (sym w.in-None.ensures) (ap (λ v. v.items) w.mapped-is)
    ]
