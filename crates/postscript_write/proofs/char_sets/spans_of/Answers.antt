use Rattle.std.proofs.Common.{◌≡◌, refl, ◌++◌, [], ◌∷◌, rules, arith}
use Rattle.postscript_write.specs.SetTexts.{Continue}
use Rattle.postscript_write.proofs.Firsts.{new_range, same_range}
use Rattle.postscript_write.proofs.Continuing.{continued}
use Rattle.postscript_write.proofs.char_sets.spans_of.Goals as goal
use Rattle.postscript_write.proofs.char_sets.spans_of.Goals.{then-begins_span+in_ok-push, else-begins_span}

pub loop-i-preserved : goal.loop-i-preserved
loop-i-preserved c = elim c.if-begins_span.branch [
  | then-begins_span+in_ok-push w ↦
      (let more : c.if-begins_span.firsts.items ≡ c.loop-i.firsts.items ++ c.loop-i.i ∷ [] = search rules in
      rw more (new_range (Continue c.args.identifiers.now) c.loop-i.firsts.items c.loop-i.i (refl, omega arith, omega arith) c.loop-i.invariant))
  | else-begins_span w ↦
      (let still : c.if-begins_span.firsts.items ≡ c.loop-i.firsts.items = search rules in
      let next = rw w.if-begins_span.false at c.begins_span.ensures in
      rw still (same_range (Continue c.args.identifiers.now) c.loop-i.firsts.items c.loop-i.i c.loop-i.invariant next.0
      (continued c.args.identifiers.now c.loop-i.firsts.items c.deref.result.now c.loop-i.i c.deref.ensures.value next c.loop-i.invariant)))
]
