use Rattle.std.proofs.Common.{◌≡◌, refl, ◌∙◌, ◌++◌, [], ◌∷◌, rules}
use Rattle.postscript_write.specs.Selected.{HaveSame}
use Rattle.postscript_write.proofs.Firsts.{new_range, same_range}
use Rattle.postscript_write.proofs.numbering.firsts_of.Goals as goal
use Rattle.postscript_write.proofs.numbering.firsts_of.Goals.{then-begins+in_ok-push, else-begins}

pub loop-i-preserved : goal.loop-i-preserved
loop-i-preserved c = elim c.if-begins.branch [
  | then-begins+in_ok-push w ↦
      (let more : c.if-begins.firsts.items ≡ c.loop-i.firsts.items ++ c.loop-i.i ∷ [] = search rules in
      rw more (new_range (HaveSame c.args.numbers.now) c.loop-i.firsts.items c.loop-i.i refl c.loop-i.invariant))
  | else-begins w ↦
      (let still : c.if-begins.firsts.items ≡ c.loop-i.firsts.items = search rules in
      let same = rw w.if-begins.false at c.begins.ensures.same in
      rw still (same_range (HaveSame c.args.numbers.now) c.loop-i.firsts.items c.loop-i.i c.loop-i.invariant same.0 (λ r last goes. same.1 ∙ goes)))
]
