use Rattle.std.proofs.Common.{◌≡◌, map, take}
use Rattle.postscript_subset.proofs.text.firsts.Given as goal

abbrev pub invariant-loop-next : goal.invariant-loop-next
invariant-loop-next l = l.chars.items ≡ map (λ next. next.0) (take l.next-index l.all)
