use Rattle.postscript_text.proofs.Repeating.{Goes}
use Rattle.postscript_text.proofs.names.says_the_same.Given as goal

-- both texts have the same characters so far
abbrev pub invariant-loop-char : goal.invariant-loop-char
invariant-loop-char l =
    Goes l.fn.one l.yielded l.char-iterator.name × Goes l.fn.other l.yielded l.others.name
    × (goal.iterator-loop-char).can_next l.char-iterator
    × (goal.iterator-loop-char).is_finite l.char-iterator
