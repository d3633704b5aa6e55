use Rattle.std.proofs.Common.{◌-◌, get_or}
use Rattle.postscript_sfnt.proofs.Owning.{IsPainted}
use Rattle.postscript_sfnt.proofs.character_map.owners.paint.Given as goal

abbrev pub invariant-loop-char : goal.invariant-loop-char
invariant-loop-char l = IsPainted (λ k. get_or l.firsts k 0) (λ k. get_or l.lasts k 0) l.i l.char l.owners l.links

abbrev pub decreases-loop-char : goal.decreases-loop-char
decreases-loop-char l = 0x110000 - l.char
