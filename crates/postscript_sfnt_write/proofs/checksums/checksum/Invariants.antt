use Rattle.std.proofs.Common.{◌≡◌, ◌%◌, ◌^◌, length, sum, ◌+◌}
use Rattle.postscript_sfnt_write.specs.Checksum.{checksum as the_checksum, words}
use Rattle.postscript_sfnt_write.proofs.checksums.checksum.Given as goal

-- the sum so far, with what is left, is the whole
abbrev pub invariant-loop-rest : goal.invariant-loop-rest
invariant-loop-rest l = (l.sum + sum (words l.rest)) % 2 ^ 32 ≡ the_checksum l.fn.table

abbrev pub decreases-loop-rest : goal.decreases-loop-rest
decreases-loop-rest l = length l.rest
