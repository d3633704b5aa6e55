use Rattle.std.proofs.Common.{◌≡◌, ◌+◌, ◌^◌, ◌<◌, drop}
use Rattle.postscript_sfnt_write.specs.Tables.{rooms, size_of}
use Rattle.postscript_sfnt_write.proofs.file.fits.Given as goal

abbrev pub invariant-loop-table : goal.invariant-loop-table
invariant-loop-table l = (l.size + rooms (drop l.table-index l.tables) ≡ size_of l.tables) × (l.size < 2 ^ 32)
