use Rattle.std.proofs.Common.{take, map, flat_map, string_bytes}
use Rattle.std.specs.Io.KnownBytes.{Appends}
use Rattle.psfont_session.specs.Summary.{name_line}
use Rattle.psfont_session.proofs.summary.write_each_name.Given as goal

abbrev pub invariant-loop-name : goal.invariant-loop-name
invariant-loop-name g l =
    Appends (g.W.Write.contents l.fn.writer) (g.W.Write.contents l.writer)
    (flat_map name_line (map string_bytes (take l.name-index l.names)))
