use Rattle.std.proofs.Common.{take, flat_map}
use Rattle.std.specs.Io.KnownBytes.{Appends}
use Rattle.postscript.specs.Program.RunAnswers.{operation_of}
use Rattle.psfont_session.specs.Texts.{operation_line}
use Rattle.psfont_session.proofs.answer.write_operations.Given as goal

abbrev pub invariant-loop-operation : goal.invariant-loop-operation
invariant-loop-operation g l =
    Appends (g.W.Write.contents l.fn.writer) (g.W.Write.contents l.writer)
    (flat_map (λ operation. operation_line (operation_of operation)) (take l.operation-index l.operations))
