use Rattle.std.proofs.Common.{arith}
use Rattle.postscript_instance.proofs.Putting.{put-two}
use Rattle.postscript_instance.proofs.indices.put_escaped.Goals as goal

pub returns-clause-text : goal.returns-clause-text
returns-clause-text c =
    put-two c.args.out.now.items _ _ c.args.number c.args.second c.in_ok-put_integer.ensures.text c.in_ok-extend_from_slice.ensures.items
    (omega arith)
