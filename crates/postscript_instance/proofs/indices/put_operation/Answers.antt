use Rattle.std.proofs.Common.{arith}
use Rattle.postscript_instance.proofs.Putting.{put-one}
use Rattle.postscript_instance.proofs.indices.put_operation.Goals as goal

pub returns-clause-text : goal.returns-clause-text
returns-clause-text c =
    put-one c.args.out.now.items _ _ c.args.number c.args.code c.in_ok-put_integer.ensures.text c.in_ok-push.ensures.items (omega arith)
