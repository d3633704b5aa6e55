use Rattle.std.proofs.Common.{arith}
use Rattle.postscript_instance.proofs.Putting.{put-both}
use Rattle.postscript_instance.proofs.indices.put_private.Goals as goal

pub returns-clause-text : goal.returns-clause-text
returns-clause-text c =
    put-both c.args.out.now.items _ _ _ c.args.size c.args.place 0x12 c.in_ok-put_integer.ensures.text c.in_ok-put_integer-2.ensures.text
    c.in_ok-push.ensures.items (omega arith)
