use Rattle.std.proofs.Common.{◌∙◌, ap}
use Rattle.postscript_instance.specs.Encoded.{spread}
use Rattle.postscript_instance.proofs.Sets.{spread-push}
use Rattle.postscript_instance.proofs.naming.put_new.Goals as goal

pub returns-clause-spread : goal.returns-clause-spread
returns-clause-spread c = ap spread c.in_ok-push.ensures.items ∙ spread-push c.args.ranges.now.items _
