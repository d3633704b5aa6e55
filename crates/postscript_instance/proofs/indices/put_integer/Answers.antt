use Rattle.std.proofs.Common.{◌∙◌, ◌++◌, ap, sym}
use Rattle.postscript_instance.proofs.Putting.{integer-bytes}
use Rattle.postscript_instance.proofs.indices.put_integer.Goals as goal

pub returns-clause-text : goal.returns-clause-text
returns-clause-text c =
    c.in_ok-extend_from_slice.ensures.items ∙ ap (λ t. c.args.out.now.items ++ t) (sym (integer-bytes c.args.number))
