use Rattle.std.proofs.Common.{arith}
use Rattle.std.proofs.lemmas.Grind.{common_steps}
use Rattle.std.proofs.Common.{map, rules, sym, ap, ◌∙◌}
use Rattle.std.proofs.lemmas.Iterator.Adapters.{YieldsList-from_vec}
use Rattle.std.proofs.lemmas.Iterator.Consumers.{YieldsList-end}
use Rattle.std.proofs.lemmas.List.{map-id}
use Rattle.postscript_base.specs.Compact1.Dictionary.{dictionary_of}
use Rattle.postscript_base.proofs.compact1.operations.of_all.Goals as goal

pub loop-operation-init : goal.loop-operation-init
loop-operation-init c = c.in_ok-operations.ensures.empty

pub loop-operation-preserved : goal.loop-operation-preserved
loop-operation-preserved c = grind (arith, common_steps)

pub returns-clause-dictionary : goal.returns-clause-dictionary
returns-clause-dictionary c =
    let gives = c.into_iter-operation-iterator.ensures.into_iter_gives in
    let all = YieldsList-end (YieldsList-from_vec c.args.all.items (search rules) (search rules)) c.loop-operation.yielded
    c.loop-operation.operation-iterator c.loop-operation.yielded_by _ c.next.new.self c.in-None.is c.next.ensures.steps in
    c.loop-operation.invariant
    ∙ ap (λ xs. dictionary_of (map (λ operation. (operation.0, operation.1.items)) xs)) (sym (map-id c.loop-operation.yielded) ∙ all.0)
