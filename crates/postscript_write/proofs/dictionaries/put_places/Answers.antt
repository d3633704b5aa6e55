use Rattle.std.proofs.Common.{arith}
use Rattle.std.proofs.lemmas.Result.{err_from_is_err_and}
use Rattle.std.proofs.lemmas.Grind.{common_steps}
use Rattle.postscript_write.specs.Dictionaries.{IsHeld}
use Rattle.postscript_write.proofs.Without.{held_more}
use Rattle.postscript_write.proofs.dictionaries.put_places.Goals as goal

pub returns-in_err-put_place-clause-refused : goal.returns-in_err-put_place-clause-refused
returns-in_err-put_place-clause-refused c =
    let error = err_from_is_err_and c.from_residual.result c.from_residual.ensures.1 in
    rw (error.1, error.2) (λ other held. c.in_err-put_place.ensures.refused other (held c.loop-place.place-index _ (omega arith)))

pub loop-place-preserved : goal.loop-place-preserved
loop-place-preserved c = record {
  more = grind (arith, common_steps);
  held = held_more IsHeld c.args.places.now c.loop-place.place-index _
      (omega arith) c.in_ok-put_place.ensures.held c.loop-place.invariant.held;
  sized = grind (arith, common_steps);
}
