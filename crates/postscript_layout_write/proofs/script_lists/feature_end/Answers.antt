use Rattle.std.proofs.Common.{arith}
use Rattle.postscript_layout_write.proofs.Ends.{parameters-up}
use Rattle.postscript_layout_write.proofs.script_lists.feature_end.Goals as goal

pub returns : goal.returns
returns c = record {
  holds = record {
    indices = omega (arith, c.word.ensures.exact, c.later.ensures.a);
    parameters = parameters-up c.args.gpos.now c.parameters_end.result c.later.result c.args.tag c.args.feature c.parameters_end.ensures.holds c.later.ensures.b;
  };
  least = λ m ends. (let indices = ends.indices in
      c.later.ensures.least m (omega (arith, c.word.ensures.exact, indices)) (c.parameters_end.ensures.least m ends.parameters));
}
