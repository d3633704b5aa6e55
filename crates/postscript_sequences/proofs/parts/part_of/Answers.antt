use Rattle.std.proofs.Common.{arith, ◌∙◌, get_or}
use Rattle.postscript_sequences.specs.Parts.{nothing}
use Rattle.std.proofs.Common.{refl}
use Rattle.postscript_sequences.proofs.Collecting.{behind_more, behind_start, put_selector, said_more, said_same}
use Rattle.postscript_sequences.proofs.parts.part_of.Goals as goal

pub loop-char-init : goal.loop-char-init
loop-char-init c = record {
  spends = omega arith;
  most = omega arith;
  range = omega arith;
  mapping = omega arith;
  selector = c.selector.ensures.exact;
  said = said_same c.args.table.now c.args.i _ _ _ _ _ _ nothing refl c.new.ensures.items c.new-2.ensures.items;
  behind = λ k from less. behind_start _ _ _ _ refl refl;
}

pub look_up_within-requires-clause-behind : goal.look_up_within-requires-clause-behind
look_up_within-requires-clause-behind c = c.loop-char.invariant.behind c.loop-char.char-index (omega arith) c.loop-char-test.true

pub loop-char-preserved : goal.loop-char-preserved
loop-char-preserved c = record {
  spends = omega (arith, c.loop-char.invariant.spends, c.look_up_within.ensures.spends);
  most = (let exact = c.in_ok-sequence.ensures.exact in omega (arith, c.loop-char.invariant.most, exact));
  range = c.in_ok-sequence.ensures.behind.range.within;
  mapping = c.in_ok-sequence.ensures.behind.mapping.within;
  selector = put_selector c.loop-char.part c.put.new.self _ c.in_ok-sequence.sequence c.in_ok-put.ensures.put ∙ c.loop-char.invariant.selector;
  said = said_more c.args.table.now c.args.i c.args.chars.now c.loop-char.char-index c.in_ok-sequence.sequence c.loop-char.part c.put.new.self c.loop-char-test.true
      c.loop-char.invariant.said c.in_ok-sequence.ensures.tells c.in_ok-put.ensures.put;
  behind = λ k from less. behind_more _ _ _ (get_or c.args.chars.now c.loop-char.char-index 0) _ c.in_ok-sequence.ensures.behind
      (c.requires.ascending c.loop-char.char-index k (omega (arith, from)) less);
}
