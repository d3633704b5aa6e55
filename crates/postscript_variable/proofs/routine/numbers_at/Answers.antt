use Rattle.std.proofs.Common.{◌-◌, ap, [], ◌∷◌, drop, length, length-append, arith}
use Rattle.postscript_variable.specs.Private.Numbers.{none}
use Rattle.postscript_variable.proofs.Numbers.{nothing-passed, put-more}
use Rattle.postscript_variable.proofs.routine.numbers_at.Goals as goal

pub loop-next-init : goal.loop-next-init
loop-next-init c =
    record { from = omega arith; within = c.requires; few = omega arith; puts = nothing-passed c.args.place c.args.limit none }

pub loop-next-preserved : goal.loop-next-preserved
loop-next-preserved c =
    let before = c.loop-next.invariant in
    let is = c.in-Some.ensures.found in
    let there = is.5 in
    let longer = ap length c.in_ok-push.ensures.items in
    let one = length-append c.loop-next.stack.items (c.in-Some.number ∷ []) in
    let last = c.last_place-last.ensures in
    record {
      from = omega (arith, before.from, there);
      within = c.in-Some.ensures.room;
      few = omega (arith, before.few, there, longer, one);
      puts =
          rw c.in_ok-push.ensures.items
          (put-more c.args.code.now (drop c.args.place c.args.code.now) c.loop-next.next _ c.args.stack.now.items c.loop-next.stack.items
          c.args.limit (c.args.limit - (c.loop-next.next - c.args.place)) _ _ before.puts is
          (omega (arith, before.few, before.from, c.loop-next-test.true, last.room, c.len.ensures))
          (omega (arith, before.from, c.loop-next-test.true, last.limit))
          (omega (arith, before.from, there)));
    }
