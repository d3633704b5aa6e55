use Rattle.std.proofs.Common.{◌+◌, ◌<◌, ℕ, List, length, get_or, sym, arith}
use Rattle.postscript_type2.proofs.Alone.{of-more}
use Rattle.postscript_type2.proofs.Putting.{both-put, here, puts-alone, puts-pair}
use Rattle.postscript_type2.proofs.program.short.with_short.Goals as goal

pub loop-next-preserved-then-is_alone : goal.loop-next-preserved-then-is_alone
loop-next-preserved-then-is_alone c =
    let code : List ℕ = c.args.at.0.now in
    let next : ℕ = c.loop-next.next in
    let inv = c.loop-next.invariant in
    let short = inv.short in
    let room = inv.room in
    let less = c.loop-next-test.true in
    let passed = inv.passed.1 in
    let there : next < length code = omega (arith, short, less, passed) in
    let one = puts-alone code next c.loop-next.stack.items _ _ (here code next there) (sym c.if-is_alone.ensures) in
    let len = c.push_reserved.ensures.len in
    let capacity = c.push_reserved.ensures.capacity in
    record {
      within = omega (arith, there);
      short = short;
      room = omega (arith, room, less, len, capacity);
      passed = both-put code c.args.at.1 c.args.stack.items next c.loop-next.stack.items (next + 1) c.push_reserved.new.self.items
          inv.passed
          (rw (c.push_reserved.ensures.items, c.alone.ensures) one);
    }

pub loop-next-preserved : goal.loop-next-preserved
loop-next-preserved c =
    let code : List ℕ = c.args.at.0.now in
    let next : ℕ = c.loop-next.next in
    let inv = c.loop-next.invariant in
    let short = inv.short in
    let room = inv.room in
    let less = c.loop-next-test.true in
    let passed = inv.passed.1 in
    let there : next + 1 < length code = omega (arith, short, less, passed) in
    let word = c.if-first-lt32.false in
    let two = puts-pair code next c.loop-next.stack.items there
    (of-more (get_or code next 0) (sym c.if-is_alone.ensures) (omega (arith, word))) c.if-first-lt255.true in
    let len = c.push_reserved-then-first-lt255.ensures.len in
    let capacity = c.push_reserved-then-first-lt255.ensures.capacity in
    record {
      within = omega (arith, there);
      short = short;
      room = omega (arith, room, less, len, capacity);
      passed = both-put code c.args.at.1 c.args.stack.items next c.loop-next.stack.items (next + 2)
          c.push_reserved-then-first-lt255.new.self.items
          inv.passed (rw (c.push_reserved-then-first-lt255.ensures.items, c.pair.ensures) two);
    }
