use Rattle.std.proofs.Common.{arith}
use Rattle.std.proofs.Common.{◌≡◌, ℕ, ◌+◌, ◌*◌, Bool, true, false}
use Rattle.postscript_base.specs.Private.Significant.{Keeps, IsShort, IsLong}
use Rattle.postscript_base.proofs.Zeros.{as_short, long_more, short_zero, short_more, short_long, short_far}
use Rattle.postscript_base.proofs.compact1.significant.Significant.push.Goals as goal

kept_long : (b : Bool) (m z n k : ℕ) → b ≡ true → (IsLong n → IsLong k) → Keeps b m z n → Keeps b m z k
kept_long b m z n k e f h = grind arith

to_short : (b : Bool) (m z n : ℕ) → b ≡ false → IsShort m z n → Keeps b m z n
to_short b m z n e h = grind arith

pub returns-then-self-clause-keeps : goal.returns-then-self-clause-keeps
returns-then-self-clause-keeps c = grind (arith, long_more)

pub returns-else-self-eq0-clause-keeps : goal.returns-else-self-eq0-clause-keeps
returns-else-self-eq0-clause-keeps c = grind (arith, short_zero, as_short)

pub returns-then-self-eq0-clause-keeps : goal.returns-then-self-eq0-clause-keeps
returns-then-self-eq0-clause-keeps c = grind arith

pub returns-then-mantissa-lt-LONG-clause-keeps : goal.returns-then-mantissa-lt-LONG-clause-keeps
returns-then-mantissa-lt-LONG-clause-keeps c = λ n h.
    let s = c.args.self in
    short_more s.mantissa s.zeros n c.args.digit _ c.if-digit-eq0.false c.requires.digit (cc) c.if-mantissa-lt-LONG.true
    (as_short s.is_long s.mantissa s.zeros n c.if-self.false h)

pub returns-else-mantissa-lt-LONG-clause-keeps : goal.returns-else-mantissa-lt-LONG-clause-keeps
returns-else-mantissa-lt-LONG-clause-keeps c = λ n h.
    let s = c.args.self in
    short_long s.mantissa s.zeros n c.args.digit
    (c.from.result * c.pow.result + c.from-then-self-lt18.result) c.if-digit-eq0.false c.requires.digit (cc) c.if-mantissa-lt-LONG.false
    (as_short s.is_long s.mantissa s.zeros n c.if-self.false h)

pub returns-else-self-lt18-clause-keeps : goal.returns-else-self-lt18-clause-keeps
returns-else-self-lt18-clause-keeps c = grind (arith, short_far, as_short)
