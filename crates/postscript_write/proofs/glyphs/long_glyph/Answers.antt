use Rattle.std.proofs.Common.{◌<◌, ◌≤◌, [], length, get_or, refl, ap, arith, below_more}
use Rattle.postscript_type2.specs.Program.Routines.{texts}
use Rattle.postscript_write.proofs.LongGlyphs.{long_there, never_empty, text_at}
use Rattle.postscript_write.proofs.glyphs.long_glyph.Goals as goal

pub loop-i-preserved : goal.loop-i-preserved
loop-i-preserved c =
    let codes = c.args.codes.now in
    let text = text_at codes c.loop-i.i c.index-codes-i.result c.loop-i-test.true c.index-codes-i.is in
    let short = c.if-len-gt65535.false in
    below_more (λ k. length (get_or (texts codes) k []) ≤ 65535) c.loop-i.i c.loop-i.invariant
    (omega (arith, ap length text, c.len.ensures, short))

pub returns-then-len-gt65535-clause-long : goal.returns-then-len-gt65535-clause-long
returns-then-len-gt65535-clause-long c =
    let text = text_at c.args.codes.now c.loop-i.i c.index-codes-i.result c.loop-i-test.true c.index-codes-i.is in
    let long : 65535 < length (get_or (texts c.args.codes.now) c.loop-i.i []) = (let more = c.if-len-gt65535.true in
    omega (arith, ap length text, c.len.ensures, more)) in
    long_there c.args.sources.now c.args.codes.now c.loop-i.i _ refl c.loop-i-test.true long
    c.loop-i.invariant

pub returns-then-len-gt65535-clause-short : goal.returns-then-len-gt65535-clause-short
returns-then-len-gt65535-clause-short c =
    let text = text_at c.args.codes.now c.loop-i.i c.index-codes-i.result c.loop-i-test.true c.index-codes-i.is in
    let long : 65535 < length (get_or (texts c.args.codes.now) c.loop-i.i []) = (let more = c.if-len-gt65535.true in
    omega (arith, ap length text, c.len.ensures, more)) in
    let there = c.loop-i-test.true in
    let many = c.requires.many in
    never_empty c.args.sources.now c.args.codes.now c.loop-i.i _ refl (omega (arith, there, many))
    long c.requires.empty
