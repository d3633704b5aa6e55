use Rattle.std.proofs.Common.{sym, subst, arith}
use Rattle.postscript_files.proofs.LookingUp.{IsSoFar, all-found, none-so-far, one-more}
use Rattle.postscript_files.proofs.lookup.each_looked_up.Goals as goal

pub loop-char-init : goal.loop-char-init
loop-char-init c =
    subst (IsSoFar c.args.map.now c.args.chars.now 0) (sym c.new-pairs.ensures.items) (none-so-far c.args.map.now c.args.chars.now)

pub loop-char-preserved : goal.loop-char-preserved
loop-char-preserved c =
    one-more c.args.map.now c.args.chars.now c.loop-char.char-index c.glyph_for-glyph.result c.loop-char.pairs.items c.push_if.new.pairs.items
    c.requires.rise c.loop-char-test.true c.glyph_for-glyph.ensures c.in_ok-push_if.ensures.pushed c.loop-char.invariant

pub returns-clause-found : goal.returns-clause-found
returns-clause-found c =
    all-found c.args.map.now c.args.chars.now c.loop-char.char-index c.loop-char.pairs.items (omega arith) c.loop-char.invariant
