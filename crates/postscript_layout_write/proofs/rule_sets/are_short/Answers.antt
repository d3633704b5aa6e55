use Rattle.std.proofs.Common.{◌<◌, ◌≤◌, length, arith}
use Rattle.postscript_layout_write.proofs.RuleWriting.{short-all, short-more}
use Rattle.postscript_layout_write.proofs.rule_sets.are_short.Goals as goal

pub loop-rule-preserved : goal.loop-rule-preserved
loop-rule-preserved c =
    let less : c.loop-rule.rule-index < length c.args.rules.now = omega arith in
    let long = c.len.ensures in
    let low = c.if-len-gt65535.false in
    short-more c.args.rules.now c.loop-rule.rule-index c.rule-item.result less c.rule-item.is c.loop-rule.invariant (omega (arith, long, low))

pub returns : goal.returns
returns c = λ yes. (let past : length c.args.rules.now ≤ c.loop-rule.rule-index = omega arith in
    short-all c.args.rules.now c.loop-rule.rule-index past c.loop-rule.invariant)
