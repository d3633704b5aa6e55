use Rattle.std.proofs.Common.{◌∙◌, ap, length, arith}
use Rattle.postscript_sfnt_write.proofs.Chosen.{Answer, large_answer}
use Rattle.postscript_sfnt_write.proofs.mapping.of_both.Goals as goal

answer : (c : goal.After-drop-low-2) → Answer c.in_ok-table.table.items c.args.mappings.now
answer c =
    let low = ap length c.as_slice.ensures.value in
    let most = c.in_ok-low.ensures.most in
    let all = ap length c.as_slice-2.ensures.value in
    let few = c.in_ok-all.ensures.few in
    let room = c.requires.room in
    large_answer c.in_ok-table.table.items c.as_slice.result.now c.as_slice-2.result.now c.args.mappings.now c.requires.rise
    (c.as_slice-2.ensures.value ∙ c.in_ok-all.ensures.exact) (c.as_slice.ensures.value ∙ c.in_ok-low.ensures.exact)
    c.in_ok-low.ensures.fit (omega (arith, low, most))
    (omega (arith, all, few, room)) (omega (arith, all, few)) c.in_ok-all.ensures.fit c.in_ok-table.ensures.fit c.in_ok-table.ensures.text

pub returns-clause-read : goal.returns-clause-read
returns-clause-read c = (answer c).read

pub returns-clause-told : goal.returns-clause-told
returns-clause-told c = (answer c).told

pub returns-clause-headers : goal.returns-clause-headers
returns-clause-headers c = (answer c).headers

pub returns-clause-format4 : goal.returns-clause-format4
returns-clause-format4 c = (answer c).format4

pub returns-clause-told_in_4 : goal.returns-clause-told_in_4
returns-clause-told_in_4 c = (answer c).told_in_4

pub returns-clause-records : goal.returns-clause-records
returns-clause-records c = (answer c).records

pub returns-clause-ascend : goal.returns-clause-ascend
returns-clause-ascend c = (answer c).ascend

pub returns-clause-closed : goal.returns-clause-closed
returns-clause-closed c = (answer c).closed

pub returns-clause-size : goal.returns-clause-size
returns-clause-size c = (answer c).size
