use Rattle.postscript_sfnt_write.proofs.Chosen.{Answer, small_answer, small_only}
use Rattle.postscript_sfnt_write.proofs.mapping.of_segments.Goals as goal

answer : (c : goal.In_ok-table) → Answer c.in_ok-table.table.items c.args.mappings.now
answer c =
    small_answer c.in_ok-table.table.items c.args.segments.now c.args.mappings.now c.requires.rise c.requires.below c.requires.exact
    c.requires.most c.requires.fit c.in_ok-table.ensures

pub returns-clause-read : goal.returns-clause-read
returns-clause-read c = (answer c).read

pub returns-clause-told : goal.returns-clause-told
returns-clause-told c = (answer c).told

pub returns-clause-headers : goal.returns-clause-headers
returns-clause-headers c = (answer c).headers

pub returns-clause-format4 : goal.returns-clause-format4
returns-clause-format4 c = (answer c).format4

pub returns-clause-told_in_4 : goal.returns-clause-told_in_4
returns-clause-told_in_4 c = (answer c).told_in_4

pub returns-clause-records : goal.returns-clause-records
returns-clause-records c = (answer c).records

pub returns-clause-ascend : goal.returns-clause-ascend
returns-clause-ascend c = (answer c).ascend

pub returns-clause-closed : goal.returns-clause-closed
returns-clause-closed c = (answer c).closed

pub returns-clause-size : goal.returns-clause-size
returns-clause-size c = (answer c).size

pub returns-clause-only : goal.returns-clause-only
returns-clause-only c = small_only c.in_ok-table.table.items c.args.segments.now c.requires.most c.in_ok-table.ensures
