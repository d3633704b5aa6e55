use Rattle.postscript_view.proofs.Selecting.{none_in_ranges, none_in_ranges_at, none_known, none_known_at}
use Rattle.postscript_view.proofs.select.Select.part_of.Goals as goal

pub returns-in-InRanges-clause-none : goal.returns-in-InRanges-clause-none
returns-in-InRanges-clause-none c =
    none_in_ranges c.part_of-in-InRanges.result c.args.self.now c.in-InRanges.ranges c.args.glyph c.in-InRanges.is
    c.part_of-in-InRanges.ensures.none

pub returns-in-Unknown-clause-none : goal.returns-in-Unknown-clause-none
returns-in-Unknown-clause-none c = none_known c.args.self.now c.args.glyph c.in-Unknown.is

pub returns-in-InRanges-clause-none_at : goal.returns-in-InRanges-clause-none_at
returns-in-InRanges-clause-none_at c =
    none_in_ranges_at c.part_of-in-InRanges.result c.args.self.now c.in-InRanges.ranges c.args.glyph c.in-InRanges.is
    c.part_of-in-InRanges.ensures.none

pub returns-in-Unknown-clause-none_at : goal.returns-in-Unknown-clause-none_at
returns-in-Unknown-clause-none_at c = none_known_at c.args.self.now c.args.glyph c.in-Unknown.is
