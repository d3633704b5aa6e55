use Rattle.postscript_cff2.proofs.Selecting.{none_in_ranges}
use Rattle.postscript_cff2.proofs.select.FdSelect.fd.Goals as goal

pub returns-in-InRanges-clause-none : goal.returns-in-InRanges-clause-none
returns-in-InRanges-clause-none c =
    none_in_ranges c.fd-in-InRanges.result c.args.self.now c.in-InRanges.ranges c.args.glyph c.in-InRanges.is c.fd-in-InRanges.ensures.none
