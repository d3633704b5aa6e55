use Rattle.std.proofs.Common.{refl}
use Rattle.postscript_instance_file.specs.Refusals.{cut_advances, of_hhea, of_hmtx}
use Rattle.postscript_instance_file.proofs.face.advances_of.Goals as goal

pub required_table-requires : goal.required_table-requires
required_table-requires c = of_hhea

pub required_table-requires-2 : goal.required_table-requires-2
required_table-requires-2 c = of_hmtx

pub returns-in-None-clause-why : goal.returns-in-None-clause-why
returns-in-None-clause-why c = cut_advances _ refl refl
    (c.in_ok-hhea.hhea.now, c.in_ok-hmtx.hmtx.now, c.in_ok-hhea.ensures.found, c.in_ok-hmtx.ensures.found, c.in-None.ensures)
