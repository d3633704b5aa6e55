use Rattle.std.proofs.Common.{refl}
use Rattle.postscript_instance_file.specs.Refusals.{cut_count, of_maxp}
use Rattle.postscript_instance_file.proofs.face.glyphs_of.Goals as goal

pub required_table-requires : goal.required_table-requires
required_table-requires c = of_maxp

pub returns-in-None : goal.returns-in-None
returns-in-None c = cut_count _ refl refl (c.in_ok-required_table.field-0.now, c.in_ok-required_table.ensures.found, c.in-None.ensures)
