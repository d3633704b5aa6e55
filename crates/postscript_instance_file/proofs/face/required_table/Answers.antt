use Rattle.std.proofs.Common.{refl}
use Rattle.postscript_instance_file.specs.Refusals.{no_table}
use Rattle.postscript_instance_file.proofs.face.required_table.Goals as goal

pub returns-in-None-clause-why : goal.returns-in-None-clause-why
returns-in-None-clause-why c = no_table c.args.name _ c.requires c.in-None.ensures refl
