use Rattle.std.proofs.Common.{inl}
use Rattle.postscript_instance_file.proofs.weight.regions_in.Goals as goal

pub returns-in-Some : goal.returns-in-Some
returns-in-Some c = inl (c.in-Some.data, c.in-Some.ensures, c.len.ensures)
