use Rattle.postscript_cff2.proofs.Entries.{one_list}
use Rattle.postscript_cff2.proofs.laws.one_list.Goals as goal

pub returns : goal.returns
returns c = record { law = one_list }
