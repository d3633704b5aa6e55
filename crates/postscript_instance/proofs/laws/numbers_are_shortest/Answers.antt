use Rattle.postscript_instance.proofs.Shortest as shortest
use Rattle.postscript_instance.proofs.laws.numbers_are_shortest.Goals as goal

pub returns : goal.returns
returns c = shortest.law
