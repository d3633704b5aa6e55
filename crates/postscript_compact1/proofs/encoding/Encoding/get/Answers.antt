use Rattle.std.proofs.Common.{rules}
use Rattle.postscript_compact1.specs.Computed.Encodings.{identifier_of}
use Rattle.postscript_compact1.proofs.encoding.Encoding.get.Goals as goal

pub returns-in-Standard-clause-exact : goal.returns-in-Standard-clause-exact
unfolding identifier_of
returns-in-Standard-clause-exact c = search rules steps 1000000
