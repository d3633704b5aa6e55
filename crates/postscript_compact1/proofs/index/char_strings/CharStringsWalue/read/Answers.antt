use Rattle.std.proofs.Common.{rules}
use Rattle.postscript_compact1.proofs.index.char_strings.CharStringsWalue.read.Goals as goal

pub returns-then-format-ne2-clause-untouched : goal.returns-then-format-ne2-clause-untouched
returns-then-format-ne2-clause-untouched g c = search rules steps 300000
