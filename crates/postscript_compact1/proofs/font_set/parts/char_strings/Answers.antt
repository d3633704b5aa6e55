use Rattle.std.proofs.Common.{rules}
use Rattle.postscript_compact1.specs.Computed.Parts.{char_strings}
use Rattle.postscript_compact1.proofs.font_set.parts.char_strings.Goals as goal

pub returns-in_err-place-clause-exact : goal.returns-in_err-place-clause-exact
unfolding char_strings
returns-in_err-place-clause-exact g c = search rules

pub returns-in_err-type_two-clause-exact : goal.returns-in_err-type_two-clause-exact
unfolding char_strings
returns-in_err-type_two-clause-exact g c = search rules
