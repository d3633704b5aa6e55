use Rattle.postscript_variable_font.proofs.Nearness as nearness
use Rattle.postscript_variable_font.proofs.laws.blends_are_near.Goals as goal

pub returns-clause-near : goal.returns-clause-near
returns-clause-near c = nearness.law

pub returns-clause-exact : goal.returns-clause-exact
returns-clause-exact c = nearness.exact
