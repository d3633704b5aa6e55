use Rattle.postscript_type2.proofs.InlinedLaws.{no-longer}
use Rattle.postscript_type2.proofs.InlinedMeaning.{law as keeps, phrases-law}
use Rattle.postscript_type2.proofs.StayLaws as rules
use Rattle.postscript_type2.proofs.laws.inlined_text_keeps_meaning.Goals as goal

pub returns-clause-law : goal.returns-clause-law
returns-clause-law c = keeps

pub returns-clause-phrases : goal.returns-clause-phrases
returns-clause-phrases c = phrases-law

pub returns-clause-no_longer : goal.returns-clause-no_longer
returns-clause-no_longer c = no-longer

pub returns-clause-stays : goal.returns-clause-stays
returns-clause-stays c = rules.law
