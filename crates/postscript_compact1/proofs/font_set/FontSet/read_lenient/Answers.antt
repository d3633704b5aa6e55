use Rattle.postscript_compact1.proofs.FontClauses.{found_leniently, only_leniently, why}
use Rattle.postscript_compact1.specs.declared.font_set.manner.Manner.TheVariants.{Lenient}
use Rattle.postscript_compact1.proofs.font_set.FontSet.read_lenient.Goals as goal

pub returns-clause-found : goal.returns-clause-found
returns-clause-found g c =
    λ honest. found_leniently c.reads_dictionaries.ensures.law c.read_font.result _ _ _ (c.read_font.ensures.exact honest).1

pub returns-clause-only : goal.returns-clause-only
returns-clause-only g c =
    λ honest. only_leniently c.reads_dictionaries.ensures.law c.read_font.result _ _ _ (c.read_font.ensures.exact honest).1

pub returns-clause-why : goal.returns-clause-why
returns-clause-why g c =
    λ honest. why Lenient c.reads_dictionaries.ensures.law c.read_font.result _ _ _ (c.read_font.ensures.exact honest).1
