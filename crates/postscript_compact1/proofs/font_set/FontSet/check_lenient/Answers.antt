use Rattle.postscript_compact1.proofs.Passed.{font_passes, found_leniently, only_leniently, why}
use Rattle.postscript_compact1.specs.declared.font_set.manner.Manner.TheVariants.{Lenient}
use Rattle.postscript_compact1.proofs.font_set.FontSet.check_lenient.Goals as goal

pub returns-clause-found : goal.returns-clause-found
returns-clause-found g c =
    λ honest. found_leniently c.reads_dictionaries.ensures.law c.pass_font.result _ _ _ (c.pass_font.ensures.exact honest).1

pub returns-clause-only : goal.returns-clause-only
returns-clause-only g c =
    λ honest. only_leniently c.reads_dictionaries.ensures.law c.pass_font.result _ _ _ (c.pass_font.ensures.exact honest).1

pub returns-clause-why : goal.returns-clause-why
returns-clause-why g c =
    λ honest. why Lenient c.reads_dictionaries.ensures.law c.pass_font.result _ _ _ (c.pass_font.ensures.exact honest).1

pub returns-clause-exact : goal.returns-clause-exact
returns-clause-exact g c = λ honest. let told = c.pass_font.ensures.exact honest in (told.0, rw (font_passes Lenient _ _) at told.1)
