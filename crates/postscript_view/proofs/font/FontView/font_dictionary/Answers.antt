use Rattle.std.proofs.Common.{ap, sym}
use Rattle.postscript_view.specs.Dictionaries.{own_or}
use Rattle.postscript_view.proofs.font.FontView.font_dictionary.Goals as goal

pub returns-in-Some-font_dictionary-clause-found : goal.returns-in-Some-font_dictionary-clause-found
returns-in-Some-font_dictionary-clause-found c =
    let glyph = c.in-Some.found in (
      glyph.code.now,
      glyph.part.now,
      c.in-Some.ensures.found,
      sym (ap (λ own. own_or own c.args.self.now.dictionary) c.in-Some-font_dictionary.is),
    )

pub returns-in-None-clause-found : goal.returns-in-None-clause-found
returns-in-None-clause-found c =
    let glyph = c.in-Some.found in
    (glyph.code.now, glyph.part.now, c.in-Some.ensures.found, sym (ap (λ own. own_or own c.args.self.now.dictionary) c.in-None.is))
