use Rattle.postscript_c.proofs.TellingWidths.{told}
use Rattle.postscript_c.proofs.font.open_font.Goals as goal

pub returns-clause-widths : goal.returns-clause-widths
returns-clause-widths c =
    told c.args.bytes.now c.font_of.result c.in_ok-size.size c.in_ok-dictionary.dictionary c.in_ok-dictionary.global_subroutines
    (c.in_ok-size.ensures.exact 0) (c.in_ok-dictionary.ensures.exact 0) c.font_of.ensures.widths c.font_of.ensures.keyed
