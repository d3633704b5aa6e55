use Rattle.postscript_c.proofs.Selecting.{of_map}
use Rattle.postscript_c.proofs.glyph.item_part.Goals as goal

pub returns-clause-part : goal.returns-clause-part
returns-clause-part c =
    of_map c.args.bytes.now c.args.item.now c.in_ok-dictionary.dictionary c.part_of.result
    (c.in_ok-dictionary.ensures.exact c.args.bytes.now 0) (c.part_of.ensures.exact 0) c.part_of.ensures.widths
