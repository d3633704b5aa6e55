use Rattle.postscript_view.proofs.CauseLaws.{why_view}
use Rattle.postscript_view.proofs.LayoutLaws.{found_view, only_view}
use Rattle.postscript_view.proofs.Wider.{same_font, own_part_of, cid_font, wider_font, set_of, encoding_of_font}
use Rattle.postscript_view.proofs.font.FontView.read_font.Goals as goal

pub returns-clause-found : goal.returns-clause-found
returns-clause-found c = found_view c.open.result c.args.bytes.now c.args.number (c.open.ensures.exact 0)

pub returns-clause-only : goal.returns-clause-only
returns-clause-only c = only_view c.open.result c.args.bytes.now c.args.number (c.open.ensures.exact 0)

pub returns-clause-why : goal.returns-clause-why
returns-clause-why c = why_view c.open.result c.args.bytes.now c.args.number (c.open.ensures.exact 0)

pub returns-clause-same : goal.returns-clause-same
returns-clause-same c = same_font c.open.result c.args.bytes.now c.args.number (c.open.ensures.exact 0)

pub returns-clause-wider : goal.returns-clause-wider
returns-clause-wider c = wider_font c.open.result c.args.bytes.now c.args.number (c.open.ensures.exact 0)

pub returns-clause-own : goal.returns-clause-own
returns-clause-own c = own_part_of c.open.result c.args.bytes.now c.args.number (c.open.ensures.exact 0)

pub returns-clause-cid : goal.returns-clause-cid
returns-clause-cid c = cid_font c.open.result c.args.bytes.now c.args.number (c.open.ensures.exact 0)

pub returns-clause-char_set : goal.returns-clause-char_set
returns-clause-char_set c = set_of c.open.result c.args.bytes.now c.args.number (c.open.ensures.exact 0) c.open.ensures.bytes

pub returns-clause-encoding : goal.returns-clause-encoding
returns-clause-encoding c = encoding_of_font c.open.result c.args.bytes.now c.args.number (c.open.ensures.exact 0)
