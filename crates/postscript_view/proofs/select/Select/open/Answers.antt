use Rattle.std.proofs.Common.{sym}
use Rattle.postscript_view.proofs.Selecting.{named}
use Rattle.postscript_view.proofs.select.Select.open.Goals as goal

pub returns-in-Some : goal.returns-in-Some
returns-in-Some c =
    named c.own.result c.args.bytes.now c.args.dictionary.now c.in-Some.place c.args.glyphs (sym c.in-Some.ensures) c.own.ensures
