use Rattle.std.proofs.Common.{refl}
use Rattle.postscript_text.proofs.Naming.{more}
use Rattle.postscript_text.proofs.names.NameTable.put.Goals as goal

pub returns : goal.returns
returns c = λ records h.
    more c.args.self.now c.place_of.new.self _ records c.args.entry.now c.in_ok-place.place h c.in_ok-place.ensures refl refl
    c.in_ok-put_words.ensures
