use Rattle.std.proofs.Common.{refl, sym}
use Rattle.postscript_cff2.specs.Causes.{OfIndex}
use Rattle.postscript_cff2.proofs.layout.named_items.Goals as goal

pub returns-in-None-clause-why : goal.returns-in-None-clause-why
returns-in-None-clause-why c = OfIndex c.in-Some.place (sym c.in-Some.ensures.exact) c.in-None.ensures.none refl
