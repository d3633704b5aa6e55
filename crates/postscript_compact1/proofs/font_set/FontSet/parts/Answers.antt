use Rattle.std.proofs.Common.{refl}
use Rattle.std.specs.List.{each_same}
use Rattle.postscript_compact1.proofs.font_set.FontSet.parts.Goals as goal

pub returns-clause-equal : goal.returns-clause-equal
returns-clause-equal c = rw (
  each_same _ _ c.in_ok-clone.ensures.cases.0,
  each_same _ _ c.in_ok-clone-2.ensures.cases.0,
  each_same _ _ c.in_ok-clone-3.ensures.cases.0,
  each_same _ _ c.in_ok-clone-4.ensures.cases.0,
  each_same _ _ c.in_ok-clone-5.ensures.cases.0,
) refl
