use Rattle.std.proofs.Common.{refl}
use Rattle.std.specs.List.{each_same}
use Rattle.postscript_compact1.proofs.Clones.{same_seen}
use Rattle.postscript_compact1.proofs.font_set.FontSet.tables.Goals as goal

pub returns-clause-equal : goal.returns-clause-equal
returns-clause-equal c =
    rw (
      same_seen _ _ _ c.in_ok-clone.ensures.cases.0,
      each_same _ _ c.in_ok-clone-2.ensures.cases.0,
      c.in_ok-clone-3.ensures.equal,
      c.in_ok-clone-4.ensures.equal,
    ) refl
