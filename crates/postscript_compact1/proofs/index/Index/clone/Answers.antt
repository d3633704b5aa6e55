use Rattle.std.specs.List.{each_same}
use Rattle.postscript_compact1.proofs.Clones.{same_bytes}
use Rattle.postscript_compact1.proofs.index.Index.clone.Goals as goal

pub returns-clause-equal : goal.returns-clause-equal
returns-clause-equal c = rw (each_same _ _ c.in_ok-clone.ensures.cases.0, same_bytes _ _ c.in_ok-clone-2.ensures.cases.0) c.self.view_is
