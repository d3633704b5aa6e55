use Rattle.postscript_c.specs.WholeFiles.{chosen}
use Rattle.postscript_c.proofs.whole_files.subset_of.Goals as goal

pub returns : goal.returns
returns c =
    chosen c.deref.result.now (rw c.deref.ensures.value c.in_ok-given.ensures.names) c.choice_of-choice.result c.choice_of-choice.ensures
    c.subset_by.ensures
