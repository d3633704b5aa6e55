use Rattle.postscript_files.proofs.Subsetting.{no-subset-so, subset-so}
use Rattle.postscript_files.proofs.subset.subset_file.Goals as goal

pub returns-clause-subset : goal.returns-clause-subset
returns-clause-subset c =
    subset-so c.subset.result c.args.choice.now c.args.file.now c.args.number c.in_ok-face.face c.in_ok-face.ensures.found c.subset.ensures.subset

pub returns-clause-refused : goal.returns-clause-refused
returns-clause-refused c =
    no-subset-so c.subset.result c.args.choice.now c.args.file.now c.args.number c.in_ok-face.face c.in_ok-face.ensures.found
    c.subset.ensures.refused
