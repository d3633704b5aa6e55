use Rattle.postscript_subset.proofs.Cutting.{in-place-so, no-subset-so, subset-so}
use Rattle.postscript_subset.proofs.subset.subset_with_layout.Goals as goal

pub returns-then-choice-clause-in_place : goal.returns-then-choice-clause-in_place
returns-then-choice-clause-in_place c = λ retain.
    in-place-so c.cut_in_place.result c.args.choice.now c.args.features c.args.file.now c.args.number c.in_ok-face.face
    c.in_ok-face.ensures.found retain c.cut_in_place.ensures.subset

pub returns-then-choice-clause-why : goal.returns-then-choice-clause-why
returns-then-choice-clause-why c =
    no-subset-so c.cut_in_place.result c.args.choice.now c.args.features c.args.file.now c.args.number _ c.in_ok-face.face
    c.in_ok-face.ensures.found c.cut_in_place.ensures.why

pub returns-else-choice-clause-subset : goal.returns-else-choice-clause-subset
returns-else-choice-clause-subset c = λ anew.
    subset-so c.cut.result c.args.choice.now c.args.features c.args.file.now c.args.number c.cut.new.limit c.in_ok-face.face
    c.in_ok-face.ensures.found c.cut.ensures.subset

pub returns-else-choice-clause-why : goal.returns-else-choice-clause-why
returns-else-choice-clause-why c =
    no-subset-so c.cut.result c.args.choice.now c.args.features c.args.file.now c.args.number _ c.in_ok-face.face
    c.in_ok-face.ensures.found c.cut.ensures.why
