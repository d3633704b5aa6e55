use Rattle.std.proofs.Common.{◌∙◌, ◌∷◌, [], subst, sym, arith}
use Rattle.std.proofs.lemmas.List.{length-map}
use Rattle.postscript_type2.specs.Program.Routines.{texts}
use Rattle.postscript_write.specs.Index.{FitsIndex}
use Rattle.postscript_write.proofs.Room.{single_fits, they_fit}
use Rattle.postscript_instance.proofs.Laying.{named-length}
use Rattle.postscript_instance.proofs.layout.named_head.Goals as goal

pub head-requires-clause-name : goal.head-requires-clause-name
head-requires-clause-name c = let small = c.requires.small in single_fits c.args.name.now (omega (arith, small))

pub head-requires-clause-top : goal.head-requires-clause-top
head-requires-clause-top c =
    let small = c.requires.small in
    subst (λ t. FitsIndex (t ∷ [])) (sym (c.deref.ensures.value ∙ c.in_ok-top.ensures.text))
    (single_fits _ (omega (arith, named-length c.args.matrix.now c.args.size c.args.places, small)))

pub head-requires-clause-strings : goal.head-requires-clause-strings
head-requires-clause-strings c =
    let small = c.requires.small in
    let few = c.requires.few in
    they_fit (texts c.args.strings.now) (omega (arith, few, length-map c.args.strings.now (λ v. v.items))) (omega (arith, small))
