use Rattle.std.proofs.Common.{◌∙◌, ◌∷◌, [], ap, subst, sym, arith}
use Rattle.postscript_type2.specs.Program.Routines.{texts}
use Rattle.postscript_write.specs.Index.{FitsIndex}
use Rattle.postscript_write.proofs.Room.{single_fits}
use Rattle.postscript_instance.proofs.Laying.{keyed-length, keyed-strings-fit}
use Rattle.postscript_instance.proofs.layout.keyed_head.Goals as goal

pub head-requires-clause-name : goal.head-requires-clause-name
head-requires-clause-name c = let small = c.requires.small in single_fits c.args.name.now (omega (arith, small))

pub head-requires-clause-top : goal.head-requires-clause-top
head-requires-clause-top c =
    let small = c.requires.small in
    subst (λ t. FitsIndex (t ∷ [])) (sym (c.deref.ensures.value ∙ c.in_ok-top.ensures.text))
    (single_fits _ (omega (arith, keyed-length c.args.matrix.now c.args.glyphs c.args.places, small)))

pub head-requires-clause-strings : goal.head-requires-clause-strings
head-requires-clause-strings c = subst FitsIndex (sym (ap texts c.deref-2.ensures.value ∙ c.in_ok-strings.ensures.are)) keyed-strings-fit
