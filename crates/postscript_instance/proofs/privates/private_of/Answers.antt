use Rattle.postscript_instance.proofs.privates.private_of.Goals as goal

pub returns-clause-is : goal.returns-clause-is
returns-clause-is c =
    let has = c.in_ok-text.ensures.hints in
    (c.in_ok-text.text.items, has.0, has.1, c.in_ok-extend_from_slice.ensures.items)
