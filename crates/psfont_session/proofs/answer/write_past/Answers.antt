use Rattle.psfont_session.proofs.answer.write_past.Goals as goal

pub returns-clause-told : goal.returns-clause-told
returns-clause-told g c =
    let a = c.in_ok-writeln.ensures in let b = c.in_ok-digits.ensures in rw (← c.in_ok-digits.ensures) c.in_ok-writeln.ensures.bytes
