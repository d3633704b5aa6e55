use Rattle.psfont_session.proofs.Writing.{so}
use Rattle.psfont_session.proofs.show_file.Goals as goal

pub returns-clause-told : goal.returns-clause-told
returns-clause-told g c = so c.show.result c.show.ensures.told (λ told. (c.in_ok-read_font.field-0, told))
