use Rattle.postscript_c.proofs.statics.static_with.Goals as goal

pub returns-in-Ok : goal.returns-in-Ok
returns-in-Ok c = (c.args.settings.items, c.requires, c.in-Ok.ensures)

pub returns-in-Err : goal.returns-in-Err
returns-in-Err c = (c.args.settings.items, c.requires, c.in-Err.ensures)
