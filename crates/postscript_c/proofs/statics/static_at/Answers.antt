use Rattle.postscript_c.proofs.statics.static_at.Goals as goal

pub static_with-requires : goal.static_with-requires
static_with-requires c = record { file = c.args.file.now; is = c.requires; are = c.in-Ok.ensures.found }
