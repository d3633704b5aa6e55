use Rattle.std.proofs.Common.{[], ◌∷◌}
use Rattle.postscript_layout.proofs.Following.{follows-makes, one-held}
use Rattle.postscript_layout.proofs.substitutions.give.Goals as goal

pub returns : goal.returns
returns c = follows-makes (c.args.glyph ∷ []) (c.args.other ∷ []) c.args.set.now c.hold.new.self
    (one-held c.args.set.now c.args.glyph c.requires.held) c.hold.ensures
