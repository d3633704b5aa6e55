use Rattle.std.proofs.Common.{◌&&◌, ◌∙◌, ap, Bool}
use Rattle.postscript_layout_write.proofs.ContextCollecting.{adds-set}
use Rattle.postscript_layout_write.proofs.contexts.Part.add.Goals as goal

pub returns-clause-added : goal.returns-clause-added
returns-clause-added c = adds-set c.args.glyphs.now c.args.self.now _ c.args.tables.now.bytes.items _ c.in_ok-offset.offset
    c.in_ok-offset.ensures.more c.in_ok-offset.ensures.placed c.in_ok-push.ensures.items
    (c.both-self.ensures ∙ ap (λ (b : Bool). c.args.self.now.all_some && b) c.is_some_glyph.ensures)
