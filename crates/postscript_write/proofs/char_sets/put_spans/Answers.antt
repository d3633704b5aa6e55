use Rattle.postscript_write.specs.SetTexts.{span_text}
use Rattle.postscript_write.specs.Texts.{number_text}
use Rattle.postscript_write.proofs.Continuing.{row-more}
use Rattle.postscript_write.proofs.char_sets.put_spans.Goals as goal

pub loop-r-preserved : goal.loop-r-preserved
loop-r-preserved c =
    row-more (span_text c.args.identifiers.now c.args.firsts.now) c.args.out.now.items (number_text 1 1) c.loop-r.out.items
    c.put_span.new.out.items c.loop-r.r c.loop-r.invariant c.in_ok-put_span.ensures.text
