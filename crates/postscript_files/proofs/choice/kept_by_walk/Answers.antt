use Rattle.postscript_files.proofs.Keeping.{kept-so}
use Rattle.postscript_files.proofs.choice.kept_by_walk.Goals as goal

pub returns-clause-kept : goal.returns-clause-kept
returns-clause-kept c =
    kept-so c.kept_of_list.result c.args.choice.now c.args.map.now c.in_ok-chars.chars.items c.in_ok-glyphs.glyphs.items
    c.deref-2.result.now c.deref-3.result.now c.in_ok-all.all.items c.deref.result.now c.deref-2.ensures.value c.deref-3.ensures.value
    c.deref.ensures.value c.in_ok-chars.ensures.marks c.in_ok-glyphs.ensures.marks c.in_ok-all.ensures c.kept_of_list.ensures.kept
    c.kept_of_list.ensures.low
