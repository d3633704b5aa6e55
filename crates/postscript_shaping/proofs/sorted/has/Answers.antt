use Rattle.std.proofs.Common.{◌∙◌}
use Rattle.std.proofs.lemmas.List.Sorted.{searched}
use Rattle.postscript_shaping.proofs.Searching.{searched-has}
use Rattle.postscript_shaping.proofs.sorted.has.Goals as goal

pub returns : goal.returns
returns c = c.is_ok.ensures.value ∙ searched-has c.args.sorted.now c.args.char c.binary_search.result
    (searched c.args.sorted.now c.args.char c.binary_search.result c.binary_search.ensures.position (λ i j le less. c.requires i j 0 le less))
