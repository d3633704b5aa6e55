use Rattle.std.proofs.Common.{map, rules, sym, ap, ◌∙◌}
use Rattle.std.proofs.lemmas.Iterator.Adapters.{YieldsList-from_vec}
use Rattle.std.proofs.lemmas.Iterator.Consumers.{YieldsList-end}
use Rattle.std.proofs.lemmas.List.{map-id}
use Rattle.std.proofs.lemmas.Simd.{map-map}
use Rattle.postscript_compact1.specs.Texts.{text}
use Rattle.postscript_compact1.proofs.index.names.Names.into.Goals as goal

pub returns-clause-texts : goal.returns-clause-texts
returns-clause-texts c =
    let gives = c.into_iter-item-iterator.ensures.into_iter_gives in
    let all = YieldsList-end (YieldsList-from_vec c.index.inside.items.items (search rules) (search rules)) c.loop-item.yielded
    c.loop-item.item-iterator c.loop-item.yielded_by _ c.next.new.self c.in-None.is c.next.ensures.steps in
    c.loop-item.invariant ∙ ap (map (λ item. text item.items)) (sym (map-id c.loop-item.yielded) ∙ all.0)
    ∙ sym (map-map text (λ item. item.items) c.index.inside.items.items)
    ∙ ap (λ index. map text index.items) (c.index.view_is ∙ c.self.view_is)
