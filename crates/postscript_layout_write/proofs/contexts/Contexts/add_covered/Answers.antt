use Rattle.std.proofs.Common.{◌+◌, ◌*◌, ◌∙◌, ap, subst, length}
use Rattle.std.proofs.lemmas.List.FromFn.{length-map-range_with_len}
use Rattle.postscript_layout.specs.Numbers.{word}
use Rattle.postscript_layout_write.specs.Contexts.{context_by, context_of}
use Rattle.postscript_layout_write.specs.Coverages.{IsMade}
use Rattle.postscript_layout_write.specs.declared.contexts.Parts.{Parts}
use Rattle.postscript_layout_write.proofs.contexts.Contexts.add_covered.Goals as goal

pub add_made-requires : goal.add_made-requires
add_made-requires c = record {
  count = ap length c.in_ok-made.ensures.exact.actions
      ∙ length-map-range_with_len (λ k. word c.args.source.now.gsub.now (c.parts_of-parts.result.actions_at + k * 2)) 0 (c.parts_of-parts.result.actions * 2);
}

pub returns-clause-added : goal.returns-clause-added
returns-clause-added c =
    let gsub = c.args.source.now.gsub.now in
    let kept = c.args.source.now.kept.now in
    c.in_ok-add_made.ensures.added (context_of gsub kept c.args.kind c.args.subtable)
    (subst (λ (p : Parts). IsMade (context_by gsub kept c.args.subtable p) c.in_ok-made.made) c.parts_of-parts.ensures.exact c.in_ok-made.ensures.exact)
