use Rattle.std.proofs.Common.{◌≡◌, ◌∙◌, sym, subst, ℕ, get_or}
use Rattle.std.specs.List.{Contains}
use Rattle.std.proofs.lemmas.List.Elements.{Contains-get_or}
use Rattle.postscript_sfnt.specs.Lent.{HasNoTable}
use Rattle.postscript_files.specs.Subsets.{IsCopied}
use Rattle.postscript_files.proofs.Listing.{adds-more, copied-more}
use Rattle.postscript_files.proofs.Twice.{copied-counts, copied-end}
use Rattle.postscript_files.proofs.subset.put_copied.Goals as goal

pub loop-tag-preserved : goal.loop-tag-preserved
loop-tag-preserved c =
    let here : ℕ = get_or c.args.tags.now c.loop-tag.tag-index 0 in
    record {
      adds = adds-more c.args.tables.now.items c.loop-tag.tables.items c.put_copy.new.tables.items (IsCopied c.args.file.now c.args.tags.now)
          (λ t. (t ≡ get_or c.args.tags.now c.loop-tag.tag-index 0) × (HasNoTable c.args.file.now t → ⊥)) c.loop-tag.invariant.adds
          (λ t h. (
            subst (λ n. Contains c.args.tags.now n) (sym h.0)
                (Contains-get_or c.args.tags.now c.loop-tag.tag-index 0 c.loop-tag-test.true),
            h.1,
          ))
          c.in_ok-put_copy.ensures.adds;
      there = copied-more c.args.file.now c.args.tags.now c.loop-tag.tag-index c.loop-tag.tables.items c.put_copy.new.tables.items
          c.in_ok-put_copy.ensures.adds.kept c.in_ok-put_copy.ensures.there c.loop-tag.invariant.there;
      none = λ tag none. c.in_ok-put_copy.ensures.counts.none tag none ∙ c.loop-tag.invariant.none tag none;
      most = copied-counts c.args.file.now c.args.tags.now c.loop-tag.tag-index c.args.tables.now.items c.loop-tag.tables.items
          c.put_copy.new.tables.items c.loop-tag-test.true c.in_ok-put_copy.ensures.counts c.loop-tag.invariant.most;
    }

pub returns-clause-counts : goal.returns-clause-counts
returns-clause-counts c = record {
  none = c.loop-tag.invariant.none;
  most = copied-end c.args.tags.now c.loop-tag.tag-index c.args.tables.now.items c.loop-tag.tables.items c.loop-tag-test.false
      c.loop-tag.invariant.most;
}
