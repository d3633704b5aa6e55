use Rattle.std.proofs.Common.{◌≡◌, ◌∙◌, ap, sym, subst, ℕ, ◌+◌, List}
use Rattle.std.specs.Prelude.{Some, slice_get, ◌==◌, if◌then◌else◌}
use Rattle.std.proofs.lemmas.Option.{slice_get-get_or}
use Rattle.postscript_files.specs.Listed.{Puts}
use Rattle.postscript_files.specs.Copies.{tagged}
use Rattle.postscript_files.specs.Subsets.{IsGivenTag}
use Rattle.postscript_files.specs.declared.choice.Given.{Given}
use Rattle.postscript_files.proofs.Listing.{adds-more, given-more}
use Rattle.postscript_files.proofs.Twice.{given-counts, given-end}
use Rattle.postscript_files.proofs.subset.put_given.Goals as goal

pub loop-table-preserved : goal.loop-table-preserved
loop-table-preserved c =
    let is : slice_get c.args.given.now c.loop-table.table-index ≡ Some c.table-item.result =
    slice_get-get_or c.args.given.now c.loop-table.table-index c.table-item.result c.loop-table-test.true ∙ ap Some (sym c.table-item.is) in
    let put : Puts c.loop-table.tables.items c.table-item.result.tag c.table-item.result.bytes.items c.put.new.tables.items =
    subst (λ (b : List ℕ). Puts c.loop-table.tables.items c.table-item.result.tag b c.put.new.tables.items) c.as_slice.ensures.value
    c.in_ok-put.ensures.put in
    record {
      adds = adds-more c.args.tables.now.items c.loop-table.tables.items c.put.new.tables.items (IsGivenTag c.args.given.now)
          (λ t. t ≡ c.table-item.result.tag) c.loop-table.invariant.adds
          (λ t h. (c.loop-table.table-index, c.table-item.result, is, sym h)) c.in_ok-put.ensures.put.adds;
      there = given-more c.args.given.now c.loop-table.table-index c.table-item.result c.loop-table.tables.items c.put.new.tables.items is put
          c.loop-table.invariant.there;
      counts = given-counts c.args.given.now c.loop-table.table-index c.table-item.result c.args.tables.now.items c.loop-table.tables.items
          c.put.new.tables.items c.loop-table-test.true
          (subst (λ (g : Given). (tag : ℕ) → tagged c.put.new.tables.items tag ≡ tagged c.loop-table.tables.items tag
          + (if g.tag == tag then 1 else 0)) c.table-item.is put.times) c.loop-table.invariant.counts;
    }

pub returns-clause-counts : goal.returns-clause-counts
returns-clause-counts c =
    given-end c.args.given.now c.loop-table.table-index c.args.tables.now.items c.loop-table.tables.items c.loop-table-test.false
    c.loop-table.invariant.counts
