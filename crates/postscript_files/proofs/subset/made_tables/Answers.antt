use Rattle.std.proofs.Common.{subst, ℕ, List}
use Rattle.postscript_files.specs.Faces.{cmap_tag, hhea_tag, hmtx_tag, maxp_tag, post_tag}
use Rattle.postscript_files.specs.Listed.{Puts}
use Rattle.postscript_files.proofs.Listing.{made-six}
use Rattle.postscript_files.proofs.subset.made_tables.Goals as goal

pub returns-clause-made : goal.returns-clause-made
returns-clause-made c =
    made-six c.args.cff.now c.args.made.now c.new-tables.result.items c.put.new.tables.items c.put-2.new.tables.items
    c.put-3.new.tables.items c.put-4.new.tables.items c.put-5.new.tables.items c.put-6.new.tables.items c.new-tables.ensures.items
    c.in_ok-put.ensures.put
    (subst (λ (b : List ℕ). Puts c.put.new.tables.items cmap_tag b c.put-2.new.tables.items) c.as_slice.ensures.value c.in_ok-put-2.ensures.put)
    (subst (λ (b : List ℕ). Puts c.put-2.new.tables.items hhea_tag b c.put-3.new.tables.items) c.as_slice-2.ensures.value c.in_ok-put-3.ensures.put)
    (subst (λ (b : List ℕ). Puts c.put-3.new.tables.items hmtx_tag b c.put-4.new.tables.items) c.as_slice-3.ensures.value c.in_ok-put-4.ensures.put)
    (subst (λ (b : List ℕ). Puts c.put-4.new.tables.items maxp_tag b c.put-5.new.tables.items) c.as_slice-4.ensures.value c.in_ok-put-5.ensures.put)
    (subst (λ (b : List ℕ). Puts c.put-5.new.tables.items post_tag b c.put-6.new.tables.items) c.as_slice-5.ensures.value c.in_ok-put-6.ensures.put)
