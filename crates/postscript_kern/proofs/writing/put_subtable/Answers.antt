use Rattle.std.proofs.Common.{◌∙◌, ◌++◌, ap, subst, ℕ, List, flat_map, append_assoc, length}
use Rattle.postscript_kern.specs.Written.{IsSelector, head_of, pair_text}
use Rattle.postscript_kern.specs.Numbers.{uint16}
use Rattle.postscript_kern.proofs.Listing.{head-is}
use Rattle.postscript_kern.proofs.writing.put_subtable.Goals as goal

pub returns-clause-put : goal.returns-clause-put
returns-clause-put c =
    let pairs = c.args.pairs.now.entries in
    let power = c.power_within-power.result in
    let old : List ℕ = c.args.out.now.items in
    let rows : List ℕ = flat_map pair_text pairs in
    record {
      selector = power.1;
      is_selector = subst (λ (n : ℕ). IsSelector n power.1) c.len-count.ensures.len c.power_within-power.ensures.exact;
      is = c.in_ok-put_pairs.ensures
          ∙ ap (λ (xs : List ℕ). xs ++ rows) (c.in_ok-put_words.ensures
          ∙ ap (λ (xs : List ℕ). old ++ xs)
          (head-is c.args.coverage c.len-count.result (length pairs) power.0 power.1 c.len-count.ensures.len c.power_within-power.ensures.power))
          ∙ append_assoc old (flat_map uint16 (head_of c.args.coverage (length pairs) power.1)) rows;
    }
