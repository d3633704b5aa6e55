use Rattle.std.proofs.Common.{◌≡◌, ◌<◌, ◌∙◌, sym, subst, true, false, ℕ, List, length, get_or, arith}
use Rattle.std.specs.Prelude.{◌≢◌, slice_set}
use Rattle.std.specs.List.{AllPairs, Contains}
use Rattle.std.proofs.lemmas.List.{length-set}
use Rattle.std.proofs.lemmas.List.Quantifiers.{all_pairs_push}
use Rattle.postscript_layout_write.specs.Reaching.{AreNoted}
use Rattle.postscript_layout_write.specs.Substituting.{is_chosen}
use Rattle.postscript_layout_write.proofs.Reaching.{adds-none, chosen-there, noted-more, there-chosen}
use Rattle.postscript_layout_write.proofs.Reading.{any-default}
use Rattle.postscript_layout_write.proofs.called.Lookups.add.Goals as goal

pub invariant_of-self-then-not-index : goal.invariant_of-self-then-not-index
invariant_of-self-then-not-index c =
    let old = c.args.self.now in
    let marks = old.marks.items in
    let lookup = c.args.lookup in
    let xs = old.lookups.items in
    let many = old.many in
    let within : lookup < length marks = (let small = c.requires in omega (arith, many, small)) in
    let new : is_chosen xs lookup ≡ false =
    sym (old.noted lookup) ∙ any-default marks lookup false _ within ∙ sym c.index.ensures ∙ c.if-not-index.true in
    record {
      many = length-set marks lookup true ∙ many;
      noted = subst (λ (ys : List ℕ). AreNoted (slice_set marks lookup true) ys) (sym c.in_ok-push.ensures.items)
          (noted-more marks xs lookup within old.noted);
      once = subst (λ (ys : List ℕ). AllPairs (λ x y. x ≢ y) ys) (sym c.in_ok-push.ensures.items)
          (all_pairs_push (λ x y. x ≢ y) xs lookup old.once (λ k d less is. (let there = there-chosen xs lookup k less (any-default xs k 0 d less ∙ is) in absurd (cc))));
    }

pub returns-else-not-index-clause-added : goal.returns-else-not-index-clause-added
returns-else-not-index-clause-added c =
    let old = c.args.self.now in
    let marks = old.marks.items in
    let lookup = c.args.lookup in
    let many = old.many in
    let within : lookup < length marks = (let small = c.requires in omega (arith, many, small)) in
    let set : get_or marks lookup false ≡ true = any-default marks lookup false _ within ∙ sym c.index.ensures ∙ c.if-not-index.false in
    adds-none (λ m. m ≡ lookup) old.lookups.items (λ m is. subst (λ n. Contains old.lookups.items n) (sym is)
    (chosen-there old.lookups.items lookup (sym (old.noted lookup) ∙ set)))
