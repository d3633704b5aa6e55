use Rattle.std.proofs.Common.{◌≡◌, ◌∙◌, ◌++◌, ap, subst, ℕ, List}
use Rattle.std.specs.List.{filter}
use Rattle.std.specs.List.Sorted.{IsPermutation}
use Rattle.postscript_shaping.specs.Computing.{base, compose, is_composed, is_long, with_parts}
use Rattle.postscript_shaping.proofs.Using.{are-used}
use Rattle.postscript_shaping.proofs.used.shaped.Goals as goal

pub returns : goal.returns
returns c =
    let mapped = c.args.mapped.now in
    let kept = c.in_ok-kept.kept.items in
    let whole = c.in_ok-whole.whole.items in
    let own = c.in_ok-own.own.items in
    let forms = c.in_ok-forms.forms.items in
    let all = c.in_ok-base.base.items in
    let parts = c.in_ok-parts.parts.items in
    let known = c.in_ok-known.known.items in
    let wholes : whole ≡ with_parts kept = c.in_ok-whole.ensures ∙ ap with_parts c.deref.ensures.value in
    let owns : IsPermutation whole own = subst (λ (xs : List ℕ). IsPermutation xs own) c.deref-2.ensures.value c.in_ok-own.ensures.same in
    let formed : forms ≡ base mapped kept own = c.in_ok-forms.ensures ∙ ap (λ (xs : List ℕ). base mapped xs c.deref-4.result.now) c.deref-3.ensures.value
    ∙ ap (base mapped kept) c.deref-4.ensures.value in
    let bases : IsPermutation forms all = subst (λ (xs : List ℕ). IsPermutation xs all) c.deref-5.ensures.value c.in_ok-base.ensures.same in
    let more : parts ≡ with_parts all = c.in_ok-parts.ensures ∙ ap with_parts c.deref-6.ensures.value in
    let knowns : IsPermutation parts known = subst (λ (xs : List ℕ). IsPermutation xs known) c.deref-7.ensures.value c.in_ok-known.ensures.same in
    are-used mapped c.args.chars.now kept whole own forms all parts known c.put_composed.new.all.items
    c.in_ok-kept.ensures.same wholes owns formed bases more knowns
    (subst (λ (ks : List ℕ). c.put_composed.new.all.items ≡ forms ++ filter (is_composed (compose mapped all) ks (filter is_long all)) mapped)
    c.deref-9.ensures.value
    (subst (λ (bs : List ℕ). c.put_composed.new.all.items ≡ forms ++ filter (is_composed (compose mapped bs) c.deref-9.result.now (filter is_long bs)) mapped)
    c.deref-8.ensures.value c.in_ok-put_composed.ensures))
