use Rattle.std.proofs.Common.{◌≡◌, sym, subst, List, ℕ, eqb}
use Rattle.std.specs.List.{Contains, dedup}
use Rattle.std.specs.List.Sorted.{IsStrictlyIncreasing}
use Rattle.std.proofs.lemmas.List.Filters.{dedup_is}
use Rattle.std.proofs.lemmas.List.Kept.{Contains-dedup_nat, Contains-from_dedup}
use Rattle.std.proofs.lemmas.List.Sorted.{Contains-permutation, IsPermutation-sym}
use Rattle.std.proofs.lemmas.Map.Keys.{IsStrictlyIncreasing-dedup}
use Rattle.postscript_files.proofs.lookup.sorted_chars.Goals as goal

pub returns-clause-rise : goal.returns-clause-rise
returns-clause-rise c =
    subst IsStrictlyIncreasing (sym (dedup_is eqb _ _ c.dedup.ensures.filtered)) (IsStrictlyIncreasing-dedup _ c.in_ok-sort.ensures.sorted)

pub returns-clause-same : goal.returns-clause-same
returns-clause-same c = λ char.
    let sorted : List ℕ = c.sort.new.self.items in
    let kept : c.dedup.new.self.items ≡ dedup eqb sorted = dedup_is eqb _ _ c.dedup.ensures.filtered in
    let items : c.in_ok-all.all.items ≡ c.args.chars.now = c.in_ok-all.ensures.items in (
      λ h. subst (λ xs. Contains xs char) items
          (Contains-permutation _ _ char (IsPermutation-sym _ _ c.in_ok-sort.ensures.permutation)
          (Contains-from_dedup eqb sorted char (subst (λ xs. Contains xs char) kept h))),
      λ h. subst (λ xs. Contains xs char) (sym kept)
          (Contains-dedup_nat sorted char
          (Contains-permutation _ _ char c.in_ok-sort.ensures.permutation (subst (λ xs. Contains xs char) (sym items) h))),
    )
