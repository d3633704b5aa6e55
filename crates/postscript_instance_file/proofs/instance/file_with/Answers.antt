use Rattle.std.proofs.Common.{ℕ, ◌<◌, sym, subst, List}
use Rattle.std.specs.List.Sorted.{IsPermutation}
use Rattle.std.proofs.lemmas.List.Sorted.{length_permutation}
use Rattle.std.proofs.lemmas.Result.{err_from_is_err_and}
use Rattle.postscript_instance_file.specs.Refusals.{refused}
use Rattle.postscript_sfnt_write.specs.declared.file.Table.{Table}
use Rattle.postscript_instance_file.proofs.instance.file_with.Goals as goal

pub returns-clause-file : goal.returns-clause-file
returns-clause-file c = record {
  sorted = c.as_slice.result.now;
  moved =
      subst (λ (ys : List Table). IsPermutation c.args.tables.now ys) (sym c.as_slice.ensures.value)
      (subst (λ (xs : List Table). IsPermutation xs c.sort_by_key.new.self.items) c.in_ok-sorted.ensures.items
      c.in_ok-sort_by_key.ensures.permutation);
  opens = c.in_ok-file.ensures.opens;
  lent = c.in_ok-file.ensures.lent;
}

pub returns-clause-sound : goal.returns-clause-sound
returns-clause-sound c some =
    let moved : IsPermutation c.args.tables.now c.as_slice.result.now =
    subst (λ (ys : List Table). IsPermutation c.args.tables.now ys) (sym c.as_slice.ensures.value)
    (subst (λ (xs : List Table). IsPermutation xs c.sort_by_key.new.self.items) c.in_ok-sorted.ensures.items
    c.in_ok-sort_by_key.ensures.permutation) in
    c.in_ok-file.ensures.sound (subst (λ (n : ℕ). 0 < n) (sym (length_permutation _ _ moved)) some)

pub returns-in_err-file-clause-why : goal.returns-in_err-file-clause-why
returns-in_err-file-clause-why c =
    let error = err_from_is_err_and c.from_residual-in_err-file.result c.from_residual-in_err-file.ensures.1 in
    let moved =
    subst (λ (ys : List Table). IsPermutation c.args.tables.now ys) (sym c.as_slice.ensures.value)
    (subst (λ (xs : List Table). IsPermutation xs c.sort_by_key.new.self.items) c.in_ok-sorted.ensures.items
    c.in_ok-sort_by_key.ensures.permutation) in
    rw (error.1) (refused c.as_slice.result.now _ moved c.in_err-file.ensures.refused error.2)
