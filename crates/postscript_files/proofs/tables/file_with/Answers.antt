use Rattle.std.proofs.Common.{sym, subst, List, rules}
use Rattle.std.specs.List.Sorted.{IsNonDecreasingBy, IsPermutation}
use Rattle.std.proofs.lemmas.List.Sorted.{IsNonDecreasingBy-from_sort_by_key}
use Rattle.postscript_sfnt_write.specs.declared.file.Table.{Table}
use Rattle.postscript_files.specs.Copies.{NoNeighbours}
use Rattle.postscript_files.proofs.Filing.{if-not-written, if-written, tags-rise}
use Rattle.postscript_files.proofs.Twice.{if-once}
use Rattle.postscript_files.proofs.tables.file_with.Goals as goal

pub write_sorted-requires : goal.write_sorted-requires
write_sorted-requires c =
    let e = c.as_slice.ensures.value in
    let f = c.as_slice-in-None.ensures.value in
    let up : IsNonDecreasingBy (λ (t : Table). t.tag) c.sort_by_key.new.self.items =
    IsNonDecreasingBy-from_sort_by_key (λ (t : Table). t.tag) _ c.in_ok-sort_by_key.ensures.sorted (λ a r q k. search rules) in
    tags-rise c.as_slice-in-None.result.now (subst (λ (xs : List Table). IsNonDecreasingBy (λ t. t.tag) xs) (sym f) up)
    (subst (λ (xs : List Table). NoNeighbours xs) (sym f) (subst (λ (xs : List Table). NoNeighbours xs) e c.in-None.ensures.none))

pub returns-clause-file : goal.returns-clause-file
returns-clause-file c =
    let moved : IsPermutation c.args.tables.now c.as_slice-in-None.result.now =
    subst (λ (ys : List Table). IsPermutation c.args.tables.now ys) (sym c.as_slice-in-None.ensures.value)
    (subst (λ (xs : List Table). IsPermutation xs c.sort_by_key.new.self.items) c.in_ok-sorted.ensures.items
    c.in_ok-sort_by_key.ensures.permutation) in
    if-written c.write_sorted.result c.args.tables.now c.as_slice-in-None.result.now moved c.write_sorted.ensures.opens c.write_sorted.ensures.lent
    c.write_sorted.ensures.size c.write_sorted.ensures.sound

pub returns-clause-refused : goal.returns-clause-refused
returns-clause-refused c =
    let moved : IsPermutation c.args.tables.now c.as_slice-in-None.result.now =
    subst (λ (ys : List Table). IsPermutation c.args.tables.now ys) (sym c.as_slice-in-None.ensures.value)
    (subst (λ (xs : List Table). IsPermutation xs c.sort_by_key.new.self.items) c.in_ok-sorted.ensures.items
    c.in_ok-sort_by_key.ensures.permutation) in
    if-not-written c.write_sorted.result c.args.tables.now c.as_slice-in-None.result.now moved c.write_sorted.ensures.refused

pub returns-in-Some-clause-refused : goal.returns-in-Some-clause-refused
returns-in-Some-clause-refused c =
    let moved : IsPermutation c.args.tables.now c.as_slice.result.now =
    subst (λ (ys : List Table). IsPermutation c.args.tables.now ys) (sym c.as_slice.ensures.value)
    (subst (λ (xs : List Table). IsPermutation xs c.sort_by_key.new.self.items) c.in_ok-sorted.ensures.items
    c.in_ok-sort_by_key.ensures.permutation) in
    (c.as_slice.result.now, moved, c.in-Some.ensures.found)

pub returns-clause-once : goal.returns-clause-once
returns-clause-once c =
    let e = c.as_slice.ensures.value in
    let f = c.as_slice-in-None.ensures.value in
    let up : IsNonDecreasingBy (λ (t : Table). t.tag) c.sort_by_key.new.self.items =
    IsNonDecreasingBy-from_sort_by_key (λ (t : Table). t.tag) _ c.in_ok-sort_by_key.ensures.sorted (λ a r q k. search rules) in
    let rise = tags-rise c.as_slice-in-None.result.now (subst (λ (xs : List Table). IsNonDecreasingBy (λ t. t.tag) xs) (sym f) up)
    (subst (λ (xs : List Table). NoNeighbours xs) (sym f) (subst (λ (xs : List Table). NoNeighbours xs) e c.in-None.ensures.none)) in
    let moved : IsPermutation c.args.tables.now c.as_slice-in-None.result.now =
    subst (λ (ys : List Table). IsPermutation c.args.tables.now ys) (sym c.as_slice-in-None.ensures.value)
    (subst (λ (xs : List Table). IsPermutation xs c.sort_by_key.new.self.items) c.in_ok-sorted.ensures.items
    c.in_ok-sort_by_key.ensures.permutation) in
    if-once c.write_sorted.result c.args.tables.now c.as_slice-in-None.result.now moved rise
