-- Items by their places.
use Rattle.std.proofs.Math.Seq.{drop-cons}
use Rattle.std.proofs.lemmas.List.{drop_all}
use Rattle.std.proofs.lemmas.List.FromFn.{length-map-range_with_len, get_or-map-range_with_len}
use Rattle.std.proofs.lemmas.Option.{slice_get-get_or, slice_get_past, get_or_from_slice_get}
use Rattle.std.proofs.Common.{◌≡◌, ap, sym, ◌∙◌, ℕ, ◌<◌, ◌≤◌, List, [], length, Some, None, get_or, drop, ◌∷◌, ◌+◌, add-one, arith, refl, subst}
use Rattle.std.specs.List.{slice_get}
use Rattle.postscript_base.specs.Index.{item_at, items_at}

pub no_items : (bytes : List ℕ) (start size : ℕ) → items_at bytes start size 0 ≡ []
unfolding items_at
no_items bytes start size = refl

pub length_items : (bytes : List ℕ) (start size count : ℕ) → length (items_at bytes start size count) ≡ count
unfolding items_at
length_items bytes start size count = length-map-range_with_len (item_at bytes start size count) 0 count

pub item_at_place : (bytes : List ℕ) (start size count i : ℕ) → i < count →
    slice_get (items_at bytes start size count) i ≡ Some (item_at bytes start size count i)
unfolding items_at
item_at_place bytes start size count i h =
    slice_get-get_or (items_at bytes start size count) i [] (subst (λ n. i < n) (sym (length_items bytes start size count)) h)
    ∙ ap (λ item. Some item) (get_or-map-range_with_len (item_at bytes start size count) 0 count i i [] h (omega arith))

pub item_past : (bytes : List ℕ) (start size count i : ℕ) → count ≤ i → slice_get (items_at bytes start size count) i ≡ None
item_past bytes start size count i h =
    slice_get_past (items_at bytes start size count) i (subst (λ n. n ≤ i) (sym (length_items bytes start size count)) h)

pub item_read : (bytes : List ℕ) (start size count i : ℕ) → i < count →
    item_at bytes start size count i ≡ get_or (items_at bytes start size count) i (item_at bytes start size count i)
item_read bytes start size count i h =
    sym (get_or_from_slice_get (items_at bytes start size count) i (item_at bytes start size count i) (item_at bytes start size count i)
    (item_at_place bytes start size count i h))

pub within : (bytes : List ℕ) (start size count i : ℕ) → i < length (items_at bytes start size count) → i < count
within bytes start size count i h = subst (λ n. i < n) (length_items bytes start size count) h

drop-next : (items : List (List ℕ)) (i : ℕ) (item : List ℕ) → i < length items → drop i items ≡ get_or items i item ∷ drop (i + 1) items
drop-next items i item h = drop-cons items i item h ∙ ap (λ k. get_or items i item ∷ drop k items) (sym (add-one i))

-- what is left from a place on: the item there, and what is left behind it
pub rest_from : (items : List (List ℕ)) (i : ℕ) (item : List ℕ) → i < length items → item ≡ get_or items i item →
    drop i items ≡ item ∷ drop (i + 1) items
rest_from items i item h is = drop-next items i item h ∙ ap (λ x. x ∷ drop (i + 1) items) (sym is)

pub rest_past : (items : List (List ℕ)) (i : ℕ) → length items ≤ i → drop i items ≡ []
rest_past items i h = drop_all i items h
