-- The first dictionary of a font set.
use Rattle.std.proofs.Common.{◌≡◌, ◌∙◌, sym, ap, subst, inl, inr, ℕ, zero, suc, ◌+◌, ◌-◌, ◌≤◌, List, [], ◌∷◌, length, length-take, length-drop, drop, map, Some, None, slice_get, arith}
use Rattle.std.specs.List.{range_with_len, slice_range}
use Rattle.postscript_base.specs.Index.{IsOpened, count_at, item_at, items_at, number_at, place_of, size_at}
use Rattle.postscript_base.specs.Tape.Outcome.{Got}
use Rattle.postscript_base.proofs.Opening.{opened_is}
use Rattle.postscript_view.specs.Layout.{AreTables}
use Rattle.postscript_view.specs.Contents.{Tables}

both_same : {A : Type 0} (x y : A) (n m : ℕ) → Got x n ≡ Got y m → (x ≡ y) × (n ≡ m)
both_same x y n m e = (cc, cc)

-- one INDEX stands at a place
pub same_open : (bytes : List ℕ) (place : ℕ) (a b : List (List ℕ)) (n m : ℕ) → IsOpened bytes place a n → IsOpened bytes place b m →
    (a ≡ b) × (n ≡ m)
same_open bytes place a b n m x y = both_same a b n m (sym (opened_is bytes place a n x) ∙ opened_is bytes place b m y)

-- the names end where they do
pub names_end : (bytes : List ℕ) (tables : Tables) (start next : ℕ) (names : List (List ℕ))
    (are : AreTables bytes (number_at bytes 2 1) 0 tables) → start ≡ number_at bytes 2 1 → IsOpened bytes start names next →
    next ≡ are.names_next
names_end bytes tables start next names are is opens =
    (same_open bytes start names tables.names next are.names_next opens
    (subst (λ p. IsOpened bytes p tables.names are.names_next) (sym is) are.are_names)).1

-- and the first dictionary is the font's
pub dictionaries_are : (bytes : List ℕ) (tables : Tables) (start next behind : ℕ) (names dictionaries : List (List ℕ))
    (are : AreTables bytes (number_at bytes 2 1) 0 tables) → start ≡ number_at bytes 2 1 →
    IsOpened bytes start names next → IsOpened bytes next dictionaries behind → slice_get dictionaries 0 ≡ Some are.item
dictionaries_are bytes tables start next behind names dictionaries are is opens second =
    let at = names_end bytes tables start next names are is opens in
    let same = (same_open bytes next dictionaries are.dictionaries behind are.dictionaries_next second
    (subst (λ p. IsOpened bytes p are.dictionaries are.dictionaries_next) (sym at) are.are_dictionaries)).0 in
    ap (λ (xs : List (List ℕ)). slice_get xs 0) same ∙ are.there

shorter : (n : ℕ) (f : ℕ → List ℕ) (xs : List ℕ) (i : ℕ) (x : List ℕ) → ((k : ℕ) → length (f k) ≤ n) → slice_get (map f xs) i ≡ Some x →
    length x ≤ n
shorter n f [] i x each at = let never : None ≡ Some x = at in absurd (cc)
shorter n f (k ∷ ks) zero x each at =
    let both : Some (f k) ≡ Some x = at in
    let same : f k ≡ x = cc in
    subst (λ (ys : List ℕ). length ys ≤ n) same (each k)
shorter n f (k ∷ ks) (suc i) x each at = shorter n f ks i x each at

slice_shorter : (bytes : List ℕ) (from to : ℕ) → length (slice_range bytes from to) ≤ length bytes
slice_shorter bytes from to = omega (arith, length-take (to - from) (drop from bytes), length-drop from bytes)

items_within : (bytes : List ℕ) (start size count i : ℕ) (item : List ℕ) → slice_get (items_at bytes start size count) i ≡ Some item →
    length item ≤ length bytes
unfolding items_at
items_within bytes start size count i item at =
    shorter (length bytes) (item_at bytes start size count) (range_with_len 0 count) i item
    (λ k. slice_shorter bytes (place_of bytes start size count k) (place_of bytes start size count (k + 1))) at

-- an item has no more bytes than those that it stands in
pub item_within : (bytes : List ℕ) (place : ℕ) (items : List (List ℕ)) (next i : ℕ) (item : List ℕ) → IsOpened bytes place items next →
    slice_get items i ≡ Some item → length item ≤ length bytes
item_within bytes place items next i item (inl empty) at =
    let never : None ≡ Some item = subst (λ (xs : List (List ℕ)). slice_get xs i ≡ Some item) empty.no_items at in
    absurd (cc)
item_within bytes place items next i item (inr spread) at =
    items_within bytes (place + 3) (size_at bytes place) (count_at bytes place) i item
    (subst (λ (xs : List (List ℕ)). slice_get xs i ≡ Some item) spread.slices at)
