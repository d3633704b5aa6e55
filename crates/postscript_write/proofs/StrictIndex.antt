-- An INDEX whose items are not empty is one whose offsets rise, and the converse.
use Rattle.std.proofs.Common.{◌≡◌, refl, sym, ap, subst, ◌∙◌, ℕ, zero, suc, ◌+◌, ◌-◌, ◌*◌, ◌≤◌, ◌<◌, List, [], ◌∷◌, length, take, drop, map, All, slice_range, length-take, length-take-le, length-drop, inl, inr, arith}
use Rattle.std.specs.List.{range_with_len}
use Rattle.std.proofs.lemmas.List.Elements.{All-nil, All-cons, All-head, All-tail}
use Rattle.postscript_base.specs.Index as base
use Rattle.postscript_base.specs.Index.{number_at, count_at, size_at, offset_at, place_of, item_at, items_at}
use Rattle.postscript_compact1.specs.Index.{Index, empty}
use Rattle.postscript_compact1.specs.IndexAt as strict
use Rattle.postscript_compact1.specs.IndexAt.{NumberAt, OffsetsAt, ItemsFrom, ItemsAt, RisesFrom, AreOffsets, last_of, before_data}

-- an item that is not empty
abbrev HasBytes : List ℕ → Type 0
HasBytes item = 0 < length item

number_stands : (bytes : List ℕ) (place size : ℕ) → place + size ≤ length bytes → NumberAt bytes place size (number_at bytes place size)
unfolding number_at
number_stands bytes place size within = (within, refl)

-- so many offsets behind offset i
highs : List ℕ → (start size i many : ℕ) → List ℕ
highs bytes start size i zero = []
highs bytes start size i (suc many) = offset_at bytes start size (i + 1) ∷ highs bytes start size (i + 1) many

highs_many : (bytes : List ℕ) (start size i many : ℕ) → length (highs bytes start size i many) ≡ many
unfolding highs
highs_many bytes start size i zero = refl
highs_many bytes start size i (suc many) = ap suc (highs_many bytes start size (i + 1) many)

highs_last : (bytes : List ℕ) (start size count i many : ℕ) → i + many ≡ count →
    last_of (offset_at bytes start size i) (highs bytes start size i many) ≡ offset_at bytes start size count
unfolding highs
highs_last bytes start size count i zero whole = ap (λ n. offset_at bytes start size n) (omega (arith, whole))
highs_last bytes start size count i (suc many) whole = highs_last bytes start size count (i + 1) many (omega (arith, whole))

offsets_stand : (bytes : List ℕ) (start size i many : ℕ) → start + (i + many + 1) * size ≤ length bytes →
    OffsetsAt bytes (start + i * size) size (offset_at bytes start size i ∷ highs bytes start size i many)
unfolding highs
offsets_stand bytes start size i zero within = (number_stands bytes (start + i * size) size (omega (arith, within)), tt)
offsets_stand bytes start size i (suc many) within =
    let on : start + (i + 1) * size ≡ start + i * size + size = omega arith in
    let rest = offsets_stand bytes start size (i + 1) many (omega (arith, within)) in (
      number_stands bytes (start + i * size) size (omega (arith, within)),
      subst (λ p. OffsetsAt bytes p size (offset_at bytes start size (i + 1) ∷ highs bytes start size (i + 1) many)) on rest,
    )

-- a slice that is not empty ends behind its start
slice_rises : (bytes : List ℕ) (low high : ℕ) → 0 < length (slice_range bytes low high) → low < high
slice_rises bytes low high some =
    let long = length-take (high - low) (drop low bytes) in
    omega (arith, some, long)

-- where no item is empty, each offset is greater than the one before it
offsets_rise : (bytes : List ℕ) (place size count i many : ℕ) →
    All HasBytes (map (item_at bytes (place + 3) size count) (range_with_len i many)) →
    RisesFrom (offset_at bytes (place + 3) size i) (highs bytes (place + 3) size i many)
unfolding highs
offsets_rise bytes place size count i zero some = tt
offsets_rise bytes place size count i (suc many) some =
    let item : List ℕ = item_at bytes (place + 3) size count i in
    let behind : List (List ℕ) = map (item_at bytes (place + 3) size count) (range_with_len (i + 1) many) in
    let first : HasBytes item = All-head HasBytes item behind some in
    let low : ℕ = place_of bytes (place + 3) size count i in
    let high : ℕ = place_of bytes (place + 3) size count (i + 1) in
    let places : low < high = slice_rises bytes low high first in (
      omega (arith, places),
      offsets_rise bytes place size count (i + 1) many (All-tail HasBytes item behind some),
    )

rises_to_last : (bytes : List ℕ) (start size count i many : ℕ) → i + many ≡ count → base.AreInOrder bytes start size count →
    offset_at bytes start size i ≤ offset_at bytes start size count
rises_to_last bytes start size count i zero whole order =
    let here : i ≡ count = omega (arith, whole) in
    omega (arith, ap (λ n. offset_at bytes start size n) here)
rises_to_last bytes start size count i (suc many) whole order =
    let up : offset_at bytes start size i ≤ offset_at bytes start size (i + 1) = order.rise i (omega (arith, whole)) in
    let rest : offset_at bytes start size (i + 1) ≤ offset_at bytes start size count =
    rises_to_last bytes start size count (i + 1) many (omega (arith, whole)) order in
    omega (arith, up, rest)

-- each item is the slice between its offset and the next, and none goes past the end
items_stand : (bytes : List ℕ) (place size count i many : ℕ) → i + many ≡ count → base.AreInOrder bytes (place + 3) size count →
    place_of bytes (place + 3) size count count ≤ length bytes →
    ItemsFrom bytes (place + 2 + (count + 1) * size) (offset_at bytes (place + 3) size i) (highs bytes (place + 3) size i many)
    (map (item_at bytes (place + 3) size count) (range_with_len i many))
unfolding highs
items_stand bytes place size count i zero whole order within = tt
items_stand bytes place size count i (suc many) whole order within =
    let before : ℕ = place + 2 + (count + 1) * size in
    let low : ℕ = offset_at bytes (place + 3) size i in
    let high : ℕ = offset_at bytes (place + 3) size (i + 1) in
    let last : high ≤ offset_at bytes (place + 3) size count =
    rises_to_last bytes (place + 3) size count (i + 1) many (omega (arith, whole)) order in
    let here : place_of bytes (place + 3) size count i ≡ before + low = omega arith in
    let long : place_of bytes (place + 3) size count (i + 1) - place_of bytes (place + 3) size count i ≡ high - low = omega arith in (
      omega (arith, last, within),
      ap (λ n. take n (drop (place_of bytes (place + 3) size count i) bytes)) long ∙ ap (λ p. take (high - low) (drop p bytes)) here,
      items_stand bytes place size count (i + 1) many (omega (arith, whole)) order within,
    )

filled : (bytes : List ℕ) (place : ℕ) (items : List (List ℕ)) (next : ℕ) → base.IsFilled bytes place items next →
    All HasBytes items → (index : Index) × (index.items ≡ items) × strict.IsFilledAt bytes place index next
unfolding items_at
filled bytes place items next is some =
    let laid = is.laid in
    let count : ℕ = count_at bytes place in
    let size : ℕ = size_at bytes place in
    let offsets : List ℕ = offset_at bytes (place + 3) size 0 ∷ highs bytes (place + 3) size 0 count in
    let all : List (List ℕ) = map (item_at bytes (place + 3) size count) (range_with_len 0 count) in
    let some_all : All HasBytes all = subst (λ (xs : List (List ℕ)). All HasBytes xs) is.slices some in
    let first : place + 3 + 0 * size ≡ place + 3 = omega arith in
    let last : last_of 0 offsets ≡ offset_at bytes (place + 3) size count = highs_last bytes (place + 3) size count 0 count (omega arith) in
    let end : place_of bytes (place + 3) size count count ≤ length bytes = omega (arith, laid.behind, laid.within) in (
      record { count = count; offset_size = size; offsets = offsets; items = all },
      sym is.slices,
      record {
        some = laid.some;
        count = number_stands bytes place 2 (omega (arith, laid.offsets));
        size = number_stands bytes (place + 2) 1 (omega (arith, laid.offsets));
        least = laid.least;
        most = laid.most;
        many = omega (arith, highs_many bytes (place + 3) size 0 count);
        offsets = subst (λ p. OffsetsAt bytes p size offsets) first
            (offsets_stand bytes (place + 3) size 0 count (omega (arith, laid.offsets)));
        rise = (is.order.first, offsets_rise bytes place size count 0 count some_all);
        items = items_stand bytes place size count 0 count (omega arith) is.order end;
        behind = omega (arith, laid.behind, last);
      },
    )

-- items that are not empty make an INDEX in place a strict one
pub strict_index : (bytes : List ℕ) (place : ℕ) (items : List (List ℕ)) (next : ℕ) → base.IsIndex bytes place items next →
    All (λ (item : List ℕ). 0 < length item) items → (index : Index) × (index.items ≡ items) × strict.IsIndex bytes place index next
unfolding number_at
strict_index bytes place items next (inl none) some =
    (empty, sym none.no_items, inl ((none.within, sym none.none), refl, none.behind))
strict_index bytes place items next (inr is) some =
    let (index, same, stands) = filled bytes place items next is some in
    (index, same, inr stands)

some_from : (bytes : List ℕ) (before low : ℕ) (offsets : List ℕ) (items : List (List ℕ)) →
    ItemsFrom bytes before low offsets items → RisesFrom low offsets → All HasBytes items
some_from bytes before low [] [] held up = All-nil HasBytes
some_from bytes before low (high ∷ offsets) (item ∷ items) held up =
    let within : before + high ≤ length bytes = held.0 in
    let rise : low < high = up.0 in
    let rest : length (drop (before + low) bytes) ≡ length bytes - (before + low) = length-drop (before + low) bytes in
    let long : length item ≡ high - low =
    ap length held.1 ∙ length-take-le (high - low) (drop (before + low) bytes) (omega (arith, within, rise, rest)) in
    All-cons HasBytes item items (omega (arith, long, rise)) (some_from bytes before high offsets items held.2 up.1)
some_from bytes before low [] (item ∷ items) held up = absurd held
some_from bytes before low (high ∷ offsets) [] held up = absurd held

some_at : (bytes : List ℕ) (before : ℕ) (offsets : List ℕ) (items : List (List ℕ)) →
    ItemsAt bytes before offsets items → AreOffsets offsets → All HasBytes items
some_at bytes before [] items held up = absurd held
some_at bytes before (low ∷ offsets) items held up = some_from bytes before low offsets items held up.1

-- the items of a strict INDEX are not empty
pub items_some : (bytes : List ℕ) (place : ℕ) (index : Index) (next : ℕ) → strict.IsIndex bytes place index next →
    All (λ (item : List ℕ). 0 < length item) index.items
items_some bytes place index next (inl none) = subst (λ (i : Index). All HasBytes i.items) (sym none.1) (All-nil HasBytes)
items_some bytes place index next (inr is) = some_at bytes (before_data place index) index.offsets index.items is.items is.rise
