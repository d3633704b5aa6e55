-- An INDEX is read exactly where one stands.
use Rattle.std.proofs.Common.{◌≡◌, pos, refl, sym, ap, subst, ℕ, zero, suc, ◌+◌, ◌-◌, ◌*◌, ◌≤◌, ◌<◌, Bool, true, false, ◌||◌, ◌==◌, nat_lt, if◌then◌else◌, Option, Some, None, List, [], ◌∷◌, length, take, drop, map, length-take, length-drop, ◌⊎◌, inl, inr, arith}
use Rattle.std.proofs.lemmas.Bool.Decides.{nat_tests}
use Rattle.postscript_base.specs.Compact1.Offset.{offset, rises, rising, behind}
use Rattle.postscript_base.specs.Numbers.{number, slice}
use Rattle.postscript_base.specs.Refusal.{Refusal, malformed_index, malformed_offset, unexpected_eof}
use Rattle.postscript_base.specs.Tape.At.{NeedsBytes}
use Rattle.postscript_base.specs.Tape.Loops.{chain, each}
use Rattle.postscript_base.specs.Tape.Onward.{MovesOn, TakesBytes}
use Rattle.postscript_base.specs.Tape.Outcome.{Outcome, Got, Fault, Past, after, fault, pure}
use Rattle.postscript_base.proofs.Onward.{needs_after, number_needs}
use Rattle.postscript_compact1.specs.Index.{Index, empty, filled, index, lengths, lengths_from, offsets}
use Rattle.postscript_compact1.specs.Kinds.{char_strings}
use Rattle.postscript_compact1.specs.IndexAt.{AreOffsets, IsFilledAt, IsIndex, IsWhole, ItemsAt, ItemsFrom, NumberAt, OffsetsAt, RisesFrom, before_data, last_of}

-- what refuses an INDEX: no place past the end is sought
abbrev Refuses : Refusal → Type 0
Refuses refusal = (refusal ≡ unexpected_eof) ⊎ ((refusal ≡ malformed_offset) ⊎ (refusal ≡ malformed_index))

-- a slice that stands there, and the place behind it
abbrev IsSlice : ℕ → List ℕ → ℕ → Outcome (List ℕ) → Type 0
IsSlice count bytes place (Got xs next) = (place + count ≤ length bytes) × (xs ≡ take count (drop place bytes)) × (next ≡ place + count)
IsSlice count bytes place (Fault refusal) = Refuses refusal
IsSlice count bytes place Past = ⊥

is_slice : (count : ℕ) (bytes : List ℕ) (place : ℕ) → 0 < count → IsSlice count bytes place (slice count bytes place)
unfolding slice
is_slice count bytes place some = grind arith

pub slice_got : (count : ℕ) (bytes : List ℕ) (place : ℕ) → place + count ≤ length bytes →
    slice count bytes place ≡ Got (take count (drop place bytes)) (place + count)
unfolding slice
slice_got count bytes place within = let enough : nat_lt (length bytes - place) count ≡ false = grind (arith, nat_tests) in rw enough refl

-- a number that stands there
abbrev pub IsNumber : ℕ → List ℕ → ℕ → Outcome ℕ → Type 0
IsNumber size bytes place (Got n next) = NumberAt bytes place size n × (next ≡ place + size)
IsNumber size bytes place (Fault refusal) = Refuses refusal
IsNumber size bytes place Past = ⊥

pub is_number : (size : ℕ) (bytes : List ℕ) (place : ℕ) → 0 < size → IsNumber size bytes place (number size bytes place)
unfolding number
is_number size bytes place some = grind (arith, is_slice)

pub number_got : (size : ℕ) (bytes : List ℕ) (place n : ℕ) → NumberAt bytes place size n → number size bytes place ≡ Got n (place + size)
unfolding number
number_got size bytes place n h = rw (slice_got size bytes place h.0) (ap (λ n. Got n (place + size)) (sym h.1))

-- an offset that stands there and may follow the last one
abbrev pub Follows : Option ℕ → List ℕ → Type 0
Follows None [] = Unit {0}
Follows None (first ∷ offsets) = (first ≡ 1) × RisesFrom first offsets
Follows (Some last) offsets = RisesFrom last offsets

abbrev pub IsSize : ℕ → Type 0
IsSize size = (1 ≤ size) × (size ≤ 4)

abbrev pub IsRising : ℕ → Option ℕ → List ℕ → ℕ → Outcome ℕ → Type 0
IsRising size last bytes place (Got n next) = IsSize size × (NumberAt bytes place size n × (next ≡ place + size)) × (rises last n ≡ true)
IsRising size last bytes place (Fault refusal) = Refuses refusal
IsRising size last bytes place Past = ⊥

pub sizes : (size : ℕ) → ((size == 0) || nat_lt 4 size) ≡ false → IsSize size
sizes size e = grind arith

pub is_rising : (size : ℕ) (last : Option ℕ) (bytes : List ℕ) (place : ℕ) → IsRising size last bytes place (rising (size, last) bytes place)
unfolding rising offset
is_rising size last bytes place = by ((size == 0) || nat_lt 4 size) refl
  where
    tested : (n next : ℕ) (b : Bool) → rises last n ≡ b → IsSize size → NumberAt bytes place size n × (next ≡ place + size) →
        IsRising size last bytes place ((if b then pure n else fault malformed_index) bytes next)
    tested n next b e sized h = grind arith

    read : (o : Outcome ℕ) → IsSize size → IsNumber size bytes place o →
        IsRising size last bytes place (after o (λ n next. (if rises last n then pure n else fault malformed_index) bytes next))
    read o sized h = grind arith

    by : (b : Bool) → ((size == 0) || nat_lt 4 size) ≡ b →
        IsRising size last bytes place
        (after ((if b then fault malformed_offset else number size) bytes place)
        (λ n next. (if rises last n then pure n else fault malformed_index) bytes next))
    by true e = inr (inl refl)
    by false e = let sized = sizes size e in read (number size bytes place) sized (is_number size bytes place sized.0)

pub rising_got : (size : ℕ) (last : Option ℕ) (bytes : List ℕ) (place n : ℕ) → IsSize size → NumberAt bytes place size n →
    rises last n ≡ true → rising (size, last) bytes place ≡ Got n (place + size)
unfolding rising offset
rising_got size last bytes place n sized h up =
    let least = sized.0 in
    let most = sized.1 in
    let good : ((size == 0) || nat_lt 4 size) ≡ false = grind (arith, nat_tests) in
    rw (good, number_got size bytes place n h, up) refl

-- offsets one behind the other, of which the first may follow the last one
abbrev pub IsChain : ℕ → ℕ → Option ℕ → List ℕ → ℕ → Outcome (List ℕ) → Type 0
IsChain count size last bytes place (Got os next) =
    (length os ≡ count) × OffsetsAt bytes place size os × Follows last os × (next ≡ place + count * size) × (0 < count → IsSize size)
IsChain count size last bytes place (Fault refusal) = Refuses refusal
IsChain count size last bytes place Past = ⊥

pub nothing_follows : (last : Option ℕ) → Follows last []
nothing_follows last = grind arith

pub follows_on : (last : Option ℕ) (n : ℕ) (os : List ℕ) → rises last n ≡ true → RisesFrom n os → Follows last (n ∷ os)
follows_on last n os up rest = grind arith

pub is_chain : (count size : ℕ) (last : Option ℕ) (bytes : List ℕ) (place : ℕ) →
    IsChain count size last bytes place (chain rising behind (size, last) count bytes place)
unfolding chain
is_chain zero size last bytes place = (refl, tt, nothing_follows last, omega arith, λ none. absurd (omega arith))
is_chain (suc count) size last bytes place =
    by (rising (size, last) bytes place) (is_rising size last bytes place) (λ n at. is_chain count size (Some n) bytes at)
  where
    rest : (n at : ℕ) (o : Outcome (List ℕ)) → IsRising size last bytes place (Got n at) → IsChain count size (Some n) bytes at o →
        IsChain (suc count) size last bytes place (after o (λ values next. Got (n ∷ values) next))
    rest n at o h g = grind arith

    by : (o : Outcome ℕ) → IsRising size last bytes place o →
        ((n at : ℕ) → IsChain count size (Some n) bytes at (chain rising behind (size, Some n) count bytes at))
        → IsChain (suc count) size last bytes place
        (after o (λ n at. after (chain rising behind (size, Some n) count bytes at) (λ values next. Got (n ∷ values) next)))
    by o h later = grind arith

pub up_by : (last : Option ℕ) (n : ℕ) (os : List ℕ) → Follows last (n ∷ os) → (rises last n ≡ true) × RisesFrom n os
up_by last n os h = grind arith

pub chain_got : (size : ℕ) (last : Option ℕ) (bytes : List ℕ) (place : ℕ) (os : List ℕ) → IsSize size → OffsetsAt bytes place size os →
    Follows last os → chain rising behind (size, last) (length os) bytes place ≡ Got os (place + length os * size)
unfolding chain
chain_got size last bytes place [] sized h up = ap (λ p. Got [] p) (omega arith)
chain_got size last bytes place (n ∷ os) sized h up =
    let rise = up_by last n os up in
    rw (rising_got size last bytes place n sized h.0 rise.0, chain_got size (Some n) bytes (place + size) os sized h.1 rise.1)
    (ap (λ p. Got (n ∷ os) p) (omega arith))

-- items one behind the other, each from its offset to the one behind it
abbrev IsItems : ℕ → ℕ → List ℕ → List ℕ → Outcome (List (List ℕ)) → Type 0
IsItems before low os bytes (Got items next) = ItemsFrom bytes before low os items × (next ≡ before + last_of low os)
IsItems before low os bytes (Fault refusal) = Refuses refusal
IsItems before low os bytes Past = ⊥

is_items : (before low : ℕ) (os bytes : List ℕ) (place : ℕ) → RisesFrom low os → place ≡ before + low →
    IsItems before low os bytes (each slice (lengths_from low os) bytes place)
unfolding each
is_items before low [] bytes place up at = (tt, at)
is_items before low (high ∷ os) bytes place up at =
    let more = up.0 in
    by (slice (high - low) bytes place) (is_slice (high - low) bytes place (omega arith))
    (λ next e. is_items before high os bytes next up.1 e)
  where
    rest : (item : List ℕ) (next : ℕ) (o : Outcome (List (List ℕ))) → IsSlice (high - low) bytes place (Got item next) →
        IsItems before high os bytes o → IsItems before low (high ∷ os) bytes (after o (λ items last. Got (item ∷ items) last))
    rest item next o h g = grind arith

    by : (o : Outcome (List ℕ)) → IsSlice (high - low) bytes place o →
        ((next : ℕ) → next ≡ before + high → IsItems before high os bytes (each slice (lengths_from high os) bytes next))
        → IsItems before low (high ∷ os) bytes
        (after o (λ item next. after (each slice (lengths_from high os) bytes next) (λ items last. Got (item ∷ items) last)))
    by o h later = grind arith

items_got : (before low : ℕ) (os bytes : List ℕ) (items : List (List ℕ)) (place : ℕ) → RisesFrom low os →
    ItemsFrom bytes before low os items → place ≡ before + low →
    each slice (lengths_from low os) bytes place ≡ Got items (before + last_of low os)
unfolding each
items_got before low [] bytes [] place up h at = ap (λ p. Got [] p) at
items_got before low [] bytes (item ∷ items) place up h at = absurd h
items_got before low (high ∷ os) bytes [] place up h at = absurd h
items_got before low (high ∷ os) bytes (item ∷ items) place up h at = grind (arith, slice_got, items_got before high os bytes items)

abbrev pub Is : List ℕ → ℕ → Outcome Index → Type 0
Is bytes place (Got i next) = IsIndex bytes place i next
Is bytes place (Fault refusal) = Refuses refusal
Is bytes place Past = ⊥

module _ (bytes : List ℕ) (place count : ℕ) where
  abbrev made : ℕ → List ℕ → List (List ℕ) → Index
  made size os items = record { count = count; offset_size = size; offsets = os; items = items }

  is_filled : (at : ℕ) → 0 < count → NumberAt bytes place 2 count → at ≡ place + 2 → Is bytes place (filled count bytes at)
  unfolding filled offsets
  is_filled at some counted behind_count = sized (number 1 bytes at) (is_number 1 bytes at (omega arith))
    where
      found : (size mid first : ℕ) (rest : List ℕ) (begin : ℕ) (o : Outcome (List (List ℕ))) → IsNumber 1 bytes at (Got size mid) →
          IsChain (count + 1) size None bytes mid (Got (first ∷ rest) begin) → IsItems (place + 2 + (count + 1) * size) first rest bytes o
          → Is bytes place (after o (λ items next. Got (made size (first ∷ rest) items) next))
      found size mid first rest begin o h g f = grind arith

      itemed : (size mid : ℕ) (os : List ℕ) (begin : ℕ) → IsNumber 1 bytes at (Got size mid) →
          IsChain (count + 1) size None bytes mid (Got os begin) →
          Is bytes place (after (each slice (lengths os) bytes begin) (λ items next. Got (made size os items) next))
      itemed size mid [] begin h g = let none = g.0 in absurd (omega arith)
      itemed size mid (first ∷ rest) begin h g =
          let first_is = g.2.0 in
          let begin_is = g.3 in
          let mid_is = h.1 in
          found size mid first rest begin (each slice (lengths_from first rest) bytes begin) h g
          (is_items (place + 2 + (count + 1) * size) first rest bytes begin g.2.1 (omega arith))

      off : (size mid : ℕ) (o : Outcome (List ℕ)) → IsNumber 1 bytes at (Got size mid) → IsChain (count + 1) size None bytes mid o
          → Is bytes place (after o (λ os begin. after (each slice (lengths os) bytes begin) (λ items next. Got (made size os items) next)))
      off size mid o h g = grind (arith, itemed)

      sized : (o : Outcome ℕ) → IsNumber 1 bytes at o
          → Is bytes place (after o
          (λ size mid. after (chain rising behind (size, None) (count + 1) bytes mid)
          (λ os begin. after (each slice (lengths os) bytes begin) (λ items next. Got (made size os items) next))))
      sized o h = grind (arith, is_chain, off)

  offsets_got : (size : ℕ) (os : List ℕ) → IsSize size → length os ≡ count + 1 → OffsetsAt bytes (place + 3) size os → Follows None os →
      offsets size (count + 1) bytes (place + 2 + 1) ≡ Got os (place + 3 + (count + 1) * size)
  unfolding offsets
  offsets_got size os sized many h up = grind (arith, chain_got)

  filled_got : (size : ℕ) (os : List ℕ) (items : List (List ℕ)) (next : ℕ) → IsFilledAt bytes place (made size os items) next →
      filled count bytes (place + 2) ≡ Got (made size os items) next
  unfolding filled
  filled_got size os items next f = grind (arith, items_got, number_got, offsets_got)

pub is_index : (bytes : List ℕ) (place : ℕ) → Is bytes place (index bytes place)
unfolding index
is_index bytes place = grind (arith, is_number, nat_tests, is_filled)

pub all : (bytes : List ℕ) (place : ℕ) (i : Index) (next : ℕ) → IsIndex bytes place i next → index bytes place ≡ Got i next
unfolding index
all bytes place i next (inl h) = rw (number_got 2 bytes place 0 h.0, h.1, h.2) refl
all bytes place i next (inr f) =
    let some = f.some in
    let more : (i.count == 0) ≡ false = grind (arith, nat_tests) in
    rw (number_got 2 bytes place i.count f.count, more) (filled_got bytes place i.count i.offset_size i.offsets i.items next f)

pub only : (bytes : List ℕ) (place : ℕ) (i : Index) (next : ℕ) → index bytes place ≡ Got i next → IsIndex bytes place i next
only bytes place i next e = subst (Is bytes place) e (is_index bytes place)

-- as many items as there are offsets behind the first, and as long as the offsets say
measured : (before low : ℕ) (os bytes : List ℕ) (items : List (List ℕ)) → RisesFrom low os → ItemsFrom bytes before low os items →
    (length items ≡ length os) × (map length items ≡ lengths_from low os) × (before + low ≤ length bytes → before + last_of low
    os ≤ length bytes) × (low ≤ last_of low os)
measured before low [] bytes [] up h = (refl, refl, λ within. within, omega arith)
measured before low [] bytes (item ∷ items) up h = absurd h
measured before low (high ∷ os) bytes [] up h = absurd h
measured before low (high ∷ os) bytes (item ∷ items) up h =
    grind (arith, length-drop, length-take, measured before high os bytes items up.1 h.2)

pub whole : (bytes : List ℕ) (place : ℕ) (i : Index) (next : ℕ) → IsIndex bytes place i next → IsWhole i
whole bytes place i next h0 = grind (arith, measured)

moves : (bytes : List ℕ) (place : ℕ) (i : Index) (next : ℕ) → IsIndex bytes place i next → (place < next) × (next ≤ length bytes)
moves bytes place i next (inl h) = let counted = h.0.0 in let behind = h.2 in (omega arith, omega arith)
moves bytes place i next (inr f) = by i.offsets i.items f.many f.rise f.items f.behind
  where
    by : (os : List ℕ) (items : List (List ℕ)) → length os ≡ i.count + 1 → AreOffsets os → ItemsAt bytes (before_data place i) os items →
        next ≡ before_data place i + last_of 0 os → (place < next) × (next ≤ length bytes)
    by [] items many up h behind = absurd up
    by (first ∷ []) items many up h behind = let some = f.some in absurd (omega arith)
    by (first ∷ high ∷ rest) [] many up h behind = absurd h
    by (first ∷ high ∷ rest) (item ∷ items) many up h behind = grind (arith, measured)

pub takes : TakesBytes index
takes bytes place = by (index bytes place) (is_index bytes place)
  where
    by : (o : Outcome Index) → Is bytes place o → MovesOn place (length bytes) o
    by (Got i next) h = moves bytes place i next h
    by (Fault refusal) h = tt
    by Past h = h

pub needs : NeedsBytes index
unfolding index
needs = needs_after (number 2) (λ count. if count == 0 then pure empty else filled count) (number_needs 2 (omega arith))

-- the reading of char strings of type 2 is that of an INDEX
pub char_strings_need : NeedsBytes (char_strings (pos 2))
unfolding char_strings
char_strings_need = needs

-- what is read behind a count is whole, and so is an INDEX without items
pub empty_whole : IsWhole empty
empty_whole = inl refl
