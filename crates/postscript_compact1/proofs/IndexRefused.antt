-- An INDEX is refused exactly for the cause that the bytes give.
use Rattle.std.proofs.Common.{◌≡◌, ◌⊎◌, inl, inr, refl, sym, ap, subst, ℕ, zero, suc, ◌+◌, ◌-◌, ◌*◌, ◌<◌, ◌≤◌, Bool, true, false, ◌==◌, ◌||◌, nat_lt, Option, None, Some, List, [], ◌∷◌, length, arith, if◌then◌else◌}
use Rattle.std.proofs.lemmas.Bool.Decides.{nat_tests}
use Rattle.postscript_base.specs.Compact1.Offset.{offset, rises, rising, behind}
use Rattle.postscript_base.specs.Numbers.{big_endian, number, slice}
use Rattle.postscript_base.specs.Refusal.{Refusal, malformed_index, malformed_offset, unexpected_eof}
use Rattle.postscript_base.specs.Tape.Loops.{chain, each}
use Rattle.postscript_base.specs.Tape.Outcome.{Outcome, Got, Fault, Past, after, end, fault, pure}
use Rattle.postscript_compact1.specs.Index.{Index, filled, index, lengths, lengths_from, offsets}
use Rattle.postscript_compact1.specs.IndexLaw.{ReadsIndices}
use Rattle.postscript_compact1.specs.IndexAt.{AreOffsets, NumberAt, OffsetsAt, RisesFrom, last_of}
use Rattle.postscript_compact1.specs.IndexCauses.{AreFirstOffsets, BeginsOffsets, FallsBehind, HasCutSize, IsCounted, IsCut, IsNoIndex}
use Rattle.postscript_compact1.proofs.IndexIs.{Is, all, only, whole, takes, needs, is_index, Follows, nothing_follows, IsChain, IsNumber, IsSize, is_chain, is_number, number_got, rising_got, sizes, slice_got, chain_got, up_by, follows_on, is_rising, IsRising}
use Rattle.postscript_compact1.proofs.CharSetRefused.{Fails, fails_after}

slice_cut : (count : ℕ) (bytes : List ℕ) (place : ℕ) → 0 < count → IsCut bytes place count → slice count bytes place ≡ end
unfolding slice
slice_cut count bytes place some cut =
    let wanting : nat_lt (length bytes - place) count ≡ true = grind (arith, nat_tests) in rw wanting refl

number_cut : (size : ℕ) (bytes : List ℕ) (place : ℕ) → 0 < size → IsCut bytes place size → number size bytes place ≡ end
unfolding number
number_cut size bytes place some cut = rw (slice_cut size bytes place some cut) refl

-- what a number is refused for
slice_fails : (count : ℕ) (bytes : List ℕ) (place : ℕ) → 0 < count →
    Fails (λ refusal. (refusal ≡ unexpected_eof) × IsCut bytes place count) (slice count bytes place)
unfolding slice
slice_fails count bytes place some = grind arith

number_fails : (size : ℕ) (bytes : List ℕ) (place : ℕ) → 0 < size → Fails (λ refusal. (refusal ≡ unexpected_eof) × IsCut bytes place size)
    (number size bytes place)
unfolding number
number_fails size bytes place some =
    fails_after (slice size bytes place) (λ bytes next. Got (big_endian bytes) next) _ _ (slice_fails size bytes place some)
    (λ refusal h. h) (λ xs next e. tt)

-- Offsets of a right size. What stands behind those that are right is cut, or does not rise.
abbrev ends : Option ℕ → List ℕ → Option ℕ
ends last [] = last
ends last (n ∷ ns) = ends (Some n) ns

abbrev Bad : ℕ → Option ℕ → List ℕ → ℕ → Refusal → Type 0
Bad size last bytes place refusal =
    ((refusal ≡ unexpected_eof) × IsCut bytes place
    size) ⊎ ((refusal ≡ malformed_index) × ((n : ℕ) × NumberAt bytes place size n × (rises last n ≡ false)))

abbrev BadBehind : ℕ → ℕ → Option ℕ → List ℕ → ℕ → Refusal → Type 0
BadBehind count size last bytes place refusal =
    (os : List ℕ) × (length os < count) × OffsetsAt bytes place size os × Follows last os × Bad size (ends last os) bytes
    (place + length os * size) refusal

good_size : (size : ℕ) → IsSize size → ((size == 0) || nat_lt 4 size) ≡ false
good_size size sized = let least = sized.0 in let most = sized.1 in grind (arith, nat_tests)

rising_fails : (size : ℕ) (last : Option ℕ) (bytes : List ℕ) (place : ℕ) → IsSize size → Fails (Bad size last bytes place)
    (rising (size, last) bytes place)
unfolding rising offset
rising_fails size last bytes place sized =
    rw (good_size size sized) (by (number size bytes place) (is_number size bytes place sized.0) (number_fails size bytes place sized.0))
  where
    tested : (n next : ℕ) (b : Bool) → rises last n ≡ b → NumberAt bytes place size n → Fails (Bad size last bytes place)
        ((if b then pure n else fault malformed_index) bytes next)
    tested n next b e h = grind arith

    by : (o : Outcome ℕ) → IsNumber size bytes place o → Fails (λ refusal. (refusal ≡ unexpected_eof) × IsCut bytes place size) o
        → Fails (Bad size last bytes place) (after o (λ n next. (if rises last n then pure n else fault malformed_index) bytes next))
    by o h f = grind arith

rising_refused : (size : ℕ) (last : Option ℕ) (bytes : List ℕ) (place : ℕ) (refusal : Refusal) → IsSize size →
    Bad size last bytes place refusal → rising (size, last) bytes place ≡ Fault refusal
unfolding rising offset
rising_refused size last bytes place refusal sized (inl h) =
    rw (good_size size sized, number_cut size bytes place sized.0 h.1) (ap Fault (sym h.0))
rising_refused size last bytes place refusal sized (inr (is, (n, h, falls))) =
    rw (good_size size sized, number_got size bytes place n h, falls) (ap Fault (sym is))

chain_fails : (count size : ℕ) (last : Option ℕ) (bytes : List ℕ) (place : ℕ) → IsSize size →
    Fails (BadBehind count size last bytes place) (chain rising behind (size, last) count bytes place)
unfolding chain
chain_fails zero size last bytes place sized = tt
chain_fails (suc count) size last bytes place sized =
    by (rising (size, last) bytes place) (is_rising size last bytes place) (rising_fails size last bytes place sized)
    (λ n at. chain_fails count size (Some n) bytes at sized)
  where
    rest : (n at : ℕ) (o : Outcome (List ℕ)) → IsRising size last bytes place (Got n at) →
        Fails (BadBehind count size (Some n) bytes at) o → Fails (BadBehind (suc count) size last bytes place)
        (after o (λ values next. Got (n ∷ values) next))
    rest n at (Got os next) h f = tt
    rest n at (Fault refusal) h (os, few, stand, follow, bad) =
        let here = h.1.1 in
        let behind_is : at + length os * size ≡ place + suc (length os) * size = omega arith in (
          n ∷ os,
          omega arith,
          (h.1.0, subst (λ p. OffsetsAt bytes p size os) here stand),
          follows_on last n os h.2 follow,
          subst (λ p. Bad size (ends (Some n) os) bytes p refusal) behind_is bad,
        )
    rest n at Past h f = f

    by : (o : Outcome ℕ) → IsRising size last bytes place o → Fails (Bad size last bytes place) o →
        ((n at : ℕ) → Fails (BadBehind count size (Some n) bytes at) (chain rising behind (size, Some n) count bytes at))
        → Fails (BadBehind (suc count) size last bytes place)
        (after o (λ n at. after (chain rising behind (size, Some n) count bytes at) (λ values next. Got (n ∷ values) next)))
    by o h f later = grind (arith, nothing_follows, rest)

chain_refused : (count size : ℕ) (last : Option ℕ) (bytes : List ℕ) (place : ℕ) (refusal : Refusal) (os : List ℕ) → IsSize size →
    length os < count → OffsetsAt bytes place size os → Follows last os
    → Bad size (ends last os) bytes (place + length os * size) refusal → chain rising behind (size, last) count bytes place ≡ Fault refusal
unfolding chain
chain_refused zero size last bytes place refusal os sized few stand follow bad = absurd (omega arith)
chain_refused (suc count) size last bytes place refusal [] sized few stand follow bad =
    let here : place + 0 * size ≡ place = omega arith in
    rw (rising_refused size last bytes place refusal sized (subst (λ p. Bad size last bytes p refusal) here bad)) refl
chain_refused (suc count) size last bytes place refusal (n ∷ os) sized few stand follow bad =
    let up = up_by last n os follow in
    let here : place + suc (length os) * size ≡ place + size + length os * size = omega arith in
    let later = chain_refused count size (Some n) bytes (place + size) refusal os sized (omega arith) stand.1 up.1
    (subst (λ p. Bad size (ends (Some n) os) bytes p refusal) here bad) in
    rw (rising_got size last bytes place n sized stand.0 up.0, later) refl

-- Items are refused where fewer bytes stand than the last offset says.
last_is_most : (low : ℕ) (os : List ℕ) → RisesFrom low os → low ≤ last_of low os
last_is_most low [] up = omega arith
last_is_most low (high ∷ os) up = let more = up.0 in let later = last_is_most high os up.1 in omega arith

abbrev CutItems : ℕ → ℕ → List ℕ → List ℕ → Refusal → Type 0
CutItems before low os bytes refusal = (refusal ≡ unexpected_eof) × IsCut bytes before (last_of low os)

items_fail : (before low : ℕ) (os bytes : List ℕ) (place : ℕ) → RisesFrom low os → place ≡ before + low →
    Fails (CutItems before low os bytes) (each slice (lengths_from low os) bytes place)
unfolding each slice
items_fail before low [] bytes place up at = tt
items_fail before low (high ∷ os) bytes place up at =
    let more = up.0 in
    let most = last_is_most high os up.1 in
    fails_after (slice (high - low) bytes place) _ _ _ (slice_fails (high - low) bytes place (omega arith))
    (λ refusal h. let cut = h.1 in (h.0, omega arith))
    (λ item next e. fails_after (each slice (lengths_from high os) bytes next) _ _ _
    (items_fail before high os bytes next up.1 (grind arith)) (λ refusal h. h) (λ items last e. tt))

items_refused : (before low : ℕ) (os bytes : List ℕ) (place : ℕ) → RisesFrom low os → place ≡ before + low → place ≤ length bytes →
    IsCut bytes before (last_of low os) → each slice (lengths_from low os) bytes place ≡ end
unfolding each
items_refused before low [] bytes place up at within cut = absurd (omega arith)
items_refused before low (high ∷ os) bytes place up at within cut =
    by (nat_lt (length bytes) (place + (high - low))) refl
    (λ at2 long. items_refused before high os bytes (place + (high - low)) up.1 at2 long cut)
  where
    by : (b : Bool) → nat_lt (length bytes) (place + (high - low)) ≡ b →
        (place + (high - low) ≡ before + high → place + (high - low) ≤ length bytes → each slice (lengths_from high os) bytes
        (place + (high - low)) ≡ end)
        → after (slice (high - low) bytes place)
        (λ item next. after (each slice (lengths_from high os) bytes next) (λ items last. Got (item ∷ items) last)) ≡ end
    by b e later = grind (arith, nat_tests, slice_cut, slice_got)

-- the places and sizes of a count, a size and offsets
follows : (os : List ℕ) → AreFirstOffsets os → Follows None os
follows os h = grind arith

ends_last : (n : ℕ) (os : List ℕ) → ends (Some n) os ≡ Some (last_of n os)
ends_last n [] = refl
ends_last n (m ∷ os) = ends_last m os

falls : (os : List ℕ) (next : ℕ) → rises (ends None os) next ≡ false → FallsBehind os next
falls os next e = grind (arith, nat_tests, ends_last)

bad_size : (count size : ℕ) (bytes : List ℕ) (place : ℕ) → ((size == 0) || nat_lt 4 size) ≡ true → chain rising behind (size, None)
    (count + 1) bytes place ≡ Fault malformed_offset
unfolding chain rising offset
bad_size count size bytes place bad = let more : count + 1 ≡ suc count = omega arith in rw (more, bad) refl

abbrev made : ℕ → ℕ → List ℕ → List (List ℕ) → Index
made count size os items = record { count = count; offset_size = size; offsets = os; items = items }

module _ (bytes : List ℕ) (place count size : ℕ) (counted : IsCounted bytes place count size) where
  -- what follows the size
  abbrev rest : Outcome Index
  rest =
      after (chain rising behind (size, None) (count + 1) bytes (place + 3))
      (λ os begin. after (each slice (lengths os) bytes begin) (λ items next. Got (made count size os items) next))

  rest_fails : Fails (IsNoIndex bytes place) rest
  rest_fails = by ((size == 0) || nat_lt 4 size) refl
    where
      itemed : (os : List ℕ) (begin : ℕ) → IsSize size → IsChain (count + 1) size None bytes (place + 3) (Got os begin)
          → Fails (IsNoIndex bytes place) (after (each slice (lengths os) bytes begin) (λ items next. Got (made count size os items) next))
      itemed [] begin sized h = let none = h.0 in absurd (omega arith)
      itemed (n ∷ os) begin sized h =
          let begins = h.3 in
          let one = h.2.0 in
          fails_after (each slice (lengths_from n os) bytes begin) _ _ _
          (items_fail (place + 2 + (count + 1) * size) n os bytes begin h.2.1 (omega arith))
          (λ refusal f. inl (
            f.0,
            inr
                (inr (inr (record {
                  count = count;
                  size = size;
                  counted = counted;
                  least = sized.0;
                  most = sized.1;
                  offsets = n ∷ os;
                  many = h.0;
                  stand = h.1;
                  rise = h.2;
                  cut = f.1;
                }))),
          )) (λ items next e. tt)

      on : IsSize size → (o : Outcome (List ℕ)) → IsChain (count + 1) size None bytes (place + 3) o →
          Fails (BadBehind (count + 1) size None bytes (place + 3)) o
          → Fails (IsNoIndex bytes place)
          (after o (λ os begin. after (each slice (lengths os) bytes begin) (λ items next. Got (made count size os items) next)))
      on sized o h f = grind (arith, falls, itemed)

      by : (b : Bool) → ((size == 0) || nat_lt 4 size) ≡ b → Fails (IsNoIndex bytes place) rest
      by b e = grind (arith, bad_size, sizes, is_chain, chain_fails, on)

  -- and the other way
  cut_items : IsSize size → (os : List ℕ) → length os ≡ count + 1 → OffsetsAt bytes (place + 3) size os → AreOffsets os →
      IsCut bytes (place + 2 + (count + 1) * size) (last_of 0 os) → rest ≡ end
  cut_items sized [] many stand rise cut = absurd rise
  cut_items sized (n ∷ os) many stand rise cut =
      let one = rise.0 in
      let got = chain_got size None bytes (place + 3) (n ∷ os) sized stand rise in
      let got2 : chain rising behind (size, None) (count + 1) bytes (place + 3) ≡ Got (n ∷ os) (place + 3 + (count + 1) * size) = subst
      (λ c. chain rising behind (size, None) c bytes (place + 3) ≡ Got (n ∷ os) (place + 3 + c * size)) many got in
      let within = offsets_within (place + 3) size n os stand in
      let within2 : place + 3 + (count + 1) * size ≤ length bytes = subst (λ c. place + 3 + c * size ≤ length bytes) many within in
      rw (
        got2,
        items_refused (place + 2 + (count + 1) * size) n os bytes (place + 3 + (count + 1) * size) rise.1
            (omega arith) within2 cut,
      ) refl
    where
      offsets_within : (at size n : ℕ) (os : List ℕ) → OffsetsAt bytes at size (n ∷ os) → at + length (n ∷ os) * size ≤ length bytes
      offsets_within at size n [] h = let one = h.0.0 in omega arith
      offsets_within at size n (m ∷ os) h = let later = offsets_within (at + size) size m os h.1 in omega arith

filled_rest : (bytes : List ℕ) (place count size : ℕ) (counted : IsCounted bytes place count size) →
    filled count bytes (place + 2) ≡ rest bytes place count size counted
unfolding filled offsets
filled_rest bytes place count size counted =
    let on : place + 2 + 1 ≡ place + 3 = omega arith in rw (number_got 1 bytes (place + 2) size counted.sizes, on) refl

filled_cut : (bytes : List ℕ) (place count : ℕ) (refusal : Refusal) → number 1 bytes (place + 2) ≡ Fault refusal →
    filled count bytes (place + 2) ≡ Fault refusal
unfolding filled
filled_cut bytes place count refusal e = rw e refl

filled_fails : (bytes : List ℕ) (place count : ℕ) → 0 < count → NumberAt bytes place 2 count → Fails (IsNoIndex bytes place)
    (filled count bytes (place + 2))
filled_fails bytes place count some stands =
    by (number 1 bytes (place + 2)) refl (is_number 1 bytes (place + 2) (omega arith)) (number_fails 1 bytes (place + 2) (omega arith))
  where
    by : (o : Outcome ℕ) → number 1 bytes (place + 2) ≡ o → IsNumber 1 bytes (place + 2) o →
        Fails (λ refusal. (refusal ≡ unexpected_eof) × IsCut bytes (place + 2) 1) o → Fails (IsNoIndex bytes place)
        (filled count bytes (place + 2))
    by (Got size mid) e h f =
        let counted : IsCounted bytes place count size = record { some = some; counts = stands; sizes = h.0 } in
        rw (filled_rest bytes place count size counted) (rest_fails bytes place count size counted)
    by (Fault refusal) e h f =
        rw (filled_cut bytes place count refusal e)
        (inl (f.0, inr (inl (record { count = count; some = some; stands = stands; cut = f.1 }))))
    by Past e h f = absurd f

refused_only : (bytes : List ℕ) (place : ℕ) (refusal : Refusal) → index bytes place ≡ Fault refusal → IsNoIndex bytes place refusal
unfolding index
refused_only bytes place refusal e =
    subst (Fails (IsNoIndex bytes place)) e (grind (arith, is_number, number_fails, filled_fails, nat_tests))

-- and the other way
index_rest : (bytes : List ℕ) (place count size : ℕ) (counted : IsCounted bytes place count size) →
    index bytes place ≡ rest bytes place count size counted
unfolding index
index_rest bytes place count size counted =
    let some = counted.some in
    let more : (count == 0) ≡ false = grind (arith, nat_tests) in
    rw (number_got 2 bytes place count counted.counts, more) (filled_rest bytes place count size counted)

cut_size : (bytes : List ℕ) (place : ℕ) → HasCutSize bytes place → index bytes place ≡ end
unfolding index
cut_size bytes place h =
    let some = h.some in
    let more : (h.count == 0) ≡ false = grind (arith, nat_tests) in
    rw (number_got 2 bytes place h.count h.stands, more)
    (filled_cut bytes place h.count unexpected_eof (number_cut 1 bytes (place + 2) (omega arith) h.cut))

bad_behind : (bytes : List ℕ) (place size : ℕ) (os : List ℕ) (refusal : Refusal) → BeginsOffsets bytes place size os →
    Bad size (ends None os) bytes (place + 3 + length os * size) refusal → index bytes place ≡ Fault refusal
bad_behind bytes place size os refusal b bad =
    let refused = chain_refused (b.count + 1) size None bytes (place + 3) refusal os (b.least, b.most) b.few b.stand
    (follows os b.rise) bad in
    rw (index_rest bytes place b.count size b.counted, refused) refl

refused : (bytes : List ℕ) (place : ℕ) (refusal : Refusal) → IsNoIndex bytes place refusal → index bytes place ≡ Fault refusal
unfolding index
refused bytes place refusal (inl (is, inl cut)) = grind (arith, number_cut)
refused bytes place refusal (inl (is, inr (inl h))) = rw (cut_size bytes place h) (ap Fault (sym is))
refused bytes place refusal (inl (is, inr (inr (inl h)))) = bad_behind bytes place h.size h.offsets refusal h.begin (inl (is, h.cut))
refused bytes place refusal (inl (is, inr (inr (inr h)))) =
    rw (
      index_rest bytes place h.count h.size h.counted,
      cut_items bytes place h.count h.size h.counted (h.least, h.most) h.offsets h.many h.stand h.rise h.cut,
    ) (ap Fault (sym is))
refused bytes place refusal (inr (inl (is, h))) =
    rw (index_rest bytes place h.count h.size h.counted, bad_size h.count h.size bytes (place + 3) (grind arith)) (ap Fault (sym is))
refused bytes place refusal (inr (inr (is, h))) =
    bad_behind bytes place h.size h.offsets refusal h.begin (inr (is, (h.next, h.stands, (grind (arith, nat_tests, ends_last)))))

-- what an INDEX is, that it is read, and why other bytes are none
pub reads_indices : ReadsIndices
reads_indices = record {
  all = all;
  only = only;
  whole = λ bytes place i next e. whole bytes place i next (only bytes place i next e);
  refusals = λ bytes place refusal e. subst (Is bytes place) e (is_index bytes place);
  refused = refused;
  refused_only = refused_only;
  takes = takes;
  needs = needs;
}
