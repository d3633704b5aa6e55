-- Lookups that are put one before the other.
use Rattle.std.proofs.Common.{◌≡◌, refl, sym, ap, subst, ◌∙◌, inl, inr, ℕ, ◌+◌, ◌-◌, ◌*◌, ◌≤◌, ◌<◌, List, [], ◌∷◌, ◌++◌, length, length-append, append-nil, get_or, arith, true, false}
use Rattle.std.specs.List.{All}
use Rattle.std.proofs.lemmas.List.{append_assoc, get_or_append_left, get_or_push}
use Rattle.std.proofs.lemmas.List.Elements.{All-head}
use Rattle.postscript_layout.specs.Numbers.{word}
use Rattle.postscript_layout_write.specs.ClassPairs.{HasPairs, are_classed, are_listed}
use Rattle.postscript_layout_write.specs.Coverages.{AddsChained}
use Rattle.postscript_layout_write.specs.Flags.{set_of}
use Rattle.postscript_layout_write.specs.Forms.{IsSubtable}
use Rattle.postscript_layout_write.specs.Holds.{Holds}
use Rattle.postscript_layout_write.specs.Lookups.{AreStarts, HasLast, HasLookups, HasPosition, IsAway, IsPut, IsShared, Joins, MakesPosition, has_contexts, has_pairs, has_typed, is_put, is_shared}
use Rattle.postscript_layout_write.specs.Marks.{type_at}
use Rattle.postscript_layout_write.specs.Pairs.{lookup_at, lookups_of}
use Rattle.postscript_layout_write.specs.Pieces.{HasFar, HasLookup, HasNear, IsFarPiece, IsNearPiece, IsPiece, extensions_text, far_piece, is_far, is_near, lookup_text, near_piece, set_size}
use Rattle.postscript_layout_write.specs.PositionContexts.{contexts_by}
use Rattle.postscript_layout_write.specs.Scopes.{new_flag, new_pair, takes_contexts, takes_type}
use Rattle.postscript_layout_write.specs.Text.{coverage_text, head_text, list_text, offsets_text, subtable_text, uint16}
use Rattle.postscript_layout_write.specs.Typed.{AddsTyped, HasTyped}
use Rattle.postscript_layout_write.specs.declared.entries.Form.{Form}
use Rattle.postscript_layout_write.specs.declared.forms.Subtables.{Subtables}
use Rattle.postscript_layout_write.specs.declared.pieces.Piece.{Piece}
use Rattle.postscript_layout_write.specs.declared.positioning.Last.{Last}
use Rattle.postscript_layout_write.specs.declared.scope.Scope.{Scope}
use Rattle.postscript_layout_write.specs.declared.values.Adjustment.{Adjustment}
use Rattle.postscript_layout_write.proofs.ClassReading.{length-classes}
use Rattle.postscript_layout_write.proofs.ContextCollecting.{chained-in, chained-on}
use Rattle.postscript_layout_write.proofs.Firsts.{nat_cases}
use Rattle.postscript_layout_write.proofs.Holding.{holds-after, holds-in, holds-last, holds-on, holds-whole}
use Rattle.postscript_layout_write.proofs.PieceReading.{length-extensions, length-lookup}
use Rattle.postscript_layout_write.proofs.Reading.{length-head}
use Rattle.postscript_layout_write.proofs.TypedWriting.{typed-in, typed-on}

-- a lookup in other bytes
far-in : (flag set : ℕ) (f : (x y : ℕ) → Adjustment) (t bytes : List ℕ) (at offset : ℕ) → Holds bytes t at → HasFar flag set f bytes offset →
    HasFar flag set f t (at + offset)
far-in flag set f t bytes at offset h l = record {
  offsets = l.offsets;
  subtables = l.subtables;
  extensions = l.extensions;
  distance = l.distance;
  has = l.has;
  some = l.some;
  are = l.are;
  fits = l.fits;
  long = l.long;
  there = holds-in h l.there;
  behind = subst (Holds l.subtables t) {x = at + (offset + (6 + length l.offsets * 10 + set_size flag + l.distance))}
      {y = at + offset + (6 + length l.offsets * 10 + set_size flag + l.distance)} (omega arith) (holds-in h l.behind);
}

pub lookup-in : (flag set : ℕ) (f : (x y : ℕ) → Adjustment) (t bytes : List ℕ) (at offset : ℕ) → Holds bytes t at → HasLookup flag set f bytes offset →
    HasLookup flag set f t (at + offset)
lookup-in flag set f t bytes at offset h (is_near l) = is_near (record {
  offsets = l.offsets;
  subtables = l.subtables;
  has = l.has;
  fits = l.fits;
  there = holds-in h l.there;
})
lookup-in flag set f t bytes at offset h (is_far l) = is_far (far-in flag set f t bytes at offset h l)

pub position-in : (scope : Scope) (gpos kept : List ℕ) (lookup : ℕ) (t bytes : List ℕ) (at offset : ℕ) → Holds bytes t at → HasPosition scope gpos kept lookup bytes offset →
    HasPosition scope gpos kept lookup t (at + offset)
position-in scope gpos kept lookup t bytes at offset h (has_pairs never none p) =
    has_pairs never none (lookup-in (new_flag scope (word gpos (lookup + 2))) (set_of gpos lookup) (new_pair scope gpos kept lookup) t bytes at offset h p)
position-in scope gpos kept lookup t bytes at offset h (has_typed takes m) =
    has_typed takes (typed-in gpos kept lookup (new_flag scope (word gpos (lookup + 2))) t bytes at offset h m)
position-in scope gpos kept lookup t bytes at offset h (has_contexts takes m) =
    has_contexts takes (chained-in 8 (new_flag scope (word gpos (lookup + 2))) (set_of gpos lookup) (contexts_by gpos kept lookup (type_at gpos lookup)) t bytes at offset h m)

-- a lookup of pairs that is made
module _ (flag set distance : ℕ) (f : (x y : ℕ) → Adjustment) (subtables : Subtables) (piece : Piece)
    (has : HasPairs f subtables.offsets.items subtables.bytes.items) (between : List ℕ) (long : length between ≡ distance) where
  near-made : IsNearPiece flag set subtables piece → HasNear flag set f (piece.lookup.items ++ (between ++ piece.subtables.items)) 0
  near-made p = record {
    offsets = subtables.offsets.items;
    subtables = subtables.bytes.items;
    has = has;
    fits = p.fits;
    there = subst (λ (xs : List ℕ). Holds xs (piece.lookup.items ++ (between ++ piece.subtables.items)) 0) p.lookup
        (holds-on (between ++ piece.subtables.items) (holds-whole piece.lookup.items));
  }

  far-made : IsFarPiece flag set distance subtables piece → HasFar flag set f (piece.lookup.items ++ (between ++ piece.subtables.items)) 0
  far-made p = record {
    offsets = subtables.offsets.items;
    subtables = subtables.bytes.items;
    extensions = p.extensions;
    distance = distance;
    has = has;
    some = p.some;
    are = p.are;
    fits = p.fits;
    long = p.long;
    there = subst (λ (xs : List ℕ). Holds xs (piece.lookup.items ++ (between ++ piece.subtables.items)) 0) p.lookup
        (holds-on (between ++ piece.subtables.items) (holds-whole piece.lookup.items));
    behind = (let front = lookup_text 9 flag set p.extensions in
        let rest = extensions_text distance subtables.offsets.items in
        let a = ap length p.lookup in
        let b = length-append front rest in
        let c = length-lookup 9 flag set p.extensions in
        let d = length-extensions distance subtables.offsets.items in
        let many = p.are.many in
        subst (Holds subtables.bytes.items (piece.lookup.items ++ (between ++ piece.subtables.items)))
        {x = length piece.lookup.items + length between} {y = 0 + (6 + length subtables.offsets.items * 10 + set_size flag + distance)}
        (omega (arith, a, b, c, d, many, long))
        (subst (λ (xs : List ℕ). Holds xs (piece.lookup.items ++ (between ++ piece.subtables.items)) (length piece.lookup.items + length between)) p.behind
        (holds-after piece.lookup.items (holds-last between piece.subtables.items))));
  }

  pub lookup-made : IsPiece flag set distance subtables piece → HasLookup flag set f (piece.lookup.items ++ (between ++ piece.subtables.items)) 0
  lookup-made (near_piece p) = is_near (near-made p)
  lookup-made (far_piece p) = is_far (far-made p)

-- subtables that are there have bytes
length-subtable : (form : Form) (firsts offsets sets : List ℕ) → 10 ≤ length (subtable_text form firsts offsets sets)
unfolding subtable_text
length-subtable form firsts offsets sets =
    let long = length-append (head_text form (length firsts)) (offsets_text (14 + length firsts * 4) offsets ++ (coverage_text firsts ++ sets)) in
    omega (arith, long, length-head form (length firsts))

some-there : (f : (x y : ℕ) → Adjustment) (bytes : List ℕ) (offset : ℕ) → IsSubtable f bytes offset → 0 < length bytes
some-there f bytes offset s =
    let has = s.2 in
    let h = has.there in
    let text = subtable_text s.0 s.1 has.offsets has.sets in
    let is = ap length h.is in
    omega (arith, is, length-append h.front (text ++ h.behind), length-append text h.behind, length-subtable s.0 s.1 has.offsets has.sets)

some-bytes : (f : (x y : ℕ) → Adjustment) (offsets bytes : List ℕ) → 0 < length offsets → All (IsSubtable f bytes) offsets → 0 < length bytes
some-bytes f [] bytes some all = absurd (omega (arith, some))
some-bytes f (offset ∷ offsets) bytes some all = some-there f bytes offset (All-head (IsSubtable f bytes) offset offsets all)

some-pairs : (f : (x y : ℕ) → Adjustment) (offsets bytes : List ℕ) → 0 < length offsets → HasPairs f offsets bytes → 0 < length bytes
some-pairs f offsets bytes some (are_listed has) = some-bytes f offsets bytes some has.each
some-pairs f offsets bytes some (are_classed only has) = subst (λ (xs : List ℕ). 0 < length xs) (sym has.is.text)
    (length-classes has.row_count has.column_count has.values has.firsts has.rows has.columns)

-- a lookup that is made
pub pairs-made : (scope : Scope) (gpos kept : List ℕ) (lookup distance : ℕ) (subtables : Subtables) (piece : Piece) → takes_type scope gpos lookup ≡ false →
    takes_contexts scope gpos lookup ≡ false → HasPairs (new_pair scope gpos kept lookup) subtables.offsets.items subtables.bytes.items →
    IsPiece (new_flag scope (word gpos (lookup + 2))) (set_of gpos lookup) distance subtables piece →
    MakesPosition scope gpos kept lookup distance piece.lookup.items piece.subtables.items
pairs-made scope gpos kept lookup distance subtables piece never none has is = record {
  before = λ between long.
      has_pairs never none (lookup-made (new_flag scope (word gpos (lookup + 2))) (set_of gpos lookup) distance (new_pair scope gpos kept lookup) subtables piece has between long is);
  alone = λ empty. has_pairs never none (by is empty);
}
  where
    by : IsPiece (new_flag scope (word gpos (lookup + 2))) (set_of gpos lookup) distance subtables piece → piece.subtables.items ≡ [] →
        HasLookup (new_flag scope (word gpos (lookup + 2))) (set_of gpos lookup) (new_pair scope gpos kept lookup) piece.lookup.items 0
    by (near_piece p) empty = subst (λ (xs : List ℕ). HasLookup (new_flag scope (word gpos (lookup + 2))) (set_of gpos lookup) (new_pair scope gpos kept lookup) xs 0)
        (ap (λ xs. piece.lookup.items ++ xs) empty ∙ append-nil piece.lookup.items)
        (lookup-made (new_flag scope (word gpos (lookup + 2))) (set_of gpos lookup) 0 (new_pair scope gpos kept lookup) subtables piece has [] refl (near_piece p))
    by (far_piece p) empty =
        let some = some-pairs (new_pair scope gpos kept lookup) subtables.offsets.items subtables.bytes.items p.some has in
        let none : length subtables.bytes.items ≡ 0 = ap length (sym p.behind ∙ empty) in
        absurd (omega (arith, some, none))

typed-there : (gpos kept : List ℕ) (lookup flag : ℕ) (front more : List ℕ) → AddsTyped gpos kept lookup flag [] front → HasTyped gpos kept lookup flag (front ++ more) 0
typed-there gpos kept lookup flag front more adds = typed-on gpos kept lookup flag front more 0 adds.has

pub typed-made : (scope : Scope) (gpos kept : List ℕ) (lookup distance : ℕ) (front behind : List ℕ) → takes_type scope gpos lookup ≡ true →
    AddsTyped gpos kept lookup (new_flag scope (word gpos (lookup + 2))) [] front → MakesPosition scope gpos kept lookup distance front behind
typed-made scope gpos kept lookup distance front behind takes adds = record {
  before = λ between long. has_typed takes (typed-there gpos kept lookup (new_flag scope (word gpos (lookup + 2))) front (between ++ behind) adds);
  alone = λ _. has_typed takes adds.has;
}

pub contexts-made : (scope : Scope) (gpos kept : List ℕ) (lookup distance : ℕ) (front behind : List ℕ) → takes_contexts scope gpos lookup ≡ true →
    AddsChained false 8 (new_flag scope (word gpos (lookup + 2))) (set_of gpos lookup) (contexts_by gpos kept lookup (type_at gpos lookup)) [] front →
    MakesPosition scope gpos kept lookup distance front behind
contexts-made scope gpos kept lookup distance front behind takes adds = record {
  before = λ between long.
      has_contexts takes (chained-on 8 (new_flag scope (word gpos (lookup + 2))) (set_of gpos lookup) (contexts_by gpos kept lookup (type_at gpos lookup))
      front (between ++ behind) 0 adds.has);
  alone = λ _. has_contexts takes adds.has;
}

-- one more lookup before the others
module _ (scope : Scope) (gpos kept : List ℕ) (n : ℕ) (front behind distances lookups subtables : List ℕ) where
  joined : List ℕ
  joined = (front ++ lookups) ++ (subtables ++ behind)

  -- the bytes so far are there
  old-there : Holds (lookups ++ subtables) joined (length front)
  unfolding joined
  old-there = record {
    front = front;
    behind = behind;
    is = append_assoc front lookups (subtables ++ behind) ∙ ap (λ xs. front ++ xs) (sym (append_assoc lookups subtables behind));
    place = refl;
  }

  last-each : (i : ℕ) → i + n + 1 ≡ lookups_of gpos → HasLast scope gpos kept n distances lookups subtables →
      MakesPosition scope gpos kept (lookup_at gpos i) (length lookups + length subtables) front behind → (j k : ℕ) → k < n + 1 → j + k + 1 ≡ lookups_of gpos →
      (offset : ℕ) × (offset + get_or (distances ++ length (front ++ lookups) ∷ []) k 0 ≡ length (front ++ lookups))
      × HasPosition scope gpos kept (lookup_at gpos j) joined offset
  unfolding joined
  last-each i is has makes j k less at = elim (nat_cases k n) [
    | inl early ↦ (let h = has.each j k early at in
        let many = has.many in
        let same = get_or_append_left distances (length (front ++ lookups) ∷ []) 0 k (omega (arith, early, many)) in
        let far = h.1 in (
          length front + h.0,
          omega (arith, same, far, length-append front lookups),
          position-in scope gpos kept (lookup_at gpos j) joined (lookups ++ subtables) (length front) h.0 old-there h.2,
        ))
    | inr late ↦ (let here : n ≡ k = omega (arith, less, late) in
        let many = has.many in
        let same = get_or_push distances (length (front ++ lookups)) 0 k (omega (arith, here, many)) in
        let which : i ≡ j = omega (arith, is, at, here) in (
          0,
          omega (arith, same),
          subst (λ m. HasPosition scope gpos kept (lookup_at gpos m) joined 0) which
              (subst (λ (xs : List ℕ). HasPosition scope gpos kept (lookup_at gpos i) xs 0)
              (ap (λ xs. front ++ xs) (append_assoc lookups subtables behind) ∙ sym (append_assoc front lookups (subtables ++ behind)))
              (makes.before (lookups ++ subtables) (length-append lookups subtables))),
        ))
  ]

-- the last lookup is one of the others
shared-each : (scope : Scope) (gpos kept : List ℕ) (n i distance : ℕ) (front distances lookups subtables : List ℕ) → i + n + 1 ≡ lookups_of gpos →
    HasLast scope gpos kept n distances lookups subtables → HasPosition scope gpos kept (lookup_at gpos i) front 0 → IsAway front distance lookups →
    (j k : ℕ) → k < n + 1 → j + k + 1 ≡ lookups_of gpos →
    (offset : ℕ) × (offset + get_or (distances ++ distance ∷ []) k 0 ≡ length lookups) × HasPosition scope gpos kept (lookup_at gpos j) (lookups ++ subtables) offset
shared-each scope gpos kept n i distance front distances lookups subtables is has makes away j k less at = elim (nat_cases k n) [
  | inl early ↦ (let h = has.each j k early at in
      let many = has.many in
      let same = get_or_append_left distances (distance ∷ []) 0 k (omega (arith, early, many)) in
      let far = h.1 in
      (h.0, omega (arith, same, far), h.2))
  | inr late ↦ (let here : n ≡ k = omega (arith, less, late) in
      let many = has.many in
      let same = get_or_push distances distance 0 k (omega (arith, here, many)) in
      let which : i ≡ j = omega (arith, is, at, here) in
      let far = away.place in (
        away.offset + 0,
        omega (arith, same, far),
        subst (λ m. HasPosition scope gpos kept (lookup_at gpos m) (lookups ++ subtables) (away.offset + 0)) which
            (position-in scope gpos kept (lookup_at gpos i) (lookups ++ subtables) front away.offset 0 (holds-on subtables away.there) makes),
      ))
]

-- one more lookup
module _ (scope : Scope) (gpos kept : List ℕ) (n i : ℕ) (front behind : List ℕ) (old new : Last) (is : i + n + 1 ≡ lookups_of gpos)
    (has : HasLast scope gpos kept n old.distances.items old.lookups.items old.subtables.items) where
  last-put : MakesPosition scope gpos kept (lookup_at gpos i) (length old.lookups.items + length old.subtables.items) front behind → IsPut front behind old new →
      HasLast scope gpos kept (n + 1) new.distances.items new.lookups.items new.subtables.items
  unfolding joined
  last-put makes p =
      let lookups = front ++ old.lookups.items in
      let distances = old.distances.items ++ length lookups ∷ [] in
      subst (λ (xs : List ℕ). HasLast scope gpos kept (n + 1) xs new.lookups.items new.subtables.items)
      (sym (p.distances ∙ ap (λ xs. old.distances.items ++ length xs ∷ []) p.lookups))
      (subst (λ (xs : List ℕ). HasLast scope gpos kept (n + 1) distances xs new.subtables.items) (sym p.lookups)
      (subst (λ (xs : List ℕ). HasLast scope gpos kept (n + 1) distances lookups xs) (sym p.subtables) (record {
        many = (let many = has.many in omega (arith, many, length-append old.distances.items (length lookups ∷ [])));
        each = last-each scope gpos kept n front behind old.distances.items old.lookups.items old.subtables.items i is has makes;
      })))

  last-shared : HasPosition scope gpos kept (lookup_at gpos i) front 0 → IsShared front behind old new →
      HasLast scope gpos kept (n + 1) new.distances.items new.lookups.items new.subtables.items
  last-shared alone p =
      subst (λ (xs : List ℕ). HasLast scope gpos kept (n + 1) xs new.lookups.items new.subtables.items) (sym p.distances)
      (subst (λ (xs : List ℕ). HasLast scope gpos kept (n + 1) (old.distances.items ++ p.distance ∷ []) xs new.subtables.items) (sym p.lookups)
      (subst (λ (xs : List ℕ). HasLast scope gpos kept (n + 1) (old.distances.items ++ p.distance ∷ []) old.lookups.items xs) (sym p.subtables) (record {
        many = (let many = has.many in omega (arith, many, length-append old.distances.items (p.distance ∷ [])));
        each = shared-each scope gpos kept n i p.distance front old.distances.items old.lookups.items old.subtables.items is has alone p.there;
      })))

  pub last-more : MakesPosition scope gpos kept (lookup_at gpos i) (length old.lookups.items + length old.subtables.items) front behind →
      Joins front behind old new →
      HasLast scope gpos kept (n + 1) new.distances.items new.lookups.items new.subtables.items
  last-more makes (is_put p) = last-put makes p
  last-more makes (is_shared p) = last-shared (makes.alone p.alone) p

-- all lookups
pub all-there : (scope : Scope) (gpos kept : List ℕ) (distances lookups subtables offsets : List ℕ) →
    HasLast scope gpos kept (lookups_of gpos) distances lookups subtables → AreStarts (length lookups) distances offsets →
    HasLookups scope gpos kept (lookups_of gpos) offsets (lookups ++ subtables)
all-there scope gpos kept distances lookups subtables offsets has are = record {
  many = are.many ∙ has.many;
  each = λ i less. (let many = has.many in
      let k = lookups_of gpos - 1 - i in
      let h = has.each i k (omega (arith, less)) (omega (arith, less)) in
      let start = are.each i k (omega (arith, less, many)) in
      let far = h.1 in
      subst (HasPosition scope gpos kept (lookup_at gpos i) (lookups ++ subtables)) {x = h.0} {y = get_or offsets i 0} (omega (arith, start, far)) h.2);
}

-- one more offset
pub starts-more : (size : ℕ) (ds os : List ℕ) (n m : ℕ) → length os ≡ n → n + m + 1 ≡ length ds →
    ((i k : ℕ) → i < n → i + k + 1 ≡ length ds → get_or os i 0 ≡ size - get_or ds k 0) → (i k : ℕ) → i < n + 1 → i + k + 1 ≡ length ds →
    get_or (os ++ (size - get_or ds m 0) ∷ []) i 0 ≡ size - get_or ds k 0
starts-more size ds os n m many is each i k less at = elim (nat_cases i n) [
  | inl early ↦ get_or_append_left os ((size - get_or ds m 0) ∷ []) 0 i (omega (arith, many, early)) ∙ each i k early at
  | inr late ↦ (let same : i ≡ n = omega (arith, less, late) in
      get_or_push os (size - get_or ds m 0) 0 i (omega (arith, many, same)) ∙ ap (λ q. size - get_or ds q 0) {x = m} {y = k} (omega (arith, is, at, same)))
]

-- a lookup list
pub list-joined : (old offsets a b : List ℕ) →
    (((old ++ uint16 (length offsets)) ++ offsets_text (2 + length offsets * 2) offsets) ++ a) ++ b ≡ old ++ list_text offsets (a ++ b)
unfolding list_text
list-joined old offsets a b =
    let u = uint16 (length offsets) in
    let o = offsets_text (2 + length offsets * 2) offsets in
    append_assoc ((old ++ u) ++ o) a b ∙ append_assoc (old ++ u) o (a ++ b) ∙ append_assoc old u (o ++ (a ++ b))
