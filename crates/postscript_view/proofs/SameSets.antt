-- Where a char set stands that a font set reads, the same stands in place.
use Rattle.std.proofs.Common.{◌≡◌, refl, sym, ap, subst, ◌∙◌, inl, inr, ℕ, zero, suc, ◌+◌, ◌-◌, ◌*◌, ◌/◌, ◌<◌, ◌≤◌, nat_lt, if◌then◌else◌, Bool, true, false, pos, List, [], ◌∷◌, length, take, drop, length-drop, Bor, arith, Some, None}
use Rattle.std.specs.Prelude.{slice_get, Result, Ok, Err, IfOk, IfErr, MatchResult}
use Rattle.std.proofs.Math.Nat.{le-div_iff_mul-le}
use Rattle.std.proofs.lemmas.Bool.Decides.{nat_tests}
use Rattle.std.proofs.lemmas.List.{drop-take, drop-drop, take-take, length-take-le}
use Rattle.std.proofs.lemmas.Option.{none-some, same_Some, slice_get_past}
use Rattle.postscript_base.specs.Numbers.{big_endian, number, slice}
use Rattle.postscript_base.specs.Tape.Outcome.{Reading, Got}
use Rattle.postscript_base.specs.declared.error.Error.{Error}
use Rattle.postscript_base.specs.Compact1.Dictionary.{Dictionary}
use Rattle.postscript_base.specs.declared.compact1.operator.Operator.{Operator}
use Rattle.postscript_base.specs.declared.compact1.operator.Operator.TheVariants as operators
use Rattle.postscript_compact1.proofs.Steps.{Done, Step, accepted}
use Rattle.postscript_compact1.specs.CharSetAt.{StandAt, IsCharSet}
use Rattle.postscript_compact1.specs.CharSets.{range, range_1, range_2}
use Rattle.postscript_compact1.specs.FontSet.Parts.{HasFirst, HasCharSet, Is_0, Is_1, Is_2, Own}
use Rattle.postscript_compact1.specs.declared.char_set.CharSet.{CharSet}
use Rattle.postscript_compact1.specs.declared.char_set.CharSet.TheVariants as sets
use Rattle.postscript_compact1.specs.declared.char_set.range.Range1.{Range1}
use Rattle.postscript_compact1.specs.declared.char_set.range.Range2.{Range2}
use Rattle.postscript_base.specs.Index.{number_at}
use Rattle.postscript_view.specs.CharSets.{CharSetStandsAt, IsCharSetAtOffset, AreNamedIn, IsCharSetOf}
use Rattle.postscript_view.specs.SameSet.{AreIdentifiers, BeginWith, IsSame}
use Rattle.postscript_view.specs.Select.{offset_of}
use Rattle.postscript_view.specs.declared.char_set.CharSetView.{CharSetView}
use Rattle.postscript_view.specs.declared.char_set.Identifiers.{Identifiers}
use Rattle.postscript_view.specs.declared.char_set.Identifiers.TheVariants.{ISOAdobe, Expert, ExpertSubset, Listed, Ranges1, Ranges2}
use Rattle.postscript_view.proofs.Marking.{no_marks, unmarked}
use Rattle.postscript_view.proofs.Wider.{got_if}

-- ---- numbers
number_got : (n : ℕ) (bytes : List ℕ) (place x next : ℕ) → 0 < n → number n bytes place ≡ Got x next →
    (place + n ≤ length bytes) × (x ≡ number_at bytes place n) × (next ≡ place + n)
unfolding number slice number_at
number_got n bytes place x next some e =
    let h = got_if (nat_lt (length bytes - place) n) (take n (drop place bytes)) (place + n) x next e in
    let enough = h.0 in
    (grind (arith, nat_tests), h.1, h.2)

-- a number within a slice, and behind a place
number_of_cut : (bytes : List ℕ) (p m q n : ℕ) → q + n ≤ m → number_at (take m (drop p bytes)) q n ≡ number_at bytes (p + q) n
unfolding number_at
number_of_cut bytes p m q n h =
    let split : m ≡ q + (m - q) = omega (arith, h) in
    ap big_endian
    (ap (λ k. take n (drop q (take k (drop p bytes)))) split ∙ ap (λ l. take n l) (drop-take q (m - q) (drop p bytes))
    ∙ take-take n (m - q) (drop q (drop p bytes)) (omega (arith, h)) ∙ ap (λ l. take n l) (drop-drop q p bytes))

number_of_rest : (bytes : List ℕ) (p q n : ℕ) → number_at (drop p bytes) q n ≡ number_at bytes (p + q) n
unfolding number_at
number_of_rest bytes p q n = ap (λ l. big_endian (take n l)) (drop-drop q p bytes)

-- ---- identifiers
listed_at : (bytes : List ℕ) (place : ℕ) (ids : List ℕ) (next : ℕ) → StandAt (number 2) bytes place ids next → (i : ℕ) → i < length ids →
    slice_get ids i ≡ Some (number_at bytes (place + 2 * i) 2)
listed_at bytes place [] next h i less = absurd (omega (arith, less))
listed_at bytes place (x ∷ xs) next h zero less =
    let one = number_got 2 bytes place x h.0 (omega arith) h.1 in
    let on : place + 2 * 0 ≡ place = omega arith in
    ap (λ n. Some n) (one.1 ∙ ap (λ p. number_at bytes p 2) (sym on))
listed_at bytes place (x ∷ xs) next h (suc i) less =
    let one = number_got 2 bytes place x h.0 (omega arith) h.1 in
    let there : h.0 + 2 * i ≡ place + 2 * suc i = omega (arith, one.2) in
    listed_at bytes h.0 xs next h.2 i (omega (arith, less)) ∙ ap (λ p. Some (number_at bytes p 2)) there

listed_within : (bytes : List ℕ) (place : ℕ) (ids : List ℕ) (next : ℕ) → place ≤ length bytes → StandAt (number 2) bytes place ids next →
    place + 2 * length ids ≤ length bytes
listed_within bytes place [] next within h = omega (arith, within)
listed_within bytes place (x ∷ xs) next within h =
    let one = number_got 2 bytes place x h.0 (omega arith) h.1 in
    let rest = listed_within bytes h.0 xs next (omega (arith, one.0, one.2)) h.2 in
    omega (arith, rest, one.2)

identifiers_are : (bytes : List ℕ) (place glyphs : ℕ) (ids : List ℕ) (next : ℕ) → place ≤ length bytes →
    StandAt (number 2) bytes place ids next → 1 + length ids ≡ glyphs
    → AreIdentifiers ids (take (2 * (glyphs - 1)) (drop place bytes))
identifiers_are bytes place glyphs ids next within h each i = by (nat_lt i (length held / 2)) refl
  where
    held : List ℕ
    held = take (2 * (glyphs - 1)) (drop place bytes)

    many : length held / 2 ≡ length ids
    many =
        let all = listed_within bytes place ids next within h in
        let rest : length (drop place bytes) ≡ length bytes - place = length-drop place bytes in
        let long : length held ≡ 2 * (glyphs - 1) = length-take-le (2 * (glyphs - 1)) (drop place bytes) (omega (arith, all, rest, each)) in
        omega (arith, long, each)

    by : (b : Bool) → nat_lt i (length held / 2) ≡ b → (if b then Some (number_at held (2 * i) 2) else None) ≡ slice_get ids i
    by true t =
        let less : i < length ids = grind (arith, nat_tests, many) in
        ap (λ n. Some n) (number_of_cut bytes place (2 * (glyphs - 1)) (2 * i) 2 (omega (arith, less, each)))
        ∙ sym (listed_at bytes place ids next h i less)
    by false t =
        let past : length ids ≤ i = grind (arith, nat_tests, many) in
        sym (slice_get_past ids i past)

-- ---- ranges
-- what a range of so many bytes tells
abbrev Tells : {A : Type 0} → Reading A → (A → ℕ) → (A → ℕ) → ℕ → Type 0
Tells {A} one first left size = (bytes : List ℕ) (place : ℕ) (value : A) (next : ℕ) → one bytes place ≡ Got value next
    → (place + (2 + size) ≤ length bytes) × (number_at bytes place 2 ≡ first value) × (number_at bytes
    (place + 2) size ≡ left value) × (next ≡ place + (2 + size))

tells_1 : Tells range_1 (λ range. range.first) (λ range. range.left) 1
unfolding range
tells_1 bytes place value next e =
    let s = accepted (Step (number 2) (λ first. Step (number 1) (λ left. Done (record { first = first; left = left })))) bytes place value
    next e in
    let first = number_got 2 bytes place s.0 s.1 (omega arith) s.2 in
    let left = number_got 1 bytes s.1 s.3.0 s.3.1 (omega arith) s.3.2 in
    let is = s.3.3.0 in
    let behind = s.3.3.1 in (
      omega (arith, left.0, first.2),
      sym first.1 ∙ ap (λ (r : Range1). r.first) is,
      ap (λ p. number_at bytes p 1) (sym first.2) ∙ sym left.1 ∙ ap (λ (r : Range1). r.left) is,
      omega (arith, behind, left.2, first.2),
    )

tells_2 : Tells range_2 (λ range. range.first) (λ range. range.left) 2
unfolding range
tells_2 bytes place value next e =
    let s = accepted (Step (number 2) (λ first. Step (number 2) (λ left. Done (record { first = first; left = left })))) bytes place value
    next e in
    let first = number_got 2 bytes place s.0 s.1 (omega arith) s.2 in
    let left = number_got 2 bytes s.1 s.3.0 s.3.1 (omega arith) s.3.2 in
    let is = s.3.3.0 in
    let behind = s.3.3.1 in (
      omega (arith, left.0, first.2),
      sym first.1 ∙ ap (λ (r : Range2). r.first) is,
      ap (λ p. number_at bytes p 2) (sym first.2) ∙ sym left.1 ∙ ap (λ (r : Range2). r.left) is,
      omega (arith, behind, left.2, first.2),
    )

ranges_at : {A : Type 0} (one : Reading A) (first left : A → ℕ) (size : ℕ) → Tells one first left size → (bytes : List ℕ) (place : ℕ)
    (rs : List A) (next : ℕ) → StandAt one bytes place rs next
    → (r : ℕ) (value : A) → slice_get rs r ≡ Some value
    → (place + (r + 1) * (2 + size) ≤ length bytes) × (number_at bytes (place + r * (2 + size)) 2 ≡ first value) × (number_at bytes
    (place + (r * (2 + size) + 2)) size ≡ left value)
ranges_at {A} one first left size tells bytes place [] next h r value there = absurd (none-some value there)
ranges_at {A} one first left size tells bytes place (x ∷ xs) next h zero value there =
    let t = tells bytes place x h.0 h.1 in
    let is : x ≡ value = same_Some x value there in
    let on : place + 0 * (2 + size) ≡ place = omega arith in
    let behind : place + (0 * (2 + size) + 2) ≡ place + 2 = omega arith in (
      omega (arith, t.0),
      ap (λ p. number_at bytes p 2) on ∙ t.1 ∙ ap first is,
      ap (λ p. number_at bytes p size) behind ∙ t.2 ∙ ap left is,
    )
ranges_at {A} one first left size tells bytes place (x ∷ xs) next h (suc r) value there =
    let t = tells bytes place x h.0 h.1 in
    let rest = ranges_at one first left size tells bytes h.0 xs next h.2 r value there in
    let on : place + suc r * (2 + size) ≡ h.0 + r * (2 + size) = omega (arith, t.3) in
    let behind : place + (suc r * (2 + size) + 2) ≡ h.0 + (r * (2 + size) + 2) = omega (arith, t.3) in (
      omega (arith, rest.0, t.3),
      ap (λ p. number_at bytes p 2) on ∙ rest.1,
      ap (λ p. number_at bytes p size) behind ∙ rest.2,
    )

-- so many ranges fit
fits : (r size n : ℕ) → (r + 1) * (2 + size) ≤ n → r < n / (2 + size)
fits r size n h =
    let up : r + 1 ≤ n / (2 + size) = (le-div_iff_mul-le {k = 2 + size} {x = r + 1} {y = n} (omega arith)).1 h in omega (arith, up)

begin_with : {A : Type 0} (one : Reading A) (first left : A → ℕ) (size : ℕ) → Tells one first left size → (bytes : List ℕ) (place : ℕ)
    (rs : List A) (next : ℕ) → StandAt one bytes place rs next
    → BeginWith first left size rs (drop place bytes)
begin_with {A} one first left size tells bytes place rs next h r value there =
    let at = ranges_at one first left size tells bytes place rs next h r value there in
    let rest : length (drop place bytes) ≡ length bytes - place = length-drop place bytes in (
      fits r size (length (drop place bytes)) (omega (arith, at.0, rest)),
      number_of_rest bytes place (r * (2 + size)) 2 ∙ at.1,
      number_of_rest bytes place (r * (2 + size) + 2) size ∙ at.2,
    )

-- ---- the char set that stands at a place
format_is : (bytes : List ℕ) (place format behind : ℕ) → number 1 bytes place ≡ Got format behind →
    (number_at bytes place 1 ≡ format) × (behind ≡ place + 1) × (place + 1 ≤ length bytes)
format_is bytes place format behind e =
    let one = number_got 1 bytes place format behind (omega arith) e in
    (sym one.1, one.2, one.0)

at_place : (set : CharSet) (view : Identifiers) (bytes : List ℕ) (place glyphs next : ℕ) → IsCharSet bytes place glyphs set next →
    CharSetStandsAt view bytes place glyphs → IsSame set view
at_place sets.ISOAdobe view bytes place glyphs next h stands = absurd h
at_place sets.Expert view bytes place glyphs next h stands = absurd h
at_place sets.ExpertSubset view bytes place glyphs next h stands = absurd h
at_place (sets.Format0 set) ISOAdobe bytes place glyphs next h stands = absurd stands
at_place (sets.Format0 set) Expert bytes place glyphs next h stands = absurd stands
at_place (sets.Format0 set) ExpertSubset bytes place glyphs next h stands = absurd stands
at_place (sets.Format0 set) (Listed identifiers) bytes place glyphs next h stands =
    let format = format_is bytes place 0 h.behind h.byte in
    let behind = subst (λ p. StandAt (number 2) bytes p set.glyphs next) format.1 h.identifiers in
    subst (AreIdentifiers set.glyphs) (sym stands.2) (identifiers_are bytes (place + 1) glyphs set.glyphs next format.2 behind h.each)
at_place (sets.Format0 set) (Ranges1 ranges) bytes place glyphs next h stands =
    absurd (omega (arith, (format_is bytes place 0 h.behind h.byte).0, stands.0))
at_place (sets.Format0 set) (Ranges2 ranges) bytes place glyphs next h stands =
    absurd (omega (arith, (format_is bytes place 0 h.behind h.byte).0, stands.0))
at_place (sets.Format1 set) ISOAdobe bytes place glyphs next h stands = absurd stands
at_place (sets.Format1 set) Expert bytes place glyphs next h stands = absurd stands
at_place (sets.Format1 set) ExpertSubset bytes place glyphs next h stands = absurd stands
at_place (sets.Format1 set) (Listed identifiers) bytes place glyphs next h stands =
    absurd (omega (arith, (format_is bytes place 1 h.behind h.byte).0, stands.0))
at_place (sets.Format1 set) (Ranges1 ranges) bytes place glyphs next h stands =
    let format = format_is bytes place 1 h.behind h.byte in
    let behind = subst (λ p. StandAt range_1 bytes p set.ranges next) format.1 h.ranges in
    subst (BeginWith (λ (r : Range1). r.first) (λ (r : Range1). r.left) 1 set.ranges) (sym stands.2)
    (begin_with range_1 (λ (r : Range1). r.first) (λ (r : Range1). r.left) 1 tells_1 bytes (place + 1) set.ranges next behind)
at_place (sets.Format1 set) (Ranges2 ranges) bytes place glyphs next h stands =
    absurd (omega (arith, (format_is bytes place 1 h.behind h.byte).0, stands.0))
at_place (sets.Format2 set) ISOAdobe bytes place glyphs next h stands = absurd stands
at_place (sets.Format2 set) Expert bytes place glyphs next h stands = absurd stands
at_place (sets.Format2 set) ExpertSubset bytes place glyphs next h stands = absurd stands
at_place (sets.Format2 set) (Listed identifiers) bytes place glyphs next h stands =
    absurd (omega (arith, (format_is bytes place 2 h.behind h.byte).0, stands.0))
at_place (sets.Format2 set) (Ranges1 ranges) bytes place glyphs next h stands =
    absurd (omega (arith, (format_is bytes place 2 h.behind h.byte).0, stands.0))
at_place (sets.Format2 set) (Ranges2 ranges) bytes place glyphs next h stands =
    let format = format_is bytes place 2 h.behind h.byte in
    let behind = subst (λ p. StandAt range_2 bytes p set.ranges next) format.1 h.ranges in
    subst (BeginWith (λ (r : Range2). r.first) (λ (r : Range2). r.left) 2 set.ranges) (sym stands.2)
    (begin_with range_2 (λ (r : Range2). r.first) (λ (r : Range2). r.left) 2 tells_2 bytes (place + 1) set.ranges next behind)

-- what stands there can be lent
lends : (set : CharSet) (bytes : Bor (List ℕ)) (place glyphs next : ℕ) → IsCharSet bytes.now place glyphs set next →
    (view : Identifiers) × CharSetStandsAt view bytes.now place glyphs
lends sets.ISOAdobe bytes place glyphs next h = absurd h
lends sets.Expert bytes place glyphs next h = absurd h
lends sets.ExpertSubset bytes place glyphs next h = absurd h
lends (sets.Format0 set) bytes place glyphs next h =
    let format = format_is bytes.now place 0 h.behind h.byte in
    let behind = subst (λ p. StandAt (number 2) bytes.now p set.glyphs next) format.1 h.identifiers in
    let within = listed_within bytes.now (place + 1) set.glyphs next format.2 behind in
    let each = h.each in (
      Listed (record { ref_ptr = bytes.ref_ptr; now = take (2 * (glyphs - 1)) (drop (place + 1) bytes.now) }),
      (format.0, omega (arith, within, each), refl),
    )
lends (sets.Format1 set) bytes place glyphs next h =
    let format = format_is bytes.now place 1 h.behind h.byte in
    (Ranges1 (record { ref_ptr = bytes.ref_ptr; now = drop (place + 1) bytes.now }), (format.0, format.2, refl))
lends (sets.Format2 set) bytes place glyphs next h =
    let format = format_is bytes.now place 2 h.behind h.byte in
    (Ranges2 (record { ref_ptr = bytes.ref_ptr; now = drop (place + 1) bytes.now }), (format.0, format.2, refl))

-- ---- the char set that a dictionary names
from_start : (set : CharSet) (bytes : List ℕ) (offset glyphs next : ℕ) → IsCharSet bytes (0 + offset) glyphs set next →
    IsCharSet bytes offset glyphs set next
from_start set bytes offset glyphs next h =
    let on : 0 + offset ≡ offset = omega arith in subst (λ p. IsCharSet bytes p glyphs set next) on h

pub offset_is : (map : Dictionary) (operator : Operator) (offset : ℕ) → HasFirst map operator (pos offset) →
    offset_of map operator ≡ Some offset
unfolding offset_of
offset_is map operator offset h = rw (h.1, h.2) refl

named : (view : Identifiers) (bytes : List ℕ) (map : Dictionary) (offset glyphs : ℕ) → HasFirst map operators.CharSet (pos offset) →
    AreNamedIn view bytes map glyphs → IsCharSetAtOffset view bytes offset glyphs
named view bytes map offset glyphs first h =
    let is = offset_is map operators.CharSet offset first in
    let other = h.1 in
    let same : h.0 ≡ offset = cc in
    subst (λ o. IsCharSetAtOffset view bytes o glyphs) same h.2

pub same_set : (view : Identifiers) (bytes : List ℕ) (map : Dictionary) (glyphs : ℕ) (set : CharSet) → AreNamedIn view bytes map glyphs →
    HasCharSet bytes 0 glyphs map set → IsSame set view
same_set view bytes map glyphs set h (Is_0 first is) = elim (named view bytes map 0 glyphs first h) [
  | inl iso ↦ rw (is, iso.1) tt
  | inr more ↦ elim more [
    | inl expert ↦ absurd (omega (arith, expert.0))
    | inr most ↦ elim most [
      | inl subset ↦ absurd (omega (arith, subset.0))
      | inr own ↦ absurd (omega (arith, own.0))
    ]
  ]
]
same_set view bytes map glyphs set h (Is_1 first is) = elim (named view bytes map 1 glyphs first h) [
  | inl iso ↦ absurd (omega (arith, iso.0))
  | inr more ↦ elim more [
    | inl expert ↦ rw (is, expert.1) tt
    | inr most ↦ elim most [
      | inl subset ↦ absurd (omega (arith, subset.0))
      | inr own ↦ absurd (omega (arith, own.0))
    ]
  ]
]
same_set view bytes map glyphs set h (Is_2 first is) = elim (named view bytes map 2 glyphs first h) [
  | inl iso ↦ absurd (omega (arith, iso.0))
  | inr more ↦ elim more [
    | inl expert ↦ absurd (omega (arith, expert.0))
    | inr most ↦ elim most [
      | inl subset ↦ rw (is, subset.1) tt
      | inr own ↦ absurd (omega (arith, own.0))
    ]
  ]
]
same_set view bytes map glyphs set h (Own offset next first far place stands) = elim (named view bytes map offset glyphs first h) [
  | inl iso ↦ absurd (omega (arith, iso.0, far))
  | inr more ↦ elim more [
    | inl expert ↦ absurd (omega (arith, expert.0, far))
    | inr most ↦ elim most [
      | inl subset ↦ absurd (omega (arith, subset.0, far))
      | inr own ↦ at_place set view bytes offset glyphs next (from_start set bytes offset glyphs next stands) own.1
    ]
  ]
]

pub has_view : (bytes : Bor (List ℕ)) (map : Dictionary) (glyphs : ℕ) (set : CharSet) → HasCharSet bytes.now 0 glyphs map set →
    (view : Identifiers) × AreNamedIn view bytes.now map glyphs
has_view bytes map glyphs set (Is_0 first is) = (ISOAdobe, (0, offset_is map operators.CharSet 0 first, inl (refl, refl)))
has_view bytes map glyphs set (Is_1 first is) = (Expert, (1, offset_is map operators.CharSet 1 first, inr (inl (refl, refl))))
has_view bytes map glyphs set (Is_2 first is) = (ExpertSubset, (2, offset_is map operators.CharSet 2 first, inr (inr (inl (refl, refl)))))
has_view bytes map glyphs set (Own offset next first far place stands) =
    let lent = lends set bytes offset glyphs next (from_start set bytes.now offset glyphs next stands) in
    (lent.0, (offset, offset_is map operators.CharSet offset first, inr (inr (inr (far, lent.1)))))

pub none_for : (r : Result CharSetView Error) (bytes : List ℕ) (map : Dictionary) (n glyphs : ℕ) → n ≡ glyphs →
    IfErr r (λ e. (view : CharSetView) → IsCharSetOf view bytes map n → ⊥)
    → IfErr r (λ e. (view : CharSetView) → IsCharSetOf view bytes map glyphs → ⊥)
none_for (Ok view) bytes map n glyphs is none = tt
none_for (Err e) bytes map n glyphs is none = λ view h. none view (subst (λ k. IsCharSetOf view bytes map k) (sym is) h)

pub tied : (r : Result CharSetView Error) (bytes : Bor (List ℕ)) (map : Dictionary) (n glyphs : ℕ) → n ≡ glyphs →
    IfOk r (λ view. IsCharSetOf view bytes.now map n)
    → IfErr r (λ e. (view : CharSetView) → IsCharSetOf view bytes.now map n → ⊥)
    → MatchResult r (λ view. (set : CharSet) → HasCharSet bytes.now 0 glyphs map set → IsSame set view.identifiers)
    (λ e. (set : CharSet) → HasCharSet bytes.now 0 glyphs map set → ⊥)
tied (Ok view) bytes map n glyphs is found none =
    λ set has. same_set view.identifiers bytes.now map glyphs set
    (subst (λ k. AreNamedIn view.identifiers bytes.now map k) is found.identifiers) has
tied (Err e) bytes map n glyphs is found none = λ set has.
    let other = has_view bytes map glyphs set has in
    none (record { identifiers = other.0; glyphs = n; marks = no_marks; marked = unmarked other.0 })
    (record { identifiers = subst (λ k. AreNamedIn other.0 bytes.now map k) (sym is) other.1; counted = refl })
