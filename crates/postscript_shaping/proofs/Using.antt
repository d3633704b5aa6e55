-- What the tests on characters say.
use Rattle.std.proofs.Common.{◌≡◌, refl, sym, ap, subst, ◌∙◌, ◌⊎◌, ◌↔◌, inl, inr, ℕ, ◌<◌, List, [], ◌∷◌, ◌++◌, Bool, true, length, arith}
use Rattle.std.specs.Prelude.{◌==◌, ◌&&◌, ◌||◌, flat_map, nat_lt}
use Rattle.std.specs.List.{All, Contains, filter, list_any}
use Rattle.std.specs.List.Sorted.{IsPermutation}
use Rattle.std.proofs.lemmas.Bool.{eq-eqb, eqb-true, lt-ltb, ltb-true}
use Rattle.std.proofs.lemmas.List.Elements.{Contains-append_left, Contains-append_right, Contains-append_cases}
use Rattle.std.proofs.lemmas.List.Sorted.{Contains-permutation, IsPermutation-sym}
use Rattle.postscript_shaping.specs.Characters.{is_arabic_form, is_attached, is_mirrored, is_right_to_left}
use Rattle.postscript_shaping.specs.Parts.{compatible, letters, parts, rest}
use Rattle.postscript_shaping.specs.Shaping.{AreUsed, Compose, IsBase, IsComposed, IsForm, IsOrParts, IsUsed}
use Rattle.postscript_shaping.specs.Shaping.IsForm.{space, dotted_circle, mirror, arabic}
use Rattle.postscript_shaping.specs.Shaping.IsComposed.{part, composed, between}
use Rattle.postscript_shaping.specs.Computing.{base, compose, has, has_all, has_any, has_parts, is_arabic, is_between, is_composed, is_form, is_inserted, is_long, is_some, is_some_of, mirrors, with_parts}
use Rattle.postscript_shaping.proofs.Searching.{or-cases, and-both, both-and, left-or, right-or, there-any, any-there, has-there, there-has, all-there, there-all, some-not, not-some, some-there, there-some, there-filter, filter-there, there-flat, flat-there}

-- two lists have the same characters
abbrev Same : (xs ys : List ℕ) → Type 0
Same xs ys = (char : ℕ) → Contains xs char ↔ Contains ys char

same-from : (xs ys : List ℕ) → IsPermutation xs ys → Same ys xs
same-from xs ys p char = (Contains-permutation ys xs char (IsPermutation-sym xs ys p), Contains-permutation xs ys char p)

inserted-is : (kept chars : List ℕ) (char : ℕ) → Same kept chars → is_inserted (is_some kept) (list_any is_attached kept) char ≡ true → IsForm chars char
inserted-is kept chars char same h = elim (or-cases (is_some kept && (char == 0x20)) (list_any is_attached kept && (char == 0x25cc)) h) [
  | inl e ↦
      let both = and-both (is_some kept) (char == 0x20) e in
      let one = some-there kept both.0 in
      space (eqb-true char 0x20 both.1) one.0 ((same one.0).0 one.1)
  | inr r ↦
      let both = and-both (list_any is_attached kept) (char == 0x25cc) r in
      let mark = any-there is_attached kept both.0 in
      dotted_circle (eqb-true char 0x25cc both.1) mark.0 ((same mark.0).0 mark.1) mark.2
]

mirror-is : (kept chars : List ℕ) (char : ℕ) → Same kept chars → (mirrors kept && is_mirrored char) ≡ true → IsForm chars char
mirror-is kept chars char same h =
    let both = and-both (mirrors kept) (is_mirrored char) h in
    let two = and-both (list_any is_right_to_left kept) (list_any is_mirrored kept) both.0 in
    let letter = any-there is_right_to_left kept two.0 in
    let other = any-there is_mirrored kept two.1 in
    mirror both.1 other.0 letter.0 ((same other.0).0 other.1) other.2 ((same letter.0).0 letter.1) letter.2

-- a list has the characters and their parts
abbrev Owns : (own chars : List ℕ) → Type 0
Owns own chars = (char : ℕ) → Contains own char ↔ IsOrParts (Contains chars) char

arabic-is : (own chars : List ℕ) (char : ℕ) → Owns own chars → is_arabic own char ≡ true → IsForm chars char
arabic-is own chars char owns h =
    let both = and-both (is_arabic_form char) (is_some (compatible char) && has_all own (compatible char)) h in
    let two = and-both (is_some (compatible char)) (has_all own (compatible char)) both.1 in
    arabic both.0 (some-not (compatible char) two.0)
    (all-there (has own) (IsOrParts (Contains chars)) (λ x t. (owns x).0 (has-there own x t)) (compatible char) two.1)

form-is : (kept own chars : List ℕ) (char : ℕ) → Same kept chars → Owns own chars → is_form kept own char ≡ true → IsForm chars char
form-is kept own chars char same owns h =
    elim (or-cases (is_inserted (is_some kept) (list_any is_attached kept) char) ((mirrors kept && is_mirrored char) || is_arabic own char) h) [
      | inl i ↦ inserted-is kept chars char same i
      | inr r ↦ elim (or-cases (mirrors kept && is_mirrored char) (is_arabic own char) r) [
        | inl m ↦ mirror-is kept chars char same m
        | inr a ↦ arabic-is own chars char owns a
      ]
    ]

is-inserted : (kept own : List ℕ) (char : ℕ) → is_inserted (is_some kept) (list_any is_attached kept) char ≡ true → is_form kept own char ≡ true
is-inserted kept own char h = left-or (is_inserted (is_some kept) (list_any is_attached kept) char) ((mirrors kept && is_mirrored char) || is_arabic own char) h

is-other : (kept own : List ℕ) (char : ℕ) → ((mirrors kept && is_mirrored char) || is_arabic own char) ≡ true → is_form kept own char ≡ true
is-other kept own char h = right-or (is_inserted (is_some kept) (list_any is_attached kept) char) ((mirrors kept && is_mirrored char) || is_arabic own char) h

is-form : (kept own chars : List ℕ) (char : ℕ) → Same kept chars → Owns own chars → IsForm chars char → is_form kept own char ≡ true
is-form kept own chars char same owns (space e one there) =
    is-inserted kept own char (left-or (is_some kept && (char == 0x20)) (list_any is_attached kept && (char == 0x25cc))
    (both-and (is_some kept) (char == 0x20) (there-some kept one ((same one).1 there)) (eq-eqb char 0x20 e)))
is-form kept own chars char same owns (dotted_circle e mark there is) =
    is-inserted kept own char (right-or (is_some kept && (char == 0x20)) (list_any is_attached kept && (char == 0x25cc))
    (both-and (list_any is_attached kept) (char == 0x25cc) (there-any is_attached kept mark ((same mark).1 there) is) (eq-eqb char 0x25cc e)))
is-form kept own chars char same owns (mirror is other letter there mirrored here left) =
    is-other kept own char (left-or (mirrors kept && is_mirrored char) (is_arabic own char) (both-and (mirrors kept) (is_mirrored char)
    (both-and (list_any is_right_to_left kept) (list_any is_mirrored kept)
    (there-any is_right_to_left kept letter ((same letter).1 here) left) (there-any is_mirrored kept other ((same other).1 there) mirrored)) is))
is-form kept own chars char same owns (arabic is some all) =
    is-other kept own char (right-or (mirrors kept && is_mirrored char) (is_arabic own char)
    (both-and (is_arabic_form char) (is_some (compatible char) && has_all own (compatible char)) is
    (both-and (is_some (compatible char)) (has_all own (compatible char)) (not-some (compatible char) some)
    (there-all (has own) (IsOrParts (Contains chars)) (λ x h. there-has own x ((owns x).1 h)) (compatible char) all))))

-- the base characters
base-is : (mapped kept own chars : List ℕ) → Same kept chars → Owns own chars → (char : ℕ) → Contains (base mapped kept own) char ↔ IsBase mapped chars char
base-is mapped kept own chars same owns char = (
  (λ h. elim (Contains-append_cases kept (filter (is_form kept own) mapped) char h) [
    | inl here ↦ inl ((same char).0 here)
    | inr form ↦ let w = filter-there (is_form kept own) mapped char form in inr (w.0, form-is kept own chars char same owns w.1)
  ]),
  (λ h. elim h [
    | inl here ↦ Contains-append_left kept (filter (is_form kept own) mapped) char ((same char).1 here)
    | inr form ↦ Contains-append_right kept (filter (is_form kept own) mapped) char
        (there-filter (is_form kept own) mapped char form.0 (is-form kept own chars char same owns form.1))
  ]),
)

-- the base characters and their parts
known-is : (all : List ℕ) (Is : ℕ → Type 0) → ((char : ℕ) → Contains all char ↔ Is char) → (char : ℕ) →
    Contains (with_parts all) char ↔ IsOrParts Is char
known-is all Is are char = (
  (λ h. elim (Contains-append_cases all (flat_map parts all) char h) [
    | inl here ↦ inl ((are char).0 here)
    | inr later ↦ let w = flat-there parts all char later in inr (w.0, (are w.0).0 w.1, w.2)
  ]),
  (λ h. elim h [
    | inl here ↦ Contains-append_left all (flat_map parts all) char ((are char).1 here)
    | inr later ↦ Contains-append_right all (flat_map parts all) char (there-flat parts all later.0 char ((are later.0).1 later.1) later.2)
  ]),
)

-- what is known when characters are composed
record Knows (mapped all known : List ℕ) (Is : ℕ → Type 0) : Type 0 where
  are : (char : ℕ) → Contains all char ↔ Is char
  parts_are : (char : ℕ) → Contains known char ↔ IsOrParts Is char

compose-is : (mapped all known : List ℕ) (Is : ℕ → Type 0) → Knows mapped all known Is → compose mapped all ≡ true → Compose mapped Is
compose-is mapped all known Is knows h =
    let whole = any-there (λ char. has_any all (rest (parts char))) mapped h in
    let one = any-there (has all) (rest (parts whole.0)) whole.2 in
    (whole.0, one.0, whole.1, one.1, (knows.are one.0).0 (has-there all one.0 one.2))

is-compose : (mapped all known : List ℕ) (Is : ℕ → Type 0) → Knows mapped all known Is → Compose mapped Is → compose mapped all ≡ true
is-compose mapped all known Is knows h =
    there-any (λ char. has_any all (rest (parts char))) mapped h.0 h.2
    (there-any (has all) (rest (parts h.0)) h.1 h.3 (there-has all h.1 ((knows.are h.1).1 h.4)))

parts-is : (mapped all known : List ℕ) (Is : ℕ → Type 0) (char : ℕ) → Knows mapped all known Is →
    (compose mapped all && has_parts known char) ≡ true → IsComposed mapped Is char
parts-is mapped all known Is char knows h =
    let both = and-both (compose mapped all) (has_parts known char) h in
    let two = and-both (is_some (parts char)) (has_all known (parts char)) both.1 in
    composed (compose-is mapped all known Is knows both.0) (some-not (parts char) two.0)
    (all-there (has known) (IsOrParts Is) (λ x t. (knows.parts_are x).0 (has-there known x t)) (parts char) two.1)

between-is : (mapped all known : List ℕ) (Is : ℕ → Type 0) (char : ℕ) → Knows mapped all known Is →
    is_between (filter is_long all) char ≡ true → IsComposed mapped Is char
between-is mapped all known Is char knows h =
    let both = and-both (is_some (letters char)) (list_any (λ whole. is_some_of whole char) (filter is_long all)) h in
    let whole = any-there (λ whole. is_some_of whole char) (filter is_long all) both.1 in
    let long = filter-there is_long all whole.0 whole.1 in
    let two = and-both (nat_lt (length (letters char)) (length (letters whole.0))) (has_all (letters whole.0) (letters char)) whole.2 in
    between whole.0 ((knows.are whole.0).0 long.0) (ltb-true 2 (length (letters whole.0)) long.1) (some-not (letters char) both.0)
    (ltb-true (length (letters char)) (length (letters whole.0)) two.0)
    (all-there (has (letters whole.0)) (Contains (letters whole.0)) (λ x t. has-there (letters whole.0) x t) (letters char) two.1)

composed-is : (mapped all known : List ℕ) (Is : ℕ → Type 0) (char : ℕ) → Knows mapped all known Is →
    is_composed (compose mapped all) known (filter is_long all) char ≡ true → IsComposed mapped Is char
composed-is mapped all known Is char knows h =
    elim (or-cases (has known char) ((compose mapped all && has_parts known char) || is_between (filter is_long all) char) h) [
      | inl here ↦ part ((knows.parts_are char).0 (has-there known char here))
      | inr r ↦ elim (or-cases (compose mapped all && has_parts known char) (is_between (filter is_long all) char) r) [
        | inl p ↦ parts-is mapped all known Is char knows p
        | inr b ↦ between-is mapped all known Is char knows b
      ]
    ]

is-later : (mapped all known : List ℕ) (char : ℕ) → ((compose mapped all && has_parts known char) || is_between (filter is_long all) char) ≡ true →
    is_composed (compose mapped all) known (filter is_long all) char ≡ true
is-later mapped all known char h =
    right-or (has known char) ((compose mapped all && has_parts known char) || is_between (filter is_long all) char) h

is-composed : (mapped all known : List ℕ) (Is : ℕ → Type 0) (char : ℕ) → Knows mapped all known Is → IsComposed mapped Is char →
    is_composed (compose mapped all) known (filter is_long all) char ≡ true
is-composed mapped all known Is char knows (part h) =
    left-or (has known char) ((compose mapped all && has_parts known char) || is_between (filter is_long all) char)
    (there-has known char ((knows.parts_are char).1 h))
is-composed mapped all known Is char knows (composed h some each) =
    is-later mapped all known char (left-or (compose mapped all && has_parts known char) (is_between (filter is_long all) char)
    (both-and (compose mapped all) (has_parts known char) (is-compose mapped all known Is knows h)
    (both-and (is_some (parts char)) (has_all known (parts char)) (not-some (parts char) some)
    (there-all (has known) (IsOrParts Is) (λ x h. there-has known x ((knows.parts_are x).1 h)) (parts char) each))))
is-composed mapped all known Is char knows (between whole is long some fewer each) =
    is-later mapped all known char (right-or (compose mapped all && has_parts known char) (is_between (filter is_long all) char)
    (both-and (is_some (letters char)) (list_any (λ whole. is_some_of whole char) (filter is_long all)) (not-some (letters char) some)
    (there-any (λ whole. is_some_of whole char) (filter is_long all) whole
    (there-filter is_long all whole ((knows.are whole).1 is) (lt-ltb 2 (length (letters whole)) long))
    (both-and (nat_lt (length (letters char)) (length (letters whole))) (has_all (letters whole) (letters char))
    (lt-ltb (length (letters char)) (length (letters whole)) fewer)
    (there-all (has (letters whole)) (Contains (letters whole)) (λ x h. there-has (letters whole) x h) (letters char) each)))))

-- the characters that a shaper may use
pub are-used : (mapped chars kept whole own forms all parts known used : List ℕ) → IsPermutation chars kept → whole ≡ with_parts kept →
    IsPermutation whole own → forms ≡ base mapped kept own →
    IsPermutation forms all → parts ≡ with_parts all → IsPermutation parts known →
    used ≡ forms ++ filter (is_composed (compose mapped all) known (filter is_long all)) mapped → AreUsed mapped chars used
are-used mapped chars kept whole own forms all parts known used p u v e q f r g char =
    let has-kept = same-from chars kept p in
    let turned = same-from whole own v in
    let wholes : (x : ℕ) → Contains whole x ↔ IsOrParts (Contains chars) x =
    λ x. subst (λ (xs : List ℕ). Contains xs x ↔ IsOrParts (Contains chars) x) (sym u) (known-is kept (Contains chars) has-kept x) in
    let owns : Owns own chars = λ x. ((λ h. (wholes x).0 ((turned x).0 h)), (λ h. (turned x).1 ((wholes x).1 h))) in
    let bases = base-is mapped kept own chars has-kept owns in
    let forms-are : (x : ℕ) → Contains forms x ↔ IsBase mapped chars x =
    λ x. subst (λ (xs : List ℕ). Contains xs x ↔ IsBase mapped chars x) (sym e) (bases x) in
    let same = same-from forms all q in
    let are : (x : ℕ) → Contains all x ↔ IsBase mapped chars x =
    λ x. ((λ h. (forms-are x).0 ((same x).0 h)), (λ h. (same x).1 ((forms-are x).1 h))) in
    let more = same-from parts known r in
    let with : (x : ℕ) → Contains parts x ↔ IsOrParts (IsBase mapped chars) x =
    λ x. subst (λ (xs : List ℕ). Contains xs x ↔ IsOrParts (IsBase mapped chars) x) (sym f) (known-is all (IsBase mapped chars) are x) in
    let knows : Knows mapped all known (IsBase mapped chars) = record {
      are = are;
      parts_are = λ x. ((λ h. (with x).0 ((more x).0 h)), (λ h. (more x).1 ((with x).1 h)));
    } in
    let test = is_composed (compose mapped all) known (filter is_long all) in
    subst (λ (xs : List ℕ). Contains xs char ↔ IsUsed mapped chars char) (sym g) (
      (λ h. elim (Contains-append_cases forms (filter test mapped) char h) [
        | inl here ↦ inl ((forms-are char).0 here)
        | inr later ↦ let w = filter-there test mapped char later in inr (w.0, composed-is mapped all known (IsBase mapped chars) char knows w.1)
      ]),
      (λ h. elim h [
        | inl here ↦ Contains-append_left forms (filter test mapped) char ((forms-are char).1 here)
        | inr later ↦ Contains-append_right forms (filter test mapped) char
            (there-filter test mapped char later.0 (is-composed mapped all known (IsBase mapped chars) char knows later.1))
      ]),
    )
