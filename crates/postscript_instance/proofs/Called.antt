-- Names, and their SIDs.
use Rattle.std.proofs.Common.{◌≡◌, sym, ap, subst, ◌∙◌, inl, inr, ℕ, ◌+◌, ◌-◌, ◌<◌, ◌≤◌, nat_lt, if◌then◌else◌, Bool, true, false, List, [], ◌∷◌, ◌++◌, length, length-append, Some, Bor, slice_get, arith}
use Rattle.std.proofs.lemmas.Bool.Decides.{nat_tests}
use Rattle.std.proofs.lemmas.List.Sums.{sum_by_push}
use Rattle.std.proofs.lemmas.Option.{slice_get_within}
use Rattle.postscript_compact1.specs.StandardStrings.{standard_string}
use Rattle.postscript_view.specs.Strings.{string_of}
use Rattle.std.specs.List.{concat}
use Rattle.postscript_instance.specs.Encoded.{AreIdentified, IsOneMore}
use Rattle.postscript_instance.specs.Rooms.{names_size}
use Rattle.postscript_instance.proofs.Codes.{either, last, stays}

-- the strings of SIDs, with one more string
pub string-stays : (strings : List (List ℕ)) (name : List ℕ) (k : ℕ) (x : List ℕ) → string_of strings k ≡ Some x →
    string_of (strings ++ name ∷ []) k ≡ Some x
unfolding string_of
string-stays strings name k x is = by (nat_lt k 391) is
  where
    by : (b : Bool) → (if b then standard_string k else slice_get strings (k - 391)) ≡ Some x →
        (if b then standard_string k else slice_get (strings ++ name ∷ []) (k - 391)) ≡ Some x
    by true is = is
    by false is = stays strings name (k - 391) (slice_get_within strings (k - 391) x is) ∙ is

pub standard-string : (strings : List (List ℕ)) (k : ℕ) (x : List ℕ) → k < 391 → standard_string k ≡ Some x → string_of strings k ≡ Some x
unfolding string_of
standard-string strings k x low is =
    let below : nat_lt k 391 ≡ true = grind (arith, nat_tests) in
    ap (λ b. if b then standard_string k else slice_get strings (k - 391)) below ∙ is

pub custom-string : (strings : List (List ℕ)) (k : ℕ) (x : List ℕ) → k ≡ 391 + length strings → string_of (strings ++ x ∷ []) k ≡ Some x
unfolding string_of
custom-string strings k x is =
    let above : nat_lt k 391 ≡ false = grind (arith, nat_tests) in
    let at : k - 391 ≡ length strings = omega (arith, is) in
    ap (λ b. if b then standard_string k else slice_get (strings ++ x ∷ []) (k - 391)) above
    ∙ ap (slice_get (strings ++ x ∷ [])) at ∙ last strings x

pub string-grown : (old new : List (List ℕ)) (name : List ℕ) → new ≡ old ++ name ∷ [] →
    (k : ℕ) (x : List ℕ) → string_of old k ≡ Some x → string_of new k ≡ Some x
string-grown old new name is k x h = subst (λ all. string_of all k ≡ Some x) (sym is) (string-stays old name k x h)

pub custom-there : (old new : List (List ℕ)) (k : ℕ) (x : List ℕ) → new ≡ old ++ x ∷ [] → k ≡ 391 + length old → string_of new k ≡ Some x
custom-there old new k x is at = subst (λ all. string_of all k ≡ Some x) (sym is) (custom-string old k x at)

-- no names yet
pub none-yet : (strings : List (List ℕ)) (numbers : List ℕ) → numbers ≡ [] → AreIdentified [] strings numbers
none-yet strings numbers is = record { counted = ap length is; each = λ glyph name got. absurd (cc) }

-- how strings grow
length-push : (xs : List (List ℕ)) (x : List ℕ) → length (concat (xs ++ x ∷ [])) ≡ length (concat xs) + length x
length-push [] x = omega (arith, length-append x [])
length-push (y ∷ xs) x = omega (arith, length-append y (concat (xs ++ x ∷ [])), length-append y (concat xs), length-push xs x)

pub grown-few : (old new : List (List ℕ)) (name : List ℕ) → IsOneMore old name new → length new ≤ length old + 1
grown-few old new name (inl same) = omega (arith, ap length same)
grown-few old new name (inr more) = omega (arith, ap length more, length-append old (name ∷ []))

pub grown-small : (old new : List (List ℕ)) (name : List ℕ) → IsOneMore old name new →
    length (concat new) ≤ length (concat old) + length name
grown-small old new name (inl same) = omega (arith, ap (λ xs. length (concat xs)) same)
grown-small old new name (inr more) = omega (arith, ap (λ xs. length (concat xs)) more, length-push old name)

pub names-push : (names : List (Bor (List ℕ))) (name : Bor (List ℕ)) → names_size (names ++ name ∷ []) ≡ names_size names + length name.now
names-push names name = sum_by_push (λ (name : Bor (List ℕ)). length name.now) names name

the-name : (a b : Bor (List ℕ)) → Some a ≡ Some b → a ≡ b
the-name a b e = cc

-- one more name
pub one-more : (names : List (Bor (List ℕ))) (name : Bor (List ℕ)) (old new : List (List ℕ)) (numbers all : List ℕ) (n : ℕ) →
    AreIdentified names old numbers → ((k : ℕ) (x : List ℕ) → string_of old k ≡ Some x → string_of new k ≡ Some x) →
    all ≡ numbers ++ n ∷ [] → string_of new n ≡ Some name.now → n < 65536 → AreIdentified (names ++ name ∷ []) new all
one-more names name old new numbers all n are grow more is low =
    let long = length-append names (name ∷ []) in
    let counted = are.counted in
    record {
      counted = omega (arith, ap length more, length-append numbers (n ∷ []), long, counted);
      each = λ glyph other got.
          let within = slice_get_within (names ++ name ∷ []) glyph other got in
          elim (either glyph (length names) (omega (arith, within, long))) [
            | inl less ↦ (
                let one = are.each glyph other (sym (stays names name glyph less) ∙ got) in (
                  one.0,
                  ap (λ xs. slice_get xs glyph) more ∙ stays numbers n glyph (omega (arith, less, counted)) ∙ one.1,
                  grow one.0 other.now one.2,
                  one.3,
                )
                )
            | inr same ↦ (
                let own : name ≡ other = the-name name other
                (sym (last names name) ∙ ap (slice_get (names ++ name ∷ [])) (sym same) ∙ got) in
                let at : glyph ≡ length numbers = omega (arith, same, counted) in (
                  n,
                  ap (λ xs. slice_get xs glyph) more ∙ ap (slice_get (numbers ++ n ∷ [])) at ∙ last numbers n,
                  is ∙ ap (λ (b : Bor (List ℕ)). Some b.now) own,
                  low,
                )
                )
          ];
    }
