-- The charsets that are written name the glyphs as they were to be named.
use Rattle.std.proofs.Common.{◌≡◌, refl, sym, ap, subst, ◌∙◌, inl, inr, ℕ, zero, suc, ◌+◌, ◌-◌, ◌*◌, ◌/◌, ◌%◌, ◌<◌, ◌≤◌, nat_lt, if◌then◌else◌, true, List, [], ◌∷◌, ◌++◌, length, take, drop, Some, None, arith}
use Rattle.std.specs.List.{range_with_len}
use Rattle.std.specs.Prelude.{◌⊎◌, All, slice_get}
use Rattle.std.proofs.lemmas.Bool.Decides.{nat_tests}
use Rattle.std.proofs.lemmas.List.{drop-drop}
use Rattle.std.proofs.lemmas.List.Elements.{All-head, All-tail}
use Rattle.std.proofs.lemmas.Option.{slice_get_within}
use Rattle.postscript_base.specs.Index.{number_at}
use Rattle.postscript_base.specs.Numbers.{big_endian}
use Rattle.postscript_view.specs.CharSet.{IsNamed, identifier_at}
use Rattle.postscript_view.specs.CharSets.{CharSetStandsAt}
use Rattle.postscript_view.specs.Naming.{NamesBehind}
use Rattle.postscript_view.specs.declared.char_set.CharSetView.{CharSetView}
use Rattle.postscript_view.specs.declared.char_set.Identifiers.{Identifiers}
use Rattle.postscript_view.specs.declared.char_set.Identifiers.TheVariants.{Listed, Ranges2}
use Rattle.postscript_view.proofs.Marking.{no_marks, unmarked}
use Rattle.postscript_write.specs.Texts.{TextStands}
use Rattle.postscript_write.proofs.Standing.{stands_within}
use Rattle.postscript_instance.specs.Encoded.{IsRange, IsSetText, list_text, ranges_text, spread}
use Rattle.postscript_instance.specs.Numbers.{two_bytes}
use Rattle.postscript_instance.specs.declared.naming.Range.{Range}
use Rattle.postscript_instance.proofs.Sets.{begins, further, length-list, more-of, no-range, second-two, two-bytes}

-- the SIDs of a charset, as they are read
pub identifiers-of : (numbers text : List ℕ) → IsSetText numbers text → (out : List ℕ) → (place glyphs : ℕ) → Identifiers
identifiers-of numbers text (inl is) out place glyphs =
    Listed (record { ref_ptr = (0, 0); now = take (2 * (glyphs - 1)) (drop (place + 1) out) })
identifiers-of numbers text (inr is) out place glyphs = Ranges2 (record { ref_ptr = (0, 0); now = drop (place + 1) out })

abbrev pub set-of : Identifiers → (glyphs : ℕ) → CharSetView
set-of own glyphs = record { identifiers = own; glyphs = glyphs; marks = no_marks; marked = unmarked own }

pub stands-at : (numbers text : List ℕ) (is : IsSetText numbers text) (out : List ℕ) (place glyphs : ℕ) →
    length numbers ≡ glyphs - 1 → TextStands text out place → CharSetStandsAt (identifiers-of numbers text is out place glyphs) out place glyphs
unfolding identifiers-of
stands-at numbers text (inl is) out place glyphs counted stands = (
  begins text out (list_text numbers) place 0 stands is,
  omega (arith, stands_within text stands, ap length is, length-list numbers, counted),
  refl,
)
stands-at numbers text (inr is) out place glyphs counted stands =
    (begins text out (ranges_text is.0) place 2 stands is.1, omega (arith, stands_within text stands, ap length is.1), refl)

-- the bytes after the format byte
behind : (text out rest : List ℕ) (place b : ℕ) → (s : TextStands text out place) → text ≡ b ∷ rest →
    drop (place + 1) out ≡ rest ++ s.behind
behind text out rest place b s is = sym (drop-drop 1 place out) ∙ ap (drop 1) (s.there ∙ ap (λ t. t ++ s.behind) is)

-- a SID in a list
shifted : (a b : ℕ) (bytes : List ℕ) (k : ℕ) → number_at (a ∷ b ∷ bytes) (2 * suc k) 2 ≡ number_at bytes (2 * k) 2
unfolding number_at
shifted a b bytes k = let two : 2 * suc k ≡ suc (suc (2 * k)) = omega arith in ap (λ n. big_endian (take 2 (drop n (a ∷ b ∷ bytes)))) two

listed : (numbers : List ℕ) (g n : ℕ) → All (λ n. n < 65536) numbers → slice_get numbers g ≡ Some n → number_at (list_text numbers) (2 * g) 2 ≡ n
listed [] g n low is = absurd (cc)
listed (x ∷ numbers) zero n low is =
    let same : x ≡ n = cc in two-bytes x (list_text numbers) (All-head (λ n. n < 65536) x numbers low) ∙ same
listed (x ∷ numbers) (suc g) n low is =
    shifted (x / 256) (x % 256) (list_text numbers) g ∙ listed numbers g n (All-tail (λ n. n < 65536) x numbers low) is

identified : (numbers : List ℕ) (g n : ℕ) → All (λ n. n < 65536) numbers → slice_get numbers g ≡ Some n →
    identifier_at (list_text numbers) g ≡ Some n
identified numbers g n low is =
    let within = slice_get_within numbers g n is in
    let half : nat_lt g (length (list_text numbers) / 2) ≡ true = grind (arith, nat_tests, length-list numbers) in
    ap (λ b. if b then Some (number_at (list_text numbers) (2 * g) 2) else None) half ∙ ap (λ n. Some n) (listed numbers g n low is)

take-front : (k : ℕ) (xs ys : List ℕ) → k ≡ length xs → take k (xs ++ ys) ≡ xs
take-front k [] ys is = ap (λ n. take n ys) is
take-front zero (x ∷ xs) ys is = absurd (omega (arith, is))
take-front (suc k) (x ∷ xs) ys is = ap (λ zs. x ∷ zs) (take-front k xs ys (omega (arith, is)))

-- a SID in ranges
first-further : (a b c d : ℕ) (rest : List ℕ) (r : ℕ) → number_at (a ∷ b ∷ c ∷ d ∷ rest) (suc r * 4) 2 ≡ number_at rest (r * 4) 2
unfolding number_at
first-further a b c d rest r =
    let four : suc r * 4 ≡ suc (suc (suc (suc (r * 4)))) = omega arith in
    ap (λ n. big_endian (take 2 (drop n (a ∷ b ∷ c ∷ d ∷ rest)))) four

-- a SID in the first range, or in the others
split : (a n g x : ℕ) (rest : List ℕ) → slice_get (range_with_len a n ++ rest) g ≡ Some x →
    ((g < n) × (x ≡ a + g)) ⊎ ((n ≤ g) × (slice_get rest (g - n) ≡ Some x))
split a zero g x rest is = let same : g - 0 ≡ g = omega arith in inr (omega arith, ap (slice_get rest) same ∙ is)
split a (suc n) zero x rest is = let same : a ≡ x = cc in inl (omega arith, omega (arith, same))
split a (suc n) (suc g) x rest is = elim (split (a + 1) n g x rest is) [
  | inl h ↦ inl (omega (arith, h.0), omega (arith, h.1))
  | inr h ↦ (
      let same : suc g - suc n ≡ g - n = omega arith in inr (omega (arith, h.0), ap (slice_get rest) same ∙ h.1)
      )
]

in-range : (ranges : List Range) (behind : List ℕ) (g n : ℕ) → All IsRange ranges → slice_get (spread ranges) g ≡ Some n →
    IsNamed (ranges_text ranges ++ behind) 2 g n
in-range [] behind g n small is = absurd (cc)
in-range (range ∷ ranges) behind g n small is =
    let rest : List ℕ = ranges_text ranges ++ behind in
    let a : ℕ = range.first / 256 in
    let b : ℕ = range.first % 256 in
    let c : ℕ = range.left / 256 in
    let d : ℕ = range.left % 256 in
    let all : List ℕ = a ∷ b ∷ c ∷ d ∷ rest in
    let own : range.first + range.left < 65536 = All-head IsRange range ranges small in
    let first : number_at all 0 2 ≡ range.first = two-bytes range.first (two_bytes range.left ++ rest) (omega (arith, own)) in
    let left : number_at all 2 2 ≡ range.left = second-two a b range.left rest (omega (arith, own)) in
    elim (split range.first (suc range.left) g n (spread ranges) is) [
      | inl h ↦ record {
        range = 0;
        there = omega arith;
        from = omega (arith, no-range all);
        to = omega (arith, h.0, left, no-range all);
        small = omega (arith, h.0, h.1, own);
        named = omega (arith, h.1, first, no-range all);
      }
      | inr h ↦ (
          let one = in-range ranges behind (g - suc range.left) n (All-tail IsRange range ranges small) h.1 in
          let r : ℕ = one.range in
          let more = more-of a b c d rest r in
          let on = further a b c d rest r in
          let start = first-further a b c d rest r in
          record {
            range = suc r;
            there = omega (arith, one.there);
            from = omega (arith, one.from, more, left, h.0);
            to = omega (arith, one.to, more, left, on, h.0);
            small = one.small;
            named = omega (arith, one.named, more, left, start, h.0);
          }
          )
    ]

pub names-behind : (numbers text : List ℕ) (is : IsSetText numbers text) (out : List ℕ) (place glyphs g n : ℕ) →
    length numbers ≡ glyphs - 1 → TextStands text out place → All (λ n. n < 65536) numbers → slice_get numbers g ≡ Some n →
    NamesBehind (identifiers-of numbers text is out place glyphs) g n
unfolding identifiers-of
names-behind numbers text (inl is) out place glyphs g n counted s low got =
    let same : take (2 * (glyphs - 1)) (drop (place + 1) out) ≡ list_text numbers =
    ap (take (2 * (glyphs - 1))) (behind text out (list_text numbers) place 0 s is)
    ∙ take-front (2 * (glyphs - 1)) (list_text numbers) s.behind (omega (arith, length-list numbers, counted)) in
    ap (λ xs. identifier_at xs g) same ∙ identified numbers g n low got
names-behind numbers text (inr is) out place glyphs g n counted s low got =
    subst (λ xs. IsNamed xs 2 g n) (sym (behind text out (ranges_text is.0) place 2 s is.1))
    (in-range is.0 s.behind g n is.3 (ap (λ xs. slice_get xs g) is.2 ∙ got))
