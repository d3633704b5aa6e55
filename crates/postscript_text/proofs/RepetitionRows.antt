-- Known texts and records: which of them repeat a better one, computed from the definitions.
use Rattle.std.proofs.Common.{◌≡◌, inl, inr, refl, sym, ap, subst, ◌∙◌, ℕ, ◌-◌, ◌%◌, ◌<◌, ◌≤◌, List, [], ◌∷◌, length, drop, length-drop, map, get_or, false, arith}
use Rattle.std.proofs.lemmas.Bool.{cases_lt}
use Rattle.std.proofs.lemmas.Bool.Decides.{nat_tests}
use Rattle.std.specs.Borrow.{Bor}
use Rattle.postscript_base.specs.Index.{number_at}
use Rattle.postscript_sfnt.specs.Choice.{IsBest}
use Rattle.postscript_sfnt.specs.NameTable.{name_rank_at, names_of}
use Rattle.postscript_sfnt.specs.Texts.{BeginsUtf16}
use Rattle.postscript_sfnt.specs.declared.names.Name.{Name}
use Rattle.postscript_sfnt.specs.declared.names.Name.TheVariants.{MacRoman, Utf16}
use Rattle.postscript_text.specs.Repetitions.{Differs, HasCharacters, IsBetter, Repeats, SaysSomethingElse, SaysTheSame, end, next, roman}
use Rattle.postscript_text.specs.declared.names.Record.{Record}
use Rattle.postscript_text.proofs.Repeating.{decided, is-paired, only-roman}

-- bytes begin with one character in UTF-16
one-begin : (bytes : List ℕ) (a b m n : ℕ) → BeginsUtf16 bytes a m → BeginsUtf16 bytes b n → (a ≡ b) × (m ≡ n)
one-begin bytes a b m n x y = elim (is-paired bytes) [
  | inl both ↦ ((x.paired both).0 ∙ sym (y.paired both).0, (x.paired both).1 ∙ sym (y.paired both).1)
  | inr one ↦
      let size = x.alone one ∙ sym (y.alone one) in elim (cases_lt (number_at bytes 0 2) 0xd800) [
        | inl below ↦ (x.below below ∙ sym (y.below below), size)
        | inr high ↦ elim (cases_lt (number_at bytes 0 2) 0xdc00) [
          | inl low ↦ (x.lost one (inl (high, low)) ∙ sym (y.lost one (inl (high, low))), size)
          | inr low ↦ elim (cases_lt (number_at bytes 0 2) 0xe000) [
            | inl lost ↦ (x.lost one (inr (low, lost)) ∙ sym (y.lost one (inr (low, lost))), size)
            | inr above ↦ (x.above above ∙ sym (y.above above), size)
          ]
        ]
      ]
]

-- the first character leaves an even number of bytes of an even number
even-left : (bytes : List ℕ) (char size : ℕ) → BeginsUtf16 bytes char size → length bytes % 2 ≡ 0 → 0 < length bytes →
    length (drop size bytes) % 2 ≡ 0
even-left bytes char size x even some = let left = length-drop size bytes in
    elim (is-paired bytes) [
      | inl both ↦ let four = (x.paired both).1 in let room = both.room in omega arith
      | inr one ↦ let two = x.alone one in omega arith
    ]

-- a text in UTF-16 with an even number of bytes has the same characters in each reading
one-reading : (one other : Bor (List ℕ)) (chars others : List ℕ) → one.now ≡ other.now → length one.now % 2 ≡ 0 →
    HasCharacters (Utf16 one) chars → HasCharacters (Utf16 other) others → chars ≡ others
one-reading one other _ _ same even (end _ short) (end _ _) = refl
one-reading one other _ _ same even (end _ short) (next _ _ char more some begins has) =
    let size = ap length same in absurd (omega arith)
one-reading one other _ _ same even (next _ _ char more some begins has) (end _ short) =
    let size = ap length same in absurd (omega arith)
one-reading one other _ _ same even (next _ (Utf16 rest) char more some begins has) (next _ (Utf16 rest') char' more' some' begins' has') =
    let first = one-begin one.now char char' begins.0 begins'.0 begins.1 (subst (λ (bytes : List ℕ). BeginsUtf16 bytes char' begins'.0) (sym same) begins'.1) in
    let left : rest.now ≡ rest'.now = begins.2 ∙ ap (drop begins.0) same ∙ ap (λ (n : ℕ). drop n other.now) first.1 ∙ sym begins'.2 in
    let even' : length rest.now % 2 ≡ 0 = subst (λ (bytes : List ℕ). length bytes % 2 ≡ 0) (sym begins.2) (even-left one.now char begins.0 begins.1 even some) in
    let less = one-reading rest rest' more more' left even' has has' in
    ap (λ (c : ℕ). c ∷ more) first.0 ∙ ap (λ (cs : List ℕ). char' ∷ cs) less
one-reading one other _ _ same even (next _ (MacRoman rest) char more some begins has) _ = absurd begins
one-reading one other _ _ same even (next _ (Utf16 rest) char more some begins has) (next _ (MacRoman rest') char' more' some' begins' has') = absurd begins'

-- so such texts say the same, or something else, and not both
not-both : (one other : Bor (List ℕ)) → length one.now % 2 ≡ 0 → length other.now % 2 ≡ 0 → SaysTheSame (Utf16 one) (Utf16 other) →
    SaysSomethingElse (Utf16 one) (Utf16 other) → ⊥
not-both one other a b same else =
    else.4 (one-reading one one else.0 same.0 refl a else.2 same.1 ∙ sym (one-reading other other else.1 same.0 refl b else.3 same.2))

-- A table with four records of name 1: "A" of Windows in US English, "A" of Unicode, and "A" and "B" of Macintosh.
abbrev table : List ℕ
table =
    0 ∷ 0 ∷ 0 ∷ 4 ∷ 0 ∷ 54 ∷
    0 ∷ 3 ∷ 0 ∷ 1 ∷ 4 ∷ 9 ∷ 0 ∷ 1 ∷ 0 ∷ 2 ∷ 0 ∷ 0 ∷
    0 ∷ 0 ∷ 0 ∷ 3 ∷ 0 ∷ 0 ∷ 0 ∷ 1 ∷ 0 ∷ 2 ∷ 0 ∷ 0 ∷
    0 ∷ 1 ∷ 0 ∷ 0 ∷ 0 ∷ 0 ∷ 0 ∷ 1 ∷ 0 ∷ 1 ∷ 0 ∷ 1 ∷
    0 ∷ 1 ∷ 0 ∷ 0 ∷ 0 ∷ 0 ∷ 0 ∷ 1 ∷ 0 ∷ 1 ∷ 0 ∷ 2 ∷
    0 ∷ 65 ∷ 66 ∷ []

abbrev at : List ℕ → Bor (List ℕ)
at bytes = record { ref_ptr = (0, 0); now = bytes }

abbrev windows : Name
windows = Utf16 (at (0 ∷ 65 ∷ []))

abbrev macintosh : (byte : ℕ) → Record
macintosh byte = record { platform = 1; encoding = 0; language = 0; identifier = 1; start = byte - 10; text = at (byte ∷ []) }

ranks : map (name_rank_at table 1) (0 ∷ 1 ∷ 2 ∷ 3 ∷ []) ≡ 4 ∷ 3 ∷ 1 ∷ 1 ∷ []
unfolding number_at
ranks = refl

four : name_rank_at table 1 0 ≡ 4
unfolding number_at
four = refl

-- no rank is above 4
most : (bytes : List ℕ) (identifier i : ℕ) → name_rank_at bytes identifier i ≤ 4
most bytes identifier i = grind (arith, nat_tests)

best : IsBest (name_rank_at table 1) (names_of table) 0
unfolding number_at
best = record {
  listed = omega arith;
  ranked = omega (arith, four);
  highest = λ k below. omega (arith, four, most table 1 k);
  first = λ k below. absurd (omega arith);
}

better : (byte : ℕ) → IsBetter table (macintosh byte) windows
unfolding number_at
better byte = record { i = 0; best = best; higher = omega (arith, four); is_text = (λ one. absurd (omega arith), refl) }

in-utf16 : HasCharacters windows (65 ∷ [])
unfolding number_at
in-utf16 =
    next windows (Utf16 (at [])) 65 [] (omega arith) (
      2,
      record {
        paired = λ h. let room = h.room in absurd (omega arith);
        alone = λ h. refl;
        below = λ h. refl;
        above = λ h. absurd (omega arith);
        lost = λ h k. elim k [ inl high ↦ absurd (omega (arith, high.0)) | inr low ↦ absurd (omega (arith, low.0)) ];
      },
      refl,
    )
    (end (Utf16 (at [])) (omega arith))

in-roman : (byte : ℕ) → HasCharacters (MacRoman (at (byte ∷ []))) (byte ∷ [])
in-roman byte =
    next (MacRoman (at (byte ∷ []))) (MacRoman (at [])) byte [] (omega arith) (byte, refl, λ small. refl)
    (end (MacRoman (at [])) (omega arith))

-- the first record of Macintosh repeats the one of Windows, and the second one does not
repeats : Repeats table (macintosh 65)
repeats = (MacRoman (at (65 ∷ [])), windows, roman refl refl, better 65, (65 ∷ [], in-roman 65, in-utf16))

differs : Differs table (macintosh 66)
differs =
    let text = MacRoman (at (66 ∷ [])) in
    let one = better 66 in
    decided table (macintosh 66) text windows false (one.i, one.best, one.is_text) (roman refl refl)
    (λ other. only-roman (macintosh 66) other refl)
    one.higher
    (66 ∷ [], 65 ∷ [], in-roman 66, in-utf16, λ same. let no : 66 ≡ 65 = ap (λ (xs : List ℕ). get_or xs 0 0) same in absurd (omega arith))
