-- Names that repeat a better one, or do not.
use Rattle.std.proofs.Common.{◌≡◌, ◌≢◌, ◌⊎◌, inl, inr, refl, sym, ap, subst, ◌∙◌, Bool, true, false, not, ℕ, zero, suc, ◌<◌, ◌≤◌, List, [], ◌∷◌, ◌++◌, Option, Some, None, length, drop, append_assoc, length-drop, arith}
use Rattle.std.proofs.lemmas.Bool.{cases_lt, cases_order, eqb-true, eqb-false, not-true, not-false}
use Rattle.std.proofs.lemmas.Bool.Decides.{nat_tests}
use Rattle.std.proofs.lemmas.List.{append_cancel_left}
use Rattle.std.specs.Prelude.{MatchBool, OnSome, is_some, nat_eq}
use Rattle.std.specs.Option.{option_eq}
use Rattle.std.specs.Borrow.{Bor}
use Rattle.postscript_base.specs.Index.{number_at}
use Rattle.postscript_sfnt.specs.Choice.{IsBest}
use Rattle.postscript_sfnt.specs.NameChars.{Begins, StepsName, bytes_left, bytes_of}
use Rattle.postscript_sfnt.specs.NameTable.{IsName, IsTextAt, name_rank, name_rank_at, names_of, platform_of}
use Rattle.postscript_sfnt.specs.Texts.{BeginsUtf16, IsPaired, pair}
use Rattle.postscript_sfnt.specs.declared.names.Name.{Name}
use Rattle.postscript_sfnt.specs.declared.names.Name.TheVariants.{MacRoman, Utf16}
use Rattle.postscript_sfnt.specs.declared.names.chars.NameChars.{NameChars}
use Rattle.postscript_text.specs.Repetitions.{HasCharacters, Differs, Repeats, IsTextOf, SaysSomethingElse, SaysTheSame, end, next, roman, unicode}
use Rattle.postscript_text.specs.declared.names.Record.{Record}

-- a number is in a range or not
in-range : (low high x : ℕ) → ((low ≤ x) × (x < high)) ⊎ ((low ≤ x) × (x < high) → ⊥)
in-range low high x = elim (cases_lt x low) [
  | inl below ↦ inr (λ h. let at = h.0 in omega (arith, below))
  | inr above ↦ elim (cases_lt x high) [ inl within ↦ inl (above, within) | inr past ↦ inr (λ h. let at = h.1 in omega (arith, past)) ]
]

pub is-paired : (bytes : List ℕ) → IsPaired bytes ⊎ (IsPaired bytes → ⊥)
is-paired bytes = elim (cases_lt (length bytes) 4) [
  | inl short ↦ inr (λ h. let room = h.room in omega (arith, short))
  | inr room ↦ elim (in-range 0xd800 0xdc00 (number_at bytes 0 2)) [
    | inr other ↦ inr (λ h. other h.high)
    | inl high ↦ elim (in-range 0xdc00 0xe000 (number_at bytes 2 2)) [
      | inr other ↦ inr (λ h. other h.low)
      | inl low ↦ inl (record { room = room; high = high; low = low })
    ]
  ]
]

-- each text in UTF-16 begins with a character
first : (bytes : List ℕ) → (char size : ℕ) × BeginsUtf16 bytes char size × (2 ≤ size)
first bytes = elim (is-paired bytes) [
  | inl both ↦ (
    pair (number_at bytes 0 2) (number_at bytes 2 2),
    4,
    record {
      paired = λ h. (refl, refl);
      alone = λ h. absurd (h both);
      below = λ h. let high = both.high.0 in absurd (omega (arith, high));
      above = λ h. let high = both.high.1 in absurd (omega (arith, high));
      lost = λ h. absurd (h both);
    },
    omega arith,
  )
  | inr one ↦ elim (in-range 0xd800 0xe000 (number_at bytes 0 2)) [
    | inl lost ↦ (
      0xfffd,
      2,
      record {
        paired = λ h. absurd (one h);
        alone = λ h. refl;
        below = λ h. absurd (omega (arith, lost.0));
        above = λ h. absurd (omega (arith, lost.1));
        lost = λ h k. refl;
      },
      omega arith,
    )
    | inr plain ↦ (
      number_at bytes 0 2,
      2,
      record {
        paired = λ h. absurd (one h);
        alone = λ h. refl;
        below = λ h. refl;
        above = λ h. refl;
        lost = λ h k. elim k [
          | inl high ↦ let a = high.0 in let b = high.1 in absurd (plain (omega arith, omega arith))
          | inr low ↦ let a = low.0 in let b = low.1 in absurd (plain (omega arith, omega arith))
        ];
      },
      omega arith,
    )
  ]
]

some-utf16 : (fuel : ℕ) (bytes : Bor (List ℕ)) → length bytes.now ≤ fuel → (chars : List ℕ) × HasCharacters (Utf16 bytes) chars
some-utf16 zero bytes h = ([], end (Utf16 bytes) (omega arith))
some-utf16 (suc fuel) bytes h = elim (cases_lt (length bytes.now) 2) [
  | inl short ↦ ([], end (Utf16 bytes) short)
  | inr long ↦
      let one = first bytes.now in
      let rest : Bor (List ℕ) = record bytes { now = drop one.1 bytes.now } in
      let shorter = length-drop one.1 bytes.now in
      let step = one.3 in
      let more = some-utf16 fuel rest (omega arith) in
      (one.0 ∷ more.0, next (Utf16 bytes) (Utf16 rest) one.0 more.0 (omega arith) (one.1, one.2, refl) more.1)
]

some-roman : (bytes : List ℕ) (text : Bor (List ℕ)) → text.now ≡ bytes → (chars : List ℕ) × HasCharacters (MacRoman text) chars
some-roman [] text h = ([], end (MacRoman text) (let none = ap length h in omega arith))
some-roman (byte ∷ bytes) text h =
    let rest : Bor (List ℕ) = record text { now = bytes } in
    let more = some-roman bytes rest refl in
    let some : 0 < length text.now = let size = ap length h in omega arith in
    (byte ∷ more.0, next (MacRoman text) (MacRoman rest) byte more.0 some (byte, h, λ small. refl) more.1)

-- each text has characters
pub some-characters : (text : Name) → (chars : List ℕ) × HasCharacters text chars
some-characters (Utf16 bytes) = some-utf16 (length bytes.now) bytes (omega arith)
some-characters (MacRoman bytes) = some-roman bytes.now bytes refl

-- a text has the characters so far, and then those that are left
abbrev pub Goes : (text : Name) → (so_far : List ℕ) → (left : Name) → Type 0
Goes text so_far left = (chars : List ℕ) → HasCharacters left chars → HasCharacters text (so_far ++ chars)

-- a text that is not empty begins with a character
abbrev pub Steps : (text : Name) → (char : ℕ) → (rest : Name) → Type 0
Steps text char rest = (0 < length (bytes_of text)) × Begins text char rest

-- the call of `next` takes something, if it returns a character
abbrev pub Takes : (s t : NameChars) → Option ℕ → Type 0
Takes s t r = OnSome r (Unit {0} × Unit {0} × (bytes_left t < bytes_left s))

pub goes-on : (text now rest : Name) (so_far : List ℕ) (char : ℕ) → Goes text so_far now → Steps now char rest →
    Goes text (so_far ++ char ∷ []) rest
goes-on text now rest so_far char goes step = λ chars h.
    subst (HasCharacters text) (sym (append_assoc so_far (char ∷ []) chars)) (goes (char ∷ chars) (next now rest char chars step.0 step.1 h))

-- the next character is this one
pub next-same : (s t : NameChars) (r : Option ℕ) (char : ℕ) → StepsName s r t → Takes s t r →
    not (option_eq nat_eq r (Some char)) ≡ false → Steps s.name char t.name
next-same s t None char h takes e = absurd cc
next-same s t (Some found) char h takes e =
    let less = takes.2 in
    (omega arith, subst (λ (c : ℕ). Begins s.name c t.name) (eqb-true found char (not-false _ e)) h)

-- the next character is another one, or there is none
pub next-other : (s t : NameChars) (r : Option ℕ) (char : ℕ) → StepsName s r t → Takes s t r →
    not (option_eq nat_eq r (Some char)) ≡ true → (others : List ℕ) × HasCharacters s.name others × ((chars : List ℕ) → char ∷ chars ≢ others)
next-other s t None char h takes e = ([], end s.name h.0, λ chars same. cc)
next-other s t (Some found) char h takes e =
    let less = takes.2 in
    let more = some-characters t.name in
    let unlike = eqb-false found char (not-true _ e) in
    (found ∷ more.0, next s.name t.name found more.0 (omega arith) h more.1, λ chars same. unlike (cc))

-- one text goes on with a character, and the other one does not
pub differ : (one other now rest left : Name) (so_far : List ℕ) (char : ℕ) (others : List ℕ) → Goes one so_far now → Steps now char rest →
    Goes other so_far left → HasCharacters left others → ((chars : List ℕ) → char ∷ chars ≢ others) → SaysSomethingElse one other
differ one other now rest left so_far char others x step y has unlike =
    let more = some-characters rest in
    let chars = char ∷ more.0 in (
      so_far ++ chars,
      so_far ++ others,
      x chars (next now rest char more.0 step.0 step.1 more.1),
      y others has,
      λ same. unlike more.0 (append_cancel_left so_far chars others same),
    )

-- one text is at its end, and perhaps the other one is too
pub at-end : (one other now : Name) (s t : NameChars) (so_far : List ℕ) (r : Option ℕ) (b : Bool) → Goes one so_far now →
    HasCharacters now [] → Goes other so_far s.name → StepsName s r t → Takes s t r → is_some r ≡ not b →
    MatchBool b (SaysTheSame one other) (SaysSomethingElse one other)
at-end one other now s t so_far None true x ended y h takes e = (so_far ++ [], x [] ended, y [] (end s.name h.0))
at-end one other now s t so_far None false x ended y h takes e = absurd cc
at-end one other now s t so_far (Some char) true x ended y h takes e = absurd cc
at-end one other now s t so_far (Some char) false x ended y h takes e =
    let less = takes.2 in
    let more = some-characters t.name in (
      so_far ++ [],
      so_far ++ char ∷ more.0,
      x [] ended,
      y (char ∷ more.0) (next s.name t.name char more.0 (omega arith) h more.1),
      λ same. let no = append_cancel_left so_far [] (char ∷ more.0) same in cc,
    )

-- the characters of a text come from its bytes alone
of-bytes : (table : List ℕ) (i : ℕ) (one other : Name) (chars : List ℕ) → IsTextAt table i one → IsTextAt table i other →
    HasCharacters one chars → HasCharacters other chars
of-bytes table i (Utf16 one) (Utf16 other) chars x y (end _ short) =
    end (Utf16 other) (subst (λ (bytes : List ℕ). length bytes < 2) (x.1 ∙ sym y.1) short)
of-bytes table i (Utf16 one) (Utf16 other) chars x y (next _ (Utf16 rest) char more some begins has) =
    let same = x.1 ∙ sym y.1 in
    next (Utf16 other) (Utf16 rest) char more (subst (λ (bytes : List ℕ). 0 < length bytes) same some)
    (begins.0, subst (λ (bytes : List ℕ). BeginsUtf16 bytes char begins.0) same begins.1, begins.2 ∙ ap (drop begins.0) same) has
of-bytes table i (Utf16 one) (Utf16 other) chars x y (next _ (MacRoman rest) char more some begins has) = absurd begins
of-bytes table i (Utf16 one) (MacRoman other) chars x y h = absurd (x.0 y.0)
of-bytes table i (MacRoman one) (Utf16 other) chars x y h = absurd (y.0 x.0)
of-bytes table i (MacRoman one) (MacRoman other) chars x y (end _ short) =
    end (MacRoman other) (subst (λ (bytes : List ℕ). length bytes < 1) (x.1 ∙ sym y.1) short)
of-bytes table i (MacRoman one) (MacRoman other) chars x y (next _ (MacRoman rest) char more some begins has) =
    next (MacRoman other) (MacRoman rest) char more (subst (λ (bytes : List ℕ). 0 < length bytes) (x.1 ∙ sym y.1) some)
    (begins.0, y.1 ∙ sym x.1 ∙ begins.1, begins.2) has
of-bytes table i (MacRoman one) (MacRoman other) chars x y (next _ (Utf16 rest) char more some begins has) = absurd begins

-- the best record is one
same-best : (rank : ℕ → ℕ) (count i k : ℕ) → IsBest rank count i → IsBest rank count k → i ≡ k
same-best rank count i k x y = elim (cases_order i k) [
  | inl same ↦ same
  | inr (inl before) ↦ let a = y.first i before in let b = x.highest k y.listed in absurd (omega arith)
  | inr (inr after) ↦ let a = x.first k after in let b = y.highest i x.listed in absurd (omega arith)
]

pub moved : (table given : List ℕ) (word identifier : ℕ) (text : Name) → given ≡ table → word ≡ identifier → IsName given word text →
    IsName table identifier text
moved table given word identifier text a b is =
    subst (λ (n : ℕ). IsName table n text) b (subst (λ (bytes : List ℕ). IsName bytes word text) a is)

-- a record with this text repeats the best one or not
pub decided : (table : List ℕ) (entry : Record) (own best : Name) (b : Bool) (is : IsName table entry.identifier best) → IsTextOf entry own →
    ((text : Name) → IsTextOf entry text → own ≡ text) →
    name_rank entry.platform entry.encoding entry.language < name_rank_at table entry.identifier is.0 →
    MatchBool b (SaysTheSame own best) (SaysSomethingElse own best) → MatchBool b (Repeats table entry) (Differs table entry)
decided table entry own best true is has only higher says =
    (own, best, has, record { i = is.0; best = is.1; higher = higher; is_text = is.2 }, says)
decided table entry own best false is has only higher says = λ text better of at.
    let i : is.0 ≡ at.i = same-best (name_rank_at table entry.identifier) (names_of table) is.0 at.i is.1 at.best in
    let same : IsTextAt table at.i best = subst (λ (k : ℕ). IsTextAt table k best) i is.2 in (
      says.0,
      says.1,
      subst (λ (name : Name). HasCharacters name says.0) (only text of) says.2,
      of-bytes table at.i best better says.1 same at.is_text says.3,
      says.4,
    )

-- a Unicode record has a lower rank than one of Windows in US English
pub above-unicode : (table : List ℕ) (entry : Record) (best : Name) (is : IsName table entry.identifier best) → entry.platform ≡ 0 →
    ((i : ℕ) × (i < names_of table) × (name_rank_at table entry.identifier i ≡ 4)) →
    name_rank entry.platform entry.encoding entry.language < name_rank_at table entry.identifier is.0
above-unicode table entry best is platform windows =
    let highest = is.1.highest windows.0 windows.1 in
    let four = windows.2 in
    let three : name_rank entry.platform entry.encoding entry.language ≡ 3 = ap (λ (p : ℕ). name_rank p entry.encoding entry.language) platform in
    omega arith

-- each rank of another platform than Macintosh is above 1
above-one : (table : List ℕ) (identifier i : ℕ) → (platform_of table i ≡ 1 → ⊥) → 0 < name_rank_at table identifier i →
    1 < name_rank_at table identifier i
above-one table identifier i other some = grind (arith, nat_tests)

-- a record in Mac OS Roman has a lower rank than one in UTF-16
pub above-roman : (table : List ℕ) (entry : Record) (bytes : Bor (List ℕ)) (is : IsName table entry.identifier (Utf16 bytes)) →
    entry.platform ≡ 1 → entry.encoding ≡ 0 →
    name_rank entry.platform entry.encoding entry.language < name_rank_at table entry.identifier is.0
above-roman table entry bytes is platform encoding =
    let more = above-one table entry.identifier is.0 is.2.0 is.1.ranked in
    let one : name_rank entry.platform entry.encoding entry.language ≡ 1 =
    ap (λ (p : ℕ). name_rank p entry.encoding entry.language) platform ∙ ap (λ (e : ℕ). name_rank 1 e entry.language) encoding in
    omega arith

pub only-unicode : (entry : Record) (text : Name) → entry.platform ≡ 0 → IsTextOf entry text → Utf16 entry.text ≡ text
only-unicode entry _ is (unicode _) = refl
only-unicode entry _ is (roman other _) = absurd (omega arith)

pub only-roman : (entry : Record) (text : Name) → entry.platform ≡ 1 → IsTextOf entry text → MacRoman entry.text ≡ text
only-roman entry _ is (unicode other) = absurd (omega arith)
only-roman entry _ is (roman _ _) = refl

pub decided-roman : (table : List ℕ) (entry : Record) (best : Name) (bytes : Bor (List ℕ)) (b : Bool) → best ≡ Utf16 bytes →
    IsName table entry.identifier best → entry.platform ≡ 1 → entry.encoding ≡ 0 →
    MatchBool b (SaysTheSame (MacRoman entry.text) best) (SaysSomethingElse (MacRoman entry.text) best) →
    MatchBool b (Repeats table entry) (Differs table entry)
decided-roman table entry best bytes b utf16 has platform encoding says =
    let is = subst (IsName table entry.identifier) utf16 has in
    let own = MacRoman entry.text in
    decided table entry own (Utf16 bytes) b is (roman platform encoding) (λ text. only-roman entry text platform)
    (above-roman table entry bytes is platform encoding)
    (subst (λ (name : Name). MatchBool b (SaysTheSame own name) (SaysSomethingElse own name)) utf16 says)

no-text : (entry : Record) (text : Name) → (entry.platform ≡ 0 → ⊥) → (entry.platform ≡ 1 → entry.encoding ≡ 0 → ⊥) → IsTextOf entry text → ⊥
no-text entry _ a b (unicode platform) = a platform
no-text entry _ a b (roman platform encoding) = b platform encoding

-- other records have no text that may repeat
pub other : (table : List ℕ) (entry : Record) → (entry.platform ≡ 0 → ⊥) → (entry.platform ≡ 1 → entry.encoding ≡ 0 → ⊥) →
    Differs table entry
other table entry a b = λ text better is at. absurd (no-text entry text a b is)
