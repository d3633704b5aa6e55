-- New identifiers name the strings that the old ones named.
use Rattle.std.proofs.Common.{◌≡◌, ◌⊎◌, refl, sym, ap, subst, ◌∙◌, inl, inr, ℕ, zero, suc, ℤ, pos, negsuc, ◌+◌, ◌-◌, ◌≤◌, ◌<◌, nat_lt, List, [], ◌∷◌, length, get_or, Option, Some, None, Bool, true, false, if◌then◌else◌, arith}
use Rattle.std.proofs.lemmas.Bool.{cases_lt}
use Rattle.std.proofs.lemmas.Bool.Decides.{nat_tests}
use Rattle.std.proofs.lemmas.Option.{slice_get-get_or, slice_get_past, unwrap_or-slice_get}
use Rattle.std.specs.List.{cons_option, filter_map}
use Rattle.std.specs.Option.{is_some, option_and_then, unwrap_or}
use Rattle.std.specs.Prelude.{Any, IsSome, option_map, slice_get}
use Rattle.postscript_base.specs.Compact1.Decimal.{to_i32}
use Rattle.postscript_base.specs.Compact1.Defaults.{first_of, look}
use Rattle.postscript_base.specs.Compact1.Dictionary.{Dictionary}
use Rattle.postscript_base.specs.declared.compact1.operator.Operator.{Operator}
use Rattle.postscript_view.specs.Contents.{Tables}
use Rattle.postscript_compact1.specs.StandardStrings.{standard_string}
use Rattle.postscript_view.specs.Strings.{string_of}
use Rattle.postscript_write.specs.NewStrings.{left_of, AreNamed, IsNamedIn, AreRenumbered, HasNew, IsWrittenAs}
use Rattle.postscript_write.specs.Parts.{IsAmong, naming}
use Rattle.postscript_write.specs.Dictionaries.{IsPlaced}
use Rattle.postscript_write.specs.Renumbered.{IsRenamed, all_renamed, new_identifier}
use Rattle.postscript_write.specs.Strings.{NamesSame, SameString, identifier_from, identifier_in, own_named, own_string}
use Rattle.postscript_write.specs.declared.dictionaries.Place.{Place}
use Rattle.postscript_write.specs.declared.strings.Strings.{Strings}
use Rattle.postscript_write.proofs.NamedAgain.{AreApart, identifier_is, same_operands}

-- an identifier below 391 names a standard string, and any other one the string of a number
standard : (strings : List (List ℕ)) (identifier : ℕ) → identifier < 391 → own_string strings identifier ≡ None
unfolding own_string
standard strings identifier low = grind (arith, nat_tests)

numbered : (strings : List (List ℕ)) (identifier number : ℕ) → identifier ≡ 391 + number →
    own_string strings identifier ≡ slice_get strings number
unfolding own_string string_of
numbered strings identifier number is =
    let other : nat_lt identifier 391 ≡ false = grind (arith, nat_tests) in
    let back : identifier - 391 ≡ number = omega (arith, is) in
    ap (λ b. if b then None else (if b then standard_string identifier else slice_get strings (identifier - 391))) other
    ∙ ap (slice_get strings) back

pub past : (numbers : List (Option ℕ)) (i n : ℕ) → get_or numbers i None ≡ Some n → i < length numbers
past numbers i n is = by (cases_lt i (length numbers))
  where
    by : (i < length numbers) ⊎ (length numbers ≤ i) → i < length numbers
    by (inl less) = less
    by (inr more) =
        let none : get_or numbers i None ≡ None = sym (unwrap_or-slice_get numbers i None)
        ∙ ap (λ x. unwrap_or x None) (slice_get_past numbers i more) in absurd (cc)

module _ (old texts : List (List ℕ)) (strings : Strings) (are : AreRenumbered old texts strings.renumbered.items) where
  abbrev has : ℕ → Type 0
  has number = HasNew strings.renumbered.items number

  -- an identifier of two bytes is one of a standard string, of a string that has a new one, or of none
  pub string_again : (identifier : ℕ) → ((number : ℕ) → identifier ≡ 391 + number → number < length old → has number) →
      SameString old identifier texts (new_identifier strings identifier)
  string_again identifier named = by (cases_lt identifier 391)
    where
      number : ℕ
      number = identifier - 391

      low_stays : identifier < 391 → new_identifier strings identifier ≡ identifier
      low_stays low =
          let yes : nat_lt identifier 391 ≡ true = grind (arith, nat_tests) in
          ap (λ b. if b then identifier else unwrap_or (get_or strings.renumbered.items (identifier - 391) None) identifier) yes

      high_is : 391 ≤ identifier → new_identifier strings identifier ≡ unwrap_or (get_or strings.renumbered.items number None) identifier
      high_is high =
          let no : nat_lt identifier 391 ≡ false = grind (arith, nat_tests) in
          ap (λ b. if b then identifier else unwrap_or (get_or strings.renumbered.items (identifier - 391) None) identifier) no

      moved : (n : ℕ) → 391 ≤ identifier → get_or strings.renumbered.items number None ≡ Some n → SameString old identifier texts n
      moved n high e =
          let w : IsWrittenAs old texts number n = are.each number n e in
          let many = are.many in
          let within : number < length old = omega (arith, past strings.renumbered.items number n e, many) in
          let was : own_string old identifier ≡ Some (get_or old number []) = numbered old identifier number (omega (arith, high))
          ∙ slice_get-get_or old number [] within in
          let is : own_string texts n ≡ Some (get_or texts w.place []) = numbered texts n w.place w.is
          ∙ slice_get-get_or texts w.place [] w.there in
          record { string = is ∙ ap (λ s. Some s) w.text ∙ sym was; identifier = λ none. let never = sym was ∙ none in absurd (cc) }

      none : 391 ≤ identifier → get_or strings.renumbered.items number None ≡ None → SameString old identifier texts identifier
      none high e = record { string = out texts fewer ∙ sym (out old more); identifier = λ none. refl }
        where
          at : identifier ≡ 391 + number
          at = omega (arith, high)

          by : (number < length old) ⊎ (length old ≤ number) → length old ≤ number
          by (inl less) = let new = subst IsSome e (named number at less) in absurd (cc)
          by (inr more) = more

          more : length old ≤ number
          more = by (cases_lt number (length old))

          fewer : length texts ≤ number
          fewer = let counted = are.counted in omega (arith, more, counted)

          out : (strings : List (List ℕ)) → length strings ≤ number → own_string strings identifier ≡ None
          out strings most = numbered strings identifier number at ∙ slice_get_past strings number most

      found : (x : Option ℕ) → 391 ≤ identifier → get_or strings.renumbered.items number None ≡ x →
          SameString old identifier texts (unwrap_or x identifier)
      found (Some n) high e = moved n high e
      found None high e = none high e

      by : (identifier < 391) ⊎ (391 ≤ identifier) → SameString old identifier texts (new_identifier strings identifier)
      by (inl low) = record {
        string = ap (own_string texts) (low_stays low) ∙ standard texts identifier low ∙ sym (standard old identifier low);
        identifier = λ none. low_stays low;
      }
      by (inr high) =
          subst (λ n. SameString old identifier texts n) (sym (high_is high))
          (found (get_or strings.renumbered.items number None) high refl)

abbrev IsAt : (identifiers : List ℕ) (identifier : ℕ) → Type 0
IsAt identifiers identifier = (i : ℕ) × (i < length identifiers) × (get_or identifiers i 0 ≡ identifier)

later_at : (x : Option ℕ) (identifiers : List ℕ) (identifier : ℕ) → IsAt identifiers identifier →
    IsAt (cons_option x identifiers) identifier
later_at None identifiers identifier at = at
later_at (Some first) identifiers identifier at = let less = at.1 in (suc at.0, omega (arith, less), at.2)

-- the identifier of an operator is among those of all operators
listed : (map : Dictionary) (operator : Operator) (operators : List Operator) (identifier : ℕ) → IsAmong operator operators →
    identifier_in map operator ≡ Some identifier →
    IsAt (filter_map (identifier_in map) operators) identifier
listed map operator [] identifier is e = absurd is
listed map operator (other ∷ others) identifier (inl same) e =
    let own : identifier_in map other ≡ Some identifier = ap (identifier_in map) (sym same) ∙ e in
    subst (λ x. IsAt (cons_option x (filter_map (identifier_in map) others)) identifier) (sym own) (0, omega arith, refl)
listed map operator (other ∷ others) identifier (inr later) e =
    later_at (identifier_in map other) (filter_map (identifier_in map) others) identifier (listed map operator others identifier later e)

-- and each of these is one of an operator
abbrev IsOf : Dictionary → (operators : List Operator) → (identifier : ℕ) → Type 0
IsOf map operators identifier = (operator : Operator) × IsAmong operator operators
    × ((k : ℕ) × (k < length operators) × (get_or operators k operator ≡ operator) × (identifier_in map operator ≡ Some identifier))

later_of : (map : Dictionary) (other : Operator) (others : List Operator) (identifier : ℕ) → IsOf map others identifier →
    IsOf map (other ∷ others) identifier
later_of map other others identifier of = let less = of.2.1 in (of.0, inr of.1, (suc of.2.0, omega (arith, less), of.2.2, of.2.3))

unlisted : (map : Dictionary) (operators : List Operator) (i : ℕ) → i < length (filter_map (identifier_in map) operators) →
    IsOf map operators (get_or (filter_map (identifier_in map) operators) i 0)
unlisted map [] i less = absurd (omega (arith, less))
unlisted map (operator ∷ operators) i less = by (identifier_in map operator) refl i less (unlisted map operators)
  where
    rest : List ℕ
    rest = filter_map (identifier_in map) operators

    by : (x : Option ℕ) → identifier_in map operator ≡ x → (i : ℕ) → i < length (cons_option x rest) →
        ((i : ℕ) → i < length rest → IsOf map operators (get_or rest i 0)) → IsOf map (operator ∷ operators)
        (get_or (cons_option x rest) i 0)
    by None e i less later = later_of map operator operators (get_or rest i 0) (later i less)
    by (Some n) e zero less later = (operator, inl refl, (0, omega arith, refl, e))
    by (Some n) e (suc i) less later = later_of map operator operators (get_or rest i 0) (later i (omega (arith, less)))

-- an identifier that an operator names has two bytes
two_bytes : (map : Dictionary) (operator : Operator) (identifier : ℕ) → identifier_in map operator ≡ Some identifier → identifier < 65536
unfolding identifier_in
two_bytes map operator identifier e = by (option_and_then to_i32 (first_of (look map operator))) e
  where
    by : (x : Option ℤ) → identifier_from x ≡ Some identifier → identifier < 65536
    by None e = absurd (cc)
    by (Some (negsuc n)) e = absurd (cc)
    by (Some (pos n)) e = test (nat_lt n 65536) refl e
      where
        test : (b : Bool) → nat_lt n 65536 ≡ b → (if b then Some n else None) ≡ Some identifier → identifier < 65536
        test true t e = let same : n ≡ identifier = cc in grind (arith, nat_tests)
        test false t e = absurd (cc)

all_two_bytes : (map : Dictionary) (operators : List Operator) (i : ℕ) → i < length (filter_map (identifier_in map) operators) →
    get_or (filter_map (identifier_in map) operators) i 0 < 65536
all_two_bytes map [] i less = absurd (omega (arith, less))
all_two_bytes map (operator ∷ operators) i less = by (identifier_in map operator) refl i less (all_two_bytes map operators)
  where
    rest : List ℕ
    rest = filter_map (identifier_in map) operators

    by : (x : Option ℕ) → identifier_in map operator ≡ x → (i : ℕ) → i < length (cons_option x rest) →
        ((i : ℕ) → i < length rest → get_or rest i 0 < 65536) → get_or (cons_option x rest) i 0 < 65536
    by None e i less later = later i less
    by (Some n) e zero less later = two_bytes map operator n e
    by (Some n) e (suc i) less later = later i (omega (arith, less))

-- at least so many strings have no new identifier
left_many : (renumbered : List (Option ℕ)) (old : List (List ℕ)) (k : ℕ) → length renumbered ≡ length old →
    ((number : ℕ) → k ≤ number → HasNew renumbered number → ⊥) → length old ≤ length (left_of renumbered old) + k
unfolding left_of
left_many [] [] k many none = omega arith
left_many [] (string ∷ old) k many none = absurd (omega (arith, many))
left_many (x ∷ renumbered) [] k many none = absurd (omega (arith, many))
left_many (None ∷ renumbered) (string ∷ old) k many none =
    let rest = left_many renumbered old (k - 1) (omega (arith, many)) (λ number low has. none (suc number) (omega (arith, low)) has) in
    omega (arith, rest)
left_many (Some new ∷ renumbered) (string ∷ old) zero many none = absurd (none 0 (omega arith) refl)
left_many (Some new ∷ renumbered) (string ∷ old) (suc k) many none =
    let rest = left_many renumbered old k (omega (arith, many)) (λ number low has. none (suc number) (omega (arith, low)) has) in
    omega (arith, rest)

-- Strings are cut to those that operators and these identifiers of two bytes name.
module _ (map : Dictionary) (identifiers : List ℕ) (old texts : List (List ℕ)) (strings : Strings)
    (are : AreRenumbered old texts strings.renumbered.items) (names : AreNamed map identifiers strings.renumbered.items)
    (low : (i : ℕ) → i < length identifiers → get_or identifiers i 0 < 65536) where
  named_low : (number : ℕ) → 65145 ≤ number → HasNew strings.renumbered.items number → ⊥
  named_low number high has = by (names.only number has)
    where
      by : IsNamedIn map identifiers number → ⊥
      by (inl is) = let small = all_two_bytes map naming is.0 is.1 in let e = is.2 in absurd (omega (arith, small, e, high))
      by (inr is) = let small = low is.0 is.1 in let e = is.2 in absurd (omega (arith, small, e, high))

  pub few : length texts ≤ 65145
  few =
      let counted = are.counted in
      let many = left_many strings.renumbered.items old 65145 are.many named_low in
      omega (arith, counted, many)

  -- a new identifier has two bytes
  pub new_low : (identifier : ℕ) → identifier < 65536 → new_identifier strings identifier < 65536
  new_low identifier small = by (nat_lt identifier 391) (get_or strings.renumbered.items (identifier - 391) None) refl
    where
      by : (b : Bool) (x : Option ℕ) → get_or strings.renumbered.items (identifier - 391) None ≡ x →
          (if b then identifier else unwrap_or x identifier) < 65536
      by true x e = small
      by false None e = small
      by false (Some n) e =
          let w = are.each (identifier - 391) n e in
          let is = w.is in
          let there = w.there in
          omega (arith, is, there, few)

  -- an operator names a string that has a new identifier
  operator_has : (operator : Operator) (identifier : ℕ) → IsAmong operator naming → identifier_in map operator ≡ Some identifier →
      (number : ℕ) → identifier ≡ 391 + number → number < length old → HasNew strings.renumbered.items number
  operator_has operator identifier is e number at less =
      let there = listed map operator naming identifier is e in
      let many = are.many in
      names.all number (omega (arith, less, many)) (inl (there.0, there.1, there.2 ∙ at))

  pub glyph_has : (i : ℕ) → i < length identifiers → (number : ℕ) → get_or identifiers i 0 ≡ 391 + number → number < length old →
      HasNew strings.renumbered.items number
  glyph_has i less number at within = let many = are.many in names.all number (omega (arith, within, many)) (inr (i, less, at))

  module _ (named new : Dictionary) (places : List Place) (apart : AreApart places)
      (renamed : IsRenamed map (all_renamed strings map) named) (placed : IsPlaced named places new) where
    new_is : (operator : Operator) → IsAmong operator naming → identifier_in new operator ≡ option_map (new_identifier strings)
        (identifier_in map operator)
    new_is operator is =
        identifier_is strings map named new places apart renamed placed operator is
        (λ identifier e. new_low identifier (two_bytes map operator identifier e))

    abbrev names_in : List (List ℕ) → Dictionary → Operator → Option (List ℕ)
    names_in strings map operator = option_and_then (own_string strings) (identifier_in map operator)

    same_string : (operator : Operator) → IsAmong operator naming → names_in texts new operator ≡ names_in old map operator
    same_string operator is = ap (option_and_then (own_string texts)) (new_is operator is) ∙ by (identifier_in map operator) refl
      where
        by : (x : Option ℕ) → identifier_in map operator ≡ x → option_and_then (own_string texts)
            (option_map (new_identifier strings) x) ≡ option_and_then (own_string old) x
        by None e = refl
        by (Some identifier) e = (string_again old texts strings are identifier (operator_has operator identifier is e)).string

    same_operands_where : (operator : Operator) → IsAmong operator naming → names_in old map operator ≡ None →
        look new operator ≡ look map operator
    same_operands_where operator is none =
        same_operands strings map named new places apart renamed placed operator is (λ identifier e.
        (string_again old texts strings are identifier (operator_has operator identifier is e)).identifier
        (ap (option_and_then (own_string old)) (sym e) ∙ none))

    -- each operator names the string that it named
    pub operator_same : (one other : Tables) (operator : Operator) → one.dictionary ≡ map → one.strings ≡ old → other.dictionary ≡ new →
        other.strings ≡ texts → IsAmong operator naming → NamesSame one other operator
    operator_same one other operator one_map one_strings other_map other_strings is =
        let was : own_named one operator ≡ names_in old map operator = ap (λ m. names_in one.strings m operator) one_map
        ∙ ap (λ s. names_in s map operator) one_strings in
        let now : own_named other operator ≡ names_in texts new operator = ap (λ m. names_in other.strings m operator) other_map
        ∙ ap (λ s. names_in s new operator) other_strings in
        record {
          string = now ∙ same_string operator is ∙ sym was;
          operands = λ none. ap (λ m. look m operator) other_map ∙ same_operands_where operator is (sym was ∙ none)
              ∙ ap (λ m. look m operator) (sym one_map);
        }

    -- a string that is written is one that an operator names, or a glyph: one of these identifiers is written as it
    pub string_needed : (number : ℕ) → number < length texts →
        Any (λ operator. identifier_in new operator ≡ Some (391 + number))
        naming ⊎ ((i : ℕ) × (i < length identifiers) × (new_identifier strings (get_or identifiers i 0) ≡ 391 + number))
    string_needed number less = by (names.only m (ap is_some has))
      where
        own : (m : ℕ) × (get_or strings.renumbered.items m None ≡ Some (391 + number))
        own = are.own number less

        m : ℕ
        m = own.0

        has : get_or strings.renumbered.items m None ≡ Some (391 + number)
        has = own.1

        new_of : new_identifier strings (391 + m) ≡ 391 + number
        new_of =
            let no : nat_lt (391 + m) 391 ≡ false = grind (arith, nat_tests) in
            let back : 391 + m - 391 ≡ m = omega arith in
            ap (λ b. if b then 391 + m else unwrap_or (get_or strings.renumbered.items (391 + m - 391) None) (391 + m)) no
            ∙ ap (λ k. unwrap_or (get_or strings.renumbered.items k None) (391 + m)) back
            ∙ ap (λ x. unwrap_or x (391 + m)) has

        by : IsNamedIn map identifiers m →
            Any (λ operator. identifier_in new operator ≡ Some (391 + number))
            naming ⊎ ((i : ℕ) × (i < length identifiers) × (new_identifier strings (get_or identifiers i 0) ≡ 391 + number))
        by (inl is) =
            let by_it = unlisted map naming is.0 is.1 in
            let operator = by_it.0 in
            let old_is : identifier_in map operator ≡ Some (391 + m) = by_it.2.3 ∙ ap (λ n. Some n) is.2 in
            inl (
              by_it.2.0,
              operator,
              by_it.2.1,
              by_it.2.2,
              new_is operator by_it.1 ∙ ap (option_map (new_identifier strings)) old_is ∙ ap (λ n. Some n) new_of,
            )
        by (inr is) = inr (is.0, is.1, ap (new_identifier strings) is.2 ∙ new_of)
