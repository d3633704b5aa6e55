-- Why a font is not read in place.
use Rattle.std.proofs.Common.{◌≡◌, ◌≢◌, ◌⊎◌, refl, sym, subst, inl, inr, ℕ, ◌+◌, ◌<◌, ◌==◌, nat_lt, if◌then◌else◌, Bool, true, false, ℤ, pos, None, List, [], ◌∷◌, length, take, drop, arith, Some}
use Rattle.std.specs.Prelude.{slice_get, IsSome, Option, Result, Ok, Err, IfErr}
use Rattle.std.specs.Option.{is_none}
use Rattle.std.proofs.lemmas.Bool.Decides.{nat_tests}
use Rattle.postscript_base.specs.Refusal.{unexpected_eof, unknown_char_string_format}
use Rattle.postscript_base.specs.RefusalOf.{refusal_of}
use Rattle.postscript_base.specs.Tape.Loops.{each}
use Rattle.postscript_base.specs.Tape.Outcome.{Outcome, Got, Fault, Past, Reading, after, end, pure, Answers, RefusedAs}
use Rattle.postscript_base.specs.Compact1.Defaults.{look, first_of, first_two_of}
use Rattle.postscript_base.specs.Compact1.Dictionary.{Dictionary, dictionary_of}
use Rattle.postscript_base.specs.declared.compact1.operator.Operator.{Operator}
use Rattle.postscript_base.specs.declared.compact1.operator.Operator.TheVariants as operators
use Rattle.postscript_base.specs.declared.error.Error.{Error}
use Rattle.postscript_base.specs.declared.error.Error.TheVariants.{Memory}
use Rattle.postscript_base.proofs.DictionaryIs.{reads_dictionaries}
use Rattle.postscript_compact1.specs.Kinds.{map_of}
use Rattle.postscript_compact1.specs.FontSet.PartCauses.{NoFirst}
use Rattle.postscript_compact1.specs.FontSet.Parts.{HasFirst, HasPrivate, IsSlice}
use Rattle.postscript_compact1.specs.FontSet.Operands.{place_at, type_two, bounds}
use Rattle.postscript_compact1.proofs.FontCauses.{no_offset, no_type, no_bounds, no_map}
use Rattle.postscript_compact1.proofs.OperandLaws.{placed_has, type_has, bounds_has}
use Rattle.postscript_compact1.proofs.Steps.{Steps, Done, Last, Step, Stops, stopped}
use Rattle.postscript_base.specs.Index.{number_at, opened, IsOpened}
use Rattle.postscript_base.proofs.Opening.{opened_only}
use Rattle.postscript_view.specs.Causes.{NoIndex, NamesNone, OfOffset, OfIndex, NoTables, OfNames, OfDictionaries, OfStrings, OfSubroutines, OfNumber, OfDictionary, NoType, OfType, OtherType, NoCharStrings, OfTheirOffset, OfTheirType, OfTheirIndex, NoPart, OfBounds, OfSlice, OfPrivate, OfSubrs, NoItem, NoParts, OfFont, OfArray, OfItem, NoFont, OfHeader, OfTables, OfCharStrings, OfParts}
use Rattle.postscript_view.specs.Layout.{AreTables}
use Rattle.postscript_view.specs.Order.{aside, header_size, map_from, tables, char_strings, slice_at, subroutines, own_part, part, item_part, font_parts, parts, view_of}
use Rattle.postscript_view.specs.Contents.{Tables, PrivateDict, View}
use Rattle.postscript_view.specs.Value.{view_shown}
use Rattle.postscript_view.specs.declared.font.FontView.{FontView}
use Rattle.postscript_view.proofs.LayoutLaws.{part_with, aside_has, names_index, whole_offset, map_has, tables_have, char_strings_have, slice_has, item_has, header_has}

-- ---- a reading at another place, and an INDEX
no_aside : {A : Type 0} (e : Error) (there : ℕ) (reading : Reading A) (bytes : List ℕ) (place : ℕ) →
    RefusedAs e (aside there reading bytes place) → RefusedAs e (reading bytes there)
no_aside {A} e there reading bytes place h = by (reading bytes there) h
  where
    by : (o : Outcome A) → RefusedAs {A = A} e (after o (λ x _. Got x place)) → RefusedAs e o
    by (Got x n) h = absurd h
    by (Fault r) h = h
    by Past h = h

index_none : (e : Error) (bytes : List ℕ) (base : ℕ) (m : Dictionary) (op : Operator) (q place from : ℕ) →
    place_at 0 base m op bytes place ≡ Got q from → RefusedAs e (aside q opened bytes from) → NamesNone e bytes base m op
index_none e bytes base m op q place from is h =
    let p = placed_has 0 base m op q bytes place from is in
    let here : q ≡ p.1 = let there : q ≡ 0 + p.1 = p.4 in omega (arith, there) in
    OfIndex p.0 p.1 p.2 p.3 (subst (NoIndex e bytes) here (no_aside e q opened bytes from h))

names_none : (e : Error) (bytes : List ℕ) (base : ℕ) (m : Dictionary) (op : Operator) (place : ℕ) →
    RefusedAs e (after (place_at 0 base m op bytes place) (λ there at. aside there opened bytes at)) → NamesNone e bytes base m op
names_none e bytes base m op place h = by (stopped e (Step (place_at 0 base m op) (λ there. Last (aside there opened))) bytes place h)
  where
    by : Stops e (Step (place_at 0 base m op) (λ there. Last (aside there opened))) bytes place → NamesNone e bytes base m op
    by (inl h) = OfOffset (no_offset e 0 base m op bytes place h)
    by (inr (q, from, is, h)) = index_none e bytes base m op q place from is h

-- ---- what stands behind the header
no_tables : (e : Error) (bytes : List ℕ) (place number : ℕ) → RefusedAs e (tables number bytes place) → NoTables e bytes place number
unfolding tables
no_tables e bytes place number h = by (stopped {X = Tables} e steps bytes place h)
  where
    steps : Steps Tables
    steps =
        Step opened (λ names. Step opened
        (λ maps. Step opened (λ strings. Step opened (λ subs. Step (map_from (slice_get maps number)) (λ m.
        Done (record { names = names; dictionary = m; strings = strings; subroutines = subs }))))))

    open_at : (place : ℕ) (items : List (List ℕ)) (next : ℕ) → opened bytes place ≡ Got items next → IsOpened bytes place items next
    open_at place items next is = opened_only bytes place items next is

    of_item : (names maps : List (List ℕ)) (a b c : ℕ) → opened bytes place ≡ Got names a → opened bytes a ≡ Got maps b →
        (o : Option (List ℕ)) → slice_get maps number ≡ o → RefusedAs e (map_from o bytes c) → NoTables e bytes place number
    of_item names maps a b c first second None is h = OfNumber names maps a b (open_at place names a first) (open_at a maps b second) is h
    of_item names maps a b c first second (Some item) is h =
        OfDictionary names maps item a b (open_at place names a first) (open_at a maps b second) is
        (no_map reads_dictionaries e item bytes c h)

    by : Stops {X = Tables} e steps bytes place → NoTables e bytes place number
    by (inl h) = OfNames h
    by (inr (n, a, first, inl h)) = OfDictionaries n a (open_at place n a first) h
    by (inr (n, a, first, inr (m, b, second, inl h))) = OfStrings n m a b (open_at place n a first) (open_at a m b second) h
    by (inr (n, a, first, inr (m, b, second, inr (s, c, third, inl h)))) =
        OfSubroutines n m s a b c (open_at place n a first) (open_at a m b second) (open_at b s c third) h
    by (inr (n, a, first, inr (m, b, second, inr (s, c, third, inr (g, d, fourth, inl h))))) =
        of_item n m a b d first second (slice_get m number) refl h
    by (inr (n, a, first, inr (m, b, second, inr (s, c, third, inr (g, d, fourth, inr h))))) = absurd h.3

-- ---- the char strings
no_char_strings : (e : Error) (bytes : List ℕ) (m : Dictionary) (place : ℕ) → RefusedAs e (char_strings m bytes place) →
    NoCharStrings e bytes m
unfolding char_strings
no_char_strings e bytes m place h =
    by (stopped e (Step (place_at 0 0 m operators.CharStrings) (λ there. Step (type_two m) (λ _. Last (aside there opened)))) bytes place h)
  where
    of_type : NoFirst e m operators.CharStringType ⊎ ((z : ℤ) × HasFirst m operators.CharStringType
        z × (z ≡ pos 2 → ⊥) × (refusal_of e ≡ unknown_char_string_format)) →
        NoType e m
    of_type (inl h) = OfType h
    of_type (inr h) = OtherType h.0 h.1 h.2 h.3

    by : Stops e (Step (place_at 0 0 m operators.CharStrings) (λ there. Step (type_two m) (λ _. Last (aside there opened)))) bytes place →
        NoCharStrings e bytes m
    by (inl h) = OfTheirOffset (no_offset e 0 0 m operators.CharStrings bytes place h)
    by (inr (q, from, is, inl h)) = OfTheirType (of_type (no_type e m bytes from h))
    by (inr (q, from, is, inr (t, to, two, h))) =
        let p = placed_has 0 0 m operators.CharStrings q bytes place from is in
        let here : q ≡ p.1 = let there : q ≡ 0 + p.1 = p.4 in omega (arith, there) in
        OfTheirIndex p.1 (subst (HasFirst m operators.CharStrings) (whole_offset p.0 p.1 p.3) p.2) (type_has m t bytes from to two).0
        (subst (NoIndex e bytes) here (no_aside e q opened bytes to h))

-- ---- the private dictionary and its subroutines
no_slice : (e : Error) (there size : ℕ) (bytes : List ℕ) (place : ℕ) → RefusedAs e (slice_at there size bytes place) →
    (0 < size) × (length bytes < there + size) × (refusal_of e ≡ unexpected_eof)
unfolding slice_at
no_slice e there size bytes place h = by (size == 0) refl h
  where
    cut : (b : Bool) → nat_lt (length bytes) (there + size) ≡ b → 0 < size →
        RefusedAs e (if b then end else Got (take size (drop there bytes)) place) →
        (0 < size) × (length bytes < there + size) × (refusal_of e ≡ unexpected_eof)
    cut true t some h = (some, grind (arith, nat_tests), h)
    cut false t some h = absurd h

    by : (b : Bool) → (size == 0) ≡ b →
        RefusedAs e (if b then Got [] place else if nat_lt (length bytes) (there + size) then end else Got
        (take size (drop there bytes)) place) →
        (0 < size) × (length bytes < there + size) × (refusal_of e ≡ unexpected_eof)
    by true t h = absurd h
    by false t h = cut (nat_lt (length bytes) (there + size)) refl (grind (arith, nat_tests)) h

no_subroutines : (e : Error) (bytes : List ℕ) (m local : Dictionary) (offset place : ℕ) → HasPrivate bytes 0 m offset local →
    RefusedAs e (subroutines offset local bytes place) → NoPart e bytes m
unfolding subroutines
no_subroutines e bytes m local offset place private h = by (first_of (look local operators.Subrs)) refl h
  where
    by : (o : Option _) → first_of (look local operators.Subrs) ≡ o
        → RefusedAs e ((if is_none o then pure
        [] else (λ bytes place. after (place_at 0 offset local operators.Subrs bytes place) (λ there at. aside there opened bytes at)))
        bytes place) → NoPart e bytes m
    by None is h = absurd h
    by (Some x) is h = OfSubrs offset local private (subst IsSome (sym is) refl) (names_none e bytes offset local operators.Subrs place h)

no_own : (e : Error) (bytes : List ℕ) (m : Dictionary) (place : ℕ) → IsSome (first_two_of (look m operators.Private)) →
    RefusedAs e (own_part m bytes place) → NoPart e bytes m
unfolding own_part
no_own e bytes m place named h = by (stopped {X = PrivateDict} e steps bytes place h)
  where
    steps : Steps PrivateDict
    steps =
        Step (bounds 0 m) (λ b. Step (slice_at b.2 b.0)
        (λ text. Step (map_of text) (λ local. Step (subroutines b.1 local) (λ subs. Done (part_with local subs None)))))

    by : Stops {X = PrivateDict} e steps bytes place → NoPart e bytes m
    by (inl h) = OfBounds named (no_bounds e 0 m bytes place h)
    by (inr (b, from, is, inl h)) =
        let p = bounds_has 0 m b bytes place from is in
        let s = no_slice e b.2 b.0 bytes from h in
        let there : b.2 ≡ 0 + b.1 = p.1 in
        let past : length bytes < b.2 + b.0 = s.1 in
        OfSlice b.0 b.1 p.0 s.0 (omega (arith, there, past)) s.2
    by (inr (b, from, is, inr (text, to, cut, inl h))) =
        let p = bounds_has 0 m b bytes place from is in
        let here : b.2 ≡ b.1 = let there : b.2 ≡ 0 + b.1 = p.1 in omega (arith, there) in
        OfPrivate b.0 b.1 text p.0 (subst (λ k. IsSlice bytes k b.0 text) here (slice_has b.2 b.0 text bytes from to cut).0)
        (no_map reads_dictionaries e text bytes to h)
    by (inr (b, from, is, inr (text, to, cut, inr (local, next, read, inl h)))) =
        let p = bounds_has 0 m b bytes place from is in
        let slice = subst (λ k. IsSlice bytes k b.0 text) p.1 (slice_has b.2 b.0 text bytes from to cut).0 in
        no_subroutines e bytes m local b.1 next (b.0, text, p.0, p.2, slice, (map_has text local bytes to next read).0) h
    by (inr (b, from, is, inr (text, to, cut, inr (local, next, read, inr h)))) = absurd h.3

no_part : (e : Error) (bytes : List ℕ) (m : Dictionary) (place : ℕ) → RefusedAs e (part m bytes place) → NoPart e bytes m
unfolding part
no_part e bytes m place h = by (first_two_of (look m operators.Private)) refl h
  where
    by : (o : Option _) → first_two_of (look m operators.Private) ≡ o →
        RefusedAs e ((if is_none o then pure (part_with (dictionary_of []) [] None) else own_part m) bytes place) → NoPart e bytes m
    by None is h = absurd h
    by (Some x) is h = no_own e bytes m place (subst IsSome (sym is) refl) h

-- ---- the parts
no_item_part : (e : Error) (bytes item : List ℕ) (items : List (List ℕ)) (place : ℕ) → RefusedAs e (item_part item bytes place) →
    NoItem e bytes (item ∷ items)
unfolding item_part
no_item_part e bytes item items place h = by (stopped {X = PrivateDict} e steps bytes place h)
  where
    steps : Steps PrivateDict
    steps = Step (map_of item) (λ m. Step (part m) (λ (named : PrivateDict). Done (part_with named.dictionary named.subroutines (Some m))))

    by : Stops {X = PrivateDict} e steps bytes place → NoItem e bytes (item ∷ items)
    by (inl h) = inl (no_map reads_dictionaries e item bytes place h)
    by (inr (m, from, is, inl h)) = inr (inl (m, (map_has item m bytes place from is).0, no_part e bytes m from h))
    by (inr (m, from, is, inr h)) = absurd h.3

no_items : (e : Error) (bytes : List ℕ) (items : List (List ℕ)) (place : ℕ) → RefusedAs e (each item_part items bytes place) →
    NoItem e bytes items
unfolding each
no_items e bytes [] place h = absurd h
no_items e bytes (item ∷ items) place h =
    by (λ from h. no_items e bytes items from h) (stopped {X = List PrivateDict} e steps bytes place h)
  where
    steps : Steps (List PrivateDict)
    steps = Step (item_part item) (λ p. Step (each item_part items) (λ rest. Done (p ∷ rest)))

    by : ((from : ℕ) → RefusedAs e (each item_part items bytes from) → NoItem e bytes items) →
        Stops {X = List PrivateDict} e steps bytes place → NoItem e bytes (item ∷ items)
    by behind (inl h) = no_item_part e bytes item items place h
    by behind (inr (p, from, is, inl h)) =
        let one = item_has bytes item p place from is in inr (inr (one.0, p, one.1, one.2, behind from h))
    by behind (inr (p, from, is, inr h)) = absurd h.3

no_font_parts : (e : Error) (bytes : List ℕ) (m : Dictionary) (place : ℕ) → IsSome (look m operators.ROS) →
    RefusedAs e (font_parts m bytes place) → NoParts e bytes m
unfolding font_parts
no_font_parts e bytes m place keyed h = by (stopped {X = List PrivateDict} e steps bytes place h)
  where
    steps : Steps (List PrivateDict)
    steps = Step (place_at 0 0 m operators.FDArray) (λ there. Step (aside there opened) (λ items. Last (each item_part items)))

    by : Stops {X = List PrivateDict} e steps bytes place → NoParts e bytes m
    by (inl h) = OfArray keyed (OfOffset (no_offset e 0 0 m operators.FDArray bytes place h))
    by (inr (q, from, is, inl h)) = OfArray keyed (index_none e bytes 0 m operators.FDArray q place from is h)
    by (inr (q, from, is, inr (items, to, stand, h))) =
        OfItem items keyed (names_index bytes m operators.FDArray q place from to items is stand).0 (no_items e bytes items to h)

no_parts : (e : Error) (bytes : List ℕ) (m : Dictionary) (place : ℕ) → RefusedAs e (parts m bytes place) → NoParts e bytes m
unfolding parts
no_parts e bytes m place h = by (look m operators.ROS) refl h
  where
    by : (o : Option _) → look m operators.ROS ≡ o →
        RefusedAs e ((if is_none o then (λ bytes place. after (part m bytes place) (λ p next. Got (p ∷ []) next)) else font_parts m) bytes
        place) →
        NoParts e bytes m
    by None is h = one (stopped e (Step (part m) (λ p. Done (p ∷ []))) bytes place h)
      where
        one : Stops e (Step (part m) (λ p. Done (p ∷ []))) bytes place → NoParts e bytes m
        one (inl h) = OfFont is (no_part e bytes m place h)
        one (inr h) = absurd h.3
    by (Some x) is h = no_font_parts e bytes m place (subst IsSome (sym is) refl) h

-- ---- the font
no_header : (e : Error) (bytes : List ℕ) (number place : ℕ) → RefusedAs e (header_size bytes place) → NoFont e bytes number
unfolding header_size
no_header e bytes number place h = by (nat_lt (length bytes) 3) refl h
  where
    by : (b : Bool) → nat_lt (length bytes) 3 ≡ b → RefusedAs e (if b then end else Got (number_at bytes 2 1) place) → NoFont e bytes number
    by true t h = OfHeader (grind (arith, nat_tests)) h
    by false t h = absurd h

no_view : (e : Error) (bytes : List ℕ) (number : ℕ) → RefusedAs e (view_of number bytes 0) → NoFont e bytes number
unfolding view_of
no_view e bytes number h = by (stopped {X = View} e steps bytes 0 h)
  where
    steps : Steps View
    steps =
        Step header_size (λ size. Step (aside size (tables number))
        (λ (t : Tables). Step (char_strings t.dictionary) (λ codes. Step (parts t.dictionary) (λ ps.
        Done (record { tables = t; char_strings = codes; parts = ps })))))

    behind : (size at next : ℕ) (t : Tables) → header_size bytes 0 ≡ Got size at → aside size (tables number) bytes at ≡ Got t next →
        AreTables bytes (number_at bytes 2 1) number t
    behind size at next t is stand =
        let head = header_has bytes size 0 at is in
        let a = aside_has size (tables number) bytes at t next stand in
        subst (λ k. AreTables bytes k number t) (sym head.1) (tables_have bytes size number t a.0 a.1)

    by : Stops {X = View} e steps bytes 0 → NoFont e bytes number
    by (inl h) = no_header e bytes number 0 h
    by (inr (size, at, is, inl h)) =
        let head = header_has bytes size 0 at is in
        OfTables head.0 (subst (λ k. NoTables e bytes k number) (sym head.1)
        (no_tables e bytes size number (no_aside e size (tables number) bytes at h)))
    by (inr (size, at, is, inr (t, to, stand, inl h))) =
        OfCharStrings t (behind size at to t is stand) (no_char_strings e bytes t.dictionary to h)
    by (inr (size, at, is, inr (t, to, stand, inr (codes, next, are, inl h)))) =
        OfParts t codes (behind size at to t is stand) (char_strings_have bytes t.dictionary codes to next are).0
        (no_parts e bytes t.dictionary next h)
    by (inr (size, at, is, inr (t, to, stand, inr (codes, next, are, inr h)))) = absurd h.3

pub why_view : (r : Result FontView Error) (bytes : List ℕ) (number : ℕ) → Answers view_shown r 0 (view_of number bytes 0) →
    IfErr r (λ e. e ≢ Memory → NoFont e bytes number)
why_view (Ok v) bytes number answers = tt
why_view (Err e) bytes number answers = λ other. no_view e bytes number (answers other)
