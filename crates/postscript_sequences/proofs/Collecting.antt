-- The parts of records, one character and one record after the other.
use Rattle.std.proofs.Common.{◌≡◌, ℕ, ◌+◌, ◌<◌, ◌≤◌, List, [], ◌∷◌, ◌++◌, length, get_or, take, arith, below_more, sym, subst}
use Rattle.std.specs.Prelude.{Option, None, Some}
use Rattle.std.proofs.lemmas.List.{take_more}
use Rattle.postscript_sequences.specs.Parts.{AreParts, AreSaid, IsPart, default, glyph, neither, no_part, part, skipped}
use Rattle.postscript_sequences.specs.Private.{IsPut}
use Rattle.postscript_sequences.specs.Said.{IsBehind, Tells}
use Rattle.postscript_sequences.specs.Tables.{selector_at}
use Rattle.postscript_sequences.specs.declared.parts.Part.{Part}
use Rattle.postscript_sequences.specs.declared.said.Cursor.{Cursor}
use Rattle.postscript_sequences.specs.declared.sequences.Sequence.{Sequence}
use Rattle.postscript_sequences.specs.declared.sequences.Sequence.TheVariants.{Default, Glyph}

-- a cursor at the start is past no character
pub behind_start : (table : List ℕ) (i : ℕ) (cursor : Cursor) (char : ℕ) → cursor.range ≡ 0 → cursor.mapping ≡ 0 → IsBehind table i cursor char
behind_start table i cursor char a b = record {
  range = record { within = omega (arith, a); before = λ k less. absurd (omega (arith, a, less)) };
  mapping = record { within = omega (arith, b); before = λ k less. absurd (omega (arith, b, less)) };
}

-- a cursor that is not past a character is not past a greater one
pub behind_more : (table : List ℕ) (i : ℕ) (cursor : Cursor) (char next : ℕ) → IsBehind table i cursor char → char < next →
    IsBehind table i cursor next
behind_more table i cursor char next h less = record {
  range = record { within = h.range.within; before = λ k below. let low = h.range.before k below in omega (arith, low, less) };
  mapping = record { within = h.mapping.within; before = λ k below. let low = h.mapping.before k below in omega (arith, low, less) };
}

pub said_same : (table : List ℕ) (i : ℕ) (cs ds : List ℕ) (ms : List (ℕ × ℕ)) (cs' ds' : List ℕ) (ms' : List (ℕ × ℕ)) →
    AreSaid table i cs ds ms → cs' ≡ cs → ds' ≡ ds → ms' ≡ ms → AreSaid table i cs' ds' ms'
said_same table i cs ds ms cs' ds' ms' h a b c =
    subst (λ xs. AreSaid table i xs ds' ms') (sym a) (subst (λ xs. AreSaid table i cs xs ms') (sym b)
    (subst (λ xs. AreSaid table i cs ds xs) (sym c) h))

-- one character more
pub said_more : (table : List ℕ) (i : ℕ) (chars : List ℕ) (k : ℕ) (sequence : Option Sequence) (old new : Part) → k < length chars →
    AreSaid table i (take k chars) old.defaults.items old.mapped.items → Tells table i (get_or chars k 0) sequence →
    IsPut old (get_or chars k 0) sequence new → AreSaid table i (take (k + 1) chars) new.defaults.items new.mapped.items
said_more table i chars k None old new less h tells is =
    said_same table i _ _ _ _ _ _ (neither _ _ _ (get_or chars k 0) h tells) (take_more chars k 0 less) is.1 is.2
said_more table i chars k (Some Default) old new less h tells is =
    said_same table i _ _ _ _ _ _ (default _ _ _ (get_or chars k 0) h tells) (take_more chars k 0 less) is.1 is.2
said_more table i chars k (Some (Glyph g)) old new less h tells is =
    said_same table i _ _ _ _ _ _ (glyph _ _ _ (get_or chars k 0) g h tells) (take_more chars k 0 less) is.1 is.2

pub put_selector : (old new : Part) (char : ℕ) (sequence : Option Sequence) → IsPut old char sequence new → new.selector ≡ old.selector
put_selector old new char None is = is.0
put_selector old new char (Some Default) is = is.0
put_selector old new char (Some (Glyph g)) is = is.0

pub no_parts : (table chars : List ℕ) (parts : List Part) → parts ≡ [] → AreParts table chars 0 parts
no_parts table chars parts is = subst (λ xs. AreParts table chars 0 xs) (sym is) no_part

-- one record more
pub parts_more : (table chars : List ℕ) (i next selector : ℕ) (parts new : List Part) (one : Part) → AreParts table chars i parts →
    ((k : ℕ) → k < i → selector_at table k < next) → selector ≡ selector_at table i → next ≤ selector → IsPart table i chars one →
    new ≡ parts ++ one ∷ [] → AreParts table chars (i + 1) new
parts_more table chars i next selector parts new one are above at more is e =
    subst (λ xs. AreParts table chars (i + 1) xs) (sym e)
    (part i parts one are (λ k less. let low = above k less in omega (arith, low, at, more)) is)

pub parts_less : (table chars : List ℕ) (i next selector : ℕ) (parts new : List Part) → AreParts table chars i parts →
    (0 < next → (k : ℕ) × (k < i) × (selector_at table k + 1 ≡ next)) → selector ≡ selector_at table i → selector < next →
    new ≡ parts → AreParts table chars (i + 1) new
parts_less table chars i next selector parts new are reached at less e =
    subst (λ xs. AreParts table chars (i + 1) xs) (sym e)
    (skipped i parts are (λ counts.
    let top = reached (omega (arith, less)) in let low = counts top.0 top.1 in let is = top.2 in absurd (omega (arith, low, is, at, less))))

-- the selectors so far are below the next one
pub below_next : (table : List ℕ) (i next selector after : ℕ) → ((k : ℕ) → k < i → selector_at table k < next) →
    selector ≡ selector_at table i → next ≤ selector → after ≡ selector + 1 → (k : ℕ) → k < i + 1 → selector_at table k < after
below_next table i next selector after above at more is =
    below_more _ _ (λ k less. let low = above k less in omega (arith, low, at, more, is)) (omega (arith, at, is))

pub below_same : (table : List ℕ) (i next selector after : ℕ) → ((k : ℕ) → k < i → selector_at table k < next) →
    selector ≡ selector_at table i → selector < next → after ≡ next → (k : ℕ) → k < i + 1 → selector_at table k < after
below_same table i next selector after above at less is =
    below_more _ _ (λ k low. let here = above k low in omega (arith, here, is)) (omega (arith, at, less, is))
