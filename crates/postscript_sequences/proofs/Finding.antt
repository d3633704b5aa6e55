-- What a record says of a character is what the table says of the sequence.
use Rattle.std.proofs.Common.{◌≡◌, ℕ, ◌<◌, ◌≤◌, List, arith, subst, inl, inr}
use Rattle.std.specs.Prelude.{MatchOption, Option, None, Some}
use Rattle.std.proofs.lemmas.Bool.{cases_lt}
use Rattle.postscript_sequences.specs.Tables.{selector_at, char_at}
use Rattle.postscript_sequences.specs.Sequences.{HasDefault, HasGlyph, HasNone, IsMapping, IsRecord, Says}
use Rattle.postscript_sequences.specs.Said.{Tells}
use Rattle.postscript_sequences.specs.declared.sequences.Sequence.{Sequence}
use Rattle.postscript_sequences.specs.declared.sequences.Sequence.TheVariants.{Default, Glyph}

-- two first entries that are not lower are one
pub same_first : (key : ℕ → ℕ) (least i j : ℕ) → least ≤ key i → least ≤ key j → ((k : ℕ) → k < i → key k < least) →
    ((k : ℕ) → k < j → key k < least) → i ≡ j
same_first key least i j a b before_i before_j = elim (cases_lt i j) [
  | inl less ↦ let low = before_j i less in absurd (omega (arith, low, a))
  | inr more ↦ elim (cases_lt j i) [
    | inl less ↦ let low = before_i j less in absurd (omega (arith, low, b))
    | inr least ↦ omega (arith, more, least)
  ]
]

pub same_record : (table : List ℕ) (selector i j : ℕ) → IsRecord table selector i → IsRecord table selector j → i ≡ j
same_record table selector i j a b =
    let one = a.is in let other = b.is in
    same_first (selector_at table) selector i j (omega (arith, one)) (omega (arith, other)) a.before b.before

pub same_mapping : (table : List ℕ) (offset char i j : ℕ) → IsMapping table offset char i → IsMapping table offset char j → i ≡ j
same_mapping table offset char i j a b =
    let one = a.is in let other = b.is in
    same_first (char_at table offset) char i j (omega (arith, one)) (omega (arith, other)) a.before b.before

-- no record has the selector
pub no_record : (table : List ℕ) (char selector : ℕ) → ((i : ℕ) → IsRecord table selector i → ⊥) → HasNone table char selector
no_record table char selector none = record { no_default = λ h. none h.0 h.1; no_glyph = λ glyph h. none h.0 h.1 }

-- what the record of the selector says
pub told : (table : List ℕ) (char selector i : ℕ) (result : Option Sequence) → IsRecord table selector i → Tells table i char result →
    MatchOption result (HasNone table char selector) (λ sequence. Says table char selector sequence)
told table char selector i None is tells = record {
  no_default = λ h. tells.0 (subst (λ k. HasDefault table k char) (same_record table selector h.0 i h.1 is) h.2);
  no_glyph = λ glyph h. tells.1 glyph (subst (λ k. HasGlyph table k char glyph) (same_record table selector h.0 i h.1 is) h.2);
}
told table char selector i (Some Default) is tells = (i, is, tells)
told table char selector i (Some (Glyph glyph)) is tells = (i, is, tells)
