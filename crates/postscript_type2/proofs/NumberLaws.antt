-- Numbers are read exactly where they are spelled.
use Rattle.std.proofs.lemmas.List.{drop-drop, take-append-drop, length-take-le}
use Rattle.std.proofs.Common.{◌≡◌, refl, ap, sym, subst, ◌∙◌, ℕ, suc, ◌+◌, ◌-◌, ◌⊎◌, inl, inr, ℤ, Bool, true, false, List, [], ◌∷◌, ◌++◌, length, length-drop, take, drop, arith}
use Rattle.postscript_base.specs.Numbers.{big_endian}
use Rattle.postscript_base.specs.Tape.Outcome.{Got, Fault, after, end}
use Rattle.postscript_base.specs.Refusal.{malformed_number, unexpected_eof}
use Rattle.postscript_type2.specs.Number.{number, spelled}
use Rattle.postscript_type2.specs.Program.Parsing.{is_number}
use Rattle.postscript_type2.specs.Program.Phrases.{IsNumber, IsNumberAt, ReadsNumbers}
use Rattle.postscript_type2.proofs.Places.{later, spelled-local}
use Rattle.postscript_type2.proofs.PhraseLaws.{reads-number, form, Stands, IsCut, number-at}
use Rattle.postscript_type2.proofs.Slices.{at-place, past-end}

-- the first byte, and what stands behind it
pub at-first : (bytes : List ℕ) (place b : ℕ) (r : List ℕ) → b ∷ r ≡ drop place bytes → number bytes place ≡ later (place + 1)
    (spelled b r 0)
unfolding number
at-first bytes place b r e =
    let left = length-drop place bytes in
    let long : suc (length r) ≡ length bytes - place = ap length e ∙ left in
    let one : big_endian (take 1 (drop place bytes)) ≡ b = ap (λ xs. big_endian (take 1 xs)) (sym e) ∙ (omega arith) in
    let there : drop (place + 1) bytes ≡ r = sym (drop-drop 1 place bytes) ∙ ap (drop 1) (sym e) in
    let read = at-place 1 bytes place (omega arith) in
    ap (λ o. after o (λ first at. spelled first bytes at)) read ∙ ap (λ first. spelled first bytes (place + 1)) one
    ∙ spelled-local b bytes (place + 1) ∙ ap (λ r. later (place + 1) (spelled b r 0)) there

all : (bytes : List ℕ) (place : ℕ) (bits : ℤ) (next : ℕ) → IsNumberAt bytes place bits next → number bytes place ≡ Got bits next
all bytes place bits next h =
    let r = reads-number h.spelling bits h.is in
    let b = r.0 in
    let s = r.1 in
    let tail = drop (length h.spelling) (drop place bytes) in
    let parts : b ∷ (s ++ tail) ≡ drop place bytes = ap (λ xs. xs ++ tail) (sym r.2) ∙ ap (λ xs. xs ++ tail) (sym h.stands)
    ∙ take-append-drop (length h.spelling) (drop place bytes) in
    let long : length h.spelling ≡ suc (length s) = ap length r.2 in
    let behind = h.behind in
    let last : place + 1 + length s ≡ next = omega arith in
    at-first bytes place b (s ++ tail) parts ∙ ap (later (place + 1)) (r.4 tail) ∙ ap (Got bits) last

-- no number begins with the byte
pub no-number : (b : ℕ) (r : List ℕ) → is_number b ≡ false → spelled b r 0 ≡ Fault malformed_number
no-number b r h = grind arith

only : (bytes : List ℕ) (place : ℕ) (bits : ℤ) (next : ℕ) → number bytes place ≡ Got bits next → IsNumberAt bytes place bits next
unfolding number
only bytes place bits next e = by (drop place bytes) refl
  where
    found : (b : ℕ) (r : List ℕ) → b ∷ r ≡ drop place bytes → Stands b r ⊎ IsCut b r → later (place + 1) (spelled b r 0) ≡ Got bits next →
        IsNumberAt bytes place bits next
    found b r h (inl (more, x, read, is, within)) got =
        let same : Got x (place + 1 + more) ≡ Got bits next = sym (ap (later (place + 1)) read) ∙ got in
        let value : x ≡ bits = cc in
        let at : place + 1 + more ≡ next = cc in
        let taken = length-take-le more r within in
        record {
          spelling = b ∷ take more r;
          is = subst (IsNumber (b ∷ take more r)) value is;
          stands = ap (take (suc (length (take more r)))) (sym h) ∙ ap (λ n. b ∷ take n r) taken;
          behind = omega arith;
        }
    found b r h (inr (missing, x, read, other, is)) got =
        let never : Fault unexpected_eof ≡ Got bits next = sym (ap (later (place + 1)) read) ∙ got in absurd (cc)

    tested : (b : ℕ) (r : List ℕ) (t : Bool) → is_number b ≡ t → b ∷ r ≡ drop place bytes → later (place + 1)
        (spelled b r 0) ≡ Got bits next → IsNumberAt bytes place bits next
    tested b r true t h got = found b r h (number-at b r (form b t)) got
    tested b r false t h got =
        let never : Fault malformed_number ≡ Got bits next = sym (ap (later (place + 1)) (no-number b r t)) ∙ got in absurd (cc)

    by : (rest : List ℕ) → rest ≡ drop place bytes → IsNumberAt bytes place bits next
    by [] h =
        let left : 0 ≡ length bytes - place = ap length h ∙ length-drop place bytes in
        let ended : end ≡ Got bits next = sym
        (ap (λ o. after o (λ first at. spelled first bytes at)) (past-end 1 bytes place (omega arith))) ∙ e in absurd (cc)
    by (b ∷ r) h = tested b r (is_number b) refl h (sym (at-first bytes place b r h) ∙ e)

pub reads_numbers : ReadsNumbers
reads_numbers = record { all = all; only = only }
