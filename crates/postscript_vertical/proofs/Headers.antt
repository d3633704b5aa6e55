-- A header with another number of metrics.
use Rattle.std.proofs.Common.{◌≡◌, sym, ◌∙◌, ap, ℕ, ◌-◌, ◌≤◌, List, ◌++◌, length, take, drop, length-append, length-drop, append_assoc, arith}
use Rattle.std.specs.Int.{to_be_bytes, w16}
use Rattle.std.proofs.Math.Seq.{take-length}
use Rattle.std.proofs.lemmas.List.{drop_at, length-take-le, take_at}
use Rattle.postscript_vertical.specs.Metrics.{IsHeader}
use Rattle.postscript_vertical.specs.Numbers.{Puts, word}
use Rattle.postscript_vertical.proofs.Words.{word-before}

pub header-is : (old front middle new : List ℕ) (metrics : ℕ) → 36 ≤ length old → front ≡ take 34 old → Puts metrics front middle →
    new ≡ middle ++ take (length old - 36) (drop 36 old) → IsHeader old metrics new
header-is old front middle new metrics room begins puts ends =
    let all : take (length old - 36) (drop 36 old) ≡ drop 36 old =
    ap (λ (n : ℕ). take n (drop 36 old)) (sym (length-drop 36 old)) ∙ take-length (drop 36 old) in
    let text : new ≡ middle ++ drop 36 old = ends ∙ ap (λ (xs : List ℕ). middle ++ xs) all in
    let size : length front ≡ 34 = ap length begins ∙ length-take-le 34 old (omega arith) in
    let two = puts.size in
    let whole : length middle ≡ 36 = omega (arith, size, two) in
    let long = ap length text ∙ length-append middle (drop 36 old) in
    let rest = length-drop 36 old in
    let parts : new ≡ front ++ (to_be_bytes w16 metrics ++ drop 36 old) =
    text ∙ ap (λ (xs : List ℕ). xs ++ drop 36 old) puts.text ∙ append_assoc front (to_be_bytes w16 metrics) (drop 36 old) in
    record {
      size = omega (arith, long, rest, whole, room);
      before = ap (take 34) parts ∙ take_at front (to_be_bytes w16 metrics ++ drop 36 old) 34 size ∙ begins;
      number = ap (λ (xs : List ℕ). word xs 34) text ∙ word-before middle (drop 36 old) 34 (omega (arith, whole))
          ∙ ap (word middle) (sym size) ∙ puts.put;
      after = ap (drop 36) text ∙ drop_at middle (drop 36 old) 36 whole;
    }
