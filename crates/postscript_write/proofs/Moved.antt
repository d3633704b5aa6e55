-- A text that stands in two lists of bytes reads the same in both.
use Rattle.std.proofs.Common.{◌≡◌, sym, ap, ◌∙◌, ℕ, ◌+◌, ◌≤◌, List, length, take, drop, length-drop, arith}
use Rattle.std.proofs.lemmas.List.{drop-append-le, drop-drop, take-append-le}
use Rattle.postscript_base.specs.Index.{number_at}
use Rattle.postscript_base.specs.Numbers.{big_endian}
use Rattle.postscript_write.specs.Texts.{TextStands}

-- a slice of the text
slice_there : (text out : List ℕ) (place k n : ℕ) → TextStands text out place → k + n ≤ length text →
    take n (drop (place + k) out) ≡ take n (drop k text)
slice_there text out place k n s less =
    let rest : List ℕ = s.behind in
    let high : n ≤ length (drop k text) = omega (arith, less, length-drop k text) in
    ap (take n) (sym (drop-drop k place out) ∙ ap (drop k) s.there ∙ drop-append-le k text rest (omega (arith, less)))
    ∙ take-append-le n (drop k text) rest high

module _ (text a b : List ℕ) (p q : ℕ) (sa : TextStands text a p) (sb : TextStands text b q) where
  pub slice_moves : (k n : ℕ) → k + n ≤ length text → take n (drop (q + k) b) ≡ take n (drop (p + k) a)
  slice_moves k n less = slice_there text b q k n sb less ∙ sym (slice_there text a p k n sa less)

  -- a number in it
  pub number_moves : (k n : ℕ) → k + n ≤ length text → number_at b (q + k) n ≡ number_at a (p + k) n
  unfolding number_at
  number_moves k n less = ap big_endian (slice_moves k n less)
