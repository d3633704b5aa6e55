use Rattle.std.proofs.Common.{◌≡◌, List, ℕ, ◌+◌, ◌-◌, ◌++◌, length, take, drop, Option, Some, None, IfSome, option_map, arith, ◌∙◌, ap, sym}
use Rattle.std.proofs.Math.Seq.{drop-append_seam}
use Rattle.std.proofs.lemmas.List.{take-append-drop, drop-drop}
use Rattle.std.specs.Io.KnownBytes.{Consumes}
use Rattle.postscript_base.proofs.tape.read_seek.CursorReadSeek.read_onto.Goals as goal

-- what stands behind the bytes in front
behind : (xs ys zs : List ℕ) (n : ℕ) → zs ≡ xs ++ ys → n ≡ length xs → drop n zs ≡ ys
behind xs ys zs n whole front = rw (whole, front) (drop-append_seam xs ys)

-- so many bytes at a place are what is passed on the way behind them
passed : (known : Option (List ℕ)) (all : List ℕ) (place more : ℕ) → IfSome known (λ bytes. all ≡ bytes)
    → Consumes (option_map (drop place) known) (option_map (drop (place + more)) known) (take (place + more - place) (drop place all))
passed None all place more is = tt
passed (Some bytes) all place more is =
    let count : place + more - place ≡ more = omega arith in
    rw (count, is) (sym (take-append-drop more (drop place bytes))
    ∙ ap (λ rest. take more (drop place bytes) ++ rest) (drop-drop more place bytes))

pub returns-clause-bytes : goal.returns-clause-bytes
returns-clause-bytes g c = grind (arith, behind, passed)
