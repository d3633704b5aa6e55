-- Numbers of four bytes that are written as two numbers of two bytes.
use Rattle.std.proofs.Common.{◌≡◌, refl, sym, ap, subst, ◌∙◌, ℕ, zero, suc, ◌+◌, ◌*◌, ◌<◌, List, [], ◌∷◌, ◌++◌, length, length-append, get_or, take, drop, arith, Bool, false}
use Rattle.std.specs.Prelude.{nat_lt, if◌then◌else◌}
use Rattle.std.proofs.lemmas.Bool.{le-ltb}
use Rattle.std.proofs.lemmas.List.{append_assoc}
use Rattle.std.proofs.lemmas.Nat.{from_be_bytes-to_be_bytes_2}
use Rattle.std.proofs.Math.Seq.{drop-append_seam, take-append_seam}
use Rattle.postscript_base.specs.Index.{number_at}
use Rattle.postscript_base.specs.Numbers.{big_endian}
use Rattle.postscript_layout.specs.Numbers.{long}
use Rattle.postscript_layout_write.specs.Holds.{Holds}
use Rattle.postscript_layout_write.specs.Text.{array_text, uint16}
use Rattle.postscript_layout_write.proofs.Holding.{holds-first, holds-second, length-uint16}

value-two : (high low : ℕ) → high < 65536 → low < 65536 → big_endian (uint16 high ++ uint16 low) ≡ high * 65536 + low
unfolding uint16
value-two high low a b = let e = from_be_bytes-to_be_bytes_2 high a in let f = from_be_bytes-to_be_bytes_2 low b in omega (arith, e, f)

length-two : (high low : ℕ) → length (uint16 high ++ uint16 low) ≡ 4
unfolding uint16
length-two high low = refl

pub holds-long : {bytes : List ℕ} {offset : ℕ} (high low : ℕ) → high < 65536 → low < 65536 → Holds (uint16 high ++ uint16 low) bytes offset →
    long bytes offset ≡ high * 65536 + low
unfolding number_at
holds-long {bytes = bytes} {offset = offset} high low a b h =
    ap (λ (b : Bool). if b then 0 else number_at bytes offset 4) within
    ∙ ap (λ xs. big_endian (take 4 xs)) rest ∙ ap (λ k. big_endian (take k ((uint16 high ++ uint16 low) ++ h.behind))) (sym (length-two high low))
    ∙ ap big_endian (take-append_seam (uint16 high ++ uint16 low) h.behind) ∙ value-two high low a b
  where
    within : nat_lt (length bytes) (offset + 4) ≡ false
    within = let a = ap length h.is in let b = h.place in
        le-ltb _ _ (omega (arith, a, b, length-append h.front ((uint16 high ++ uint16 low) ++ h.behind), length-append (uint16 high ++ uint16 low) h.behind, length-two high low))

    rest : drop offset bytes ≡ (uint16 high ++ uint16 low) ++ h.behind
    rest = ap (drop offset) h.is ∙ ap (λ k. drop k (h.front ++ ((uint16 high ++ uint16 low) ++ h.behind))) (sym h.place)
        ∙ drop-append_seam h.front ((uint16 high ++ uint16 low) ++ h.behind)

pub holds-two : {bytes : List ℕ} (ns : List ℕ) (offset k : ℕ) → k + 1 < length ns → Holds (array_text ns) bytes offset →
    Holds (uint16 (get_or ns k 0) ++ uint16 (get_or ns (suc k) 0)) bytes (offset + k * 2)
unfolding array_text
holds-two [] offset k less h = absurd (omega (arith, less))
holds-two (a ∷ []) offset zero less h = absurd (omega (arith, less))
holds-two {bytes = bytes} (a ∷ (b ∷ ns)) offset zero less h = subst (Holds (uint16 a ++ uint16 b) bytes) (omega arith)
    (holds-first (uint16 a ++ uint16 b) (array_text ns) (subst (λ (xs : List ℕ). Holds xs bytes offset) (sym (append_assoc (uint16 a) (uint16 b) (array_text ns))) h))
holds-two {bytes = bytes} (a ∷ ns) offset (suc k) less h = subst (Holds (uint16 (get_or ns k 0) ++ uint16 (get_or ns (suc k) 0)) bytes) (omega arith)
    (holds-two ns (offset + 2) k (omega (arith, less)) (holds-second (uint16 a) (array_text ns) 2 (length-uint16 a) h))
