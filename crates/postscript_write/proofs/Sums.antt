-- The bytes of codes.
use Rattle.std.proofs.Common.{◌≡◌, ◌∙◌, refl, sym, ap, ℕ, ◌+◌, List, [], ◌∷◌, length, Vec}
use Rattle.std.specs.declared.alloc.Global.{Global}
use Rattle.std.proofs.lemmas.List.Sums.{sum_by-cons}
use Rattle.postscript_type2.specs.Program.Routines.{texts}
use Rattle.postscript_write.specs.Sizes.{bytes_in, codes_size}

pub codes_are : (codes : List (Vec ℕ Global)) → bytes_in (texts codes) ≡ codes_size codes
codes_are [] = refl
codes_are (code ∷ codes) = sum_by-cons length code.items (texts codes) ∙ ap (λ n. length code.items + n) (codes_are codes)
    ∙ sym (sum_by-cons (λ (code : Vec ℕ Global). length code.items) code codes)
