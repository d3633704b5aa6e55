-- Parts under new numbers, one after the other.
use Rattle.std.proofs.Common.{◌≡◌, ℕ, ◌+◌, ◌<◌, List, [], ◌∷◌, ◌++◌, length, get_or, take, sym, ap, subst, ◌∙◌}
use Rattle.std.specs.Prelude.{None, Some}
use Rattle.std.proofs.lemmas.List.{take_more}
use Rattle.postscript_sequences.specs.Keeping.{AreKept, AreRenumbered, IsEmpty, IsRenumbered}
use Rattle.postscript_sequences.specs.Keeping as keeping
use Rattle.postscript_sequences.specs.Numbers.{new_number}
use Rattle.postscript_sequences.specs.declared.parts.Part.{Part}

pub mapped_start : (glyphs : List ℕ) (new : List (ℕ × ℕ)) → new ≡ [] → AreRenumbered glyphs [] new
mapped_start glyphs new is = subst (λ xs. AreRenumbered glyphs [] xs) (sym is) keeping.nothing

pub mapped_more : (glyphs : List ℕ) (items : List (ℕ × ℕ)) (k : ℕ) (d : ℕ × ℕ) (old new : List (ℕ × ℕ)) (number : ℕ) → k < length items →
    AreRenumbered glyphs (take k items) old → new_number glyphs (get_or items k d).1 ≡ Some number →
    new ≡ old ++ ((get_or items k d).0, number) ∷ [] → AreRenumbered glyphs (take (k + 1) items) new
mapped_more glyphs items k d old new number less are is all =
    subst (λ xs. AreRenumbered glyphs xs new) (sym (take_more items k d less))
    (subst (λ xs. AreRenumbered glyphs (take k items ++ get_or items k d ∷ []) xs) (sym all)
    (keeping.kept (take k items) old (get_or items k d).0 (get_or items k d).1 number are is))

pub mapped_less : (glyphs : List ℕ) (items : List (ℕ × ℕ)) (k : ℕ) (d : ℕ × ℕ) (old new : List (ℕ × ℕ)) → k < length items →
    AreRenumbered glyphs (take k items) old → new_number glyphs (get_or items k d).1 ≡ None →
    new ≡ old → AreRenumbered glyphs (take (k + 1) items) new
mapped_less glyphs items k d old new less are is all =
    subst (λ xs. AreRenumbered glyphs xs new) (sym (take_more items k d less))
    (subst (λ xs. AreRenumbered glyphs (take k items ++ get_or items k d ∷ []) xs) (sym all)
    (keeping.dropped (take k items) old (get_or items k d).0 (get_or items k d).1 are is))

pub kept_start : (glyphs : List ℕ) (new : List Part) → new ≡ [] → AreKept glyphs [] new
kept_start glyphs new is = subst (λ xs. AreKept glyphs [] xs) (sym is) keeping.nothing

next_parts : (glyphs : List ℕ) (parts : List Part) (k : ℕ) (one : Part) (new : List Part) → k < length parts → one ≡ get_or parts k one →
    AreKept glyphs (take k parts ++ one ∷ []) new → AreKept glyphs (take (k + 1) parts) new
next_parts glyphs parts k one new less here are =
    subst (λ xs. AreKept glyphs xs new) (sym (take_more parts k one less ∙ ap (λ x. take k parts ++ x ∷ []) (sym here))) are

pub kept_more : (glyphs : List ℕ) (parts : List Part) (k : ℕ) (one own : Part) (old new : List Part) → k < length parts →
    one ≡ get_or parts k one → AreKept glyphs (take k parts) old → IsRenumbered glyphs one own → (IsEmpty own → ⊥) → new ≡ old ++ own ∷ [] →
    AreKept glyphs (take (k + 1) parts) new
kept_more glyphs parts k one own old new less here are is some all =
    next_parts glyphs parts k one new less here
    (subst (λ xs. AreKept glyphs (take k parts ++ one ∷ []) xs) (sym all) (keeping.kept (take k parts) old one own are is some))

pub kept_less : (glyphs : List ℕ) (parts : List Part) (k : ℕ) (one own : Part) (old new : List Part) → k < length parts →
    one ≡ get_or parts k one → AreKept glyphs (take k parts) old → IsRenumbered glyphs one own → IsEmpty own → new ≡ old →
    AreKept glyphs (take (k + 1) parts) new
kept_less glyphs parts k one own old new less here are is none all =
    next_parts glyphs parts k one new less here
    (subst (λ xs. AreKept glyphs (take k parts ++ one ∷ []) xs) (sym all) (keeping.dropped (take k parts) old one own are is none))
