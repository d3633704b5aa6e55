-- What the first of some runs that is refused is refused with.
use Rattle.std.proofs.Common.{◌≡◌, ◌<◌, ◌+◌, ℕ, zero, suc, List, [], ◌∷◌, Option, Some, None, Vec, Global, length, take, get_or, refl, sym, subst, rules, arith}
use Rattle.std.specs.Option.{option_or}
use Rattle.postscript_base.specs.Refusal.{Refusal}
use Rattle.postscript_type2.specs.Program.Routines.{Lists, texts}
use Rattle.postscript_examples.specs.Glyphs.{refused_by, first_refused_by}

-- of two there is none only where there is neither
both_none : (a b : Option Refusal) → option_or a b ≡ None → (a ≡ None) × (b ≡ None)
both_none None b is = (refl, is)
both_none (Some refusal) b is = absurd (search (rules, is))

-- one code more that is not refused
pub none_so_far : (lists : Lists) (codes : List (Vec ℕ Global)) (i : ℕ) (code : Vec ℕ Global) (bytes : List ℕ) → i < length codes →
    code ≡ get_or codes i code → bytes ≡ code.items
    → first_refused_by lists (texts (take i codes)) ≡ None → refused_by lists bytes ≡ None → first_refused_by lists
    (texts (take (i + 1) codes)) ≡ None
none_so_far lists [] i code bytes below is same before none = absurd (omega (arith, below))
none_so_far lists (x ∷ xs) zero code bytes below is same before none = rw (sym is, sym same, none) refl
none_so_far lists (x ∷ xs) (suc i) code bytes below is same before none =
    let both = both_none (refused_by lists x.items) (first_refused_by lists (texts (take i xs))) before in
    let more : first_refused_by lists (texts (take (suc (i + 1)) (x ∷ xs))) ≡ None = rw both.0
    (none_so_far lists xs i code bytes (omega (arith, below)) is same both.1 none) in
    subst (λ n. first_refused_by lists (texts (take n (x ∷ xs))) ≡ None) {x = suc (i + 1)} {y = suc i + 1} (omega arith) more

-- the first code that is refused
pub first_so_far : (lists : Lists) (codes : List (Vec ℕ Global)) (i : ℕ) (code : Vec ℕ Global) (bytes : List ℕ) (refusal : Refusal) →
    i < length codes → code ≡ get_or codes i code → bytes ≡ code.items
    → first_refused_by lists (texts (take i codes)) ≡ None → refused_by lists bytes ≡ Some refusal → first_refused_by lists
    (texts codes) ≡ Some refusal
first_so_far lists [] i code bytes refusal below is same before refused = absurd (omega (arith, below))
first_so_far lists (x ∷ xs) zero code bytes refusal below is same before refused = rw (sym is, sym same, refused) refl
first_so_far lists (x ∷ xs) (suc i) code bytes refusal below is same before refused =
    let both = both_none (refused_by lists x.items) (first_refused_by lists (texts (take i xs))) before in
    rw both.0 (first_so_far lists xs i code bytes refusal (omega (arith, below)) is same both.1 refused)
