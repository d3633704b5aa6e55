-- Lists that agree at every place so far.
use Rattle.std.proofs.Common.{◌≡◌, refl, sym, ap, subst, ◌∙◌, ℕ, ◌+◌, ◌<◌, List, [], ◌∷◌, ◌++◌, length, get_or, arith, below_more, Vec, Bool, true, false, not, eqb}
use Rattle.std.proofs.lemmas.List.{get_or_default, get_or_push}
use Rattle.std.proofs.lemmas.Slice.Eq.{bytes_eq-Decides}
use Rattle.std.specs.Cmp.Lexicographic.{pointwise}
use Rattle.std.specs.declared.alloc.Global.{Global}
use Rattle.std.proofs.Math.ListN.{get_or-append}
use Rattle.postscript_write.proofs.Rests.{texts_many}
use Rattle.postscript_type2.specs.Program.Routines.{texts}

texts_push : (flats : List (Vec ℕ Global)) (flat : Vec ℕ Global) → texts (flats ++ flat ∷ []) ≡ texts flats ++ flat.items ∷ []
texts_push [] flat = refl
texts_push (x ∷ flats) flat = ap (λ xs. x.items ∷ xs) (texts_push flats flat)

-- what is not unequal is equal
pub alike : (xs ys : List ℕ) (b : Bool) → b ≡ not (pointwise eqb xs ys) → b ≡ false → xs ≡ ys
alike xs ys b e f = by (pointwise eqb xs ys) refl
  where
    by : (p : Bool) → pointwise eqb xs ys ≡ p → xs ≡ ys
    by true p = (bytes_eq-Decides xs ys).0 p
    by false p = let g : true ≡ false = ap not (sym p) ∙ sym e ∙ f in absurd (cc)

-- Lists of items differ where items in one place do.
pub differ : (xs ys : List (List ℕ)) (i : ℕ) (x y : List ℕ) (b : Bool) → x ≡ get_or xs i x → y ≡ get_or ys i y → i < length xs →
    b ≡ not (pointwise eqb x y) → b ≡ true → ys ≡ xs → ⊥
differ xs ys i x y b ex ey less e t same =
    let one : x ≡ y = ex ∙ sym (ap (λ zs. get_or zs i x) same) ∙ get_or_default ys i x y (subst (λ zs. i < length zs) (sym same) less)
    ∙ sym ey in
    let equal : pointwise eqb x y ≡ true = (bytes_eq-Decides x y).1 one in
    let g : true ≡ false = sym t ∙ e ∙ ap not equal in
    absurd (cc)

pub nothing : {A : Type 0} (xs : List A) → length xs ≡ 0 → xs ≡ []
nothing [] e = refl
nothing (x ∷ xs) e = absurd (omega arith)

-- one more, of which the same holds
pub one_more : {A : Type 0} (d : A) (P : ℕ → A → Type 0) (xs more : List A) (x : A) (i : ℕ) → length xs ≡ i → more ≡ xs ++ x ∷ [] → P i x →
    ((k : ℕ) → k < i → P k (get_or xs k d)) → (k : ℕ) → k < i + 1 → P k (get_or more k d)
one_more d P xs more x i many e here before =
    subst (λ ys. (k : ℕ) → k < i + 1 → P k (get_or ys k d)) (sym e)
    (below_more (λ k. P k (get_or (xs ++ x ∷ []) k d)) i
    (λ k h. subst (P k) (sym (get_or-append xs (x ∷ []) d k (omega arith))) (before k h))
    (subst (P i) (sym (get_or_push xs x d i many)) here))

pub text_more : (P : ℕ → List ℕ → Type 0) (flats more : List (Vec ℕ Global)) (flat : Vec ℕ Global) (i : ℕ) → length flats ≡ i →
    more ≡ flats ++ flat ∷ [] → P i flat.items →
    ((k : ℕ) → k < i → P k (get_or (texts flats) k [])) → (k : ℕ) → k < i + 1 → P k (get_or (texts more) k [])
text_more P flats more flat i many e here before =
    one_more [] P (texts flats) (texts more) flat.items i (texts_many flats ∙ many) (ap texts e ∙ texts_push flats flat) here before
