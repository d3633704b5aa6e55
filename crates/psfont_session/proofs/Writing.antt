-- Known bytes that are written one text after another.
use Rattle.std.proofs.Common.{◌≡◌, ℕ, List, [], ◌∷◌, ◌++◌, ◌+◌, ◌<◌, Option, Some, None, sym, ap, ◌∙◌, append_assoc, append-nil, take, map, refl, length, get_or, Result, Ok, Err, OnOk}
use native.Mathlib.Numerals.{unary_clauses}
use Rattle.std.specs.List.{flat_map}
use Rattle.std.proofs.Math.Seq.{take-suc}
use Rattle.std.proofs.lemmas.Grind.{flat_map-append}
use Rattle.std.specs.Io.KnownBytes.{Appends, Keeps}

-- nothing is written
pub none : (u : Option (List ℕ)) → Appends u u []
none None = tt
none (Some xs) = sym (append-nil xs)

-- one text, and another
pub both : (u v w : Option (List ℕ)) (a b : List ℕ) → Appends u v a → Appends v w b → Appends u w (a ++ b)
both None v w a b x y = tt
both (Some xs) None w a b x y = absurd x
both (Some xs) (Some ys) None a b x y = y
both (Some xs) (Some ys) (Some zs) a b x y = y ∙ ap (λ (t : List ℕ). t ++ b) x ∙ append_assoc xs a b

-- the text of each item so far, and that of the next
pub more : {A : Type 0} (f : A → List ℕ) (u v w : Option (List ℕ)) (items : List A) (i : ℕ) (d : A) → i < length items →
    Appends u v (flat_map f (take i items)) → Appends v w (f (get_or items i d)) → Appends u w (flat_map f (take (i + 1) items))
more f u v w items i d below so_far next =
    let taken : take (i + 1) items ≡ take i items ++ get_or items i d ∷ [] = simp unary_clauses (take-suc items i d below) in
    let one = ap (flat_map f) taken ∙ flat_map-append f (take i items) (get_or items i d ∷ [])
    ∙ ap (λ t. flat_map f (take i items) ++ t) (append-nil (f (get_or items i d))) in
    rw one (both u v w _ _ so_far next)

-- the texts of items that are made of others
pub of_each : {A B : Type 0} (f : B → List ℕ) (g : A → B) (xs : List A) → flat_map f (map g xs) ≡ flat_map (λ x. f (g x)) xs
of_each f g [] = refl
of_each f g (x ∷ xs) = ap (λ t. f (g x) ++ t) (of_each f g xs)

-- the texts so far, and that of one item more
pub one_more : {A : Type 0} (f : A → List ℕ) (u v w : Option (List ℕ)) (items : List A) (item : A) → Appends u v (flat_map f items) →
    Appends v w (f item) → Appends u w (flat_map f (items ++ item ∷ []))
one_more f u v w items item so_far next =
    let one = flat_map-append f items (item ∷ []) ∙ ap (λ t. flat_map f items ++ t) (append-nil (f item)) in
    rw one (both u v w _ _ so_far next)

-- the same of items that are made of others
pub more_of : {A B : Type 0} (f : B → List ℕ) (g : A → B) (u v w : Option (List ℕ)) (items : List A) (i : ℕ) (d : A) → i < length items →
    Appends u v (flat_map f (map g (take i items))) → Appends v w (f (g (get_or items i d))) → Appends u w
    (flat_map f (map g (take (i + 1) items)))
more_of f g u v w items i d below so_far next =
    rw (of_each f g (take (i + 1) items)) (more (λ x. f (g x)) u v w items i d below (rw (sym (of_each f g (take i items))) so_far) next)

-- what holds where a call answers, and what follows from it
pub so : {T E : Type 0} (r : Result T E) {P Q : Type 0} → OnOk r P → (P → Q) → OnOk r Q
so (Ok x) p f = f p
so (Err e) p f = tt

-- known bytes that grew, and were kept then
pub kept : (u v w : Option (List ℕ)) (a : List ℕ) → Appends u v a → Keeps v w → Appends u w a
kept None v w a x y = tt
kept (Some xs) None w a x y = absurd x
kept (Some xs) (Some ys) None a x y = absurd y
kept (Some xs) (Some ys) (Some zs) a x y = y ∙ x
