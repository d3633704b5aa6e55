-- What a loop still goes over.
use Rattle.std.proofs.Common.{refl, IsTrue, ◌≡◌, sym, ap, subst, ◌∙◌, ℕ, ◌+◌, ◌≤◌, ◌<◌, ◌⊎◌, inl, inr, ◌||◌, ℤ, Bool, true, false, nat_le, List, [], ◌∷◌, ◌++◌, length, drop, map, get_or, add-one, append_assoc, Option, None, Result, Ok, Err, OnOk, arith}
use Rattle.std.proofs.Math.Seq.{drop-cons}
use Rattle.std.proofs.Math.ListN.{drop_of_length-le}
use Rattle.std.proofs.lemmas.Bool.Decides.{nat_tests}
use Rattle.postscript_variable.specs.declared.sayings.Saying.{Saying}
use Rattle.postscript_variable.specs.Defaults.{AreHeld}
use Rattle.postscript_variable.specs.Sayings.{Phrase}
use Rattle.postscript_variable.specs.Told.{said_of}
use Rattle.postscript_type2.specs.Program.StackRules.{IsHeld}
use Rattle.postscript_instance.specs.Numbers.{number_text, numbers_text}
use Rattle.postscript_instance.specs.Private.{IsWritten, IsHeldOrCut, AreHeldOrCut, HasMoreUncut, here, later}
use Rattle.postscript_instance.specs.Cuts.{is_cut, front_of, rest_of, IsTooLong, IsWhole, AreCut, none, whole, piece}
use Rattle.postscript_instance.specs.Texts.{width_numbers, numbers_of, phrase_text, code_text}

pub rest-more : (xs : List Saying) (i : ℕ) (x : Saying) → x ≡ get_or xs i x → i < length xs →
    map said_of (drop i xs) ≡ said_of x ∷ map said_of (drop (i + 1) xs)
rest-more xs i x e h =
    ap (map said_of) (drop-cons xs i x h)
    ∙ ap (λ k. said_of (get_or xs i x) ∷ map said_of (drop k xs)) (sym (add-one i))
    ∙ ap (λ y. said_of y ∷ map said_of (drop (i + 1) xs)) (sym e)

pub rest-done : (xs : List Saying) (i : ℕ) → length xs ≤ i → map said_of (drop i xs) ≡ []
rest-done xs i h = ap (map said_of) (drop_of_length-le xs h)

-- one that fits or is cut, and one that does not
held-few : (n : ℕ) (b : Bool) → b ≡ nat_le n 48 → b ≡ true → n ≤ 48
held-few n b is h = grind (arith, nat_tests)

held-many : (n : ℕ) (b : Bool) → b ≡ nat_le n 48 → b ≡ false → 48 < n
held-many n b is h = grind (arith, nat_tests)

either : (cut held b : Bool) → b ≡ (cut || held) → b ≡ true → (cut ≡ true) ⊎ (held ≡ true)
either true held b is h = inl refl
either false held b is h = inr (sym is ∙ h)

neither : (cut held b : Bool) → b ≡ (cut || held) → b ≡ false → (cut ≡ false) × (held ≡ false)
neither true held b is h = absurd (cc)
neither false held b is h = (refl, sym is ∙ h)

-- whether there is room for the numbers before an operator, as a test
abbrev pub room : Option ℤ → Phrase → Bool
room width x = is_cut x.operator || nat_le (length (numbers_of width x)) 48

pub room-held : (width : Option ℤ) (x : Phrase) (b : Bool) → b ≡ room width x → b ≡ true → IsHeldOrCut width x
room-held width x b is h = elim (either (is_cut x.operator) (nat_le (length (numbers_of width x)) 48) b is h) [
  | inl cut ↦ inl cut
  | inr few ↦ inr (held-few (length (numbers_of width x)) _ refl few)
]

pub fits-more : (xs : List Saying) (i : ℕ) (x : Saying) (width : Option ℤ) → x ≡ get_or xs i x → i < length xs →
    IsHeldOrCut width (said_of x) →
    AreHeldOrCut None (map said_of (drop (i + 1) xs)) → AreHeldOrCut width (map said_of (drop i xs))
fits-more xs i x width e h few rest = subst (AreHeldOrCut width) (sym (rest-more xs i x e h)) (few, rest)

pub many-more : (xs : List Saying) (i : ℕ) (x : Saying) (width : Option ℤ) → x ≡ get_or xs i x → i < length xs →
    HasMoreUncut None (map said_of (drop (i + 1) xs)) → HasMoreUncut width (map said_of (drop i xs))
many-more xs i x width e h rest =
    subst (HasMoreUncut width) (sym (rest-more xs i x e h)) (later width (said_of x) (map said_of (drop (i + 1) xs)) rest)

pub many-here : (xs : List Saying) (i : ℕ) (x : Saying) (width : Option ℤ) (b : Bool) → x ≡ get_or xs i x → i < length xs →
    b ≡ room width (said_of x) → b ≡ false →
    HasMoreUncut width (map said_of (drop i xs))
many-here xs i x width b e h is never =
    let n = length (numbers_of width (said_of x)) in
    let both = neither (is_cut x.operator) (nat_le n 48) b is never in
    subst (HasMoreUncut width) (sym (rest-more xs i x e h))
    (here width (said_of x) (map said_of (drop (i + 1) xs)) both.0 (held-many n _ refl both.1))

-- what is written of one, and of the rest
joined-text : (width : Option ℤ) (x : Phrase) (xs : List Phrase) (old mid new : List ℕ) → mid ≡ old ++ (phrase_text width x ++ x.mask) →
    new ≡ mid ++ code_text None xs →
    new ≡ old ++ code_text width (x ∷ xs)
joined-text width x xs old mid new put rest =
    let behind = code_text None xs in
    rest ∙ ap (λ bytes. bytes ++ behind) put ∙ append_assoc old (phrase_text width x ++ x.mask) behind
    ∙ ap (λ bytes. old ++ bytes) (append_assoc (phrase_text width x) x.mask behind)

pub written-none : (width : Option ℤ) (old mid new : List ℕ) → mid ≡ old ++ numbers_text (width_numbers width) → new ≡ mid ++ 0x0e ∷ [] →
    AreHeld (width_numbers width) →
    IsWritten width [] old new
written-none width old mid new first last held = record {
  written = [];
  cut = none;
  text = last ∙ ap (λ bytes. bytes ++ 0x0e ∷ []) first ∙ append_assoc old (numbers_text (width_numbers width)) (0x0e ∷ []);
  held = held;
}

pub written-whole : (width : Option ℤ) (x : Phrase) (xs : List Phrase) (old mid new : List ℕ) → IsWhole x →
    mid ≡ old ++ (phrase_text width x ++ x.mask) → AreHeld (numbers_of width x) →
    IsWritten None xs mid new → IsWritten width (x ∷ xs) old new
written-whole width x xs old mid new is put held rest =
    record {
      written =
          x ∷ rest.written;
      cut = whole x xs rest.written is rest.cut;
      text = joined-text width x rest.written old mid new put rest.text;
      held = (held, rest.held);
    }

pub written-piece : (width : Option ℤ) (x front behind : Phrase) (xs : List Phrase) (old mid new : List ℕ) → IsTooLong x →
    front ≡ front_of x → behind ≡ rest_of x →
    mid ≡ old ++ (phrase_text width front ++ front.mask) → AreHeld (numbers_of width front) → IsWritten None
    (behind ∷ xs) mid new → IsWritten width (x ∷ xs) old new
written-piece width x front behind xs old mid new is first last put held rest = record {
  written = front ∷ rest.written;
  cut = subst (λ y. AreCut (x ∷ xs) (y ∷ rest.written)) (sym first)
      (piece x xs rest.written is (subst (λ y. AreCut (y ∷ xs) rest.written) last rest.cut));
  text = joined-text width front rest.written old mid new put rest.text;
  held = (held, rest.held);
}

-- what follows of two things where nothing is refused
pub on-both : {A E : Type 0} {P Q R : Type 0} (r : Result A E) → OnOk r P → OnOk r Q → (P → Q → R) → OnOk r R
on-both (Ok x) p q f = f p q
on-both (Err e) p q f = tt

-- the rest of the sayings
pub written-rest : (xs : List Saying) (i : ℕ) (x : Saying) (width : Option ℤ) (old new : List ℕ) → x ≡ get_or xs i x → i < length xs →
    IsWritten width (said_of x ∷ map said_of (drop (i + 1) xs)) old new → IsWritten width (map said_of (drop i xs)) old new
written-rest xs i x width old new e h is = subst (λ ys. IsWritten width ys old new) (sym (rest-more xs i x e h)) is

-- the same of numbers
numbers-rest : (xs : List ℤ) (i : ℕ) (x : ℤ) → x ≡ get_or xs i x → i < length xs → drop i xs ≡ x ∷ drop (i + 1) xs
numbers-rest xs i x e h = drop-cons xs i x h ∙ ap (λ k. get_or xs i x ∷ drop k xs) (sym (add-one i)) ∙ ap (λ y. y ∷ drop (i + 1) xs) (sym e)

pub numbers-more : (xs : List ℤ) (i : ℕ) (x : ℤ) (out new : List ℕ) → x ≡ get_or xs i x → i < length xs → new ≡ out ++ number_text x →
    new ++ numbers_text (drop (i + 1) xs) ≡ out ++ numbers_text (drop i xs)
numbers-more xs i x out new e h is =
    ap (λ bytes. bytes ++ numbers_text (drop (i + 1) xs)) is ∙ append_assoc out (number_text x) (numbers_text (drop (i + 1) xs))
    ∙ ap (λ ys. out ++ numbers_text ys) (sym (numbers-rest xs i x e h))

pub numbers-held : (xs : List ℤ) (i : ℕ) (x : ℤ) → x ≡ get_or xs i x → i < length xs → IsHeld x → AreHeld (drop (i + 1) xs) →
    AreHeld (drop i xs)
numbers-held xs i x e h held rest = subst AreHeld (sym (numbers-rest xs i x e h)) (held, rest)

pub joined-held : (xs ys : List ℤ) → AreHeld xs → AreHeld ys → AreHeld (xs ++ ys)
joined-held [] ys h i = i
joined-held (x ∷ xs) ys h i = (h.0, joined-held xs ys h.1 i)

-- the same of any list
pub rest-of : {X Y : Type 0} (f : X → Y) (xs : List X) (i : ℕ) (x : X) → x ≡ get_or xs i x → i < length xs →
    map f (drop i xs) ≡ f x ∷ map f (drop (i + 1) xs)
rest-of f xs i x e h =
    ap (map f) (drop-cons xs i x h) ∙ ap (λ k. f (get_or xs i x) ∷ map f (drop k xs)) (sym (add-one i))
    ∙ ap (λ y. f y ∷ map f (drop (i + 1) xs)) (sym e)

pub rest-none : {X Y : Type 0} (f : X → Y) (xs : List X) (i : ℕ) → length xs ≤ i → map f (drop i xs) ≡ []
rest-none f xs i h = ap (map f) (drop_of_length-le xs h)

pub no-items : {X : Type 0} (xs : List X) → length xs ≡ 0 → xs ≡ []
no-items [] h = refl
no-items (x ∷ xs) h = absurd (omega (arith, h))

pub is-true : (b : Bool) → b ≡ true → IsTrue b
is-true b h = grind arith
