-- The strings of a table `post`.
use Rattle.std.proofs.Common.{◌≡◌, ◌∙◌, ap, sym, subst, add-one, inl, inr, refl, ℕ, zero, suc, ◌+◌, ◌-◌, ◌<◌, ◌≤◌, List, [], ◌∷◌, ◌++◌, Option, Some, None, length, arith}
use Rattle.std.proofs.lemmas.List.{length-append}
use Rattle.std.proofs.lemmas.Option.{slice_get_cases}
use Rattle.std.specs.Prelude.{slice_get, MatchOption}
use Rattle.std.specs.Borrow.{Bor}
use Rattle.postscript_base.specs.Index.{number_at}
use Rattle.postscript_sfnt.specs.GlyphNames.{AreStrings, HasGlyphName, HasNumberedName, IsString, count_of, index_of, start_of}

-- those before a place
pub record AreSoFar (post : List ℕ) (place : ℕ) (strings : List (Bor (List ℕ))) : Type 0 where
  pub at : place ≡ start_of post (length strings)
  pub room : place ≤ length post
  pub each : (number : ℕ) (text : Bor (List ℕ)) → slice_get strings number ≡ Some text → IsString post (start_of post number) text.now

-- each begins behind those before it
rises : (post : List ℕ) (number more : ℕ) → start_of post number ≤ start_of post (more + number)
rises post number zero = grind arith
rises post number (suc more) =
    let last : start_of post (suc (more + number)) ≡ start_of post (more + number) + 1 + number_at post
    (start_of post (more + number)) 1 = refl in
    let before : start_of post number ≤ start_of post (more + number) = rises post number more in
    let here : start_of post number ≤ start_of post (suc (more + number)) = omega (arith, last, before) in
    let turned : suc (more + number) ≡ suc more + number = omega arith in
    subst (λ n. start_of post number ≤ start_of post n) turned here

-- behind one that is cut there is none
pub none_behind : (post : List ℕ) (strings : List (Bor (List ℕ))) (number : ℕ) (text : List ℕ) → AreStrings post strings →
    length strings ≤ number →
    IsString post (start_of post number) text → ⊥
none_behind post strings number text strung behind is =
    let rise : start_of post (suc (length strings)) ≤ start_of post ((number - length strings) + suc (length strings)) = rises post
    (suc (length strings)) (number - length strings) in
    let same : (number - length strings) + suc (length strings) ≡ suc number = omega (arith, behind) in
    omega (arith, strung.cut, is.room, subst (λ n. start_of post (suc (length strings)) ≤ start_of post n) same rise)

the_same : {A : Type 0} (x y : A) → Some x ≡ Some y → x ≡ y
the_same x y is = cc is

-- what holds of each and of one more
pub pushed : {A : Type 0} (P : ℕ → A → Type 0) (xs : List A) (x : A) → ((i : ℕ) (y : A) → slice_get xs i ≡ Some y → P i y) →
    P (length xs) x →
    (i : ℕ) (y : A) → slice_get (xs ++ x ∷ []) i ≡ Some y → P i y
pushed P [] x each one zero y is = subst (λ w. P 0 w) (the_same x y is) one
pushed P [] x each one (suc i) y is = absurd (cc is)
pushed P (z ∷ xs) x each one zero y is = each zero y is
pushed P (z ∷ xs) x each one (suc i) y is = pushed (λ n. P (suc n)) xs x (λ n. each (suc n)) one i y is

-- one more
pub one_more : (post : List ℕ) (place : ℕ) (strings : List (Bor (List ℕ))) (text : Bor (List ℕ)) → AreSoFar post place strings →
    IsString post place text.now → length text.now ≡ number_at post place 1 →
    AreSoFar post (place + (1 + length text.now)) (strings ++ text ∷ [])
one_more post place strings text before is size = record {
  at = ap (λ n. place + (1 + n)) size ∙ ap (λ n. n + (1 + number_at post n 1)) before.at ∙ omega arith
      ∙ ap (start_of post) (sym (add-one (length strings))) ∙ ap (start_of post) (sym (length-append strings (text ∷ [])));
  room = omega (arith, is.room, size);
  each = pushed (λ n (y : Bor (List ℕ)). IsString post (start_of post n) y.now) strings text before.each
      (subst (λ n. IsString post n text.now) before.at is);
}

past : {A : Type 0} (xs : List A) (i : ℕ) → slice_get xs i ≡ None → length xs ≤ i
past xs i is = elim (slice_get_cases xs i).1 [
  | inl here ↦ absurd (cc (is, here.2))
  | inr there ↦ there.0
]

-- the name of a number from 258 on, by the strings
pub own : (post : List ℕ) (strings : List (Bor (List ℕ))) (number : ℕ) (found : Option (Bor (List ℕ))) → AreStrings post strings →
    258 ≤ number →
    slice_get strings (number - 258) ≡ found → MatchOption found ((name : List ℕ) → HasNumberedName post number name → ⊥)
    (λ name. HasNumberedName post number name.now)
own post strings number None strung big is = λ name has. elim has [
  | inl standard ↦ omega (arith, big, standard.0)
  | inr it ↦ none_behind post strings (number - 258) name strung (past strings (number - 258) is) it.1
]
own post strings number (Some name) strung big is = inr (big, strung.each (number - 258) name is)

-- a glyph has the name of its number
pub named : (post : List ℕ) (glyph count number : ℕ) (found : Option (Bor (List ℕ))) → count ≡ count_of post → glyph < count →
    number ≡ index_of post glyph →
    MatchOption found ((name : List ℕ) → HasNumberedName post number name → ⊥) (λ name. HasNumberedName post number name.now) →
    MatchOption found ((name : List ℕ) → HasGlyphName post glyph name → ⊥) (λ name. HasGlyphName post glyph name.now)
named post glyph count number None counted there numbered none =
    λ name has. none name (subst (λ n. HasNumberedName post n name) (sym numbered) has.named)
named post glyph count number (Some name) counted there numbered is = record {
  there = subst (λ n. glyph < n) counted there;
  named = subst (λ n. HasNumberedName post n name.now) numbered is;
}
