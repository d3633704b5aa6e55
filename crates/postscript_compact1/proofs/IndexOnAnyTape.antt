-- What is known of an INDEX that was read, whatever the tape.
use Rattle.std.proofs.Common.{◌≡◌, ℕ, zero, suc, ◌+◌, ◌<◌, Option, None, Some, List, [], ◌∷◌, Vec, length, map, vec_len, IsTrue, ap, refl, arith}
use Rattle.std.proofs.lemmas.List.{length-map}
use Rattle.std.specs.declared.alloc.Global.{Global}
use Rattle.postscript_base.specs.Compact1.Offset.{behind, rises}
use Rattle.postscript_base.specs.Tape.Loops.{AreFor, AreLinked}
use Rattle.postscript_compact1.specs.Index.{lengths, lengths_from}
use Rattle.postscript_compact1.specs.IndexAt.{IsFilled}
use Rattle.postscript_compact1.specs.declared.index.Length.{Length}
use Rattle.postscript_compact1.proofs.IndexIs.{Follows, follows_on, nothing_follows}

abbrev Rises : ℕ × Option ℕ → ℕ → Type 0
Rises given next = IsTrue (rises given.1 next)

rise : (size : ℕ) (last : Option ℕ) (count : ℕ) (os : List ℕ) → AreLinked Rises behind (size, last) count os →
    (length os ≡ count) × Follows last os
rise size last zero [] h = (refl, nothing_follows last)
rise size last zero (n ∷ os) h = absurd h
rise size last (suc count) [] h = absurd h
rise size last (suc count) (n ∷ os) h = let rest = rise size (Some n) count os h.1 in (ap suc rest.0, follows_on last n os h.0 rest.1)

-- items are as long as they were to be
long : (ls : List Length) (items : List (Vec ℕ Global)) → AreFor (λ length item. vec_len item ≡ length.0) ls items →
    map length (map (λ item. item.items) items) ≡ map (λ length. length.0) ls
long [] [] h = refl
long [] (item ∷ items) h = absurd h
long (l ∷ ls) [] h = absurd h
long (l ∷ ls) (item ∷ items) h = let is = h.0 in let one : length item.items ≡ l.0 = omega arith in rw (one, long ls items h.1) refl

between : (low : ℕ) (os : List ℕ) → length (lengths_from low os) ≡ length os
between low [] = refl
between low (high ∷ os) = ap suc (between high os)

pub is_filled : (count size : ℕ) (os : List ℕ) (ls : List Length) (items : List (Vec ℕ Global)) → AreLinked Rises behind (size, None)
    (count + 1) os → map (λ length. length.0) ls ≡ lengths os → AreFor (λ length item. vec_len item ≡ length.0) ls items
    → 0 < count → IsFilled (record { count = count; offset_size = size; offsets = os; items = map (λ item. item.items) items })
is_filled count size os ls items linked are fit some = grind (arith, rise, long, between, length-map)
