-- A table `HVAR` that is read has no cause to be refused.
use Rattle.std.proofs.Common.{◌≡◌, inl, inr, ℕ, ◌<◌, ◌≤◌, List, length, arith}
use Rattle.postscript_base.specs.Index.{number_at}
use Rattle.postscript_variation.specs.Refusals.{NoAdvances, NoIndexMap, NoStore}
use Rattle.postscript_variation.specs.declared.error.Error.{Error}
use Rattle.postscript_variation.specs.declared.error.Error.TheVariants.{Cut, UnknownFormat}

pub no_cause : (bytes : List ℕ) (store map : ℕ) → store ≡ number_at bytes 4 4 → map ≡ number_at bytes 8 4 → 20 ≤ length bytes →
    number_at bytes 0 2 ≡ 1
    → ((e : Error) → NoStore e bytes store → ⊥) → ((e : Error) → 0 < map → NoIndexMap e bytes map → ⊥) → (e : Error) → NoAdvances e
    bytes → ⊥
no_cause bytes store map a b h v s m Cut (inl k) = omega arith
no_cause bytes store map a b h v s m Cut (inr (_, _, inl k)) = s Cut (rw a k)
no_cause bytes store map a b h v s m Cut (inr (_, _, inr (_, p, k))) = m Cut (omega arith) (rw b k)
no_cause bytes store map a b h v s m UnknownFormat (inl k) = absurd (k.1 v)
no_cause bytes store map a b h v s m UnknownFormat (inr (_, _, inl k)) = s UnknownFormat (rw a k)
no_cause bytes store map a b h v s m UnknownFormat (inr (_, _, inr (_, p, k))) = m UnknownFormat (omega arith) (rw b k)
