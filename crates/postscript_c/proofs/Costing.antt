-- Data that cost something stand.
use Rattle.std.proofs.Common.{sym, subst, ℕ, ◌<◌, inl, inr, arith}
use Rattle.postscript_c.proofs.Placing.{either}
use Rattle.postscript_c.specs.Costs.{Costs, nothing, one_more}
use Rattle.postscript_variation.specs.Lent.{IsDataIn}
use Rattle.postscript_variation.specs.declared.store.Data.{Data}
use Rattle.postscript_variation.specs.declared.store.Store.{Store}

pub before : (store : Store) (count cost : ℕ) → Costs store count cost → (n : ℕ) → n < count → (table : Data) × IsDataIn store n table
before store _ _ nothing n h = absurd (omega (arith, h))
before store _ _ (one_more count cost table costs is) n h = elim (either n count h) [
  | inl less ↦ before store count cost costs n less
  | inr same ↦ (table, subst (λ k. IsDataIn store k table) (sym same) is)
]
