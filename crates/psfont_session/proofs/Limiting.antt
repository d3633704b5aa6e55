-- Runs within a limit.
use Rattle.std.proofs.Common.{◌≡◌, ℕ, Bool, true, false, List, Result, Ok, Err, IfOk, subst}
use Rattle.postscript.specs.Program.Limit.{Spends}
use Rattle.postscript.specs.Program.Runs.{Phrase}
use Rattle.postscript.specs.Program.Within.{Fits}
use Rattle.postscript_base.specs.declared.error.Error.{Error}
use Rattle.psfont_session.specs.Limit.{IsUsedUp}
use Rattle.psfont_session.specs.Loaded.{Loaded}
use Rattle.psfont_session.specs.Output.{run_loaded}

pub with_left : (r : Result Bool Error) (phrases same : List Phrase) (limit left : ℕ) → phrases ≡ same →
    IfOk r (λ fits. Fits phrases limit fits left) → IfOk r (λ fits. (rest : ℕ) × Fits same limit fits rest)
with_left (Ok fits) phrases same limit left is h = (left, subst (λ (xs : List Phrase). Fits xs limit fits left) is h)
with_left (Err e) phrases same limit left is h = tt

pub used_up : (limit : ℕ) (loaded : Loaded) → (left : ℕ) × Fits (run_loaded loaded).trace limit false left → IsUsedUp limit loaded
used_up limit loaded h = let spent = h.1.1 in (spent.0, subst (λ n. Spends limit (run_loaded loaded).trace n spent.0) h.1.0 spent.1)
