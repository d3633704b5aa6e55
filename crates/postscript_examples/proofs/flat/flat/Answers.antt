use Rattle.std.proofs.Common.{◌≡◌, ℕ, [], Vec, Global, Ok, Err, Result, map, refl}
use Rattle.std.specs.Prelude.{IfOk}
use Rattle.postscript_base.specs.declared.error.Error.{Error}
use Rattle.postscript_type2.specs.Program.Inlining.{KeepsMeaning}
use Rattle.postscript_type2.specs.Program.Routines.{Lists, subroutines}
use Rattle.postscript_type2.specs.Program.Runs.{Run, operation, width_of}
use Rattle.postscript_examples.specs.Glyphs.{Drawn, drawn_by}
use Rattle.postscript_examples.proofs.flat.flat.Goals as goal

draws : (r : Result (Vec ℕ Global) Error) (run : Run) → IfOk r (λ flat. (other : Lists) → KeepsMeaning other flat.items run) →
    IfOk r (λ flat. (other : Lists) → drawn_by other flat.items ≡ (map operation run.answers, width_of run))
draws (Ok flat) run keeps = λ other. rw ((keeps other).width, (keeps other).answers) refl
draws (Err e) run keeps = tt

pub returns-clause-same : goal.returns-clause-same
returns-clause-same c = draws c.flatten.result _ c.flatten.ensures.keeps

pub returns-clause-alone : goal.returns-clause-alone
returns-clause-alone c = over (subroutines [] []) c.flatten.result _ (draws c.flatten.result _ c.flatten.ensures.keeps)
  where
    over : (lists : Lists) (r : Result (Vec ℕ Global) Error) (drawn : Drawn) →
        IfOk r (λ flat. (other : Lists) → drawn_by other flat.items ≡ drawn) → IfOk r (λ flat. drawn_by lists flat.items ≡ drawn)
    over lists (Ok flat) drawn all = all lists
    over lists (Err e) drawn all = tt
