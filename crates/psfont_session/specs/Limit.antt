-- Runs of the loaded code within a limit.
use Rattle.std.specs.Prelude.{ℕ, List, ◌++◌, true, codes}
use Rattle.std.specs.Fmt.{decimal}
use Rattle.hex.specs.Hex.{encode_lower}
use Rattle.postscript.specs.Program.Limit.{Spends}
use Rattle.postscript.specs.Program.Runs.{Phrase}
use Rattle.postscript.specs.Program.Within.{Fits}
use Rattle.psfont_session.specs.Loaded.{Loaded}
use Rattle.psfont_session.specs.Output.{run_loaded}

-- the first phrases of the run use up the limit
abbrev pub IsUsedUp : (limit : ℕ) → Loaded → Type 0
IsUsedUp limit loaded = (rest : List Phrase) × Spends limit (run_loaded loaded).trace 0 rest

-- the run ends or fails within the limit
abbrev pub KeepsToLimit : (limit : ℕ) → Loaded → Type 0
KeepsToLimit limit loaded = (left : ℕ) × Fits (run_loaded loaded).trace limit true left

-- the reply to a run that is too long: its code, the limit, and the option that sets it
abbrev pub past_line : (limit : ℕ) → (code : List ℕ) → List ℕ
past_line limit code = codes "too long: code "
    ++ (encode_lower code ++ (codes " takes more than --limit " ++ (decimal limit ++ codes "\n")))
