-- The input of a run, and the commands that change it.
use Rattle.std.specs.Prelude.{◌≡◌, ℕ, List, [], ◌∷◌, ◌++◌, Ok}
use Rattle.hex.specs.Hex.{decode_of}
use Rattle.postscript.specs.Program.Routines.{Lists}
use Rattle.psfont_session.specs.Command.{name_of}
use Rattle.psfont_session.specs.Line.{word_of, argument_of}
use Rattle.psfont_session.specs.declared.command.Command.TheVariants.{Load}
use Rattle.psfont_session.specs.declared.command.Place.{Place}
use Rattle.psfont_session.specs.declared.command.Place.TheVariants.{Code, Global, Local}

-- the code, and the subroutines that it may call
pub record Loaded : Type 0 where
  pub code : List ℕ
  pub global : List (List ℕ)
  pub local : List (List ℕ)

-- the subroutines of a run
abbrev pub lists_of : Loaded → Lists
lists_of loaded = record { global = loaded.global; local = loaded.local }

-- bytes stored at their destination, where new code starts without subroutines
abbrev pub put : Place → List ℕ → Loaded → Loaded
put Code bytes loaded = record { code = bytes; global = []; local = [] }
put Global bytes loaded = record loaded { global = loaded.global ++ bytes ∷ [] }
put Local bytes loaded = record loaded { local = loaded.local ++ bytes ∷ [] }

-- the line is a command that stores these bytes at this destination
abbrev pub Loads : List ℕ → Place → List ℕ → Type 0
Loads line place bytes = (word_of line ≡ name_of (Load place)) × (decode_of (argument_of line) ≡ Ok bytes)
