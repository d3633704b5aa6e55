-- The commands.
use Rattle.std.specs.Prelude.{◌≡◌, ℕ, List, [], ⊤, codes}
use Rattle.psfont_session.specs.declared.command.Command.{Command}
use Rattle.psfont_session.specs.declared.command.Command.TheVariants.{Load, Run, Flat, Font}
use Rattle.psfont_session.specs.declared.command.Manner.TheVariants.{Strict, Lenient}
use Rattle.psfont_session.specs.declared.command.Place.TheVariants.{Code, Global, Local}

-- the name of a command
abbrev pub name_of : Command → List ℕ
name_of (Load Code) = codes "code"
name_of (Load Global) = codes "global"
name_of (Load Local) = codes "local"
name_of Run = codes "run"
name_of Flat = codes "flat"
name_of (Font Strict) = codes "font"
name_of (Font Lenient) = codes "lenient"

-- the argument that a command takes: `Run` and `Flat` take none, and the others take any
abbrev pub Takes : Command → List ℕ → Type 0
Takes Run argument = argument ≡ []
Takes Flat argument = argument ≡ []
Takes command argument = ⊤
