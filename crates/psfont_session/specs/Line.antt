-- The parts of a line of the input.
use Rattle.std.specs.Prelude.{◌≡◌, ℕ, List, ◌==◌}
use Rattle.std.specs.List.{before_first, after_first}
use Rattle.psfont_session.specs.Command.{name_of, Takes}
use Rattle.psfont_session.specs.declared.command.Command.{Command}

-- the bytes before the first space, or the whole line if there is none
abbrev pub word_of : List ℕ → List ℕ
word_of line = before_first (λ byte. byte == 32) line

-- the bytes after the first space, or none if there is no space
abbrev pub argument_of : List ℕ → List ℕ
argument_of line = after_first (λ byte. byte == 32) line

-- the line is no command: no command with this name takes this argument
abbrev pub IsBad : List ℕ → Type 0
IsBad line = (command : Command) → word_of line ≡ name_of command → Takes command (argument_of line) → ⊥
