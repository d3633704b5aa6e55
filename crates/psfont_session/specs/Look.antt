-- The effect of one read on a session.
use Rattle.std.specs.Prelude.{◌≡◌, ◌⊎◌, ℕ, List, [], ◌∷◌, ◌++◌, Option}
use Rattle.std.specs.Io.KnownBytes.{Consumes, Keeps}
use Rattle.psfont_session.specs.Loaded.{Loaded}
use Rattle.psfont_session.specs.Session.{LineToldWithin, IsFree, IsText, Heard, Talk, fresh}

-- the rest of the input, the output, the loaded code, and the open line
pub record Turn : Type 0 where
  pub left : Option (List ℕ)
  pub written : Option (List ℕ)
  pub loaded : Loaded
  pub open_line : List ℕ

-- the open line gains bytes
pub record Gains (old new : Turn) : Type 0 where
  pub bytes : List ℕ
  pub free : IsFree bytes
  pub spent : Consumes old.left new.left bytes
  pub line : new.open_line ≡ old.open_line ++ bytes
  pub kept : Keeps old.written new.written
  pub loaded : new.loaded ≡ old.loaded

-- the line ends, and gets its reply
pub record Ends (limit : Option ℕ) (old new : Turn) : Type 0 where
  pub bytes : List ℕ
  pub free : IsFree bytes
  pub spent : Consumes old.left new.left (bytes ++ 10 ∷ [])
  pub text : List ℕ
  pub is_text : IsText (old.open_line ++ bytes) text
  pub written : Option (List ℕ)
  pub told : LineToldWithin limit text old.loaded old.written new.loaded written
  pub kept : Keeps written new.written
  pub line : new.open_line ≡ []

abbrev pub Looked : (limit : Option ℕ) → Turn → Turn → Type 0
Looked limit old new = Gains old new ⊎ Ends limit old new

-- the progress of a session: it consumed this input and replied to its lines
pub record Far (limit : Option ℕ) (left written : Option (List ℕ)) (now : Turn) : Type 0 where
  pub input : List ℕ
  pub spent : Consumes left now.left input
  pub talk : Talk
  pub heard : Heard limit input (fresh written) now.open_line talk
  pub loaded : talk.loaded ≡ now.loaded
  pub kept : Keeps talk.written now.written

-- whatever the progress of a session was, it extends to the new state
abbrev pub Goes : (limit : Option ℕ) → Turn → Turn → Type 0
Goes limit old new = (left written : Option (List ℕ)) → Far limit left written old → Far limit left written new
