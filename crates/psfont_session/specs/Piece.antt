-- The effect of one read on the line, if the bytes of the reader are known.
use Rattle.std.specs.Prelude.{◌≡◌, ◌≢◌, ℕ, List, [], ◌∷◌, ◌++◌, Option, All, IfSome}
use Rattle.std.specs.Io.KnownBytes.{Consumes, IsAtEnd}
use Rattle.psfont_session.specs.declared.lines.Piece.{Piece}
use Rattle.psfont_session.specs.declared.lines.Piece.TheVariants.{Part, Line, End}

-- the bytes that the reader loses with a piece: a line end belongs to its line
abbrev pub spent : Piece → List ℕ → List ℕ
spent Part bytes = bytes
spent (Line more) bytes = bytes ++ 10 ∷ []
spent End bytes = bytes

-- the line gains bytes without a line end, and the reader loses only these and a line end, if any
abbrev pub Moves : Piece → Option (List ℕ) → Option (List ℕ) → List ℕ → List ℕ → Type 0
Moves piece before after old new =
    (bytes : List ℕ) × (new ≡ old ++ bytes) × All (λ byte. byte ≢ 10) bytes × Consumes before after (spent piece bytes)

-- if the bytes of the reader are known, some are left
abbrev pub GoesOn : (before after : Option (List ℕ)) → Type 0
GoesOn before after = IfSome before (λ _. IsAtEnd after → ⊥)
