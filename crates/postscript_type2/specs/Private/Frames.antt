-- The callers of a routine, as they are stored.
use Rattle.std.specs.Prelude.{ℕ, List, [], ◌∷◌, ◌++◌, reverse, Option, Some, None}

-- all callers, the innermost first: the reversed list of inner ones, and then the outermost
abbrev pub frames : (outermost : Option (List ℕ)) → (inner : List (List ℕ)) → List (List ℕ)
frames None inner = []
frames (Some outermost) inner = reverse inner ++ outermost ∷ []
