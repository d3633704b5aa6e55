-- The words after the program's name.
use Rattle.std.specs.Prelude.{◌≡◌, ◌⊎◌, ℕ, List, [], ◌∷◌, codes}

-- the accepted ones: none, or `font` or `lenient` and the path of a file
abbrev pub AreKnown : List (List ℕ) → Type 0
AreKnown words = (words ≡ []) ⊎ ((word : List ℕ) × (path : List ℕ) × ((word ≡ codes "font") ⊎ (word ≡ codes "lenient"))
    × (words ≡ word ∷ path ∷ []))
