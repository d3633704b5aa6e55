-- Parts under new glyph numbers.
use Rattle.std.specs.Prelude.{◌≡◌, ℕ, List, [], ◌∷◌, ◌++◌, None, Some}
use Rattle.postscript_sequences.specs.Numbers.{new_number}
use Rattle.postscript_sequences.specs.declared.parts.Part.{Part}

-- the mappings whose glyphs are kept, under new numbers
pub data AreRenumbered (glyphs : List ℕ) : (old new : List (ℕ × ℕ)) → Type 0 where
  nothing : AreRenumbered glyphs [] []
  kept : (old new : List (ℕ × ℕ)) (char glyph number : ℕ) → AreRenumbered glyphs old new → new_number glyphs glyph ≡ Some number →
      AreRenumbered glyphs (old ++ (char, glyph) ∷ []) (new ++ (char, number) ∷ [])
  dropped : (old new : List (ℕ × ℕ)) (char glyph : ℕ) → AreRenumbered glyphs old new → new_number glyphs glyph ≡ None →
      AreRenumbered glyphs (old ++ (char, glyph) ∷ []) new

pub record IsRenumbered (glyphs : List ℕ) (old new : Part) : Type 0 where
  pub selector : new.selector ≡ old.selector
  pub defaults : new.defaults.items ≡ old.defaults.items
  pub mapped : AreRenumbered glyphs old.mapped.items new.mapped.items

-- a part has no sequences
pub record IsEmpty (one : Part) : Type 0 where
  pub defaults : one.defaults.items ≡ []
  pub mapped : one.mapped.items ≡ []

-- the parts that have sequences, under new numbers
pub data AreKept (glyphs : List ℕ) : (old new : List Part) → Type 0 where
  nothing : AreKept glyphs [] []
  kept : (old new : List Part) (one own : Part) → AreKept glyphs old new → IsRenumbered glyphs one own → (IsEmpty own → ⊥) →
      AreKept glyphs (old ++ one ∷ []) (new ++ own ∷ [])
  dropped : (old new : List Part) (one own : Part) → AreKept glyphs old new → IsRenumbered glyphs one own → IsEmpty own →
      AreKept glyphs (old ++ one ∷ []) new
