-- Only private contracts and proofs use these names.
use Rattle.std.specs.Prelude.{◌≡◌, ℕ, ◌<◌, List, [], ◌∷◌, ◌++◌, Option, None, Some, length, slice_index_or}
use Rattle.postscript_sequences.specs.Numbers.{new_number}
use Rattle.postscript_sequences.specs.declared.parts.Part.{Part}
use Rattle.postscript_sequences.specs.declared.sequences.Sequence.{Sequence}
use Rattle.postscript_sequences.specs.declared.sequences.Sequence.TheVariants.{Default, Glyph}

-- a part has one sequence more
abbrev pub IsPut : (old : Part) → (char : ℕ) → Option Sequence → (new : Part) → Type 0
IsPut old char None new = (new.selector ≡ old.selector) × (new.defaults.items ≡ old.defaults.items) × (new.mapped.items ≡ old.mapped.items)
IsPut old char (Some Default) new =
    (new.selector ≡ old.selector) × (new.defaults.items ≡ old.defaults.items ++ char ∷ []) × (new.mapped.items ≡ old.mapped.items)
IsPut old char (Some (Glyph glyph)) new =
    (new.selector ≡ old.selector) × (new.defaults.items ≡ old.defaults.items) × (new.mapped.items ≡ old.mapped.items ++ (char, glyph) ∷ [])

-- entry g is the new number of glyph g
pub record AreNumbers (glyphs : List ℕ) (numbers : List (Option ℕ)) : Type 0 where
  pub many : length numbers ≡ 65536
  pub each : (glyph : ℕ) → glyph < 65536 → slice_index_or numbers glyph None ≡ new_number glyphs glyph
