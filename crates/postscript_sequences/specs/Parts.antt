-- The sequences of some characters, by variation selectors.
use Rattle.std.specs.Prelude.{◌≡◌, ℕ, ◌+◌, ◌<◌, List, [], ◌∷◌, ◌++◌}
use Rattle.postscript_sequences.specs.Sequences.{HasDefault, HasGlyph}
use Rattle.postscript_sequences.specs.Tables.{selector_at}
use Rattle.postscript_sequences.specs.declared.parts.Part.{Part}

-- what record `i` has of some characters: the default ones, and the others with their glyphs
pub data AreSaid (table : List ℕ) (i : ℕ) : (chars defaults : List ℕ) → (mapped : List (ℕ × ℕ)) → Type 0 where
  nothing : AreSaid table i [] [] []
  default : (chars defaults : List ℕ) (mapped : List (ℕ × ℕ)) (char : ℕ) → AreSaid table i chars defaults mapped → HasDefault table i char →
      AreSaid table i (chars ++ char ∷ []) (defaults ++ char ∷ []) mapped
  glyph : (chars defaults : List ℕ) (mapped : List (ℕ × ℕ)) (char glyph : ℕ) → AreSaid table i chars defaults mapped →
      HasGlyph table i char glyph → AreSaid table i (chars ++ char ∷ []) defaults (mapped ++ (char, glyph) ∷ [])
  neither : (chars defaults : List ℕ) (mapped : List (ℕ × ℕ)) (char : ℕ) → AreSaid table i chars defaults mapped →
      (HasDefault table i char → ⊥) × ((glyph : ℕ) → HasGlyph table i char glyph → ⊥) → AreSaid table i (chars ++ char ∷ []) defaults mapped

-- the part of record `i`
pub record IsPart (table : List ℕ) (i : ℕ) (chars : List ℕ) (part : Part) : Type 0 where
  pub selector : part.selector ≡ selector_at table i
  pub small : part.selector < 0x1000000
  pub said : AreSaid table i chars part.defaults.items part.mapped.items

-- all records before record `i` have lower selectors
abbrev pub Counts : (table : List ℕ) → (i : ℕ) → Type 0
Counts table i = (k : ℕ) → k < i → selector_at table k < selector_at table i

-- the parts of those of the first records that count
pub data AreParts (table chars : List ℕ) : (count : ℕ) → List Part → Type 0 where
  no_part : AreParts table chars 0 []
  part : (count : ℕ) (parts : List Part) (one : Part) → AreParts table chars count parts → Counts table count → IsPart table count chars one →
      AreParts table chars (count + 1) (parts ++ one ∷ [])
  skipped : (count : ℕ) (parts : List Part) → AreParts table chars count parts → (Counts table count → ⊥) →
      AreParts table chars (count + 1) parts
