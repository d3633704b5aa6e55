-- The offsets of the texts of a new `name` table. Only private contracts and proofs use these names.
use Rattle.std.specs.Prelude.{◌≡◌, ℕ, [], ◌∷◌, ◌++◌, length}
use Rattle.std.specs.List.{Contains}
use Rattle.postscript_text.specs.declared.names.NameTable.{NameTable}
use Rattle.postscript_text.specs.declared.names.Record.{Record}

-- a text has this offset
abbrev pub HasPlace : NameTable → Record → (place : ℕ) → Type 0
HasPlace table entry place = Contains table.places.items (entry.start, length entry.text.now, place)

-- a text is new
abbrev pub HasNoPlace : NameTable → Record → Type 0
HasNoPlace table entry = (place : ℕ) → HasPlace table entry place → ⊥

-- A text has this offset in the new table. It is added at the end if it is new.
pub data IsPlaced (old : NameTable) (entry : Record) (place : ℕ) (new : NameTable) : Type 0 where
  found : HasPlace old entry place → new ≡ old → IsPlaced old entry place new
  added : HasNoPlace old entry → place ≡ length old.texts.items → new.records ≡ old.records →
      new.texts.items ≡ old.texts.items ++ entry.text.now →
      new.places.items ≡ old.places.items ++ (entry.start, length entry.text.now, place) ∷ [] → IsPlaced old entry place new
