-- The entries of a DICT, as a relation (OpenType 1.9, "CFF2", "DICT Data"): operators, each one after its operands.
use Rattle.std.specs.Prelude.{◌≡◌, ℕ, ◌+◌, ◌<◌, ◌≤◌, ◌==◌, if◌then◌else◌, List, [], ◌∷◌, length, Option, Some, None}
use Rattle.postscript_cff2.specs.Dictionary.{Entry, last_entry}
use Rattle.postscript_cff2.specs.Tokens.{byte_at, operand_size, operator_at, operator_size}

-- an operator, and the offsets of it and of its operands
pub record Listed : Type 0 where
  pub operator : ℕ
  pub entry : Entry

-- The entries from an offset on, if the operands before that offset begin at `start`. An operator that is cut off ends the list.
pub data AreEntries (bytes : List ℕ) : (place start : ℕ) → List Listed → Type 0 where
  ends : (place start : ℕ) → length bytes ≤ place → AreEntries bytes place start []
  cut_off : (place start : ℕ) → place < length bytes → byte_at bytes place < 28 →
      length bytes < place + operator_size (byte_at bytes place) → AreEntries bytes place start []
  skips : (place start : ℕ) (entries : List Listed) → place < length bytes → 28 ≤ byte_at bytes place →
      AreEntries bytes (place + operand_size bytes place) start entries → AreEntries bytes place start entries
  lists : (place start next : ℕ) (entries : List Listed) → place < length bytes → byte_at bytes place < 28 →
      next ≡ place + operator_size (byte_at bytes place) → next ≤ length bytes → AreEntries bytes next next entries →
      AreEntries bytes place start (record { operator = operator_at bytes place; entry = record { start = start; place = place } } ∷ entries)

-- the last entry of an operator, or a given one if the list has none
abbrev pub last_of : List Listed → (operator : ℕ) → (otherwise : Option Entry) → Option Entry
last_of [] operator otherwise = otherwise
last_of (listed ∷ entries) operator otherwise =
    last_of entries operator (if listed.operator == operator then Some listed.entry else otherwise)

-- Each DICT has exactly one list of entries, and the last entry of each operator is the last one in this list.
abbrev pub HasOneList : Type 0
HasOneList = (bytes : List ℕ) → (entries : List Listed) × AreEntries bytes 0 0 entries
    × ((others : List Listed) → AreEntries bytes 0 0 others → others ≡ entries)
    × ((operator : ℕ) → last_entry bytes operator ≡ last_of entries operator None)
