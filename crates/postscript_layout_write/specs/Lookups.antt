-- Lookups as they are written. Only contracts of private functions and proofs name this.
use Rattle.std.specs.Prelude.{◌≡◌, ℕ, true, false, ◌+◌, ◌-◌, ◌*◌, ◌<◌, ◌≤◌, List, [], ◌∷◌, ◌++◌, length, slice_index}
use Rattle.postscript_layout.specs.Numbers.{word}
use Rattle.postscript_layout_write.specs.Coverages.{HasChained}
use Rattle.postscript_layout_write.specs.Flags.{KeepsFlaggedPositions, set_of}
use Rattle.postscript_layout_write.specs.Holds.{Holds}
use Rattle.postscript_layout_write.specs.Kerning.{KeepsKerning}
use Rattle.postscript_layout_write.specs.Marks.{type_at}
use Rattle.postscript_layout_write.specs.Pairs.{lookup_at, lookups_of}
use Rattle.postscript_layout_write.specs.Pieces.{HasLookup}
use Rattle.postscript_layout_write.specs.PositionContexts.{contexts_by}
use Rattle.postscript_layout_write.specs.Positions.{KeepsPositions}
use Rattle.postscript_layout_write.specs.Scopes.{new_flag, new_pair, takes_contexts, takes_type}
use Rattle.postscript_layout_write.specs.Sets.{AreOffsets}
use Rattle.postscript_layout_write.specs.Text.{list_text}
use Rattle.postscript_layout_write.specs.Typed.{HasTyped}
use Rattle.postscript_layout_write.specs.declared.positioning.Last.{Last}
use Rattle.postscript_layout_write.specs.declared.scope.Scope.{Scope}
use Rattle.postscript_layout_write.specs.declared.scope.Scope.TheVariants.{Flags, Marks, Pairs}

-- the lookup at an offset has the pairs of a lookup of the old table, its type and all of its subtables, or its contexts
pub data HasPosition (scope : Scope) (gpos kept : List ℕ) (lookup : ℕ) (bytes : List ℕ) (offset : ℕ) : Type 0 where
  has_pairs : takes_type scope gpos lookup ≡ false → takes_contexts scope gpos lookup ≡ false →
      HasLookup (new_flag scope (word gpos (lookup + 2))) (set_of gpos lookup) (new_pair scope gpos kept lookup) bytes offset →
      HasPosition scope gpos kept lookup bytes offset
  has_typed : takes_type scope gpos lookup ≡ true → HasTyped gpos kept lookup (new_flag scope (word gpos (lookup + 2))) bytes offset →
      HasPosition scope gpos kept lookup bytes offset
  has_contexts : takes_contexts scope gpos lookup ≡ true →
      HasChained false 8 (new_flag scope (word gpos (lookup + 2))) (set_of gpos lookup) (contexts_by gpos kept lookup (type_at gpos lookup)) bytes offset →
      HasPosition scope gpos kept lookup bytes offset

-- A lookup that is made: its bytes, and the bytes of subtables that begin at a distance after it. Without such subtables it can be anywhere.
pub record MakesPosition (scope : Scope) (gpos kept : List ℕ) (lookup distance : ℕ) (front behind : List ℕ) : Type 0 where
  pub before : (between : List ℕ) → length between ≡ distance → HasPosition scope gpos kept lookup (front ++ (between ++ behind)) 0
  pub alone : behind ≡ [] → HasPosition scope gpos kept lookup front 0

-- a text begins at a distance from the end of the lookups
pub record IsAway (text : List ℕ) (distance : ℕ) (lookups : List ℕ) : Type 0 where
  pub offset : ℕ
  pub place : offset + distance ≡ length lookups
  pub there : Holds text lookups offset

-- a lookup is put before the others, and subtables are put behind the others
pub record IsPut (front behind : List ℕ) (old new : Last) : Type 0 where
  pub lookups : new.lookups.items ≡ front ++ old.lookups.items
  pub subtables : new.subtables.items ≡ old.subtables.items ++ behind
  pub distances : new.distances.items ≡ old.distances.items ++ length new.lookups.items ∷ []

-- a lookup that has the same bytes as another one is that one
pub record IsShared (front behind : List ℕ) (old new : Last) : Type 0 where
  pub alone : behind ≡ []
  pub distance : ℕ
  pub there : IsAway front distance old.lookups.items
  pub lookups : new.lookups.items ≡ old.lookups.items
  pub subtables : new.subtables.items ≡ old.subtables.items
  pub distances : new.distances.items ≡ old.distances.items ++ distance ∷ []

-- a lookup is added
pub data Joins (front behind : List ℕ) (old new : Last) : Type 0 where
  is_put : IsPut front behind old new → Joins front behind old new
  is_shared : IsShared front behind old new → Joins front behind old new

-- The last lookups are there, and the subtables that follow all lookups. A distance for each lookup, the last one first, says how far its beginning is
-- from the end of the lookups.
pub record HasLast (scope : Scope) (gpos kept : List ℕ) (count : ℕ) (distances lookups subtables : List ℕ) : Type 0 where
  pub many : length distances ≡ count
  pub each : (i k : ℕ) → k < count → i + k + 1 ≡ lookups_of gpos →
      (offset : ℕ) × (offset + slice_index distances k ≡ length lookups) × HasPosition scope gpos kept (lookup_at gpos i) (lookups ++ subtables) offset

-- the offsets of lookups, by these distances
pub record AreStarts (size : ℕ) (distances offsets : List ℕ) : Type 0 where
  pub many : length offsets ≡ length distances
  pub each : (i k : ℕ) → i + k + 1 ≡ length distances → slice_index offsets i ≡ size - slice_index distances k

-- the first lookups are there
pub record HasLookups (scope : Scope) (gpos kept : List ℕ) (count : ℕ) (offsets bytes : List ℕ) : Type 0 where
  pub many : length offsets ≡ count
  pub each : (i : ℕ) → i < count → HasPosition scope gpos kept (lookup_at gpos i) bytes (slice_index offsets i)

-- a lookup list is appended
pub record PutsList (scope : Scope) (gpos kept : List ℕ) (old new : List ℕ) : Type 0 where
  pub offsets : List ℕ
  pub bytes : List ℕ
  pub are : HasLookups scope gpos kept (lookups_of gpos) offsets bytes
  pub few : length offsets ≤ 32766
  pub fit : AreOffsets (2 + length offsets * 2) offsets
  pub text : new ≡ old ++ list_text offsets bytes

-- what the new table keeps
abbrev pub Keeps : Scope → (old kept new : List ℕ) → Type 0
Keeps Pairs old kept new = KeepsKerning old kept new
Keeps Marks old kept new = KeepsPositions old kept new
Keeps Flags old kept new = KeepsFlaggedPositions old kept new
