-- Lines of numbers of one width, of which equal ones are kept once. Only contracts of private functions and proofs name this.
use Rattle.std.specs.Prelude.{◌≡◌, ℕ, ◌+◌, ◌*◌, ◌<◌, ◌≤◌, List, [], ◌∷◌, ◌++◌, length, slice_index}
use Rattle.postscript_layout_write.specs.RuleSets.{Begins}
use Rattle.postscript_layout_write.specs.declared.lines.Lines.{Lines}

-- number k of the line of a class
abbrev pub cell : List ℕ → (width class k : ℕ) → ℕ
cell cells width class k = slice_index cells (class * width + k)

-- the line of a class has these numbers
abbrev pub IsLine : (cells : List ℕ) → (width class : ℕ) → (line : ℕ → ℕ) → Type 0
IsLine cells width class line = (k : ℕ) → k < width → cell cells width class k ≡ line k

-- the class of a line is added
pub record AddsLine (line : ℕ → ℕ) (old new : Lines) : Type 0 where
  pub class : ℕ
  pub small : class < length new.keys.items
  pub classes : new.classes.items ≡ old.classes.items ++ class ∷ []
  pub cells : Begins old.cells.items new.cells.items
  pub more : length old.keys.items ≤ length new.keys.items
  pub width : new.width ≡ old.width
  pub same : IsLine new.cells.items new.width class line

-- each number of each line is as it should be
pub record AreLines (says : (x k number : ℕ) → Type 0) (count : ℕ) (lines : Lines) : Type 0 where
  pub many : length lines.classes.items ≡ count
  pub small : (x : ℕ) → x < count → slice_index lines.classes.items x < length lines.keys.items
  pub same : (x k : ℕ) → x < count → k < lines.width → says x k (cell lines.cells.items lines.width (slice_index lines.classes.items x) k)
