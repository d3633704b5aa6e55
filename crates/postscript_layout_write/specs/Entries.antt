-- The pairs that are written, and their forms.
use Rattle.std.specs.Prelude.{◌≡◌, ◌⊎◌, ℕ, ◌+◌, ◌<◌, ◌≤◌, ◌==◌, ◌&&◌, List, [], ◌∷◌, Option, None, Some, length, nat_lt, if◌then◌else◌}
use Rattle.std.specs.List.{All, Contains}
use Rattle.postscript_layout.specs.Numbers.{word}
use Rattle.postscript_layout_write.specs.Pairs.{by_lookup}
use Rattle.postscript_layout_write.specs.Values.{nothing}
use Rattle.postscript_layout_write.specs.declared.entries.Entry.{Entry}
use Rattle.postscript_layout_write.specs.declared.entries.Form.{Form}
use Rattle.postscript_layout_write.specs.declared.entries.Form.TheVariants.{Advance, First, Both}
use Rattle.postscript_layout_write.specs.declared.values.Adjustment.{Adjustment}
use Rattle.postscript_layout_write.specs.declared.values.Values.{Values}

-- the form of an adjustment: with a second glyph; with other numbers than an advance; with an advance; or nothing
abbrev pub form_by : Values → Option Values → Option Form
form_by first (Some second) = Some Both
form_by first None =
    if (first.x_placement == 0) && (first.y_placement == 0) && (first.y_advance == 0) then (if first.x_advance == 0 then None else Some Advance)
    else Some First

abbrev pub form_of : Adjustment → Option Form
form_of adjustment = form_by adjustment.first adjustment.second

abbrev pub entry : (second : ℕ) → Adjustment → Entry
entry y a = record { second = y; adjustment = a }

-- an adjustment that is nothing is not listed
abbrev pub listed : (second : ℕ) → Adjustment → Option Form → List Entry
listed second adjustment None = []
listed second adjustment (Some form) = entry second adjustment ∷ []

-- The list has an entry for each second glyph below a number with an adjustment that is not nothing, and only right ones.
pub record AreEntries (f : ℕ → Adjustment) (count : ℕ) (entries : List Entry) : Type 0 where
  pub right : All (λ e. (e.second < count) × (e.adjustment ≡ f e.second)) entries
  pub all : (y : ℕ) → y < count → (form_of (f y) ≡ None) ⊎ Contains entries (entry y (f y))
  pub few : length entries ≤ count

-- the adjustment of a pair that is kept; a lookup with a flag beyond bit 3, which uses classes or sets of marks, keeps no pairs
abbrev pub kept_by : List ℕ → (lookup first second : ℕ) → Adjustment
kept_by gpos lookup first second = if nat_lt 15 (word gpos (lookup + 2)) then nothing else by_lookup gpos lookup first second
