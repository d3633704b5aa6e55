-- The glyphs that a font is made of.
use Rattle.std.specs.Prelude.{◌≡◌, ℕ, ◌<◌, ◌==◌, ◌||◌, List, [], ◌∷◌, Bool, true, false, Option, Some, None, map, length, slice_index_or, if◌then◌else◌}
use Rattle.std.specs.List.{filter, range_with_len}
use Rattle.postscript_view.specs.Layout.{IsLaidOut}
use Rattle.postscript_view.specs.Contents.{View}
use Rattle.postscript_write.specs.Glyphs.{Sources}
use Rattle.postscript_write.specs.Making.{Making}

-- all glyphs, each with its number
abbrev pub every : (glyphs : ℕ) → Sources
every glyphs = map Some (range_with_len 0 glyphs)

-- the named glyphs are kept, and .notdef
abbrev pub is_kept : (named : List ℕ) → (glyph : ℕ) → Bool
is_kept [] glyph = glyph == 0
is_kept (one ∷ named) glyph = (one == glyph) || is_kept named glyph

-- the kept glyphs in ascending order
abbrev pub kept_of : (named : List ℕ) → (glyphs : ℕ) → List ℕ
kept_of named glyphs = filter (is_kept named) (range_with_len 0 glyphs)

-- a font is made of only these
abbrev pub chosen : (named : List ℕ) → (glyphs : ℕ) → Sources
chosen named glyphs = map Some (kept_of named glyphs)

-- the kept glyphs with their numbers, and empty glyphs between them
abbrev pub kept_or_none : (named : List ℕ) → (glyph : ℕ) → Option ℕ
kept_or_none named glyph = if is_kept named glyph then Some glyph else None

abbrev pub keeping : (named : List ℕ) → (glyphs : ℕ) → Sources
keeping named glyphs = map (kept_or_none named) (range_with_len 0 glyphs)

-- whether glyphs keep their numbers or get new ones
abbrev pub choice_by : (retain_gids : Bool) → (named : List ℕ) → (glyphs : ℕ) → Sources
choice_by true = keeping
choice_by false = chosen

-- the font has all named glyphs
abbrev pub AreThere : (named : List ℕ) → (glyphs : ℕ) → Type 0
AreThere named glyphs = (k : ℕ) → k < length named → slice_index_or named k 0 < glyphs

-- a mark for each named glyph
pub record AreMarks (named : List ℕ) (glyphs : ℕ) (marks : List Bool) : Type 0 where
  pub many : length marks ≡ glyphs
  pub there : AreThere named glyphs
  pub each : (glyph : ℕ) → glyph < glyphs → (slice_index_or marks glyph false || (glyph == 0)) ≡ is_kept named glyph

-- Both texts begin with fonts, and the new one is made of these glyphs of the old one.
pub record IsWritten (is_made : Making) (sources : (glyphs : ℕ) → Sources) (bytes flat : List ℕ) : Type 0 where
  pub old : View
  pub new : View
  pub was : IsLaidOut bytes 0 old
  pub is : IsLaidOut flat 0 new
  pub made : is_made (sources (length old.char_strings)) bytes old flat new
