-- Glyph names in a `post` table of version 2.0 (ISO/IEC 14496-22, 5.2.8; OpenType 1.9, "post", "Version 2.0"). Offset 32 has the number of
-- glyphs. After it there is a name index of two bytes for each glyph, and then the strings, each after its length byte.
use Rattle.std.specs.Prelude.{◌≡◌, ◌⊎◌, ℕ, zero, suc, ◌+◌, ◌-◌, ◌*◌, ◌<◌, ◌≤◌, List, Some, length, slice_get}
use Rattle.std.specs.Borrow.{Bor}
use Rattle.std.specs.List.{slice_range}
use Rattle.postscript_base.specs.Index.{number_at}
use Rattle.postscript_sfnt.specs.MacintoshNames.{macintosh_name}

-- the number of glyphs that have a name index
abbrev pub count_of : (post : List ℕ) → ℕ
count_of post = number_at post 32 2

-- the version is 2.0, and the name indices are inside the table
pub record HasNames (post : List ℕ) : Type 0 where
  pub head : 34 ≤ length post
  pub version : number_at post 0 4 ≡ 0x00020000
  pub room : 34 + count_of post * 2 ≤ length post

-- the name index of a glyph
abbrev pub index_of : (post : List ℕ) (glyph : ℕ) → ℕ
index_of post glyph = number_at post (34 + glyph * 2) 2

-- the text is the string at an offset, after its length byte
pub record IsString (post : List ℕ) (place : ℕ) (text : List ℕ) : Type 0 where
  pub room : place + 1 + number_at post place 1 ≤ length post
  pub is : text ≡ slice_range post (place + 1) (place + 1 + number_at post place 1)

-- The offset of a string. The first string is after the name indices, and each other one is after the string before it.
abbrev pub start_of : (post : List ℕ) (number : ℕ) → ℕ
start_of post zero = 34 + count_of post * 2
start_of post (suc number) = let place = start_of post number in place + 1 + number_at post place 1

-- A name index below 258 belongs to a glyph of the standard Macintosh set. The index of string n is 258 + n.
abbrev pub HasNumberedName : (post : List ℕ) (number : ℕ) (name : List ℕ) → Type 0
HasNumberedName post number name =
    ((number < 258) × (macintosh_name number ≡ Some name)) ⊎ ((258 ≤ number) × IsString post (start_of post (number - 258)) name)

-- the name of a glyph
pub record HasGlyphName (post : List ℕ) (glyph : ℕ) (name : List ℕ) : Type 0 where
  pub there : glyph < count_of post
  pub named : HasNumberedName post (index_of post glyph) name

-- the list has the strings in order, up to the first truncated one
pub record AreStrings (post : List ℕ) (strings : List (Bor (List ℕ))) : Type 0 where
  pub each : (number : ℕ) (text : Bor (List ℕ)) → slice_get strings number ≡ Some text → IsString post (start_of post number) text.now
  pub cut : length post < start_of post (suc (length strings))
