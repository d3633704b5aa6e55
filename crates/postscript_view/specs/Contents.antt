-- The contents of a font that is opened as a view (Technical Note 5176, "CFF Data Layout").
use Rattle.std.specs.Prelude.{ℕ, List, Option}
use Rattle.postscript_base.specs.Compact1.Dictionary.{Dictionary}

-- the tables after the header of a font set, with the Top DICT of one of its fonts
pub record Tables : Type 0 where
  pub names : List (List ℕ)
  pub dictionary : Dictionary
  pub strings : List (List ℕ)
  pub subroutines : List (List ℕ)

-- a Private DICT and its subroutines, and in a CID-keyed font the Font DICT that names them
pub record PrivateDict : Type 0 where
  pub dictionary : Dictionary
  pub subroutines : List (List ℕ)
  pub font : Option Dictionary

-- a font: its tables, its charstrings, and a part for the font or for each Font DICT
pub record View : Type 0 where
  pub tables : Tables
  pub char_strings : List (List ℕ)
  pub parts : List PrivateDict
