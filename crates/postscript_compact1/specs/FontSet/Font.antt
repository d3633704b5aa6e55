-- A font as contracts see it, and the parts that belong to one of its Top DICTs (Technical Note 5176, "CFF Data Layout").
use Rattle.std.specs.Prelude.{ℕ, List, [], ◌∷◌, ◌++◌, map}
use Rattle.postscript_base.specs.Compact1.Dictionary.{Dictionary}
use Rattle.postscript_base.specs.declared.compact1.header.Header.{Header}
use Rattle.postscript_compact1.specs.Index.{Index}
use Rattle.postscript_compact1.specs.declared.char_set.CharSet.{CharSet}
use Rattle.postscript_compact1.specs.declared.encoding.Encoding.{Encoding}

pub record Part : Type 0 where
  pub encoding : Encoding
  pub char_strings : Index
  pub char_set : CharSet
  pub local_dictionary : Dictionary
  pub local_subroutines : Index

-- the tables before the parts, one after the other
pub record Tables : Type 0 where
  pub names : List (List ℕ)
  pub dictionaries : List Dictionary
  pub strings : Index
  pub subroutines : Index

pub record Font : Type 0 where
  pub header : Header
  pub names : List (List ℕ)
  pub strings : Index
  pub encodings : List Encoding
  pub char_sets : List CharSet
  pub char_strings : List Index
  pub global_dictionaries : List Dictionary
  pub global_subroutines : Index
  pub local_dictionaries : List Dictionary
  pub local_subroutines : List Index

-- the parts of all Top DICTs, in a list for each kind
pub record Columns : Type 0 where
  pub encodings : List Encoding
  pub char_sets : List CharSet
  pub char_strings : List Index
  pub local_dictionaries : List Dictionary
  pub local_subroutines : List Index

abbrev pub columns : List Part → Columns
columns parts = record {
  encodings = map (λ p. p.encoding) parts;
  char_sets = map (λ p. p.char_set) parts;
  char_strings = map (λ p. p.char_strings) parts;
  local_dictionaries = map (λ p. p.local_dictionary) parts;
  local_subroutines = map (λ p. p.local_subroutines) parts;
}

-- one part appended
abbrev pub more : Columns → Part → Columns
more c p = record {
  encodings = c.encodings ++ p.encoding ∷ [];
  char_sets = c.char_sets ++ p.char_set ∷ [];
  char_strings = c.char_strings ++ p.char_strings ∷ [];
  local_dictionaries = c.local_dictionaries ++ p.local_dictionary ∷ [];
  local_subroutines = c.local_subroutines ++ p.local_subroutines ∷ [];
}

abbrev pub font_of : Header → Tables → Columns → Font
font_of header tables c = record {
  header = header;
  names = tables.names;
  strings = tables.strings;
  encodings = c.encodings;
  char_sets = c.char_sets;
  char_strings = c.char_strings;
  global_dictionaries = tables.dictionaries;
  global_subroutines = tables.subroutines;
  local_dictionaries = c.local_dictionaries;
  local_subroutines = c.local_subroutines;
}

-- the tables and the parts of a font
abbrev pub tables_in : Font → Tables
tables_in f = record { names = f.names; dictionaries = f.global_dictionaries; strings = f.strings; subroutines = f.global_subroutines }

abbrev pub parts_in : Font → Columns
parts_in f = record {
  encodings = f.encodings;
  char_sets = f.char_sets;
  char_strings = f.char_strings;
  local_dictionaries = f.local_dictionaries;
  local_subroutines = f.local_subroutines;
}
