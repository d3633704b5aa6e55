-- A font as a contract sees it.
use Rattle.std.specs.Prelude.{map, string_bytes}
use Rattle.postscript_compact1.specs.declared.font_set.FontSet.{FontSet}
use Rattle.postscript_compact1.specs.declared.font_set.parts.Part.{Part as RustPart}
use Rattle.postscript_compact1.specs.declared.font_set.parts.Parts.{Parts}
use Rattle.postscript_compact1.specs.declared.font_set.tables.Tables.{Tables as RustTables}
use Rattle.postscript_compact1.specs.FontSet.Font.{Part, Tables, Columns, Font}

abbrev pub part_shown : RustPart → Part
part_shown p = record {
  encoding = p.encoding;
  char_strings = p.char_strings;
  char_set = p.char_set;
  local_dictionary =
      p.local_dictionary;
  local_subroutines = p.local_subroutines;
}

abbrev pub parts_shown : Parts → Columns
parts_shown p = record {
  encodings = p.encodings.items;
  char_sets = p.char_sets.items;
  char_strings = p.char_strings.items;
  local_dictionaries = p.local_dictionaries.items;
  local_subroutines = p.local_subroutines.items;
}

abbrev pub tables_shown : RustTables → Tables
tables_shown t = record {
  names = map string_bytes t.names.items;
  dictionaries = t.dictionaries.items;
  strings = t.strings;
  subroutines =
      t.subroutines;
}

abbrev pub font_shown : FontSet → Font
font_shown f = record {
  header = f.header;
  names = map string_bytes f.names.items;
  strings = f.strings;
  encodings = f.encodings.items;
  char_sets = f.char_sets.items;
  char_strings = f.char_strings.items;
  global_dictionaries = f.global_dictionaries.items;
  global_subroutines = f.global_subroutines;
  local_dictionaries = f.local_dictionaries.items;
  local_subroutines = f.local_subroutines.items;
}
