-- The kinds of INDEX (Technical Note 5176, "CharStrings INDEX", "Top DICT INDEX").
use Rattle.std.specs.Prelude.{ℤ, pos, ℕ, List, Option, Some, None, if◌then◌else◌}
use Rattle.std.specs.Ordering.{int_eq}
use Rattle.postscript_base.specs.Refusal.{unknown_char_string_format}
use Rattle.postscript_base.specs.Compact1.Dictionary.{Dictionary, dictionary}
use Rattle.postscript_base.specs.Tape.Loops.{each}
use Rattle.postscript_base.specs.Tape.Outcome.{Reading, Got, after, pure, ◌>>=◌, fault}
use Rattle.postscript_compact1.specs.Index.{Index, index}

-- charstrings of a type other than 2 fail before any bytes are read
unfoldable pub char_strings : ℤ → Reading Index
char_strings format = if int_eq format (pos 2) then index else fault unknown_char_string_format

-- the dictionary of an item; reading it takes nothing from the tape
unfoldable pub map_of : List ℕ → Reading Dictionary
map_of item bytes place = after (dictionary item 0) (λ map next. Got map place)

-- the dictionary of an item, if there is one
abbrev pub map_if : Option (List ℕ) → Reading (Option Dictionary)
map_if None = pure None
map_if (Some item) = map_of item >>= λ map. pure (Some map)

-- the dictionaries of items, or the error of the first item that is rejected
abbrev pub maps_of : List (List ℕ) → Reading (List Dictionary)
maps_of items = each map_of items
