-- The substitutions of the kept glyphs.
use Rattle.std.specs.Prelude.{◌≡◌, ℕ, Bool, true, false, ◌+◌, ◌%◌, ◌<◌, ◌==◌, ◌&&◌, ◌||◌, List, [], ◌∷◌, length, nat_lt, slice_index, if◌then◌else◌}
use Rattle.std.specs.List.{range_with_len}
use Rattle.postscript_layout.specs.Numbers.{word}
use Rattle.postscript_layout_write.specs.Contexts.{contexts_at, contexts_of, is_contextual}
use Rattle.postscript_layout_write.specs.Sequences.{Context}
use Rattle.postscript_layout_write.specs.Flags.{set_of, uses_set}
use Rattle.postscript_layout_write.specs.Kerning.{KeepsLists}
use Rattle.postscript_layout_write.specs.Pairs.{flag_of, lookup_at, lookups_of}
use Rattle.postscript_layout_write.specs.Renumbering.{kept_rules}
use Rattle.postscript_layout_write.specs.Reverses.{reverses_at, reverses_of}
use Rattle.postscript_layout_write.specs.Rules.{is_kept, rules_of, rules_of_type, type_at, type_of}

-- whether a lookup is one of those that are chosen
abbrev pub is_chosen : (lookups : List ℕ) → (i : ℕ) → Bool
is_chosen [] i = false
is_chosen (lookup ∷ lookups) i = (lookup == i) || is_chosen lookups i

-- The bits of a flag above bit 3 select classes or sets of marks. Flags are kept whole, or lookups with such bits are left out.
abbrev pub takes_flag : (whole : Bool) → (flag : ℕ) → Bool
takes_flag whole flag = whole || nat_lt flag 16

-- the flag that is written
abbrev pub new_flag : (whole : Bool) → (flag : ℕ) → ℕ
new_flag whole flag = if whole then flag else flag % 16

-- whether a lookup is taken: it is chosen, and lookups with its flag are kept
abbrev pub is_taken : (whole : Bool) → (gsub lookups : List ℕ) → (i lookup : ℕ) → Bool
is_taken whole gsub lookups i lookup = takes_flag whole (word gsub (lookup + 2)) && is_chosen lookups i

-- a lookup keeps its rules if its type is kept, and if it is taken
abbrev pub keeps : (whole : Bool) → (gsub lookups : List ℕ) → (i lookup : ℕ) → Bool
keeps whole gsub lookups i lookup = is_kept (type_at gsub lookup) && is_taken whole gsub lookups i lookup

-- the rules of a lookup at an offset for the kept glyph with a new number
abbrev pub rules_at : (gsub kept : List ℕ) → (lookup number : ℕ) → List (List ℕ)
rules_at gsub kept lookup number =
    if nat_lt number (length kept) then kept_rules kept (rules_of_type gsub lookup (type_at gsub lookup) (slice_index kept number)) else []

-- the rules of lookup i for the kept glyph with a new number; there are no others
abbrev pub new_rules : (whole : Bool) → (gsub lookups kept : List ℕ) → (i number : ℕ) → List (List ℕ)
new_rules whole gsub lookups kept i number = if keeps whole gsub lookups i (lookup_at gsub i) then rules_at gsub kept (lookup_at gsub i) number else []

-- a lookup keeps its contexts if all of its subtables have contexts, and if it is taken
abbrev pub keeps_contexts : (whole : Bool) → (gsub lookups : List ℕ) → (i lookup : ℕ) → Bool
keeps_contexts whole gsub lookups i lookup = is_contextual gsub lookup && is_taken whole gsub lookups i lookup

-- the contexts of lookup i whose sets of glyphs all have kept glyphs, with these glyphs only, under new numbers
abbrev pub new_contexts : (whole : Bool) → (gsub lookups kept : List ℕ) → (i : ℕ) → List Context
new_contexts whole gsub lookups kept i =
    if keeps_contexts whole gsub lookups i (lookup_at gsub i) then contexts_at gsub kept (lookup_at gsub i) (type_of gsub i) else []

-- a lookup keeps its reverse chaining subtables if it has that type, and if it is taken
abbrev pub keeps_reverses : (whole : Bool) → (gsub lookups : List ℕ) → (i lookup : ℕ) → Bool
keeps_reverses whole gsub lookups i lookup = (type_at gsub lookup == 8) && is_taken whole gsub lookups i lookup

-- the reverse chaining subtables of lookup i that can apply to kept glyphs, with these glyphs only, under new numbers
abbrev pub new_reverses : (whole : Bool) → (gsub lookups kept : List ℕ) → (i : ℕ) → List Context
new_reverses whole gsub lookups kept i =
    if keeps_reverses whole gsub lookups i (lookup_at gsub i) then reverses_at gsub kept (lookup_at gsub i) else []

-- The new table keeps scripts and features. It has as many lookups, each with its type, if that is kept, and with its flag and its set of marks, or with
-- the lowest four bits of its flag. Each lookup has the rules of the old one whose glyphs are all kept, under new numbers, and its contexts, with the same
-- actions and in the same order, or its reverse chaining subtables.
pub record KeepsRules (whole : Bool) (old chosen kept new : List ℕ) : Type 0 where
  pub lists : KeepsLists old new
  pub lookups : lookups_of new ≡ lookups_of old
  pub flags : (i : ℕ) → i < lookups_of old → flag_of new i ≡ new_flag whole (flag_of old i)
  pub sets : (i : ℕ) → i < lookups_of old → uses_set (new_flag whole (flag_of old i)) ≡ true →
      set_of new (lookup_at new i) ≡ set_of old (lookup_at old i)
  pub types : (i : ℕ) → i < lookups_of old → is_kept (type_of old i) ≡ true → type_of new i ≡ type_of old i
  pub rules : (i x : ℕ) → i < lookups_of old → rules_of new i x ≡ new_rules whole old chosen kept i x
  pub contexts : (i : ℕ) → i < lookups_of old → contexts_of new (range_with_len 0 (length kept)) i ≡ new_contexts whole old chosen kept i
  pub reverses : (i : ℕ) → i < lookups_of old → reverses_of new (range_with_len 0 (length kept)) i ≡ new_reverses whole old chosen kept i

-- without lookups that use classes or sets of marks
abbrev pub KeepsSubstitutions : (old chosen kept new : List ℕ) → Type 0
KeepsSubstitutions old chosen kept new = KeepsRules false old chosen kept new

-- with them
abbrev pub KeepsFlaggedSubstitutions : (old chosen kept new : List ℕ) → Type 0
KeepsFlaggedSubstitutions old chosen kept new = KeepsRules true old chosen kept new
