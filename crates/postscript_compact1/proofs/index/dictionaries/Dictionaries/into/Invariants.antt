use Rattle.std.proofs.Common.{◌≡◌, ◌-◌, ℕ, List, drop, length, vec_len}
use Rattle.postscript_base.specs.Tape.Loops.{each}
use Rattle.postscript_base.proofs.Repeats.{with_front}
use Rattle.postscript_compact1.specs.Kinds.{map_of}
use Rattle.postscript_compact1.proofs.index.dictionaries.Dictionaries.into.Given as goal

-- the dictionaries that are read and those of the items that are left are all
abbrev pub invariant-maps : goal.invariant-maps
invariant-maps l =
    let items = l.fn.self.items in
    (bytes : List ℕ) (place : ℕ) → with_front l.maps.items
    (each map_of (drop (vec_len l.maps) items) bytes place) ≡ each map_of items bytes place

abbrev pub decreases-maps : goal.decreases-maps
decreases-maps l = length l.fn.self.items - vec_len l.maps
