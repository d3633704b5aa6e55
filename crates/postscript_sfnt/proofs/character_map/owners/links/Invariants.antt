use Rattle.std.proofs.Common.{◌≡◌, ℕ, ◌<◌, length, get_or}
use Rattle.postscript_sfnt.proofs.character_map.owners.links.Given as goal

-- each number so far has its link
abbrev pub invariant-loop-char : goal.invariant-loop-char
invariant-loop-char l = record { all : length l.links.items ≡ l.char; each : (k : ℕ) → k < l.char → get_or l.links.items k 0 ≡ k }
