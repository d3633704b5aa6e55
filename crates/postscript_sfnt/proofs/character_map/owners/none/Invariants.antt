use Rattle.std.proofs.Common.{◌≡◌, ℕ, ◌<◌, length, get_or}
use Rattle.postscript_sfnt.proofs.character_map.owners.none.Given as goal

-- none so far has an owner
abbrev pub invariant-loop : goal.invariant-loop
invariant-loop l =
    record { all : length l.owners.items ≡ l.counter; each : (k : ℕ) → k < l.counter → get_or l.owners.items k 0 ≡ 4294967295 }
