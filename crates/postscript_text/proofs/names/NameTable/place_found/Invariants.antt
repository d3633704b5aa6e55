use Rattle.std.proofs.Common.{◌≡◌, ℕ, ◌<◌, length, slice_index_or}
use Rattle.postscript_text.proofs.names.NameTable.place_found.Given as goal

-- the texts so far are others
abbrev pub invariant-loop-start : goal.invariant-loop-start
invariant-loop-start l =
    (place k : ℕ) → k < l.start-index →
    slice_index_or l.self.places.items k (l.entry.start, length l.entry.text.now, place) ≡ (l.entry.start, length l.entry.text.now, place) → ⊥
