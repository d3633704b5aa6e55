use Rattle.std.proofs.Common.{◌≡◌, ◌++◌, ◌+◌, ◌^◌, ◌<◌, drop, length, map}
use Rattle.postscript_write.specs.Pieces.{named_places, piece_shown, pieces_text, places}
use Rattle.postscript_write.proofs.layout.places_from.Given as goal

-- the places so far, and behind them those of the other pieces
abbrev pub invariant-loop-piece : goal.invariant-loop-piece
invariant-loop-piece l = record {
  offset : l.start + length (pieces_text (map piece_shown l.pieces)) < 2 ^ 64 →
      l.offset + length (pieces_text (map piece_shown (drop l.piece-index l.pieces)))
      ≡ l.start + length (pieces_text (map piece_shown l.pieces));
  places : l.start + length (pieces_text (map piece_shown l.pieces)) < 2 ^ 64 →
      l.places.items ++ places l.offset (map piece_shown (drop l.piece-index l.pieces))
      ≡ named_places l.standard l.start (map piece_shown l.pieces);
}
