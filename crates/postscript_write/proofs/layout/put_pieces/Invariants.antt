use Rattle.std.proofs.Common.{◌≡◌, ◌++◌, drop, map}
use Rattle.postscript_write.specs.Pieces.{piece_shown, pieces_text}
use Rattle.postscript_write.proofs.layout.put_pieces.Given as goal

-- what is appended so far, and behind it the other pieces
abbrev pub invariant-loop-piece : goal.invariant-loop-piece
invariant-loop-piece l =
    l.out.items ++ pieces_text (map piece_shown (drop l.piece-index l.pieces)) ≡ l.fn.out.items ++ pieces_text (map piece_shown l.pieces)
