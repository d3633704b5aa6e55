-- A code of no byte, as it is written.
use Rattle.std.proofs.Common.{ℕ, List, [], ◌∷◌, rules}
use Rattle.postscript_type2.specs.Program.Routines.{Lists}
use Rattle.postscript_type2.specs.Program.Runs.{Run}
use Rattle.postscript_write.specs.Glyphs.{DrawsAs, code_text}

-- 0 and `drop` draw what no byte draws: nothing
none_drawn : (lists : Lists) (run : Run) → DrawsAs lists [] run → DrawsAs lists (0x8b ∷ 0x0c ∷ 0x12 ∷ []) run
none_drawn lists run draws =
    record {
      answers = draws.answers;
      width = draws.width;
      taken = draws.taken;
      faultless = draws.faultless;
      no_calls = λ k d less. search rules;
    }

pub drawn_so : (lists : Lists) (text : List ℕ) (run : Run) → DrawsAs lists text run → DrawsAs lists (code_text text) run
drawn_so lists [] run draws = none_drawn lists run draws
drawn_so lists (b ∷ text) run draws = draws
