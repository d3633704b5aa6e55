use Rattle.std.proofs.Common.{ℕ, ◌-◌, ◌<◌, ◌≤◌}
use Rattle.postscript_sfnt.specs.Owners.{AreLinks, IsChain, IsHeldTo}
use Rattle.postscript_sfnt.proofs.character_map.owners.free_from.Given as goal

-- those that were passed over are held
abbrev pub invariant-loop-links : goal.invariant-loop-links
invariant-loop-links l = record {
  within : l.char ≤ 0x110000;
  behind : l.from ≤ l.char;
  chain : IsChain l.links;
  links : (first last : ℕ → ℕ) (count to : ℕ) → AreLinks first last count to l.fn.links → AreLinks first last count to l.links;
  over : (first last : ℕ → ℕ) (count to : ℕ) → AreLinks first last count to l.fn.links → (k : ℕ) → l.from ≤ k → k < l.char →
      IsHeldTo first last count to k;
}

abbrev pub decreases-loop-links : goal.decreases-loop-links
decreases-loop-links l = 0x110000 - l.char
