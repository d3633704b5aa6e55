use Rattle.std.proofs.Common.{◌≡◌, ◌-◌, ℕ}
use Rattle.postscript_instance_file.specs.Glyphs.{CostInAll}
use Rattle.postscript_instance_file.proofs.drawn.Drawn.put_each.Given as goal

-- the widths and the limit stay, and the glyphs so far have taken their costs
abbrev pub invariant-loop-gid : goal.invariant-loop-gid
invariant-loop-gid g l = record {
  kept : l.self.widths ≡ l.initial.self.widths;
  limit : l.budget.limit ≡ l.initial.budget.limit;
  taken : (total : ℕ) × CostInAll l.face l.location l.gid total × (l.budget.left ≡ l.initial.budget.left - total);
}
