use Rattle.std.proofs.Common.{◌≡◌, ◌<◌, ◌≤◌, ◌++◌}
use Rattle.std.specs.List.{All}
use Rattle.postscript_layout.specs.Numbers.{words}
use Rattle.postscript_layout_write.proofs.rules.read_glyphs.Given as goal

abbrev pub invariant-loop-k : goal.invariant-loop-k
invariant-loop-k l = record {
  read : l.out.items ≡ l.fn.out.items ++ words l.gsub l.offset l.k;
  small : All (λ number. number < 65536) (words l.gsub l.offset l.k);
  spent : l.limit ≤ l.fn.limit;
}
