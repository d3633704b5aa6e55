use Rattle.std.proofs.Common.{◌≡◌, ℕ, ◌+◌, drop}
use Rattle.std.specs.Prelude.{map}
use Rattle.postscript_files.specs.Listed.{Adds, AreGivenTo}
use Rattle.postscript_files.specs.Copies.{tagged}
use Rattle.postscript_files.specs.Subsets.{IsGivenTag, given_tag, times}
use Rattle.postscript_files.proofs.subset.put_given.Given as goal

abbrev pub invariant-loop-table : goal.invariant-loop-table
invariant-loop-table l = record {
  adds : Adds l.initial.tables.items (IsGivenTag l.given) l.tables.items;
  there : AreGivenTo l.given l.table-index l.tables.items;
  counts : (tag : ℕ) → tagged l.tables.items tag + times (map given_tag (drop l.table-index l.given)) tag
      ≡ tagged l.initial.tables.items tag + times (map given_tag l.given) tag;
}
