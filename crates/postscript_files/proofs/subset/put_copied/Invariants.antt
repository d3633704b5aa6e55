use Rattle.std.proofs.Common.{◌≡◌, ◌≤◌, ℕ, ◌+◌, drop}
use Rattle.postscript_sfnt.specs.Lent.{HasNoTable}
use Rattle.postscript_files.specs.Listed.{Adds, AreCopiedTo}
use Rattle.postscript_files.specs.Copies.{tagged}
use Rattle.postscript_files.specs.Subsets.{IsCopied, times}
use Rattle.postscript_files.proofs.subset.put_copied.Given as goal

abbrev pub invariant-loop-tag : goal.invariant-loop-tag
invariant-loop-tag l = record {
  adds : Adds l.initial.tables.items (IsCopied l.file l.tags) l.tables.items;
  there : AreCopiedTo l.file l.tags l.tag-index l.tables.items;
  none : (tag : ℕ) → HasNoTable l.file tag → tagged l.tables.items tag ≡ tagged l.initial.tables.items tag;
  most : (tag : ℕ) → tagged l.tables.items tag + times (drop l.tag-index l.tags) tag
      ≤ tagged l.initial.tables.items tag + times l.tags tag;
}
