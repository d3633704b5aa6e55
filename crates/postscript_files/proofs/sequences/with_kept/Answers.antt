use Rattle.std.proofs.Common.{List, ℕ, subst, sym}
use Rattle.std.proofs.lemmas.Result.{IfOk-weaker}
use Rattle.postscript_files.specs.Sequences.{IsAdded, IsFirstIndex, IsKept, KeepsSequences, chars_of}
use Rattle.postscript_files.proofs.Varied.{format_kept, keeps_sequences}
use Rattle.postscript_files.proofs.sequences.with_kept.Goals as goal

pub add_subtable-requires-clause-format : goal.add_subtable-requires-clause-format
add_subtable-requires-clause-format c =
    format_kept c.args.old.now (chars_of c.args.pairs.now) c.args.glyphs.now c.deref.result.now
    (subst (λ (xs : List ℕ). IsKept c.args.old.now (chars_of c.args.pairs.now) c.args.glyphs.now xs) (sym c.deref.ensures.value)
    c.in_ok-subtable.ensures.kept)

pub returns-clause-sequences : goal.returns-clause-sequences
returns-clause-sequences c =
    IfOk-weaker c.add_subtable.result (λ cmap. IsAdded c.args.plain.items c.deref.result.now cmap.items)
    (λ cmap. KeepsSequences c.args.old.now (chars_of c.args.pairs.now) (IsFirstIndex c.args.glyphs.now) cmap.items)
    (λ cmap is. keeps_sequences c.args.old.now (chars_of c.args.pairs.now) c.args.glyphs.now c.args.plain.items c.deref.result.now
    cmap.items c.requires.records
    (subst (λ (xs : List ℕ). IsKept c.args.old.now (chars_of c.args.pairs.now) c.args.glyphs.now xs) (sym c.deref.ensures.value)
    c.in_ok-subtable.ensures.kept) is)
    c.add_subtable.ensures.added
