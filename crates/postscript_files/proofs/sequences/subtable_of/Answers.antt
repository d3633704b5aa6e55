use Rattle.std.proofs.Common.{◌∙◌}
use Rattle.std.proofs.lemmas.Result.{IfOk-weaker}
use Rattle.postscript_sequences.specs.Keeps.{Keeps}
use Rattle.postscript_sequences.specs.Sequences.{table_of}
use Rattle.postscript_files.specs.Sequences.{IsKept, chars_of}
use Rattle.postscript_files.proofs.Varied.{ascending_of, kept_so}
use Rattle.postscript_files.proofs.sequences.subtable_of.Goals as goal

pub kept_subtable-requires : goal.kept_subtable-requires
kept_subtable-requires c =
    ascending_of c.deref-in-Some.result.now c.args.pairs.now (c.deref-in-Some.ensures.value ∙ c.in_ok-chars.ensures.chars) c.requires.rise

pub returns-in-Some-clause-kept : goal.returns-in-Some-clause-kept
returns-in-Some-clause-kept c =
    IfOk-weaker c.kept_subtable.result (λ new. Keeps (table_of c.in-Some.sequences) c.deref-in-Some.result.now c.deref-in-Some-2.result.now new.items)
    (λ new. IsKept c.args.cmap.now (chars_of c.args.pairs.now) c.args.origins.now new.items)
    (λ new keeps. kept_so c.args.cmap.now (chars_of c.args.pairs.now) c.args.origins.now c.deref-in-Some.result.now c.deref.result.now
    c.deref-in-Some-2.result.now (table_of c.in-Some.sequences) new.items (c.deref-in-Some.ensures.value ∙ c.in_ok-chars.ensures.chars)
    (c.deref.ensures.value ∙ c.in_ok-chars.ensures.chars) (c.deref-in-Some-2.ensures.value ∙ c.in_ok-glyphs-in-Some.ensures.same)
    c.in-Some.ensures.some.0 c.in-Some.ensures.some.1 keeps)
    c.kept_subtable.ensures.exact
