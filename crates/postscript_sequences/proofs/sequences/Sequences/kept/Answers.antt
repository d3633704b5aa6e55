use Rattle.std.proofs.Common.{◌≡◌, ◌≤◌, subst, arith, inr, rules}
use Rattle.std.proofs.lemmas.Result.{IfErr-weaker, IfOk-weaker}
use Rattle.postscript_sequences.specs.Keeping.{AreKept}
use Rattle.postscript_sequences.specs.Keeps.{Keeps}
use Rattle.postscript_sequences.specs.Rows.{IsWritten}
use Rattle.postscript_sequences.specs.Sequences.{table_of}
use Rattle.postscript_sequences.specs.Sizes.{IsTooLarge, size_of}
use Rattle.postscript_sequences.specs.declared.error.Error.TheVariants as errors
use Rattle.postscript_sequences.proofs.Keeping.{keeps}
use Rattle.postscript_sequences.proofs.sequences.Sequences.kept.Goals as goal

pub returns-clause-exact : goal.returns-clause-exact
returns-clause-exact c =
    IfOk-weaker c.write_subtable.result (λ x. IsWritten c.deref-3.result.now x.items)
    (λ x. Keeps (table_of c.args.self.now) c.args.chars.now c.args.glyphs.now x.items)
    (λ x is. keeps (table_of c.args.self.now) c.args.chars.now c.args.glyphs.now c.in_ok-parts.parts.items c.in_ok-kept.kept.items x.items
    c.requires (omega arith) c.in_ok-parts.ensures.are
    (subst (λ xs. AreKept c.args.glyphs.now xs c.in_ok-kept.kept.items) c.deref-2.ensures.value c.in_ok-kept.ensures.exact)
    (subst (λ xs. IsWritten xs x.items) c.deref-3.ensures.value is))
    c.write_subtable.ensures.written

pub returns-clause-large : goal.returns-clause-large
returns-clause-large c =
    IfErr-weaker c.write_subtable.result (λ e. e ≡ errors.TooLarge → 4294967296 ≤ size_of c.deref-3.result.now)
    (λ e. e ≡ errors.TooLarge → IsTooLarge (table_of c.args.self.now) c.args.chars.now c.args.glyphs.now)
    (λ e large same. inr (size_of c.deref-3.result.now, search rules, large same)) c.write_subtable.ensures.large
