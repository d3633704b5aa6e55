use Rattle.std.proofs.Common.{subst, ℕ, List}
use Rattle.postscript_shaping.specs.Shaping.{AreUsed}
use Rattle.postscript_subset.proofs.text.text_chars.Goals as goal

pub returns-clause-used : goal.returns-clause-used
returns-clause-used c = record {
  face = c.in_ok-face.face;
  is = c.in_ok-face.ensures.found;
  mapped = c.in_ok-mapped.mapped.items;
  are = c.in_ok-mapped.ensures.mapped;
  used = subst (λ (xs : List ℕ). AreUsed xs c.args.chars.now c.in_ok-all.all.items) c.deref.ensures.value c.in_ok-all.ensures;
}
