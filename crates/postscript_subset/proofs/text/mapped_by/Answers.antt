use Rattle.std.proofs.Common.{◌∙◌, ap, ℕ, map}
use Rattle.postscript_subset.proofs.text.mapped_by.Goals as goal

pub returns-clause-mapped : goal.returns-clause-mapped
returns-clause-mapped c = (
  c.in_ok-all.all.items,
  c.in_ok-all.ensures,
  c.in_ok-chars.ensures.firsts ∙ ap (map (λ (next : ℕ × ℕ). next.0)) c.deref.ensures.value,
)
