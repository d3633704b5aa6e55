use Rattle.std.proofs.Common.{◌∙◌, ◌++◌, ap, sym}
use Rattle.std.specs.List.{slice_range}
use Rattle.postscript_instance.specs.Reals.{real_text}
use Rattle.postscript_instance.specs.Whole as whole
use Rattle.postscript_instance.proofs.matrix.put_operand.Goals as goal

pub returns-then-number_at-eq30-clause-more : goal.returns-then-number_at-eq30-clause-more
returns-then-number_at-eq30-clause-more c = (
  real_text (slice_range c.args.operands.now c.args.place c.args.end),
  c.in_ok-put_real.ensures.text ∙ ap (λ t. c.args.out.now.items ++ real_text t) c.bytes_between-operand.ensures,
  λ rest more. whole.real c.args.place c.args.end rest c.requires.there (sym c.number_at.ensures.value ∙ c.if-number_at-eq30.true)
      c.requires.end more,
)

pub returns-clause-more : goal.returns-clause-more
returns-clause-more c = (
  slice_range c.args.operands.now c.args.place c.args.end,
  c.in_ok-extend_from_slice.ensures.items ∙ ap (λ t. c.args.out.now.items ++ t) c.bytes_between-operand.ensures,
  λ rest more. whole.other c.args.place c.args.end rest c.requires.there
      (λ same. c.if-number_at-eq30.false (c.number_at.ensures.value ∙ same)) c.requires.end more,
)
