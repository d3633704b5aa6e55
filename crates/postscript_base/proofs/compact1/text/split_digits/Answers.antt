use Rattle.std.proofs.Common.{ap, sym, subst, ◌∙◌, take}
use Rattle.std.proofs.lemmas.List.Sums.{prefix_len-le-length}
use Rattle.postscript_base.specs.Compact1.Decimal.{IsDigits}
use Rattle.postscript_base.specs.Compact1.Reals.{is_digit}
use Rattle.postscript_base.proofs.Texts.{digits_are}
use Rattle.postscript_base.proofs.compact1.text.split_digits.Goals as goal

pub split_at-requires : goal.split_at-requires
split_at-requires c = rw c.leading_digits.ensures (prefix_len-le-length is_digit c.args.text.now)

pub returns-clause-digits : goal.returns-clause-digits
returns-clause-digits c =
    subst IsDigits (sym (c.split_at.ensures.front ∙ ap (λ n. take n c.args.text.now) c.leading_digits.ensures)) (digits_are c.args.text.now)
