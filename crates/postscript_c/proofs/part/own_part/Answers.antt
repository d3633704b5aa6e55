use Rattle.std.proofs.Common.{◌≡◌, rules, sym, subst, ℤ, to_z, of_z, w64}
use Rattle.std.specs.Prelude.{Option}
use Rattle.postscript_base.specs.Compact1.Decimal.{Decimal}
use Rattle.postscript_base.specs.Compact1.Defaults.{look, first_of}
use Rattle.postscript_base.specs.declared.compact1.operator.Operator.TheVariants as operators
use Rattle.postscript_c.specs.Widths.{IsWidth}
use Rattle.postscript_c.proofs.part.own_part.Goals as goal

pub returns-clause-widths : goal.returns-clause-widths
returns-clause-widths c =
    let low : to_z w64 (of_z w64 c.width_in_bits.result) ≡ c.width_in_bits.result = search rules in
    let high : to_z w64 (of_z w64 c.width_in_bits-2.result) ≡ c.width_in_bits-2.result = search rules in
    let D : Option Decimal → Type 0 = λ width. IsWidth width c.width_in_bits.result in
    let N : Option Decimal → Type 0 = λ width. IsWidth width c.width_in_bits-2.result in
    let D-bits : ℤ → Type 0 = λ bits. IsWidth (first_of (look c.in_ok-local.local operators.DefaultWidthX)) bits in
    let N-bits : ℤ → Type 0 = λ bits. IsWidth (first_of (look c.in_ok-local.local operators.NominalWidthX)) bits in
    record {
      size = c.in_ok-size.size;
      offset = c.in_ok-size.offset;
      there = c.in_ok-size.place;
      text = c.in_ok-text.text.now;
      local = c.in_ok-local.local;
      named = c.in_ok-size.ensures.exact c.args.bytes.now 0;
      stands = c.in_ok-text.ensures.exact 0;
      spelled = c.in_ok-local.ensures.exact c.args.bytes.now 0;
      default = subst D-bits (sym low) (subst D c.get_single.ensures c.width_in_bits.ensures);
      nominal = subst N-bits (sym high) (subst N c.get_single-2.ensures c.width_in_bits-2.ensures);
    }
