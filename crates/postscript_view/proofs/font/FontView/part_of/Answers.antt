use Rattle.std.proofs.Common.{inl, inr, arith}
use Rattle.std.proofs.lemmas.Bool.Decides.{nat_tests}
use Rattle.postscript_view.proofs.Selecting.{one_named}
use Rattle.postscript_view.proofs.font.FontView.part_of.Goals as goal

pub returns-in_default-clause-none : goal.returns-in_default-clause-none
returns-in_default-clause-none c = λ part h.
    elim h.selected [
      | inl one ↦ absurd (grind (arith, nat_tests, one.0, c.len-2.ensures, c.if-len-eq1.false))
      | inr many ↦ c.in_default.ensures.none _ _ _ part c.args.self.now.selects many.1
    ]

pub returns-else-part-len-clause-none : goal.returns-else-part-len-clause-none
returns-else-part-len-clause-none c = λ part h.
    elim h.selected [
      | inl one ↦ absurd (grind (arith, nat_tests, one.0, c.len-2.ensures, c.if-len-eq1.false))
      | inr many ↦
          let same = one_named _ _ _ c.args.glyph part c.in-Some.part many.1 (c.in-Some.ensures.found _ _ _ c.args.self.now.selects) in
          absurd (grind (arith, nat_tests, same, h.part_there, c.len-3.ensures, c.if-part-len.false))
    ]
