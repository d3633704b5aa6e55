use Rattle.std.proofs.Common.{rules, arith, inl, inr}
use Rattle.std.proofs.lemmas.Grind.{common_steps}
use Rattle.postscript_base.specs.RefusalOf.{refusal_of}
use Rattle.postscript_type2.specs.Program.Routines.{subroutines}
use Rattle.postscript_examples.proofs.Refused.{none_so_far, first_so_far}
use Rattle.postscript_examples.proofs.glyphs.each_glyph.Goals as goal

pub returns-in_err-glyph-clause-refused : goal.returns-in_err-glyph-clause-refused
returns-in_err-glyph-clause-refused c =
    let first = first_so_far (subroutines c.args.global.now c.args.local.now) c.args.codes.now c.loop-code.code-index c.code-item.result
    c.deref.result.now (refusal_of c.in_err-glyph.field-0.0) c.loop-code-test.true c.code-item.is c.deref.ensures.value
    c.loop-code.invariant.1 in
    elim c.in_err-glyph.ensures.refused [
      | inl memory ↦ search (rules, memory)
      | inr refused ↦ search (rules, first refused)
    ]

pub loop-code-preserved : goal.loop-code-preserved
loop-code-preserved c = (
  grind (arith, common_steps),
  none_so_far (subroutines c.args.global.now c.args.local.now) c.args.codes.now c.loop-code.code-index c.code-item.result
      c.deref.result.now c.loop-code-test.true c.code-item.is c.deref.ensures.value c.loop-code.invariant.1 c.in_ok-glyph.ensures.faultless,
)
