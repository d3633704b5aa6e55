use Rattle.std.proofs.Common.{ap, ◌∙◌, ◌<◌, None, List, ℕ, length, length-append, get_or, arith}
use Rattle.postscript_type2.specs.Program.Routines.{texts}
use Rattle.postscript_view.specs.Value.{view_shown}
use Rattle.postscript_write.specs.Glyphs.{IsCodeFor}
use Rattle.postscript_write.proofs.Agree.{text_more}
use Rattle.postscript_write.proofs.Making.{refused_by}
use Rattle.postscript_write.proofs.glyphs.codes_of.Goals as goal

pub returns-in-Err-clause-refused : goal.returns-in-Err-clause-refused
returns-in-Err-clause-refused c =
    let sources = c.args.sources.now in
    let i : ℕ = c.loop-i.i in
    let less : i < length sources = omega arith in
    refused_by (view_shown c.args.font.now) sources c.args.numbers.now
    (texts c.loop-i.flats.items) i c.in-Err.e less c.in-Err.ensures.refused c.loop-i.invariant.1

pub loop-i-preserved : goal.loop-i-preserved
loop-i-preserved c = (
  ap length c.in_ok-push.ensures.items ∙ length-append c.loop-i.flats.items _ ∙ (let e = c.loop-i.invariant.0 in omega (arith, e)),
  text_more (λ k (flat : List ℕ). IsCodeFor (view_shown c.args.font.now) (get_or c.args.sources.now k None)
      (get_or c.args.numbers.now k 0) flat) c.loop-i.flats.items c.push.new.self.items c.in-Ok.flat c.loop-i.i
      c.loop-i.invariant.0 c.in_ok-push.ensures.items c.in-Ok.ensures.code c.loop-i.invariant.1,
)
