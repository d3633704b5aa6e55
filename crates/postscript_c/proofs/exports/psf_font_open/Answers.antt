use Rattle.std.proofs.Common.{◌≡◌, rules, sym, subst, ℤ, to_z, of_z, w32}
use Rattle.postscript_c.specs.Answers.{TellsFont}
use Rattle.postscript_c.proofs.Agreeing.{font_of}
use Rattle.postscript_c.proofs.exports.psf_font_open.Goals as goal

pub returns : goal.returns
returns c =
    let same : to_z w32 (of_z w32 c.put.result) ≡ c.put.result = search rules in
    let P : ℤ → Type 0 = λ status. TellsFont c.open_font-answer.result status c.args.font.now c.put.new.font in
    record {
      exact = (
        c.open_font-answer.result,
        font_of c.open_font-answer.result c.args.bytes.now
            (c.open_font-answer.ensures.exact 0) c.open_font-answer.ensures.widths c.open_font-answer.ensures.limit,
        subst P (sym same) c.put.ensures,
      );
    }
