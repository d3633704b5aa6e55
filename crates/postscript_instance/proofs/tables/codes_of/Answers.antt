use Rattle.std.proofs.Common.{◌≡◌, [], ◌∷◌, ◌++◌, ◌+◌, inr, rules, subst, sym}
use Rattle.std.proofs.lemmas.Result.{err_from_is_err_and}
use Rattle.postscript_instance.specs.Glyphs.{AreCodes, DoesIn}
use Rattle.postscript_instance.proofs.Codes.{found, one-code}
use Rattle.postscript_instance.proofs.tables.codes_of.Goals as goal

pub loop-number-preserved : goal.loop-number-preserved
loop-number-preserved c =
    let n = c.loop-number.number in
    let code = c.in_ok-code_of.field-0 in
    let width = c.index-widths-number.result in
    let items : c.push.new.self.items ≡ c.loop-number.codes.items ++ code ∷ [] = search rules in
    let does = DoesIn c.args.numbers c.args.font.now c.args.place.now in
    subst (AreCodes does c.args.widths.now (n + 1)) (sym items)
    (one-code does c.args.widths.now n c.loop-number.codes.items code width c.loop-number.invariant
    (found c.args.widths.now n width c.index-widths-number.is c.loop-number-test.true) c.in_ok-code_of.ensures.written)

pub returns-in_err-code_of : goal.returns-in_err-code_of
returns-in_err-code_of c =
    let error = err_from_is_err_and c.from_residual-in_err-code_of.result c.from_residual-in_err-code_of.ensures.1 in
    let n = c.loop-number.number in
    let width = c.index-widths-number.result in
    rw (error.1, error.2) (record {
      are = tt;
      refused = inr (record {
        glyph = n;
        width = width;
        is_width = found c.args.widths.now n width c.index-widths-number.is c.loop-number-test.true;
        before = c.loop-number.codes.items;
        are_codes = c.loop-number.invariant;
        refused = c.in_err-code_of.ensures.refused;
      });
    })
