use Rattle.std.proofs.Common.{ℕ, List, sym, subst}
use Rattle.std.proofs.lemmas.Result.{IfOk-weaker}
use Rattle.postscript_c.specs.ShortNames.{IsShort}
use Rattle.postscript_c.proofs.short_names.given_by.Goals as goal

pub returns-clause-short : goal.returns-clause-short
returns-clause-short c =
    let P : List ℕ → Type 0 = λ new. IsShort c.args.table.now c.is_licence.result new in
    IfOk-weaker c.given_with.result _ _
    (λ given has. record {
      licence = c.is_licence.result;
      asked = c.is_licence.ensures;
      one = has.0;
      all = has.1;
      tagged = has.2;
      is = subst P (sym has.3) c.in_ok-short.ensures.short;
    })
    c.given_with.ensures.one
