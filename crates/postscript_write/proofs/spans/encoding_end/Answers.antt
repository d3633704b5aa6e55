use Rattle.std.proofs.Common.{rules, ◌≡◌, sym, subst, arith}
use Rattle.postscript_base.specs.Index.{number_at}
use Rattle.postscript_write.specs.Whole.{SupplementsEnd}
use Rattle.postscript_write.proofs.Endings.{behind_codes, one_some}
use Rattle.postscript_write.proofs.spans.encoding_end.Goals as goal

pub returns-in_err-codes-clause-only : goal.returns-in_err-codes-clause-only
returns-in_err-codes-clause-only c = λ next within ends.
    let behind = behind_codes c.args.bytes.now _ ends.0 next ends.2 in
    let found = c.codes_end.ensures.only ends.0 (omega (arith, behind, within)) ends.1 in
    let none = c.in_err-codes.was in
    absurd (cc)

pub returns-clause-only : goal.returns-clause-only
returns-clause-only c = λ next within ends.
    let behind = behind_codes c.args.bytes.now _ ends.0 next ends.2 in
    let found = c.codes_end.ensures.only ends.0 (omega (arith, behind, within)) ends.1 in
    let format : c.in_ok-format.format ≡ number_at c.args.bytes.now c.args.place 1 = search rules in
    c.supplements_end.ensures.only next within
    (subst (λ codes. SupplementsEnd c.args.bytes.now c.in_ok-format.format codes next) (one_some found c.in_ok-codes.was)
    (subst (λ format. SupplementsEnd c.args.bytes.now format ends.0 next) (sym format) ends.2))
