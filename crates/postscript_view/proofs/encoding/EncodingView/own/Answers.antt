use Rattle.std.proofs.Common.{◌≡◌, sym, subst}
use Rattle.std.proofs.lemmas.Result.{err_from_is_err_and}
use Rattle.postscript_base.specs.Index.{number_at}
use Rattle.postscript_view.specs.Encodings.{AreSupplementsAt}
use Rattle.postscript_view.specs.Untold.{AreCutSupplements, OfSupplements}
use Rattle.postscript_view.proofs.Untelling.{is_eof}
use Rattle.postscript_view.proofs.Coding.{all_err, one_next}
use Rattle.postscript_view.proofs.encoding.EncodingView.own.Goals as goal

pub returns-in_err-supplements-clause-none : goal.returns-in_err-supplements-clause-none
returns-in_err-supplements-clause-none c = all_err c.from_residual-in_err-supplements.result (λ encoding h.
    let bytes = c.args.bytes.now in
    let supplements = encoding.supplements.now in
    let format : c.in_ok-format.format ≡ number_at bytes c.args.place 1 = c.in_ok-format.ensures.exact.1 in
    let same : h.0 ≡ c.in_ok-codes.next = one_next c.in_ok-codes.codes encoding.codes bytes c.args.place c.in_ok-codes.next h.0
    c.in_ok-codes.ensures.found.1 h.2 in
    c.in_err-supplements.ensures.none supplements
    (subst (λ f. AreSupplementsAt bytes f c.in_ok-codes.next supplements) (sym format)
    (subst (λ n. AreSupplementsAt bytes (number_at bytes c.args.place 1) n supplements) same h.3)))

pub returns-in_err-supplements-clause-why : goal.returns-in_err-supplements-clause-why
returns-in_err-supplements-clause-why c =
    let bytes = c.args.bytes.now in
    let next = c.in_ok-codes.next in
    let format : c.in_ok-format.format ≡ number_at bytes c.args.place 1 = c.in_ok-format.ensures.exact.1 in
    let stand = c.in_ok-codes.ensures.found in
    let cut = subst (λ f. AreCutSupplements bytes f next) format c.in_err-supplements.ensures.why in
    let eof = is_eof c.in_err-supplements.field-0.0 c.in_err-supplements.ensures.listed in
    let error = err_from_is_err_and c.from_residual-in_err-supplements.result c.from_residual-in_err-supplements.ensures.1 in
    rw (error.1, error.2) (OfSupplements c.in_ok-codes.codes next stand.0 stand.1 cut eof)
