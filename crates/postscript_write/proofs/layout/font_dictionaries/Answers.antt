use Rattle.std.proofs.Common.{subst, length, ap, arith, sym}
use Rattle.std.specs.Prelude.{All}
use Rattle.std.proofs.lemmas.Result.{err_from_is_err_and, IfOk-weaker}
use Rattle.postscript_base.specs.Index.{IsOpened}
use Rattle.postscript_base.specs.Index.Lent.{items_of}
use Rattle.postscript_base.specs.declared.compact1.operator.Operator.TheVariants as operators
use Rattle.postscript_type2.specs.Program.Routines.{texts}
use Rattle.postscript_view.specs.Value.{parts_shown}
use Rattle.postscript_write.specs.Privates.{AreFontDictionaries, IsSomeDictionary}
use Rattle.postscript_write.proofs.Arranged.{all_dictionaries, keyed_items, named_opened, one_first}
use Rattle.postscript_write.proofs.Making.{if_err}
use Rattle.postscript_write.proofs.layout.font_dictionaries.Goals as goal

pub returns-in_err-place-clause-refused : goal.returns-in_err-place-clause-refused
returns-in_err-place-clause-refused c =
    let error = err_from_is_err_and c.from_residual.result c.from_residual.ensures.1 in
    let font = c.args.font.now in
    rw (error.1, error.2) (λ other keyed are own few.
    let has = keyed_items font.bytes.now font.dictionary (parts_shown font.parts.items) keyed are in
    c.in_err-place.ensures.refused has.1.0 has.1.1)

pub returns-in_err-sources-clause-refused : goal.returns-in_err-sources-clause-refused
returns-in_err-sources-clause-refused c =
    let error = err_from_is_err_and c.from_residual-in_err-sources.result c.from_residual-in_err-sources.ensures.1 in
    let font = c.args.font.now in
    rw (error.1, error.2) (λ other keyed are own few.
    let has = keyed_items font.bytes.now font.dictionary (parts_shown font.parts.items) keyed are in
    let at = one_first font.dictionary operators.FDArray has.1.0 c.in_ok-place.place has.1.1 c.in_ok-place.ensures.first in
    c.in_err-sources.ensures.exact has.0 has.1.2.0 (subst (λ p. IsOpened font.bytes.now p has.0 has.1.2.0) at has.1.2.2))

pub returns-clause-placed : goal.returns-clause-placed
returns-clause-placed c =
    let font = c.args.font.now in
    IfOk-weaker c.placed_dictionaries.result _ _ (λ out are items names fits.
    let same = named_opened font.bytes.now font.dictionary operators.FDArray c.in_ok-place.place c.in_ok-sources._next
    (items_of c.in_ok-sources.sources) items c.in_ok-place.ensures.first c.in_ok-sources.ensures.exact names in
    subst (λ xs. AreFontDictionaries xs c.args.privates.now c.args.start (texts out.items)) same (are fits))
    c.placed_dictionaries.ensures.placed

pub returns-clause-refused : goal.returns-clause-refused
returns-clause-refused c =
    let font = c.args.font.now in
    let parts = parts_shown font.parts.items in
    if_err c.placed_dictionaries.result (λ e never other keyed are own few.
    let has = keyed_items font.bytes.now font.dictionary parts keyed are in
    let same = named_opened font.bytes.now font.dictionary operators.FDArray c.in_ok-place.place c.in_ok-sources._next
    (items_of c.in_ok-sources.sources) has.0 c.in_ok-place.ensures.first c.in_ok-sources.ensures.exact has.1 in
    let all = all_dictionaries font.bytes.now has.0 parts has.2 in
    let many = own.many in
    let long = ap length same in
    never other (subst (All IsSomeDictionary) (sym same) all.0) (omega (arith, many, long, all.1)) few)
    c.placed_dictionaries.ensures.refused

pub returns-clause-sized : goal.returns-clause-sized
returns-clause-sized c =
    IfOk-weaker c.placed_dictionaries.result _ _
    (λ out sized. (
      items_of c.in_ok-sources.sources,
      (c.in_ok-place.place, c.in_ok-place.ensures.first, (c.in_ok-sources._next, omega arith, c.in_ok-sources.ensures.exact)),
      sized,
    ))
    c.placed_dictionaries.ensures.sized
