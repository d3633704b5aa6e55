use Rattle.std.proofs.Common.{◌≡◌, rules, false, [], ◌∷◌, arith}
use Rattle.std.specs.Option.{is_none}
use Rattle.std.proofs.lemmas.Result.{err_from_is_err_and}
use Rattle.postscript_base.specs.Compact1.Defaults.{look, first_two_of}
use Rattle.postscript_base.specs.declared.compact1.operator.Operator.TheVariants as operators
use Rattle.postscript_write.proofs.Once.{once_left}
use Rattle.postscript_write.proofs.Placing.{less}
use Rattle.postscript_write.proofs.Privates.{no_bounds, no_source, own, size_is, source_is, source_within}
use Rattle.postscript_write.proofs.Without.{left_shorter}
use Rattle.postscript_write.proofs.layout.own_private.Goals as goal

pub returns-in_err-size-clause-refused : goal.returns-in_err-size-clause-refused
returns-in_err-size-clause-refused c =
    let error = err_from_is_err_and c.from_residual.result c.from_residual.ensures.1 in
    let some : is_none (first_two_of (look c.args.dictionary.now operators.Private)) ≡ false = search rules in
    rw (error.1, error.2) (λ other font part is.
    let has = own c.args.bytes.now c.args.dictionary.now font part is some in
    no_bounds c.args.bytes.now c.args.dictionary.now part.dictionary has.0 _ has.1 (c.in_err-size.ensures.exact c.args.bytes.now 0 other))

pub returns-in_err-source-clause-refused : goal.returns-in_err-source-clause-refused
returns-in_err-source-clause-refused c =
    let error = err_from_is_err_and c.from_residual-in_err-source.result c.from_residual-in_err-source.ensures.1 in
    let some : is_none (first_two_of (look c.args.dictionary.now operators.Private)) ≡ false = search rules in
    rw (error.1, error.2) (λ other font part is.
    let has = own c.args.bytes.now c.args.dictionary.now font part is some in
    no_source c.args.bytes.now c.args.dictionary.now part.dictionary has.0 _ _ _ _ has.1 (c.in_ok-size.ensures.exact c.args.bytes.now 0)
    (c.in_err-source.ensures.exact 0 other))

pub returns-in_err-text-clause-refused : goal.returns-in_err-text-clause-refused
returns-in_err-text-clause-refused c =
    let error = err_from_is_err_and c.from_residual-in_err-text.result c.from_residual-in_err-text.ensures.1 in
    let some : is_none (first_two_of (look c.args.dictionary.now operators.Private)) ≡ false = search rules in
    rw (error.1, error.2) (λ other font part is.
    let has = own c.args.bytes.now c.args.dictionary.now font part is some in
    c.in_err-text.ensures.refused other part.dictionary
    (source_is c.args.bytes.now c.args.dictionary.now part.dictionary has.0 _ _ _ c.in_ok-source.source.now has.1
    (c.in_ok-size.ensures.exact c.args.bytes.now 0) (c.in_ok-source.ensures.exact 0)))

pub returns-clause-own : goal.returns-clause-own
returns-clause-own c = λ font part is.
    let some : is_none (first_two_of (look c.args.dictionary.now operators.Private)) ≡ false = search rules in
    let has = own c.args.bytes.now c.args.dictionary.now font part is some in
    let new = less c.in_ok-source.source.now c.in_ok-text.text.items (operators.Subrs ∷ []) part.dictionary c.in_ok-text.ensures.left
    (source_is c.args.bytes.now c.args.dictionary.now part.dictionary has.0 _ _ _ c.in_ok-source.source.now has.1
    (c.in_ok-size.ensures.exact c.args.bytes.now 0) (c.in_ok-source.ensures.exact 0)) in
    (new.0, new.1, new.2, once_left c.in_ok-source.source.now c.in_ok-text.text.items (operators.Subrs ∷ []) c.in_ok-text.ensures.left)

pub returns-clause-sized : goal.returns-clause-sized
returns-clause-sized c =
    let size = size_is c.args.bytes.now c.args.dictionary.now _ _ _ (c.in_ok-size.ensures.exact c.args.bytes.now 0) in
    let source = source_within c.args.bytes.now c.in_ok-source.source.now _ _ (c.in_ok-source.ensures.exact 0) in
    let left = left_shorter c.in_ok-source.source.now (operators.Subrs ∷ []) c.in_ok-text.text.items c.in_ok-text.ensures.text in
    omega (arith, size, source.0, left)

pub returns-clause-within : goal.returns-clause-within
returns-clause-within c =
    let source = source_within c.args.bytes.now c.in_ok-source.source.now _ _ (c.in_ok-source.ensures.exact 0) in
    let left = left_shorter c.in_ok-source.source.now (operators.Subrs ∷ []) c.in_ok-text.text.items c.in_ok-text.ensures.text in
    omega (arith, source.1, left)
