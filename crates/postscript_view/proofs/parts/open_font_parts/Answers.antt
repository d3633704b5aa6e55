use Rattle.std.proofs.Common.{◌≡◌, ap, ℕ, List, Result, Ok, Err, IfOk}
use Rattle.postscript_base.specs.Tape.Outcome.{Got, after}
use Rattle.postscript_base.specs.declared.compact1.operator.Operator.TheVariants as operators
use Rattle.postscript_base.specs.Index.{opened}
use Rattle.postscript_base.specs.Index.Lent.{items_of}
use Rattle.postscript_view.proofs.LayoutLaws.{names_index}
use Rattle.postscript_view.proofs.parts.open_font_parts.Goals as goal

if-ok : {A E : Type 0} {P Q : A → Type 0} (r : Result A E) → ((a : A) → P a → Q a) → IfOk r P → IfOk r Q
if-ok (Ok a) f h = f a h
if-ok (Err e) f h = tt

pub returns-clause-held : goal.returns-clause-held
returns-clause-held c =
    let items = items_of c.in_ok-dictionaries.dictionaries in
    let opens : opened c.args.bytes.now c.in_ok-place.place ≡ Got items c.in_ok-dictionaries._next = c.in_ok-dictionaries.ensures.reads in
    let stands = ap (λ o. after o (λ (x : List (List ℕ)) _. Got x 0)) opens in
    let named = names_index c.args.bytes.now c.args.dictionary.now operators.FDArray c.in_ok-place.place 0 0 0 items
    (c.in_ok-place.ensures.exact c.args.bytes.now 0) stands in
    if-ok c.open_each.result (λ parts few. (items, named.0, few)) c.open_each.ensures.held
