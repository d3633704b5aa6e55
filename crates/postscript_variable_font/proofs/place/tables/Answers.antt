use Rattle.std.proofs.Common.{◌≡◌, ◌<◌, ◌+◌, [], ◌∷◌, ◌++◌, rules, subst, sym}
use Rattle.postscript_variation.specs.Lent.{table_count}
use Rattle.postscript_variable_font.specs.Places.{AreScalarsOf, AreTables}
use Rattle.postscript_variable_font.proofs.Scalars.{one_table, lacking}
use Rattle.postscript_variable_font.proofs.place.tables.Goals as goal

pub returns-in_default-clause-why : goal.returns-in_default-clause-why
returns-in_default-clause-why c =
    let there : c.loop-number.number < table_count c.args.store.now = search rules in
    lacking c.args.store.now c.args.coordinates.now c.loop-number.number c.loop-number.tables.items c.loop-number.invariant there
    c.in_default.ensures

pub loop-number-preserved : goal.loop-number-preserved
loop-number-preserved c =
    let are : AreScalarsOf c.args.store.now c.args.coordinates.now c.loop-number.number c.in_ok-scalars.field-0.items =
    record { table = c.in-Some.table; stands = c.in-Some.ensures; are = c.in_ok-scalars.ensures.found } in
    let items : c.push.new.self.items ≡ c.loop-number.tables.items ++ c.in_ok-scalars.field-0 ∷ [] = search rules in
    subst (λ items. AreTables c.args.store.now c.args.coordinates.now (c.loop-number.number + 1) items) (sym items)
    (one_table c.args.store.now c.args.coordinates.now c.loop-number.number c.loop-number.tables.items c.in_ok-scalars.field-0
    c.loop-number.invariant are)

pub returns-clause-found : goal.returns-clause-found
returns-clause-found c =
    let all : c.loop-number.number ≡ table_count c.args.store.now = search rules in
    subst (λ n. AreTables c.args.store.now c.args.coordinates.now n c.loop-number.tables.items) all c.loop-number.invariant
