use Rattle.std.proofs.Common.{◌≡◌, rules, sym, subst, List, [], ◌∷◌, ◌++◌, ◌+◌, ◌<◌, length, Vec, ℕ}
use Rattle.std.specs.declared.alloc.Global.{Global}
use Rattle.postscript_c.specs.Located.{AreLent, IsForData}
use Rattle.postscript_c.proofs.Locating.{lacking, one_table}
use Rattle.postscript_c.proofs.prepared.tables_of.Goals as goal
use Rattle.postscript_variation.specs.Lent.{delta_count, table_count}

pub returns-in_default-clause-why : goal.returns-in_default-clause-why
returns-in_default-clause-why c =
    let there : c.loop-number.number < table_count c.args.store.now = search rules in
    lacking c.args.store.now c.args.scalars.now c.loop-number.number c.loop-number.tables.items c.loop-number.rest.now
    c.loop-number.invariant there c.in_default.ensures

pub returns-then-rest-len-clause-why : goal.returns-then-rest-len-clause-why
returns-then-rest-len-clause-why c =
    let few : length c.loop-number.rest.now < delta_count c.in-Some.table = search rules in
    record {
      number = c.loop-number.number;
      tables = c.loop-number.tables.items;
      rest = c.loop-number.rest.now;
      table = c.in-Some.table;
      before = c.loop-number.invariant;
      there = c.in-Some.ensures;
      few = few;
    }

pub loop-number-preserved : goal.loop-number-preserved
loop-number-preserved c =
    let own = c.in_ok-from_slice.field-0 in
    let many : length own.items ≡ delta_count c.in-Some.table = search rules in
    let cut : c.loop-number.rest.now ≡ own.items ++ c.split_at.result.1.now = search rules in
    let items : c.push.new.self.items ≡ c.loop-number.tables.items ++ own ∷ [] = search rules in
    let is : IsForData c.args.store.now c.loop-number.number own.items =
    record { table = c.in-Some.table; there = c.in-Some.ensures; many = many } in
    subst
    (λ (items : List (Vec ℕ Global)). AreLent c.args.store.now c.args.scalars.now (c.loop-number.number + 1) items c.split_at.result.1.now)
    (sym items)
    (one_table c.args.store.now c.args.scalars.now c.loop-number.number c.loop-number.tables.items c.loop-number.rest.now own
    c.split_at.result.1.now c.loop-number.invariant is cut)
