use Rattle.std.proofs.lemmas.Result.{IfErr-weaker, IfOk-weaker}
use Rattle.postscript_c.specs.ShortNames.{no_face, no_table, not_asked, shortened}
use Rattle.postscript_c.proofs.short_names.given_names.Goals as goal

pub returns-then-names-eq0-clause-names : goal.returns-then-names-eq0-clause-names
returns-then-names-eq0-clause-names c = rw c.new.ensures.items (not_asked c.if-names-eq0.true)

pub returns-in_default-clause-names : goal.returns-in_default-clause-names
returns-in_default-clause-names c =
    rw c.new-in_default.ensures.items (no_face c.if-names-eq0.false c.in_default.field-0 c.in_default.ensures.why)

pub returns-in_default-table-clause-names : goal.returns-in_default-table-clause-names
returns-in_default-table-clause-names c =
    rw c.new-in_default-table.ensures.items (no_table c.if-names-eq0.false c.in-Ok.file c.in-Ok.ensures.exact c.in_default-table.ensures)

pub returns-clause-names : goal.returns-clause-names
returns-clause-names c =
    IfOk-weaker c.given_by.result _ _
    (λ given is. shortened given.items (c.in-Ok.file, c.in-Ok.ensures.exact, (c.in-Some.table.now, c.in-Some.ensures, is)))
    c.given_by.ensures.short

pub returns-clause-memory : goal.returns-clause-memory
returns-clause-memory c =
    IfErr-weaker c.given_by.result _ _
    (λ e is. (is, (c.if-names-eq0.false, (c.in-Ok.file, c.in-Ok.ensures.exact, (c.in-Some.table.now, c.in-Some.ensures, tt)))))
    c.given_by.ensures.memory
