use Rattle.std.proofs.Common.{◌∙◌, ap, sym, ◌+◌, ◌<◌, ◌≤◌, ◌++◌, length, drop, arith}
use Rattle.std.proofs.lemmas.List.{append_assoc, append-nil}
use Rattle.postscript_sfnt_write.specs.Layout.{tables_text}
use Rattle.postscript_sfnt_write.proofs.Rests.{tables_more, tables_done}
use Rattle.postscript_sfnt_write.proofs.file.put_tables.Goals as goal

pub loop-table-preserved : goal.loop-table-preserved
loop-table-preserved c =
    let n = c.args.adjustment in
    let less : c.loop-table.table-index < length c.args.tables.now = omega arith in
    ap (λ xs. xs ++ tables_text n (drop (c.loop-table.table-index + 1) c.args.tables.now)) c.in_ok-put_table.ensures
    ∙ append_assoc c.loop-table.out.items _ _
    ∙ ap (λ xs. c.loop-table.out.items ++ xs) (sym (tables_more n c.args.tables.now c.loop-table.table-index less))
    ∙ c.loop-table.invariant

pub returns : goal.returns
returns c =
    let past : length c.args.tables.now ≤ c.loop-table.table-index = omega arith in
    sym (append-nil c.loop-table.out.items)
    ∙ ap (λ xs. c.loop-table.out.items ++ xs) (sym (tables_done c.args.adjustment c.args.tables.now c.loop-table.table-index past))
    ∙ c.loop-table.invariant
