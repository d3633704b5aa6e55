use Rattle.std.proofs.Common.{◌∙◌, ap, sym, ◌+◌, ◌<◌, ◌≤◌, ◌++◌, length, drop, arith}
use Rattle.std.proofs.lemmas.List.{append_assoc, append-nil}
use Rattle.postscript_sfnt_write.specs.Grouping.{row_text}
use Rattle.postscript_sfnt_write.specs.Numbers.{uint16}
use Rattle.postscript_sfnt_write.proofs.Groups.{row_done, row_more}
use Rattle.postscript_sfnt_write.proofs.mapping.put_row.Goals as goal

pub loop-group-preserved : goal.loop-group-preserved
loop-group-preserved c =
    let less : c.loop-group.group-index < length c.args.groups.now = omega arith in
    ap (λ xs. xs ++ row_text c.args.row (drop (c.loop-group.group-index + 1) c.args.groups.now)) c.in_ok-put_uint16.ensures
    ∙ append_assoc c.loop-group.out.items _ _
    ∙ ap (λ n. c.loop-group.out.items ++ (uint16 n ++ row_text c.args.row (drop (c.loop-group.group-index + 1) c.args.groups.now)))
    c.number.ensures
    ∙ ap (λ xs. c.loop-group.out.items ++ xs) (sym (row_more c.args.row c.args.groups.now c.loop-group.group-index less))
    ∙ c.loop-group.invariant

pub returns : goal.returns
returns c =
    let past : length c.args.groups.now ≤ c.loop-group.group-index = omega arith in
    sym (append-nil c.loop-group.out.items)
    ∙ ap (λ xs. c.loop-group.out.items ++ xs) (sym (row_done c.args.row c.args.groups.now c.loop-group.group-index past))
    ∙ c.loop-group.invariant
