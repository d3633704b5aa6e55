use Rattle.std.proofs.Common.{◌≡◌, ◌+◌, ◌*◌, ◌++◌, flat_map, length, arith, ap, refl, ◌∙◌}
use Rattle.postscript_sequences.specs.Text.{row_text}
use Rattle.postscript_sequences.proofs.Placing.{written_is}
use Rattle.postscript_sequences.proofs.writing.write_subtable.Goals as goal

pub returns-clause-written : goal.returns-clause-written
returns-clause-written c =
    let total : c.in_ok-size.size ≡ 10 + c.in_ok-count.count * 11 + length c.put_parts.new.tables.items = omega (arith, c.in_ok-size.ensures.value) in
    written_is c.args.parts.now c.in_ok-rows.rows.items c.put_parts.new.tables.items c.new-out.result.items c.put_head.new.out.items
    c.put_rows.new.out.items c.extend_from_slice.new.self.items (10 + c.in_ok-count.count * 11) c.in_ok-count.count c.in_ok-size.size
    c.in_ok-rows.ensures.rows c.in_ok-rows.ensures.size c.in_ok-count.ensures.value.0 c.in_ok-count.ensures.value.1 refl total c.in_ok-size.ensures.value.1
    c.new-out.ensures.items c.in_ok-put_head.ensures
    (c.in_ok-put_rows.ensures ∙ ap (λ xs. c.put_head.new.out.items ++ flat_map row_text xs) c.deref.ensures.value)
    (c.in_ok-extend_from_slice.ensures.items ∙ ap (λ xs. c.put_rows.new.out.items ++ xs) c.deref-2.ensures.value)
