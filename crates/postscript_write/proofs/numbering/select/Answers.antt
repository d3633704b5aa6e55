use Rattle.std.proofs.Common.{◌≡◌, ◌∙◌, ◌++◌, ap, length, arith}
use Rattle.postscript_write.specs.Selected.{listed_text, ranges_text}
use Rattle.postscript_write.proofs.Selected.{lists_all, listed_length, ranges_all, ranges_length}
use Rattle.postscript_write.proofs.numbering.select.Goals as goal

pub returns-then-saturating_add-numbers-clause-selects : goal.returns-then-saturating_add-numbers-clause-selects
returns-then-saturating_add-numbers-clause-selects c =
    let numbers = c.args.numbers.now in
    let firsts = c.in_ok-firsts.firsts.items in
    let text : c.put_ranges.new.out.items ≡ ranges_text numbers firsts =
    c.in_ok-put_ranges.ensures.text ∙ ap (λ xs. xs ++ ranges_text numbers c.deref.result.now) c.new-out.ensures.items
    ∙ ap (ranges_text numbers) c.deref.ensures.value in
    record {
      few = omega (
        arith,
        ap length text,
        ranges_length numbers firsts,
        c.if-saturating_add-numbers.true,
        c.saturating_add.ensures,
        c.saturating_mul.ensures,
        c.len.ensures,
      );
      selects = λ low few. rw text (ranges_all numbers firsts c.in_ok-firsts.ensures.firsts low few);
    }

pub returns-clause-selects : goal.returns-clause-selects
returns-clause-selects c =
    let numbers = c.args.numbers.now in
    let text : c.put_bytes.new.out.items ≡ listed_text numbers = c.in_ok-put_bytes.ensures.text
    ∙ ap (λ xs. xs ++ listed_text numbers) c.new-out.ensures.items in
    record {
      few = omega (arith, ap length text, listed_length numbers);
      selects = λ low few. rw text (lists_all numbers low);
    }
