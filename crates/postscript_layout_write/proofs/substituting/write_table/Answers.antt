use Rattle.std.proofs.Common.{◌∙◌, ◌++◌, ap, inl, inr, ℕ, List, arith}
use Rattle.postscript_layout_write.specs.Text.{front_text, list_text}
use Rattle.postscript_layout_write.proofs.RuleKept.{keeps-rules}
use Rattle.postscript_layout_write.proofs.substituting.write_table.Goals as goal

pub returns-clause-kept : goal.returns-clause-kept
returns-clause-kept c =
    let p = c.in_ok-put_list.ensures.done in
    let gsub = c.args.gsub.now in
    let end = c.in_ok-end.end in
    keeps-rules c.args.whole gsub c.args.lookups.now c.args.kept.now c.put_list.new.out.items p.offsets p.bytes end c.in_ok-end.ensures.exact.holds (omega arith) (omega arith)
    (p.text ∙ ap (λ (xs : List ℕ). xs ++ list_text p.offsets p.bytes) (c.in_ok-put_front.ensures ∙ ap (λ (xs : List ℕ). xs ++ front_text gsub end) c.new-out.ensures.items))
    p.few p.fit p.are

pub returns-then-end-gt65535-clause-why : goal.returns-then-end-gt65535-clause-why
returns-then-end-gt65535-clause-why c = λ m small within ends.
    (let least = c.in_ok-end.ensures.exact.least m ends in
    elim c.then-end-gt65535.either [
      | inl large ↦ omega (arith, large, least, small)
      | inr past ↦ (let far = past.1 in omega (arith, far, least, within))
    ])
