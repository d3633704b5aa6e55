use Rattle.std.proofs.Common.{◌≡◌, ◌-◌, ◌++◌, ◌∙◌, ap, sym, take, drop, get_or, length, length-drop, arith}
use Rattle.std.proofs.lemmas.List.{append_assoc, take_all}
use Rattle.postscript_layout_write.specs.Text.{array_text, uint16}
use Rattle.postscript_layout_write.proofs.RuleWriting.{ligature-parts}
use Rattle.postscript_layout_write.proofs.rule_sets.put_ligature.Goals as goal

pub returns-clause-text : goal.returns-clause-text
returns-clause-text c =
    let rule = c.args.rule.now in
    let old = c.args.out.now.items in
    let first = uint16 (get_or rule 0 0) in
    let many = uint16 (length rule) in
    let rest : take (length rule - 1) (drop 1 rule) ≡ drop 1 rule = take_all (length rule - 1) (drop 1 rule) (let long = length-drop 1 rule in omega (arith, long)) in
    c.in_ok-put_glyphs.ensures.text
    ∙ ap (λ xs. xs ++ array_text (take (length rule - 1) (drop 1 rule))) c.in_ok-put_uint16-2.ensures
    ∙ ap (λ xs. (xs ++ many) ++ array_text (take (length rule - 1) (drop 1 rule))) c.in_ok-put_uint16.ensures
    ∙ ap (λ xs. ((old ++ first) ++ many) ++ array_text xs) rest
    ∙ append_assoc (old ++ first) many (array_text (drop 1 rule)) ∙ append_assoc old first (many ++ array_text (drop 1 rule))
    ∙ ap (λ xs. old ++ xs) (sym (ligature-parts rule c.requires.some))
