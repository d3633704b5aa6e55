use Rattle.std.proofs.Common.{◌≡◌, ◌∙◌, ◌++◌, ap, sym, subst, List, ℕ, arith}
use Rattle.postscript_write.specs.SetTexts.{NamesAll, names_text, spans_text}
use Rattle.postscript_write.proofs.SetTexts.{names_all, spans_all}
use Rattle.postscript_write.proofs.char_sets.names.Goals as goal

pub returns-then-saturating_mul-clause-names : goal.returns-then-saturating_mul-clause-names
returns-then-saturating_mul-clause-names c =
    let identifiers = c.args.identifiers.now in
    let firsts = c.in_ok-firsts.firsts.items in
    let text : c.put_spans.new.out.items ≡ spans_text identifiers firsts =
    c.in_ok-put_spans.ensures.text ∙ ap (λ xs. xs ++ spans_text identifiers c.deref.result.now) c.new-out.ensures.items
    ∙ ap (spans_text identifiers) c.deref.ensures.value in
    subst (λ (xs : List ℕ). NamesAll xs identifiers) (sym text) (spans_all identifiers firsts c.in_ok-firsts.ensures.firsts (omega (arith, c.if-saturating_mul.true, c.saturating_mul.ensures, c.saturating_mul-2.ensures, c.len.ensures)))

pub returns-clause-names : goal.returns-clause-names
returns-clause-names c =
    let identifiers = c.args.identifiers.now in
    let text : c.put_names.new.out.items ≡ names_text identifiers =
    c.in_ok-put_names.ensures.text ∙ ap (λ xs. xs ++ names_text identifiers) c.new-out.ensures.items in
    subst (λ (xs : List ℕ). NamesAll xs identifiers) (sym text) (names_all identifiers)
