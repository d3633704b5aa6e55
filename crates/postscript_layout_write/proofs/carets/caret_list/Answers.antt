use Rattle.std.proofs.Common.{◌<◌, ◌++◌, ◌∙◌, ℕ, List, ap, length, rules}
use Rattle.postscript_layout_write.specs.CaretLists.{a_list, caret_list_text}
use Rattle.postscript_layout_write.proofs.carets.caret_list.Goals as goal

pub returns-clause-exact : goal.returns-clause-exact
returns-clause-exact c =
    let glyphs = c.in_ok-carets.carets.firsts.items in
    let offsets = c.in_ok-carets.carets.offsets.items in
    let bytes = c.in_ok-carets.carets.bytes.items in
    let some : 0 < length glyphs = search rules in
    a_list glyphs offsets bytes c.in_ok-carets.ensures.exact some c.in_ok-put_list.ensures.few c.in_ok-put_list.ensures.fit
    (c.in_ok-put_list.ensures.text ∙ ap (λ (xs : List ℕ). xs ++ caret_list_text glyphs offsets bytes) c.new-list.ensures.items)
