use Rattle.std.proofs.Common.{◌≡◌, ◌++◌, ◌∙◌, ◌+◌, ◌*◌, ◌<◌, ap, subst, ℕ, List, length, arith, rules}
use Rattle.postscript_layout.specs.Numbers.{word}
use Rattle.postscript_layout_write.specs.Typed.{HasParts}
use Rattle.postscript_layout_write.specs.Marks.{type_at}
use Rattle.postscript_layout_write.specs.RuleSets.{rule_head_text}
use Rattle.postscript_layout_write.specs.Sets.{AreOffsets}
use Rattle.postscript_layout_write.specs.Text.{offsets_text}
use Rattle.postscript_layout_write.proofs.TypedWriting.{adds-typed, parts-joined}
use Rattle.postscript_layout_write.proofs.typed.put_typed.Goals as goal

pub returns-clause-done : goal.returns-clause-done
returns-clause-done c =
    let gpos = c.args.gpos.now in
    let kept = c.args.kept.now in
    let lookup = c.args.lookup in
    let flag = c.args.flag in
    let old = c.args.out.now.items in
    let offsets = c.in_ok-parts.parts.offsets.items in
    let subtables = c.in_ok-parts.parts.bytes.items in
    let kind : c.type_of-kind.result ≡ type_at gpos lookup = c.type_of-kind.ensures.exact in
    let many : c.len-count.result ≡ length offsets = search rules in
    adds-typed gpos kept lookup flag offsets subtables old c.extend_from_slice.new.self.items
    (subst (λ t. HasParts gpos lookup t flag kept (word gpos (lookup + 4)) offsets subtables) kind c.in_ok-parts.ensures.exact)
    (omega (arith, many))
    (subst (λ (xs : List ℕ). AreOffsets (6 + length offsets * 2) xs) c.deref.ensures.value
    (subst (λ n. AreOffsets (6 + n * 2) c.deref.result.now) many c.in_ok-put_offsets.ensures.fit))
    (subst (λ t. t < 65536) kind c.type_of-kind.ensures.small) c.requires.small
    (c.in_ok-extend_from_slice.ensures.items ∙ ap (λ (xs : List ℕ). xs ++ c.deref-2.result.now) (c.in_ok-put_offsets.ensures.text
    ∙ ap (λ (xs : List ℕ). xs ++ offsets_text (6 + c.len-count.result * 2) c.deref.result.now) c.in_ok-put_head.ensures.text)
    ∙ ap (λ t. ((old ++ rule_head_text t flag c.len-count.result) ++ offsets_text (6 + c.len-count.result * 2) c.deref.result.now) ++ c.deref-2.result.now) kind
    ∙ ap (λ n. ((old ++ rule_head_text (type_at gpos lookup) flag n) ++ offsets_text (6 + n * 2) c.deref.result.now) ++ c.deref-2.result.now) many
    ∙ ap (λ (xs : List ℕ). ((old ++ rule_head_text (type_at gpos lookup) flag (length offsets)) ++ offsets_text (6 + length offsets * 2) xs) ++ c.deref-2.result.now) c.deref.ensures.value
    ∙ ap (λ (xs : List ℕ). ((old ++ rule_head_text (type_at gpos lookup) flag (length offsets)) ++ offsets_text (6 + length offsets * 2) offsets) ++ xs) c.deref-2.ensures.value
    ∙ parts-joined (type_at gpos lookup) flag offsets subtables old)
