use Rattle.std.proofs.Common.{◌≡◌, ◌∙◌, ◌+◌, ◌*◌, ◌++◌, ℕ, List, ap, subst, length, arith, rules}
use Rattle.postscript_layout_write.specs.Lookups.{AreStarts}
use Rattle.postscript_layout_write.specs.Sets.{AreOffsets}
use Rattle.postscript_layout_write.specs.Text.{offsets_text, uint16}
use Rattle.postscript_layout_write.proofs.Placing.{all-there, list-joined}
use Rattle.postscript_layout_write.proofs.positioning.put_list.Goals as goal

pub returns-clause-done : goal.returns-clause-done
returns-clause-done c =
    let last = c.in_ok-last.last in
    let offsets = c.in_ok-offsets.offsets.items in
    let old = c.args.out.now.items in
    let size : c.len.result ≡ length last.lookups.items = search rules in
    let count : c.len-count.result ≡ length offsets = search rules in
    record {
      offsets = offsets;
      bytes = last.lookups.items ++ last.subtables.items;
      are = all-there c.args.scope c.args.gpos.now c.args.kept.now last.distances.items last.lookups.items last.subtables.items offsets c.in_ok-last.ensures.exact
          (subst (λ n. AreStarts n last.distances.items offsets) size
          (subst (λ (xs : List ℕ). AreStarts c.len.result xs offsets) c.deref.ensures.value c.in_ok-offsets.ensures.exact));
      few = omega (arith, count);
      fit = subst (λ n. AreOffsets (2 + n * 2) offsets) count
          (subst (λ (xs : List ℕ). AreOffsets (2 + c.len-count.result * 2) xs) c.deref-2.ensures.value c.in_ok-put_offsets.ensures.fit);
      text = c.in_ok-extend_from_slice-2.ensures.items
          ∙ ap (λ (xs : List ℕ). xs ++ c.deref-4.result.now) (c.in_ok-extend_from_slice.ensures.items
          ∙ ap (λ (xs : List ℕ). xs ++ c.deref-3.result.now) (c.in_ok-put_offsets.ensures.text
          ∙ ap (λ (xs : List ℕ). xs ++ offsets_text (2 + c.len-count.result * 2) c.deref-2.result.now) c.in_ok-put_uint16.ensures))
          ∙ ap (λ n. (((old ++ uint16 n) ++ offsets_text (2 + n * 2) c.deref-2.result.now) ++ c.deref-3.result.now) ++ c.deref-4.result.now) count
          ∙ ap (λ (xs : List ℕ). (((old ++ uint16 (length offsets)) ++ offsets_text (2 + length offsets * 2) xs) ++ c.deref-3.result.now) ++ c.deref-4.result.now) c.deref-2.ensures.value
          ∙ ap (λ (xs : List ℕ). (((old ++ uint16 (length offsets)) ++ offsets_text (2 + length offsets * 2) offsets) ++ xs) ++ c.deref-4.result.now) c.deref-3.ensures.value
          ∙ ap (λ (xs : List ℕ). (((old ++ uint16 (length offsets)) ++ offsets_text (2 + length offsets * 2) offsets) ++ last.lookups.items) ++ xs) c.deref-4.ensures.value
          ∙ list-joined old offsets last.lookups.items last.subtables.items;
    }
