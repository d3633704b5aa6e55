use Rattle.std.proofs.Common.{◌≡◌, ◌+◌, ◌++◌, ◌∙◌, ap, ℕ, List, arith, length}
use Rattle.postscript_layout_write.specs.Attaching.{lead_of, numbers_of}
use Rattle.postscript_layout_write.specs.Text.{array_text, coverage_text}
use Rattle.postscript_layout_write.proofs.TypedWriting.{rows-joined}
use Rattle.postscript_layout_write.proofs.row_subtables.put_rows.Goals as goal

pub returns-clause-done : goal.returns-clause-done
returns-clause-done c =
    let side = c.args.side in
    let glyphs = c.args.glyphs.now in
    let array = c.args.array.now in
    let out = c.args.out.now.items in
    let lead : c.lead_of-lead.result ≡ lead_of side = c.lead_of-lead.ensures.exact in
    record {
      few = omega arith;
      fit = omega (arith, lead);
      text = c.in_ok-put_coverage.ensures ∙ ap (λ (xs : List ℕ). xs ++ coverage_text glyphs) (c.in_ok-extend_from_slice.ensures.items
          ∙ ap (λ (xs : List ℕ). xs ++ array) (c.in_ok-put_numbers.ensures
          ∙ ap (λ n. out ++ array_text (numbers_of side (n + length array))) lead))
          ∙ rows-joined side glyphs array out;
    }
