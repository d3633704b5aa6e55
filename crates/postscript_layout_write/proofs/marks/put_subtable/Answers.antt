use Rattle.std.proofs.Common.{◌++◌, ◌∙◌, ap, ℕ, List, arith}
use Rattle.postscript_layout_write.specs.Text.{coverage_text}
use Rattle.postscript_layout_write.proofs.MarkWriting.{attaching-joined}
use Rattle.postscript_layout_write.proofs.marks.put_subtable.Goals as goal

pub returns-clause-done : goal.returns-clause-done
returns-clause-done c =
    let marks = c.args.marks.now in
    let bases = c.args.bases.now in
    let first = c.args.first.now in
    let second = c.args.second.now in
    record {
      fits = record {
        small = c.in_ok-put_numbers.ensures.small;
        few_marks = omega arith;
        few_bases = omega arith;
        size = c.in_ok-put_numbers.ensures.fit;
      };
      text = c.in_ok-extend_from_slice-2.ensures.items ∙ ap (λ (xs : List ℕ). xs ++ second) (c.in_ok-extend_from_slice.ensures.items
          ∙ ap (λ (xs : List ℕ). xs ++ first) (c.in_ok-put_coverage-2.ensures
          ∙ ap (λ (xs : List ℕ). xs ++ coverage_text bases) (c.in_ok-put_coverage.ensures
          ∙ ap (λ (xs : List ℕ). xs ++ coverage_text marks) c.in_ok-put_numbers.ensures.text)))
          ∙ attaching-joined c.args.classes marks bases first second c.args.out.now.items;
    }
