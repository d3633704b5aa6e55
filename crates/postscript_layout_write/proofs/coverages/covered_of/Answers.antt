use Rattle.std.proofs.Common.{◌≡◌, ◌<◌, ◌∙◌, ◌++◌, ◌∷◌, [], ap, sym, ℕ, List, Bool, false, length, get_or, arith}
use Rattle.std.specs.Prelude.{slice_index, if◌then◌else◌, filter}
use Rattle.std.specs.List.{range_with_len}
use Rattle.postscript_layout_write.specs.Sequences.{covers}
use Rattle.postscript_layout_write.proofs.Covering.{filter-more, filter-skips}
use Rattle.postscript_layout_write.proofs.Reading.{any-default}
use Rattle.postscript_layout_write.proofs.coverages.covered_of.Goals.{then-index+in_ok-push, else-index}
use Rattle.postscript_layout_write.proofs.coverages.covered_of.Goals as goal

pub loop-k-preserved : goal.loop-k-preserved
loop-k-preserved c =
    let k = c.loop-k.k in
    let table = c.args.table.now in
    let kept = c.args.kept.now in
    let p : ℕ → Bool = λ i. covers table c.args.coverage (slice_index kept i) in
    let glyph = get_or kept k 0 in
    let marks = c.in_ok-marks.marks.items in
    let small : glyph < 65536 = (let fits = c.type_inv.kept k in omega (arith, fits)) in
    let within : glyph < length marks = (let many = c.in_ok-marks.ensures.exact.many in omega (arith, many, small)) in
    let told : c.index.result.now ≡ p k = c.index.ensures ∙ any-default marks glyph _ false within ∙ c.in_ok-marks.ensures.exact.each glyph small in
    let more = filter-more p k in
    let list : List ℕ = filter p (range_with_len 0 k) in
    elim c.if-index.branch [
      | then-index+in_ok-push w ↦ (let yes = sym told ∙ w.if-index.true in
          ap (λ v. v.items) w.numbers-is ∙ w.in_ok-push.ensures.items ∙ ap (λ xs. xs ++ k ∷ []) c.loop-k.invariant
          ∙ ap (λ (b : Bool). list ++ (if b then k ∷ [] else [])) (sym yes) ∙ sym more)
      | else-index w ↦ (let no = sym told ∙ w.if-index.false in
          ap (λ v. v.items) w.numbers-is ∙ c.loop-k.invariant ∙ sym (filter-skips p k no))
    ]
