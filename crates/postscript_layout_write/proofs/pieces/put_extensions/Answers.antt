use Rattle.std.proofs.Common.{◌+◌, ◌-◌, ◌*◌, ◌<◌, ◌≤◌, ◌++◌, ◌∙◌, ℕ, List, ap, sym, subst, refl, drop, get_or, length, inl, inr, arith}
use Rattle.std.proofs.lemmas.List.{append_assoc, append-nil}
use Rattle.postscript_layout_write.specs.Pieces.{extensions_text}
use Rattle.postscript_layout_write.proofs.Firsts.{nat_cases}
use Rattle.postscript_layout_write.proofs.Writing.{extensions-done, extensions-more}
use Rattle.postscript_layout_write.proofs.pieces.put_extensions.Goals as goal

pub loop-k-preserved : goal.loop-k-preserved
loop-k-preserved c =
    let os = c.args.offsets.now in
    let distance = c.args.distance in
    let k = c.loop-k.k in
    let less : k < length os = omega arith in
    let small = c.if-base-gt4294967295.false in
    let near = c.if-offset-base.false in
    record {
      text = ap (λ (xs : List ℕ). xs ++ extensions_text distance (drop (k + 1) os)) c.in_ok-put_extension.ensures
          ∙ append_assoc c.loop-k.out.items _ _
          ∙ ap (λ (xs : List ℕ). c.loop-k.out.items ++ xs)
          (sym (extensions-more distance os k ((length os - k) * 8 + distance + get_or os k 0) less refl))
          ∙ c.loop-k.invariant.text;
      long = λ j early. elim (nat_cases j k) [
        | inl before ↦ c.loop-k.invariant.long j before
        | inr late ↦ subst (λ i. length os * 8 + distance + get_or os i 0 < 4294967296) {x = k} {y = j} (omega (arith, early, late)) (omega (arith, small, near))
      ];
    }

pub returns-clause-text : goal.returns-clause-text
returns-clause-text c =
    let past : length c.args.offsets.now ≤ c.loop-k.k = omega arith in
    sym (append-nil c.loop-k.out.items)
    ∙ ap (λ (xs : List ℕ). c.loop-k.out.items ++ xs) (sym (extensions-done c.args.distance c.args.offsets.now c.loop-k.k past))
    ∙ c.loop-k.invariant.text
