use Rattle.std.proofs.Common.{◌≡◌, ◌-◌, ◌++◌, ◌∷◌, ◌∙◌, [], ℕ, List, ap, get_or, length, length-append, arith}
use Rattle.postscript_layout_write.proofs.Placing.{starts-more}
use Rattle.postscript_layout_write.proofs.positioning.starts_of.Goals as goal

pub loop-i-preserved : goal.loop-i-preserved
loop-i-preserved c =
    let ds = c.args.distances.now in
    let size = c.args.size in
    let i = c.loop-i.i in
    let m = length ds - 1 - i in
    let many = c.loop-i.invariant.many in
    let old = c.loop-i.offsets.items in
    let pushed : c.push.new.self.items ≡ old ++ (size - get_or ds m 0) ∷ [] = c.in_ok-push.ensures.items ∙ ap (λ n. old ++ n ∷ []) c.saturating_sub.ensures in
    let same = ap length pushed in
    record {
      many = omega (arith, many, same, length-append old ((size - get_or ds m 0) ∷ []));
      each = λ j k less at. (ap (λ (xs : List ℕ). get_or xs j 0) pushed
          ∙ starts-more size ds old i m many (omega arith) c.loop-i.invariant.each j k less at);
    }
