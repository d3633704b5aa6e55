use Rattle.std.proofs.Common.{◌≡◌, ◌∙◌, ap, rules, sym, subst, ◌+◌, ◌∷◌, [], ◌++◌, List, ℤ, length, to_z, of_z, w32, arith}
use Rattle.std.proofs.lemmas.Grind.{length_at_push}
use Rattle.postscript_c.specs.Identifiers.{AreIdentifiers, IsIdentifier}
use Rattle.postscript_c.proofs.Identifying.{added}
use Rattle.postscript_c.proofs.identifiers.all_told.Goals as goal

pub loop-glyph-preserved : goal.loop-glyph-preserved
loop-glyph-preserved c =
    let before = c.loop-glyph.all.items in
    let one = c.told_of.result in
    let told = c.loop-glyph.invariant in
    let same : to_z w32 (of_z w32 one) ≡ one = search rules in
    let reached : c.loop-glyph.glyph ≡ 0 + length before = omega (arith, told.0) in
    let here = subst (λ glyph. IsIdentifier c.args.set.now glyph one) reached c.told_of.ensures in
    let P : List ℤ → Type 0 = λ items. AreIdentifiers c.args.set.now (c.loop-glyph.glyph + 1) items in
    let all : P (before ++ one ∷ []) = (
      (length_at_push before one).1 ∙ ap (λ n. n + 1) told.0,
      added c.args.set.now 0 before one told.1 here,
    ) in
    subst P (sym c.in_ok-push.ensures.items) (subst (λ n. P (before ++ n ∷ [])) (sym same) all)
