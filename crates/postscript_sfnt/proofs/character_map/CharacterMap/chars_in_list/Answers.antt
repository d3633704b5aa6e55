use Rattle.std.proofs.Common.{◌≡◌, ◌++◌, ◌∷◌, [], ℕ, List, sym, subst, ap, ◌∙◌, get_or, arith}
use Rattle.postscript_sfnt.specs.Maps.{AreAll, Maps}
use Rattle.postscript_sfnt.proofs.Listing.{all_skipped, all_pushed, all_there, next_here}
use Rattle.postscript_sfnt.proofs.character_map.CharacterMap.chars_in_list.Goals as goal
use Rattle.postscript_sfnt.proofs.character_map.CharacterMap.chars_in_list.Goals.{then-glyph-ne0+in_ok-push, else-glyph-ne0}

pub loop-char-preserved : goal.loop-char-preserved
loop-char-preserved c =
    let map = c.args.self.now in
    let char : ℕ = c.loop-char.char in
    let glyph : ℕ = get_or c.args.glyphs.now char 0 in
    let all : List (ℕ × ℕ) = c.loop-char.all.items in
    let maps : Maps map char glyph = c.requires.each char c.loop-char-test.true in
    λ rest behind.
    elim c.if-glyph-ne0.branch [
      | then-glyph-ne0+in_ok-push w ↦
          let items : c.if-glyph-ne0.all.items ≡ all ++ (char, glyph) ∷ [] = ap (λ v. v.items) w.all-is ∙ w.in_ok-push.ensures.items in
          subst (λ (xs : List (ℕ × ℕ)). AreAll map 0 (xs ++ rest)) (sym items)
          (all_pushed map char char glyph all rest c.loop-char.invariant
          (next_here map char glyph c.loop-char-test.true (omega (arith, w.if-glyph-ne0.true)) maps) behind)
      | else-glyph-ne0 w ↦
          let items : c.if-glyph-ne0.all.items ≡ all = ap (λ v. v.items) w.all-is in
          subst (λ (xs : List (ℕ × ℕ)). AreAll map 0 (xs ++ rest)) (sym items)
          (c.loop-char.invariant rest (all_skipped map char rest (subst (λ n. Maps map char n) w.if-glyph-ne0.false maps) behind))
    ]

pub returns : goal.returns
returns c =
    all_there c.args.self.now c.loop-char.char c.loop-char.all.items c.loop-char.invariant
    (λ k from below. absurd (omega (arith, from, below, c.loop-char-test.false)))
