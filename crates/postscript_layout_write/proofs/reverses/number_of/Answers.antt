use Rattle.std.proofs.Common.{◌≡◌, ◌<◌, refl, sym, subst, ℕ, arith, rules}
use Rattle.std.specs.Prelude.{IfSome, None, Option, Some}
use Rattle.postscript_layout_write.specs.Renumbering.{new_number}
use Rattle.postscript_layout_write.proofs.Renumbered.{number-small}
use Rattle.postscript_layout_write.proofs.reverses.number_of.Goals as goal

small : (x : Option ℕ) → ((n : ℕ) → x ≡ Some n → n < 65536) → IfSome x (λ n. n < 65536)
small None h = search rules
small (Some n) h = h n refl

pub returns-in-Some-clause-small : goal.returns-in-Some-clause-small
returns-in-Some-clause-small c =
    let kept = c.args.kept.now in
    let glyph = c.in-Some.glyph in
    let less : glyph < 65536 = search rules in
    let few = c.requires.small in
    subst (λ (x : Option ℕ). IfSome x (λ n. n < 65536)) (sym (c.requires.exact.each glyph less))
    (small (new_number kept glyph) (λ n is. (let low = number-small kept glyph n is in omega (arith, low, few))))
