use Rattle.std.proofs.Common.{sym, subst, List, ℕ, [], ◌∷◌, get_or, take}
use Rattle.std.proofs.lemmas.List.{take_more}
use Rattle.postscript_layout.specs.Steps.{HoldsMore}
use Rattle.postscript_layout.proofs.Following.{holds-none, holds-then}
use Rattle.postscript_layout.proofs.glyph_set.GlyphSet.hold_all.Goals as goal

pub loop-i-init : goal.loop-i-init
loop-i-init c = holds-none c.args.self.now

pub loop-i-preserved : goal.loop-i-preserved
loop-i-preserved c =
    let glyphs = c.args.glyphs.now in
    let i = c.loop-i.i in
    subst (λ (xs : List ℕ). HoldsMore c.args.self.now xs c.hold.new.self) (sym (take_more glyphs i 0 c.loop-i-test.true))
    (holds-then c.args.self.now c.loop-i.self c.hold.new.self (take i glyphs) (get_or glyphs i 0 ∷ []) c.loop-i.invariant c.hold.ensures)
