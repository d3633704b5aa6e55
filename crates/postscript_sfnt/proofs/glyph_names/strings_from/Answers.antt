use Rattle.std.proofs.Common.{sym, subst, ℕ, List, ◌+◌, length}
use Rattle.std.specs.Borrow.{Bor}
use Rattle.postscript_sfnt.proofs.Strings.{AreSoFar, one_more}
use Rattle.postscript_sfnt.proofs.glyph_names.strings_from.Goals as goal

pub loop-text-preserved : goal.loop-text-preserved
loop-text-preserved c =
    subst (λ (xs : List (Bor (List ℕ))). AreSoFar c.args.table.now (c.loop-text.place + (1 + length c.in-Some.text.now)) xs)
    (sym c.in_ok-push.ensures.items)
    (one_more c.args.table.now c.loop-text.place c.loop-text.strings.items c.in-Some.text c.loop-text.invariant c.in-Some.ensures.is
    c.in-Some.ensures.size)
