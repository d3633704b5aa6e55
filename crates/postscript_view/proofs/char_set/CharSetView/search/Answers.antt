use Rattle.std.proofs.Common.{arith}
use Rattle.std.proofs.lemmas.Bool.Decides.{nat_tests}
use Rattle.postscript_view.specs.Naming.{Names}
use Rattle.postscript_view.proofs.Naming.{named_once, one_more}
use Rattle.postscript_view.proofs.char_set.CharSetView.search.Goals as goal
use Rattle.postscript_view.proofs.char_set.CharSetView.search.Goals.{in-Some+else-found-identifier, in_default}

pub loop-glyph-preserved : goal.loop-glyph-preserved
loop-glyph-preserved c =
    let set = c.args.self.now in
    let glyph = c.loop-glyph.glyph in
    let here : Names set glyph c.args.identifier → ⊥ =
    λ names. elim c.match-identifier.branch [
      | in-Some+else-found-identifier w ↦ absurd
          (grind (
            arith,
            nat_tests,
            named_once set glyph w.in-Some.found c.args.identifier w.in-Some.ensures.found names,
            w.if-found-identifier.false,
          ))
      | in_default w ↦ w.in_default.ensures.none c.args.identifier names
    ] in
    one_more set c.args.identifier glyph c.loop-glyph.invariant here
