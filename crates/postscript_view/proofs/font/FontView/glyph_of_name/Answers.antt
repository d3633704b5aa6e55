use Rattle.std.proofs.Common.{◌≡◌, rules, arith}
use Rattle.postscript_view.specs.Strings.{HasName}
use Rattle.postscript_view.specs.Value.{view_shown}
use Rattle.postscript_view.proofs.Naming.{no_more_names, one_name, one_more_name}
use Rattle.postscript_view.proofs.font.FontView.glyph_of_name.Goals as goal
use Rattle.postscript_view.proofs.font.FontView.glyph_of_name.Goals.{in-Some+else-eq, in_default}

pub loop-glyph-preserved : goal.loop-glyph-preserved
loop-glyph-preserved c =
    let font = view_shown c.args.self.now in
    let set = c.args.set.now in
    let name = c.args.name.now in
    let glyph = c.loop-glyph.glyph in
    let here : HasName font set glyph name → ⊥ =
    λ has. elim c.match-name.branch [
      | in-Some+else-eq w ↦
          let same : w.in-Some.found.now ≡ name = one_name font set glyph w.in-Some.found.now name w.in-Some.ensures.found has in
          absurd (search (rules, same, w.eq.ensures, w.if-eq.false))
      | in_default w ↦ w.in_default.ensures.none name has
    ] in
    one_more_name font set name glyph c.loop-glyph.invariant here

pub returns-clause-none : goal.returns-clause-none
returns-clause-none c =
    no_more_names (view_shown c.args.self.now) c.args.set.now c.args.name.now c.loop-glyph.glyph
    (omega (arith, c.loop-glyph-test.false, c.len-glyph-end.ensures)) c.loop-glyph.invariant
