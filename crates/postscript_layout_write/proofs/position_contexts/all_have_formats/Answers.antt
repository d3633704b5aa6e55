use Rattle.std.proofs.Common.{◌≡◌, ◌<◌, ◌∙◌, sym, ap, subst, arith, ℕ, Bool, None, Some, true, false}
use Rattle.std.specs.Prelude.{Option, is_none, if◌then◌else◌}
use Rattle.postscript_layout_write.specs.Contexts.{has_format}
use Rattle.postscript_layout_write.specs.Marks.{typed_at}
use Rattle.postscript_layout_write.proofs.Firsts.{first-found, first-none-more}
use Rattle.postscript_layout_write.proofs.position_contexts.all_have_formats.Goals as goal

pub loop-j-preserved : goal.loop-j-preserved
loop-j-preserved c =
    let gpos = c.args.gpos.now in
    let f : ℕ → Option ℕ = λ j. if has_format gpos (typed_at gpos c.args.lookup c.args.kind j) then None else Some j in
    let here : has_format gpos (typed_at gpos c.args.lookup c.args.kind c.loop-j.j) ≡ true =
    sym (c.has_format.ensures ∙ ap (has_format gpos) c.subtable_at.ensures.exact) ∙ c.if-not-has_format.false in
    record {
      before = first-none-more f c.loop-j.j c.loop-j.invariant.before (ap (λ (b : Bool). if b then None else Some c.loop-j.j) here);
      spent = omega (arith, c.pay.ensures.spends, c.loop-j.invariant.spent);
    }

pub returns-then-not-has_format-clause-exact : goal.returns-then-not-has_format-clause-exact
returns-then-not-has_format-clause-exact c =
    let gpos = c.args.gpos.now in
    let f : ℕ → Option ℕ = λ j. if has_format gpos (typed_at gpos c.args.lookup c.args.kind j) then None else Some j in
    let here : has_format gpos (typed_at gpos c.args.lookup c.args.kind c.loop-j.j) ≡ false =
    sym (c.has_format.ensures ∙ ap (has_format gpos) c.subtable_at.ensures.exact) ∙ c.if-not-has_format.true in
    sym (ap is_none (first-found f c.loop-j.j _ c.loop-j.j c.loop-j.invariant.before (ap (λ (b : Bool). if b then None else Some c.loop-j.j) here)
    (subst (λ n. c.loop-j.j < n) c.word-count.ensures.exact c.loop-j-test.true)))
