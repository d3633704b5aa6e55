use Rattle.std.proofs.Common.{◌<◌, ◌*◌, ◌++◌, ◌∙◌, ap, sym, subst, List, ℕ}
use Rattle.std.specs.List.{All}
use Rattle.postscript_layout.specs.Numbers.{words}
use Rattle.postscript_layout_write.proofs.contexts.actions_of.Goals as goal

pub returns-clause-small : goal.returns-clause-small
returns-clause-small c = subst (λ (xs : List ℕ). All (λ n. n < 65536) xs)
    (sym (c.in_ok-read_glyphs.ensures.exact ∙ ap (λ xs. xs ++ words c.args.gsub.now c.args.parts.actions_at (c.args.parts.actions * 2)) c.new-actions.ensures.items))
    c.in_ok-read_glyphs.ensures.small
