use Rattle.std.proofs.Common.{◌≡◌, ap, subst, sym, ◌+◌, ℕ, List, ◌∙◌, refl, ◌<◌, length, get_or, None, true, false}
use Rattle.postscript_layout.specs.Numbers.{word}
use Rattle.std.specs.Prelude.{slice_index, Option}
use Rattle.postscript_layout_write.specs.Scopes.{leaves_out, pair_by}
use Rattle.postscript_layout_write.specs.declared.values.Adjustment.{Adjustment}
use Rattle.postscript_layout_write.proofs.Listing.{entries-as, entries-none, lookup-none, pair-as, pair-none}
use Rattle.postscript_layout_write.proofs.entries.entries_of.Goals as goal

pub returns-then-leaves_out-clause-exact : goal.returns-then-leaves_out-clause-exact
returns-then-leaves_out-clause-exact c =
    let gpos = c.args.gpos.now in
    let lookup = c.args.lookup in
    let left : leaves_out c.args.scope (word gpos (lookup + 2)) ≡ true = ap (leaves_out c.args.scope) (sym c.word.ensures.exact) ∙ sym c.leaves_out.ensures ∙ c.if-leaves_out.true in
    entries-none (λ y. pair_by c.args.scope gpos lookup c.args.first (slice_index c.args.kept.now y)) _ _ c.new.ensures.items
    (λ y less. pair-none c.args.scope gpos lookup c.args.first (slice_index c.args.kept.now y) left)

pub returns-then-not-has_index-clause-exact : goal.returns-then-not-has_index-clause-exact
returns-then-not-has_index-clause-exact c =
    let gpos = c.args.gpos.now in
    let lookup = c.args.lookup in
    let f : ℕ → Adjustment = λ y. pair_by c.args.scope gpos lookup c.args.first (slice_index c.args.kept.now y) in
    let kept : leaves_out c.args.scope (word gpos (lookup + 2)) ≡ false = ap (leaves_out c.args.scope) (sym c.word.ensures.exact) ∙ sym c.leaves_out.ensures ∙ c.if-leaves_out.false in
    let none : (j : ℕ) → j < length c.in_ok-indices.indices.items → get_or c.in_ok-indices.indices.items j None ≡ None =
    subst (λ (xs : List (Option ℕ)). (j : ℕ) → j < length xs → get_or xs j None ≡ None) c.deref.ensures.value (c.if-not-has_index.ensures refl) in
    entries-none f _ _ c.new-then-not-has_index.ensures.items
    (λ y less. (let second = slice_index c.args.kept.now y in sym (pair-as c.args.scope gpos lookup c.args.first second kept)
    ∙ lookup-none gpos lookup c.args.first second _ c.in_ok-indices.ensures.exact none))

pub returns-clause-exact : goal.returns-clause-exact
returns-clause-exact c =
    let gpos = c.args.gpos.now in
    let lookup = c.args.lookup in
    let kept : leaves_out c.args.scope (word gpos (lookup + 2)) ≡ false = ap (leaves_out c.args.scope) (sym c.word.ensures.exact) ∙ sym c.leaves_out.ensures ∙ c.if-leaves_out.false in
    entries-as _ (λ y. pair_by c.args.scope gpos lookup c.args.first (slice_index c.args.kept.now y)) _ _
    (λ y less. pair-as c.args.scope gpos lookup c.args.first (slice_index c.args.kept.now y) kept) c.in_ok-entries.ensures.exact
