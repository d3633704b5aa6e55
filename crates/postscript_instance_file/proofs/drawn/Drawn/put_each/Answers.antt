use Rattle.std.proofs.Common.{refl, subst, ℕ, ◌-◌, inr, arith, ◌∙◌}
use Rattle.std.proofs.lemmas.Result.{err_from_is_err_and}
use Rattle.postscript_instance_file.specs.Glyphs.{IsUndrawnBy, NamesUndrawn, none, one_more}
use Rattle.postscript_instance_file.proofs.drawn.Drawn.put_each.Goals as goal

pub loop-gid-init : goal.loop-gid-init
loop-gid-init g c = record {
  kept = refl;
  limit = refl;
  taken = (0, none, omega arith);
}

pub returns-in_err-frame-clause-why : goal.returns-in_err-frame-clause-why
returns-in_err-frame-clause-why g c =
    let error = err_from_is_err_and c.from_residual.result c.from_residual.ensures.1 in
    let so_far = c.loop-gid.invariant in
    let why = c.in_err-frame.ensures.why in
    let at = λ (limit left : ℕ). IsUndrawnBy c.args.face.now c.args.location.now limit left c.loop-gid.gid why.0 in
    let names : NamesUndrawn c.args.face.now c.args.location.now c.args.budget.now.limit c.args.budget.now.left c.in_err-frame.field-0.0 = record {
      gid = c.loop-gid.gid;
      there = omega (arith, c.requires);
      total = so_far.taken.0;
      before = so_far.taken.1;
      cause = why.0;
      refused =
          subst (λ (left : ℕ). at c.args.budget.now.limit left) so_far.taken.2
          (subst (λ (limit : ℕ). at limit c.loop-gid.budget.left) so_far.limit why.1);
      is = why.2;
    } in
    rw (error.1, error.2) (inr names)

pub loop-gid-preserved : goal.loop-gid-preserved
loop-gid-preserved g c =
    let so_far = c.loop-gid.invariant in
    let price = c.in_ok-frame.ensures.pays in
    record {
      kept = c.in_ok-put.ensures.kept ∙ so_far.kept;
      limit = c.in_ok-frame.ensures.limit ∙ so_far.limit;
      taken = (_, one_more _ _ price.0 so_far.taken.1 price.1, omega (arith, so_far.taken.2, price.2));
    }
