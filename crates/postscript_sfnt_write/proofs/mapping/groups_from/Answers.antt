use Rattle.std.proofs.Common.{◌∙◌, ap, sym, ◌+◌, ◌<◌, ◌≤◌, ◌++◌, length, drop, arith}
use Rattle.postscript_sfnt_write.proofs.Groups.{few, grouped_done, mapping_below, mapping_is, no_mapping, rest_more}
use Rattle.postscript_sfnt_write.proofs.mapping.groups_from.Goals as goal

pub loop-mapping-preserved : goal.loop-mapping-preserved
loop-mapping-preserved c =
    let less : c.loop-mapping.mapping-index < length c.args.mappings.now = omega arith in (
      c.in_ok-group.ensures.exact (drop (c.loop-mapping.mapping-index + 1) c.args.mappings.now)
          ∙ ap (λ xs. c.loop-mapping.groups.items ++ xs)
          (sym (rest_more c.loop-mapping.group c.args.mappings.now c.loop-mapping.mapping-index less))
          ∙ c.loop-mapping.invariant.0,
      λ k m within given. grind
          (arith, c.loop-mapping.invariant.1 k m, mapping_is c.args.mappings.now k m no_mapping given, c.in_ok-group.ensures.fits),
    )

pub returns-clause-exact : goal.returns-clause-exact
returns-clause-exact c =
    let past : length c.args.mappings.now ≤ c.loop-mapping.mapping-index = omega arith in
    c.in_ok-push.ensures.items
    ∙ ap (λ xs. c.loop-mapping.groups.items ++ xs)
    (sym (grouped_done c.loop-mapping.group c.args.mappings.now c.loop-mapping.mapping-index past)) ∙ c.loop-mapping.invariant.0

pub returns-clause-fit : goal.returns-clause-fit
returns-clause-fit c = λ i m given.
    let less = mapping_below c.args.mappings.now i m given in
    c.loop-mapping.invariant.1 i m (omega (arith, less)) given

pub returns-clause-few : goal.returns-clause-few
returns-clause-few c =
    let e = ap length (returns-clause-exact c) in
    let less = few c.args.first c.args.mappings.now in
    omega (arith, e, less)
