use Rattle.std.proofs.Common.{◌∙◌, ap, sym, ◌+◌, ◌<◌, ◌≤◌, ◌++◌, length, drop, arith}
use Rattle.std.proofs.lemmas.List.{append_assoc, append-nil}
use Rattle.postscript_sfnt_write.specs.Grouping.{groups_text}
use Rattle.postscript_sfnt_write.proofs.Groups.{group_below, group_is, groups_done, groups_more, no_group}
use Rattle.postscript_sfnt_write.proofs.mapping.put_groups.Goals as goal

pub loop-group-preserved : goal.loop-group-preserved
loop-group-preserved c =
    let less : c.loop-group.group-index < length c.args.groups.now = omega arith in (
      ap (λ xs. xs ++ groups_text (drop (c.loop-group.group-index + 1) c.args.groups.now)) c.in_ok-put_group.ensures.text
          ∙ append_assoc c.loop-group.out.items _ _
          ∙ ap (λ xs. c.loop-group.out.items ++ xs) (sym (groups_more c.args.groups.now c.loop-group.group-index less))
          ∙ c.loop-group.invariant.0,
      λ k g within given. grind
          (arith, c.loop-group.invariant.1 k g, group_is c.args.groups.now k g no_group given, c.in_ok-put_group.ensures.fits),
    )

pub returns-clause-text : goal.returns-clause-text
returns-clause-text c =
    let past : length c.args.groups.now ≤ c.loop-group.group-index = omega arith in
    sym (append-nil c.loop-group.out.items)
    ∙ ap (λ xs. c.loop-group.out.items ++ xs) (sym (groups_done c.args.groups.now c.loop-group.group-index past)) ∙ c.loop-group.invariant.0

pub returns-clause-fit : goal.returns-clause-fit
returns-clause-fit c = λ i g given.
    let less = group_below c.args.groups.now i g given in
    c.loop-group.invariant.1 i g (omega (arith, less)) given
