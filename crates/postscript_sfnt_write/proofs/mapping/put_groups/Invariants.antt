use Rattle.std.proofs.Common.{◌≡◌, ◌<◌, ℕ, ◌++◌, drop}
use Rattle.postscript_sfnt_write.specs.Grouping.{GroupFits, IsGroup, groups_text}
use Rattle.postscript_sfnt_write.specs.declared.mapping.Group.{Group}
use Rattle.postscript_sfnt_write.proofs.mapping.put_groups.Given as goal

-- what is still to be written completes the groups
abbrev pub invariant-loop-group : goal.invariant-loop-group
invariant-loop-group l = (l.out.items ++ groups_text (drop l.group-index l.groups) ≡ l.fn.out.items ++ groups_text l.groups)
    × ((k : ℕ) (g : Group) → k < l.group-index → IsGroup l.groups k g → GroupFits g)
