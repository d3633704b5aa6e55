use Rattle.std.proofs.Common.{◌≡◌, ◌<◌, ℕ, ◌++◌, drop}
use Rattle.postscript_sfnt_write.specs.Grouping.{MappingFits, grouped}
use Rattle.postscript_sfnt_write.specs.Mappings.{IsMapping}
use Rattle.postscript_sfnt_write.specs.declared.mapping.Mapping.{Mapping}
use Rattle.postscript_sfnt_write.proofs.mapping.groups_from.Given as goal

-- the groups so far, with those of what is left behind the open one, are all
abbrev pub invariant-loop-mapping : goal.invariant-loop-mapping
invariant-loop-mapping l = (l.groups.items ++ grouped l.group (drop l.mapping-index l.mappings) ≡ grouped l.fn.first l.mappings)
    × ((k : ℕ) (m : Mapping) → k < l.mapping-index → IsMapping l.mappings k m → MappingFits m)
