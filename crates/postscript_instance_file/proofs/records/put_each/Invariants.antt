use Rattle.std.proofs.Common.{◌≡◌, map, take}
use Rattle.postscript_instance_file.specs.declared.records.Text.{Text}
use Rattle.postscript_instance_file.proofs.records.put_each.Given as goal

-- the texts so far have these identifiers
abbrev pub invariant-loop-identifier : goal.invariant-loop-identifier
invariant-loop-identifier l = map (λ (text : Text). text.identifier) l.texts.items ≡ take l.identifier-index l.identifiers
