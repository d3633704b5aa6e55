use Rattle.std.proofs.Common.{◌≡◌, ◌++◌, List, map, take}
use Rattle.std.specs.List.{Contains}
use Rattle.postscript_instance_file.specs.Names.{IsInEnglish}
use Rattle.postscript_instance_file.specs.declared.records.Text.{Text}
use Rattle.postscript_text.specs.declared.names.Record.{Record}
use Rattle.postscript_instance_file.proofs.records.put_new.Given as goal

-- the records so far belong to the texts so far
abbrev pub invariant-loop-text : goal.invariant-loop-text
invariant-loop-text l =
    (new : List Record) × (l.records.items ≡ l.initial.records.items ++ new)
    × (map (λ (entry : Record). entry.identifier) new ≡ map (λ (text : Text). text.identifier) (take l.text-index l.texts))
    × ((entry : Record) → Contains new entry → IsInEnglish entry)
