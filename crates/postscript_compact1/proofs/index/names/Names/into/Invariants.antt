use Rattle.std.proofs.Common.{◌≡◌, map, string_bytes}
use Rattle.postscript_compact1.specs.Texts.{text}
use Rattle.postscript_compact1.proofs.index.names.Names.into.Given as goal

-- the texts of the items so far
abbrev pub invariant-loop-item : goal.invariant-loop-item
invariant-loop-item l = map string_bytes l.texts.items ≡ map (λ item. text item.items) l.yielded
