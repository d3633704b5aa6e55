use Rattle.std.proofs.Common.{◌≡◌, ◌++◌, drop, flat_map}
use Rattle.postscript_sequences.proofs.Glyphs.{glyphs_in}
use Rattle.postscript_sequences.proofs.sequences.Sequences.glyphs_of.Given as goal

-- with those of the parts that are left, the glyphs are those of all parts
abbrev pub invariant-loop-part : goal.invariant-loop-part
invariant-loop-part l = l.glyphs.items ++ flat_map glyphs_in (drop l.part-index l.part-items) ≡ flat_map glyphs_in l.part-items
