-- Drawn segments, converted for the specification.
use Rattle.std.specs.Prelude.{List, map, Result, Ok, Err}
use Rattle.postscript_c.specs.Segments.{meant}
use Rattle.postscript_c.specs.declared.segments.Segments.{Segments}
use Rattle.postscript_outline.specs.declared.segment.Segment.{Segment}

abbrev pub segments_of : Segments → List Segment
segments_of sketch = map meant sketch.segments.items

abbrev pub segments_shown : {E : Type 0} → Result Segments E → Result (List Segment) E
segments_shown (Ok sketch) = Ok (segments_of sketch)
segments_shown (Err e) = Err e
