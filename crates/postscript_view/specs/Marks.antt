-- Marks before the ranges of a charset: the number of glyphs covered before some of the ranges.
use Rattle.std.specs.Prelude.{◌≡◌, ℕ, ◌+◌, ◌*◌, ◌/◌, ◌<◌, min, List, length, slice_index}
use Rattle.std.proofs.Props.{props}
use Rattle.postscript_view.specs.CharSet.{covered}
use Rattle.postscript_view.specs.declared.char_set.Identifiers.{Identifiers}
use Rattle.postscript_view.specs.declared.char_set.Identifiers.TheVariants.{ISOAdobe, Expert, ExpertSubset, Listed, Ranges1, Ranges2}
use Rattle.postscript_view.specs.declared.marks.Marks.{Marks}

-- Each of the first `set` marks is before a range, and has the number of glyphs in the ranges before that one.
abbrev pub AreSet : List ℕ → (size : ℕ) → (places covers : List ℕ) → (set : ℕ) → Type 0
AreSet ranges size places covers set = (m : ℕ) → m < set → slice_index covers m ≡ covered ranges size (slice_index places m)

abbrev pub AreBefore : List ℕ → (size : ℕ) → Marks → Type 0
AreBefore ranges size marks = AreSet ranges size marks.places marks.covers marks.set

-- Mark m is before range m * step, and the next mark is due before the range `next`.
abbrev pub AreEvery : (step : ℕ) → Marks → (next : ℕ) → Type 0
AreEvery step marks next = ((m : ℕ) → m < marks.set → slice_index marks.places m ≡ m * step) × (next ≡ marks.set * step)

-- the number of ranges from each mark to the next: one more than a 64th of the ranges, or of the glyphs if there are fewer
abbrev pub step_of : List ℕ → (size glyphs : ℕ) → ℕ
step_of ranges size glyphs = min (length ranges / (2 + size)) glyphs / 64 + 1

-- The marks extend to the last range that begins with one of the glyphs: the next mark is due after each such range. So the last mark up to
-- such a range is fewer than `step` ranges before it.
abbrev pub AreSpread : List ℕ → (size glyphs : ℕ) → Marks → Type 0
AreSpread ranges size glyphs marks = (next : ℕ) × AreEvery (step_of ranges size glyphs) marks next
    × ((r : ℕ) → r < length ranges / (2 + size) → covered ranges size r < glyphs → r < next)

-- the ranges of a charset have such marks
abbrev pub HasMarks : Identifiers → (glyphs : ℕ) → Marks → Type 0
HasMarks ISOAdobe glyphs marks = Unit {0}
HasMarks Expert glyphs marks = Unit {0}
HasMarks ExpertSubset glyphs marks = Unit {0}
HasMarks (Listed identifiers) glyphs marks = Unit {0}
HasMarks (Ranges1 ranges) glyphs marks = AreSpread ranges.now 1 glyphs marks
HasMarks (Ranges2 ranges) glyphs marks = AreSpread ranges.now 2 glyphs marks

-- the marks are before ranges of the charset; a charset without ranges needs none
abbrev pub AreMarks : Identifiers → Marks → Type 0
AreMarks ISOAdobe marks = Unit {0}
AreMarks Expert marks = Unit {0}
AreMarks ExpertSubset marks = Unit {0}
AreMarks (Listed identifiers) marks = Unit {0}
AreMarks (Ranges1 ranges) marks = AreBefore ranges.now 1 marks
AreMarks (Ranges2 ranges) marks = AreBefore ranges.now 2 marks

-- any two proofs about the same marks are equal
pub marks_prop : (identifiers : Identifiers) (marks : Marks) → IsProp (AreMarks identifiers marks)
marks_prop ISOAdobe marks = Prim.hlevel props
marks_prop Expert marks = Prim.hlevel props
marks_prop ExpertSubset marks = Prim.hlevel props
marks_prop (Listed identifiers) marks = Prim.hlevel props
marks_prop (Ranges1 ranges) marks = Prim.hlevel props
marks_prop (Ranges2 ranges) marks = Prim.hlevel props
