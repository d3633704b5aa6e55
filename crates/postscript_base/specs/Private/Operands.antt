-- Operands that are borrowed or constant.
use Rattle.std.specs.Prelude.{List}
use Rattle.postscript_base.specs.Compact1.Decimal.{Decimal}
use Rattle.postscript_base.specs.declared.compact1.operands.Kind.{Kind}
use Rattle.postscript_base.specs.declared.compact1.operands.Kind.TheVariants.{Lent, One, Four, Six}

abbrev pub items : Kind → List Decimal
items (Lent operands) = operands.now
items (One operands) = operands
items (Four operands) = operands
items (Six operands) = operands
