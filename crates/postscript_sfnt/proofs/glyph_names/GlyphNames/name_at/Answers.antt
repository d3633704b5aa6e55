use Rattle.std.proofs.Common.{ℕ, List, ◌-◌, sym, ap, ◌∙◌}
use Rattle.std.specs.Borrow.{Bor}
use Rattle.std.specs.Prelude.{slice_get}
use Rattle.postscript_sfnt.proofs.Strings.{own}
use Rattle.postscript_sfnt.proofs.glyph_names.GlyphNames.name_at.Goals as goal

pub returns-then-number-ge258 : goal.returns-then-number-ge258
returns-then-number-ge258 c =
    own c.args.self.now.table.now c.args.self.now.strings.items c.args.number c.string_in.result c.args.self.now.strung
    c.if-number-ge258.true
    (ap (λ (xs : List (Bor (List ℕ))). slice_get xs (c.args.number - 258)) (sym c.deref.ensures.value) ∙ sym c.string_in.ensures)
