use Rattle.std.proofs.Common.{inr}
use Rattle.postscript_base.specs.Index.Lent.{items_of}
use Rattle.postscript_c.proofs.glyph.cid_part.Goals as goal

pub returns-in-Ok : goal.returns-in-Ok
returns-in-Ok c = (
  c.in-Some.item.now,
  (items_of c.in_ok-dictionaries.dictionaries, c.in_ok-dictionaries.ensures.exact 0, c.in-Some.ensures.found),
  c.in-Ok.ensures.part,
)

pub returns-in-Err : goal.returns-in-Err
returns-in-Err c = λ other.
    inr (
      c.in-Some.item.now,
      (items_of c.in_ok-dictionaries.dictionaries, c.in_ok-dictionaries.ensures.exact 0, c.in-Some.ensures.found),
      c.in-Err.ensures.exact 0 other,
    )

pub returns-in_default : goal.returns-in_default
returns-in_default c = (items_of c.in_ok-dictionaries.dictionaries, c.in_ok-dictionaries.ensures.exact 0, c.in_default.ensures.none)
