use Rattle.std.proofs.Common.{◌⊎◌, inr, subst}
use Rattle.postscript_instance.specs.Glyphs.{DoesIn, HasNoRoom, LacksCode}
use Rattle.postscript_instance.specs.Tables.{IsTable}
use Rattle.postscript_instance.proofs.tables.table_at.Goals as goal

pub returns-in-Ok-clause-written : goal.returns-in-Ok-clause-written
returns-in-Ok-clause-written c = record {
  place = c.in_ok-place.place;
  is_place = c.in_ok-place.ensures.is;
  widths = c.in_ok-widths.widths.items;
  are_widths = c.in_ok-widths.ensures.are;
  is_table =
      subst (λ widths. IsTable (DoesIn c.args.numbers c.args.font.now c.in_ok-place.place) c.args.font.now c.in_ok-place.place c.args.naming.now widths
      c.in-Ok.bytes.items) c.deref.ensures.value
      c.in-Ok.ensures.written;
}

pub returns-clause-refused : goal.returns-clause-refused
returns-clause-refused c =
    let lacks = subst (λ widths. LacksCode c.args.numbers c.args.font.now c.in_ok-place.place widths c.in-Err.e
    ⊎ HasNoRoom c.args.numbers c.args.font.now c.args.naming.now c.in_ok-place.place widths c.in-Err.e) c.deref.ensures.value
    c.in-Err.ensures.refused in
    inr (inr (c.in_ok-place.place, c.in_ok-widths.widths.items, c.in_ok-place.ensures.is, c.in_ok-widths.ensures.are, lacks))
