use Rattle.std.proofs.Common.{◌≡◌, rules, inl, sym, subst, ℤ, to_z, of_z, w32}
use Rattle.postscript_c.specs.Measured.{TellsMeasuredOf}
use Rattle.postscript_c.proofs.measured.tell_measured.Goals as goal

pub returns-in-Ok : goal.returns-in-Ok
returns-in-Ok c =
    let same : to_z w32 (of_z w32 c.tell_measured_of.result) ≡ c.tell_measured_of.result = search rules in
    let P : ℤ → Type 0 = λ status. TellsMeasuredOf c.in-Ok.file c.args.values.now c.args.glyph c.args.limit status c.args.advance.now
    c.tell_measured_of.new.advance in
    inl (c.in-Ok.file, c.in-Ok.ensures.exact, subst P (sym same) c.tell_measured_of.ensures)
