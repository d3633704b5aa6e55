use Rattle.std.proofs.Common.{arith}
use Rattle.std.proofs.lemmas.Option.{slice_get_within}
use Rattle.postscript_files.proofs.flat.has.Goals as goal

pub returns : goal.returns
returns c =
    let past = c.loop-table-test.false in (
      λ f. absurd (cc),
      λ h. absurd (
          let within = slice_get_within c.args.tables.now h.0 h.1 h.2 in
          c.loop-table.invariant h.0 h.1 (omega (arith, within, past)) h.2 h.3),
    )
