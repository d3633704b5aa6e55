use Rattle.std.proofs.Common.{◌≡◌, rules, ◌∙◌, w32, w64, to_z, of_z}
use Rattle.postscript_instance.proofs.Nearest.{no-way-held, step-found}
use Rattle.postscript_instance.proofs.rounding.rounded_step.Goals as goal

pub returns-in_err-way : goal.returns-in_err-way
returns-in_err-way c =
    let from : to_z w32 (of_z w32 c.args.from) ≡ c.args.from = search rules in
    let distance : to_z w64 (of_z w64 c.args.distance) ≡ c.args.distance = search rules in
    let start : to_z w32 (of_z w32 c.in_ok-start.start) ≡ c.in_ok-start.start = search rules in
    let to : to_z w32 (of_z w32 c.in_ok-to.to) ≡ c.in_ok-to.to = search rules in
    let end : to_z w32 (of_z w32 c.in_ok-end.end) ≡ c.in_ok-end.end = search rules in
    let a = simp from at c.in_ok-start.ensures in
    let b = simp (from, distance) at c.in_ok-to.ensures in
    let d = simp to at c.in_ok-end.ensures in
    let e = simp (start, end) at c.in_err-way.ensures in
    rw c.from_residual-in_err-way.ensures
    (no-way-held c.args.from c.args.distance c.in_ok-start.start c.in_ok-to.to c.in_ok-end.end a.0 b.0 d.0 e)

pub returns : goal.returns
returns c =
    let from : to_z w32 (of_z w32 c.args.from) ≡ c.args.from = search rules in
    let distance : to_z w64 (of_z w64 c.args.distance) ≡ c.args.distance = search rules in
    let start : to_z w32 (of_z w32 c.in_ok-start.start) ≡ c.in_ok-start.start = search rules in
    let to : to_z w32 (of_z w32 c.in_ok-to.to) ≡ c.in_ok-to.to = search rules in
    let end : to_z w32 (of_z w32 c.in_ok-end.end) ≡ c.in_ok-end.end = search rules in
    let way : to_z w32 (of_z w32 c.in_ok-way.way) ≡ c.in_ok-way.way = search rules in
    let a = simp from at c.in_ok-start.ensures in
    let b = simp (from, distance) at c.in_ok-to.ensures in
    let d = simp to at c.in_ok-end.ensures in
    let e = simp (start, end) at c.in_ok-way.ensures in
    let both = step-found c.args.from c.args.distance c.in_ok-start.start c.in_ok-to.to c.in_ok-end.end c.in_ok-way.way a.0 a.1 b.0 b.1
    d.0 d.1 e.0 e.1 in
    (c.from_bits.ensures ∙ way ∙ both.0, to ∙ b.0, both.1)
