use Rattle.std.proofs.Common.{◌≡◌, ℕ, ◌*◌, ◌+◌, ◌<◌, length, subst, sym, arith}
use Rattle.postscript_instance_file.specs.Weights.{private_size}
use Rattle.postscript_instance_file.specs.declared.weight.TheConstants.{STEPS}
use Rattle.postscript_instance_file.proofs.Weighing.{capped}
use Rattle.postscript_instance_file.proofs.weight.is_too_long.Goals as goal

pub returns : goal.returns
returns c =
    let size : ℕ = c.saturating_add-size.result in
    let work : ℕ = private_size c.args.face.now.font.bytes.now c.args.dictionary.now + length c.args.dictionary.now in
    let times : c.from.result ≡ c.args.face.now.glyphs = omega arith in
    let e = capped STEPS work size c.args.face.now.glyphs (omega arith) (omega (arith, c.saturating_add-size.ensures, c.size_of_private.ensures)) in (
      λ h. e.0 (subst (λ (n : ℕ). STEPS < size * n) times (c.exceeds.ensures.0 h)),
      λ h. c.exceeds.ensures.1 (subst (λ (n : ℕ). STEPS < size * n) (sym times) (e.1 h)),
    )
