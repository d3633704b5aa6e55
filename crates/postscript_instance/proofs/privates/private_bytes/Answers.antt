use Rattle.std.proofs.Common.{◌≡◌, ◌∙◌, refl, subst, sym, inr}
use Rattle.postscript_cff2.specs.Parts.{IsPart}
use Rattle.postscript_instance.proofs.Reading.{the-entry}
use Rattle.postscript_instance.proofs.privates.private_bytes.Goals as goal

pub returns-in-None : goal.returns-in-None
returns-in-None c = inr (
  refl,
  λ dictionary part is named.
      let same : dictionary ≡ c.in-Some.bytes.now = the-entry _ _ (sym is ∙ sym c.in-Some.ensures) in
      c.in-None.ensures.none part (subst (λ d. IsPart c.args.font.now.bytes.now d part) same named),
)
