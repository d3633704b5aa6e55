use Rattle.std.proofs.Common.{sym, subst, ◌↔◌, ℕ, List, IfOk, IsTrue}
use Rattle.postscript_kern.specs.Languages.{EachLanguageKerns}
use Rattle.postscript_subset.specs.Layers.{IsKerned}
use Rattle.postscript_subset.specs.declared.layers.Outcome.{Outcome}
use Rattle.postscript_subset.proofs.layers.is_kerned.Goals as goal

pub returns-in-Kept-clause-exact : goal.returns-in-Kept-clause-exact
returns-in-Kept-clause-exact c =
    let kerns = c.each_language_kerns.result in
    subst (λ (outcome : Outcome). IfOk kerns (λ k. IsTrue k ↔ IsKerned outcome c.args.gpos.now.table.items)) (sym c.in-Kept.is)
    (subst (λ (gpos : List ℕ). IfOk kerns (λ k. IsTrue k ↔ EachLanguageKerns gpos)) c.as_slice.ensures.value c.each_language_kerns.ensures.exact)
