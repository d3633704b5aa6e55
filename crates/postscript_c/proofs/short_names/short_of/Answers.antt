use Rattle.std.proofs.Common.{inl, inr}
use Rattle.postscript_c.specs.ShortNames.{cut, long, no_space, short}
use Rattle.postscript_c.proofs.short_names.short_of.Goals as goal

pub returns-in-Some-clause-short : goal.returns-in-Some-clause-short
returns-in-Some-clause-short c = let has = rw c.in-Some.is at c.in_ok-names.ensures.has in short has.0 has.1 has.2

pub returns-clause-short : goal.returns-clause-short
returns-clause-short c =
    let none = rw c.in_default.is at c.in_ok-names.ensures.none in
    let same = c.in_ok-from_slice.ensures.items in
    elim none [
      | inl outside ↦ cut outside same
      | inr more ↦ elim more [ inl many ↦ long many same | inr full ↦ no_space full.0 full.1 full.2 same ]
    ]
