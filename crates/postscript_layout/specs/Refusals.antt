-- Why lookups or a closure are not computed.
use Rattle.std.specs.Prelude.{◌≡◌, ℕ}
use Rattle.postscript_layout.specs.declared.error.Error.{Error}
use Rattle.postscript_layout.specs.declared.error.Error.TheVariants.{TooLong}

-- nothing is left of the limit
pub record IsUsedUp (left : ℕ) (e : Error) : Type 0 where
  pub too_long : e ≡ TooLong
  pub none : left ≡ 0
