-- The lookups of features.
use Rattle.std.specs.Prelude.{◌≡◌, ◌⊎◌, ℕ, List}
use Rattle.std.specs.List.{Contains}
use Rattle.postscript_layout.specs.Features.{AreNamed}
use Rattle.postscript_layout.specs.Substitutions.{every_lookup}
use Rattle.postscript_subset.specs.declared.features.Features.{Features}
use Rattle.postscript_subset.specs.declared.features.Features.TheVariants.{All, These}

-- the lookups of a GSUB table that the features name
abbrev pub AreNamedBy : Features → (gsub lookups : List ℕ) → Type 0
AreNamedBy All gsub lookups = lookups ≡ every_lookup gsub
AreNamedBy (These tags) gsub lookups = AreNamed gsub tags.now lookups

-- `kern`, `mark`, `mkmk` or `curs` is among the features
abbrev pub HavePositions : Features → Type 0
HavePositions All = Unit {0}
HavePositions (These tags) = (Contains tags.now 0x6b65726e ⊎ Contains tags.now 0x6d61726b) ⊎ (Contains tags.now 0x6d6b6d6b ⊎ Contains tags.now 0x63757273)

-- `kern` is among the features
abbrev pub HaveKerning : Features → Type 0
HaveKerning All = Unit {0}
HaveKerning (These tags) = Contains tags.now 0x6b65726e
