-- What the code keeps of a text. Only private contracts and proofs use this.
use Rattle.std.specs.Prelude.{◌≡◌, ℕ, List}
use Rattle.std.specs.List.{list_any}
use Rattle.postscript_shaping.specs.Characters.{is_attached}
use Rattle.postscript_shaping.specs.Computing.{is_some, mirrors}
use Rattle.postscript_shaping.specs.declared.forms.Traits.{Traits}

abbrev pub AreTraits : (kept : List ℕ) → Traits → Type 0
AreTraits kept traits = (traits.some ≡ is_some kept) × (traits.attached ≡ list_any is_attached kept) × (traits.mirrors ≡ mirrors kept)
