-- The dictionary of a font as it is written: that of a CID-keyed font names no private dictionary.
use Rattle.std.proofs.Common.{◌≡◌, ◌≢◌, ap, refl, inl, inr, [], ◌∷◌, arith}
use Rattle.std.specs.Option.{option_or}
use Rattle.postscript_base.specs.Compact1.Defaults.{default_of}
use Rattle.postscript_base.specs.Compact1.Dictionary.{Dictionary}
use Rattle.postscript_base.specs.declared.compact1.operator.Operator.{Operator}
use Rattle.postscript_base.specs.declared.compact1.operator.Operator.TheVariants.{FDArray, FDSelect, Private, ROS}
use Rattle.postscript_view.specs.Sizes.{IsKeyed}
use Rattle.postscript_write.specs.Once.{IsMoved}
use Rattle.postscript_write.specs.Parts.{IsAmong}
use Rattle.postscript_write.specs.Renumbered.{IsUnnamed}
use Rattle.postscript_write.proofs.Operators.{among}

-- a dictionary without this operator
pub gone_alone : (old new : Dictionary) → IsMoved (ROS ∷ Private ∷ []) old new → IsKeyed old → IsUnnamed old new
gone_alone old new moved keyed = record {
  same = λ operator kept. ap (λ x. option_or x (default_of operator))
      (moved.stays operator (λ has. ros operator (kept.private keyed) (among (ROS ∷ Private ∷ []) operator has)));
  gone = λ _. ap (λ x. option_or x (default_of Private)) (moved.gone Private (1, omega arith, refl) not_ros);
  plain = λ plain. absurd (plain keyed);
}
  where
    ros : (operator : Operator) → operator ≢ Private → IsAmong operator (ROS ∷ Private ∷ []) → operator ≡ ROS
    ros operator apart (inl is) = is
    ros operator apart (inr (inl same)) = absurd (apart same)
    ros operator apart (inr (inr never)) = absurd never

    not_ros : Private ≢ ROS
    not_ros same = absurd (cc)

-- and without these two
pub all_there : (old new : Dictionary) → IsMoved (ROS ∷ FDArray ∷ FDSelect ∷ []) old new → (IsKeyed old → ⊥) → IsUnnamed old new
all_there old new moved plain = record {
  same = λ operator kept. ap (λ x. option_or x (default_of operator))
      (moved.stays operator
      (λ has. ros operator (kept.select plain).0 (kept.select plain).1 (among (ROS ∷ FDArray ∷ FDSelect ∷ []) operator has)));
  gone = λ keyed. absurd (plain keyed);
  plain = λ _. (
    ap (λ x. option_or x (default_of FDArray)) (moved.gone FDArray (1, omega arith, refl) (λ same. absurd (cc))),
    ap (λ x. option_or x (default_of FDSelect)) (moved.gone FDSelect (2, omega arith, refl) (λ same. absurd (cc))),
  );
}
  where
    ros : (operator : Operator) → operator ≢ FDArray → operator ≢ FDSelect → IsAmong operator (ROS ∷ FDArray ∷ FDSelect ∷ []) → operator ≡ ROS
    ros operator array select (inl is) = is
    ros operator array select (inr (inl same)) = absurd (array same)
    ros operator array select (inr (inr (inl same))) = absurd (select same)
    ros operator array select (inr (inr (inr never))) = absurd never
