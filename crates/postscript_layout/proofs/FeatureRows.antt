-- Features and costs of a small table, computed by hand.
use Rattle.std.proofs.Common.{◌≡◌, refl, ℕ, List, [], ◌∷◌, arith}
use Rattle.postscript_base.specs.Index.{number_at}
use Rattle.postscript_layout.specs.Costs.{features_cost}
use Rattle.postscript_layout.specs.Features.{IsNamed, tag_of}

-- one feature, liga, which names lookups 4 and 1
abbrev features : List ℕ
features =
    0 ∷ 1 ∷ 0 ∷ 0 ∷ 0 ∷ 0 ∷ 0 ∷ 10 ∷ 0 ∷ 0 ∷ 0 ∷ 1 ∷ 108 ∷ 105 ∷ 103 ∷ 97 ∷ 0 ∷ 8 ∷ 0 ∷ 0 ∷ 0 ∷ 2 ∷ 0 ∷ 4 ∷ 0 ∷ 1 ∷ []

the_tag : tag_of features 0 ≡ 0x6c696761
unfolding number_at
the_tag = refl

one_is_named : IsNamed features (0x6c696761 ∷ []) 1
unfolding number_at
one_is_named = (0, omega arith, ((0, omega arith, refl), (1, omega arith, refl)))

-- the feature and its two lookup indices
features_cost_three : features_cost features ≡ 3
unfolding number_at
features_cost_three = refl
