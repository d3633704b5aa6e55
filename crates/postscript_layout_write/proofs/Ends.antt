-- Ends of scripts and features.
use Rattle.std.proofs.Common.{◌≡◌, inl, inr, ℕ, ◌+◌, ◌≤◌, List, arith}
use Rattle.std.specs.Prelude.{◌⊎◌}
use Rattle.postscript_layout.specs.Numbers.{word}
use Rattle.postscript_layout_write.specs.ScriptLists.{FeatureEnds, LanguageEnds, ScriptEnds, FeaturesEnd, IsLeast, ListsEnd, ScriptsEnd, parameters_size}

-- what ends before an offset ends before a later one
pub language-up : (gpos : List ℕ) (end later language : ℕ) → LanguageEnds gpos end language → end ≤ later → LanguageEnds gpos later language
language-up gpos end later language ends less = omega (arith, ends, less)

pub default-up : (gpos : List ℕ) (end later script : ℕ) → (word gpos script ≡ 0) ⊎ LanguageEnds gpos end (script + word gpos script) → end ≤ later →
    (word gpos script ≡ 0) ⊎ LanguageEnds gpos later (script + word gpos script)
default-up gpos end later script ends less = elim ends [
  | inl none ↦ inl none
  | inr there ↦ inr (language-up gpos end later (script + word gpos script) there less)
]

pub script-up : (gpos : List ℕ) (end later script : ℕ) → ScriptEnds gpos end script → end ≤ later → ScriptEnds gpos later script
script-up gpos end later script ends less = record {
  records = (let records = ends.records in omega (arith, records, less));
  default = default-up gpos end later script ends.default less;
  languages = λ j within. language-up gpos end later _ (ends.languages j within) less;
}

pub parameters-up : (gpos : List ℕ) (end later tag feature : ℕ) →
    (word gpos feature ≡ 0) ⊎ (feature + word gpos feature + parameters_size gpos tag (feature + word gpos feature) ≤ end) → end ≤ later →
    (word gpos feature ≡ 0) ⊎ (feature + word gpos feature + parameters_size gpos tag (feature + word gpos feature) ≤ later)
parameters-up gpos end later tag feature ends less = elim ends [
  | inl none ↦ inl none
  | inr there ↦ (let size = parameters_size gpos tag (feature + word gpos feature) in inr (omega (arith, there, less)))
]

pub feature-up : (gpos : List ℕ) (end later tag feature : ℕ) → FeatureEnds gpos end tag feature → end ≤ later → FeatureEnds gpos later tag feature
feature-up gpos end later tag feature ends less = record {
  indices = (let indices = ends.indices in omega (arith, indices, less));
  parameters = parameters-up gpos end later tag feature ends.parameters less;
}

pub lists-least : (gpos : List ℕ) (scripts features both end : ℕ) → IsLeast (λ m. ScriptsEnd gpos m) scripts → IsLeast (λ m. FeaturesEnd gpos m) features →
    scripts ≤ both → features ≤ both → ((m : ℕ) → scripts ≤ m → features ≤ m → both ≤ m) → 10 ≤ end → both ≤ end →
    ((m : ℕ) → 10 ≤ m → both ≤ m → end ≤ m) → IsLeast (λ m. ListsEnd gpos m) end
lists-least gpos scripts features both end s f a b least header c most = record {
  holds = record {
    header = header;
    scripts = record {
      records = (let records = s.holds.records in omega (arith, records, a, c));
      scripts = λ i less. script-up gpos scripts end _ (s.holds.scripts i less) (omega (arith, a, c));
    };
    features = record {
      records = (let records = f.holds.records in omega (arith, records, b, c));
      features = λ i less. feature-up gpos features end _ _ (f.holds.features i less) (omega (arith, b, c));
    };
  };
  least = λ m ends. most m ends.header (least m (s.least m ends.scripts) (f.least m ends.features));
}
