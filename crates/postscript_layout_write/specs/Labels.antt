-- Labels of the kept glyphs, as they are collected. Only contracts of private functions and proofs name this.
use Rattle.std.specs.Prelude.{◌≡◌, ℕ, ◌+◌, ◌*◌, ◌≤◌, List, ◌∷◌, Option, None, filter, length, map, slice_index, slice_index_or}
use Rattle.std.specs.List.{range_with_len}
use Rattle.postscript_layout.specs.Numbers.{word, words}
use Rattle.postscript_layout_write.specs.ContextRules.{is_label, label_of, rule_of, rule_parts}
use Rattle.postscript_layout_write.specs.First.{all_below}
use Rattle.postscript_layout_write.specs.Sequences.{Context, if_applies}
use Rattle.postscript_layout_write.specs.declared.contexts.Parts.{Parts}
use Rattle.postscript_layout_write.specs.declared.labels.Labels.{Labels}
use Rattle.postscript_layout_write.specs.declared.labels.Role.{Role}
use Rattle.postscript_layout_write.specs.declared.labels.Role.TheVariants.{After, Before, Input, Start}

-- the labels of the first `count` kept glyphs in a role
abbrev pub labels_below : (gsub kept : List ℕ) → (type subtable : ℕ) → Role → (count : ℕ) → List (Option ℕ)
labels_below gsub kept type subtable role count = map (λ k. label_of gsub type subtable role (slice_index kept k)) (range_with_len 0 count)

pub record AreRoleLabels (gsub kept : List ℕ) (type subtable : ℕ) (role : Role) (labels : List (Option ℕ)) : Type 0 where
  pub are : labels ≡ labels_below gsub kept type subtable role (length kept)
  pub few : length labels ≤ 65536

pub record AreLabels (gsub kept : List ℕ) (type subtable : ℕ) (labels : Labels) : Type 0 where
  pub start : AreRoleLabels gsub kept type subtable Start labels.start.items
  pub before : AreRoleLabels gsub kept type subtable Before labels.before.items
  pub input : AreRoleLabels gsub kept type subtable Input labels.input.items
  pub after : AreRoleLabels gsub kept type subtable After labels.after.items

-- labels of at most 65,536 glyphs
pub record AreFew (labels : Labels) : Type 0 where
  pub before : length labels.before.items ≤ 65536
  pub input : length labels.input.items ≤ 65536
  pub after : length labels.after.items ≤ 65536

-- the indices of a label in a list
abbrev pub having : (labels : List (Option ℕ)) → (number : ℕ) → List ℕ
having labels number = filter (λ k. is_label (slice_index_or labels k None) number) (range_with_len 0 (length labels))

-- the sets of glyphs of an array of `count` numbers
abbrev pub having_at : (gsub : List ℕ) → (labels : List (Option ℕ)) → (array count : ℕ) → List (List ℕ)
having_at gsub labels array count = map (λ p. having labels (word gsub (array + p * 2))) (range_with_len 0 count)

-- the context of a rule, by labels
abbrev pub listed_context : (gsub : List ℕ) → Labels → (start : List ℕ) → Parts → Context
listed_context gsub labels start parts = record {
  before = having_at gsub labels.before.items parts.before_at parts.before;
  input = start ∷ having_at gsub labels.input.items parts.input_at parts.input;
  after = having_at gsub labels.after.items parts.after_at parts.after;
  actions = words gsub parts.actions_at (parts.actions * 2);
}

-- the contexts of the first `count` rules of a set that can apply
abbrev pub listed_below : (gsub : List ℕ) → (type : ℕ) → Labels → (start : List ℕ) → (set count : ℕ) → List Context
listed_below gsub type labels start set count =
    all_below (λ r. if_applies (listed_context gsub labels start (rule_parts gsub type (rule_of gsub set r)))) count
