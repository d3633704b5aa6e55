-- Contexts by labels are those of rules.
use Rattle.std.proofs.Common.{◌≡◌, refl, sym, ap, ◌∙◌, ℕ, zero, suc, ◌+◌, ◌*◌, ◌&&◌, List, [], ◌∷◌, ◌++◌, length, get_or, arith, add-one, Bool, true, false}
use Rattle.std.specs.Prelude.{Option, None, filter, map, if◌then◌else◌}
use Rattle.std.specs.List.{range_with_len}
use Rattle.std.proofs.lemmas.List.FromFn.{get_or-map-range_with_len, length-map-range_with_len, map-range_with_len_more}
use Rattle.postscript_layout.specs.Numbers.{word}
use Rattle.postscript_layout_write.specs.ContextRules.{is_label, label_of, labelled, labelled_at, rule_context, rule_of, rule_parts, rules_below}
use Rattle.postscript_layout_write.specs.First.{all_below}
use Rattle.postscript_layout_write.specs.Labels.{AreLabels, AreRoleLabels, having, having_at, listed_below, listed_context}
use Rattle.postscript_layout_write.specs.Sequences.{Context, all_some, can_apply, if_applies, is_some_glyph}
use Rattle.postscript_layout_write.specs.declared.contexts.Parts.{Parts}
use Rattle.postscript_layout_write.specs.declared.labels.Labels.{Labels}
use Rattle.postscript_layout_write.specs.declared.labels.Role.{Role}
use Rattle.postscript_layout_write.specs.declared.labels.Role.TheVariants.{After, Before, Input, Start}
use Rattle.postscript_layout_write.proofs.ContextReading.{same-context}
use Rattle.postscript_layout_write.proofs.Covering.{filter-same}

map-same : {X : Type 0} (f g : ℕ → X) (n : ℕ) → ((k : ℕ) → f k ≡ g k) → map f (range_with_len 0 n) ≡ map g (range_with_len 0 n)
map-same f g zero same = refl
map-same f g (suc m) same =
    ap (λ k. map f (range_with_len 0 k)) (sym (add-one m)) ∙ map-range_with_len_more f 0 m m (omega arith)
    ∙ ap (λ xs. xs ++ f m ∷ []) (map-same f g m same) ∙ ap (λ x. map g (range_with_len 0 m) ++ x ∷ []) (same m)
    ∙ sym (map-range_with_len_more g 0 m m (omega arith)) ∙ ap (λ k. map g (range_with_len 0 k)) (add-one m)

below-same : {X : Type 0} (f g : ℕ → List X) (n : ℕ) → ((k : ℕ) → f k ≡ g k) → all_below f n ≡ all_below g n
below-same f g zero same = refl
below-same f g (suc m) same = ap (λ xs. xs ++ f m) (below-same f g m same) ∙ ap (λ xs. all_below g m ++ xs) (same m)

below-none : {X : Type 0} (f : ℕ → List X) (n : ℕ) → ((k : ℕ) → f k ≡ []) → all_below f n ≡ []
below-none f zero none = refl
below-none f (suc m) none = ap (λ xs. xs ++ f m) (below-none f m none) ∙ none m

pub no-glyph : (glyphs : List ℕ) → is_some_glyph glyphs ≡ false → glyphs ≡ []
no-glyph [] none = refl
no-glyph (glyph ∷ glyphs) none = absurd (cc)

not-applies : (context : Context) (sets : List (List ℕ)) → context.input ≡ [] ∷ sets → if_applies context ≡ []
not-applies context sets is =
    let never : can_apply context ≡ false = ap (λ (xs : List (List ℕ)). (all_some context.before && all_some xs) && all_some context.after) is
    ∙ by (all_some context.before) (all_some context.after) in
    ap (λ (b : Bool). if b then context ∷ [] else []) never
  where
    by : (a b : Bool) → ((a && false) && b) ≡ false
    by true b = refl
    by false b = refl

module _ (gsub kept : List ℕ) (type s : ℕ) where
  pub having-same : (role : Role) (labels : List (Option ℕ)) → AreRoleLabels gsub kept type s role labels → (number : ℕ) →
      having labels number ≡ labelled gsub kept type s role number
  having-same role labels are number =
      let f : ℕ → Option ℕ = λ k. label_of gsub type s role (get_or kept k 0) in
      ap (λ n. filter (λ k. is_label (get_or labels k None) number) (range_with_len 0 n)) (ap length are.are ∙ length-map-range_with_len f 0 (length kept))
      ∙ filter-same (λ k. is_label (get_or labels k None) number) (λ k. is_label (f k) number) (length kept)
      (λ k less. ap (λ (l : Option ℕ). is_label l number) (ap (λ (xs : List (Option ℕ)). get_or xs k None) are.are
      ∙ get_or-map-range_with_len f 0 (length kept) k k None less (omega arith)))

  having-at-same : (role : Role) (labels : List (Option ℕ)) → AreRoleLabels gsub kept type s role labels → (array count : ℕ) →
      having_at gsub labels array count ≡ labelled_at gsub kept type s role array count
  having-at-same role labels are array count = map-same (λ p. having labels (word gsub (array + p * 2)))
      (λ p. labelled gsub kept type s role (word gsub (array + p * 2))) count (λ p. having-same role labels are (word gsub (array + p * 2)))

  module _ (labels : Labels) (are : AreLabels gsub kept type s labels) (i : ℕ) where
    pub listed-same : (start : List ℕ) → start ≡ labelled gsub kept type s Start i → (parts : Parts) →
        listed_context gsub labels start parts ≡ rule_context gsub kept type s i parts
    listed-same start is parts = same-context (listed_context gsub labels start parts) (rule_context gsub kept type s i parts)
        (having-at-same Before labels.before.items are.before parts.before_at parts.before)
        (ap (λ xs. xs ∷ having_at gsub labels.input.items parts.input_at parts.input) is
        ∙ ap (λ xs. labelled gsub kept type s Start i ∷ xs) (having-at-same Input labels.input.items are.input parts.input_at parts.input))
        (having-at-same After labels.after.items are.after parts.after_at parts.after)
        refl

    pub listed-rules : (start : List ℕ) → start ≡ labelled gsub kept type s Start i → (set count : ℕ) →
        listed_below gsub type labels start set count ≡ rules_below gsub kept type s i set count
    listed-rules start is set count = below-same
        (λ r. if_applies (listed_context gsub labels start (rule_parts gsub type (rule_of gsub set r))))
        (λ r. if_applies (rule_context gsub kept type s i (rule_parts gsub type (rule_of gsub set r)))) count
        (λ r. ap if_applies (listed-same start is (rule_parts gsub type (rule_of gsub set r))))

  -- a rule whose first glyphs are not kept cannot apply
  never-applies : (i : ℕ) (parts : Parts) → labelled gsub kept type s Start i ≡ [] → if_applies (rule_context gsub kept type s i parts) ≡ []
  never-applies i parts none = not-applies (rule_context gsub kept type s i parts) (labelled_at gsub kept type s Input parts.input_at parts.input)
      (ap (λ xs. xs ∷ labelled_at gsub kept type s Input parts.input_at parts.input) none)

  pub never-rules : (i set count : ℕ) → labelled gsub kept type s Start i ≡ [] → rules_below gsub kept type s i set count ≡ []
  never-rules i set count none = below-none (λ r. if_applies (rule_context gsub kept type s i (rule_parts gsub type (rule_of gsub set r)))) count
      (λ r. never-applies i (rule_parts gsub type (rule_of gsub set r)) none)
