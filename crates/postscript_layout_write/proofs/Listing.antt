-- The pairs that are written.
use Rattle.std.proofs.Common.{◌≡◌, refl, sym, subst, ap, ◌∙◌, inl, inr, ℕ, ◌+◌, ◌<◌, List, [], ◌∷◌, ◌++◌, length, length-append, get_or, arith, append-nil, Bool, true, false}
use Rattle.std.specs.Prelude.{Option, None, Some, if◌then◌else◌}
use Rattle.std.specs.List.{All, Contains}
use Rattle.std.proofs.lemmas.List.Elements.{All-append, All-cons, All-nil, All-weaker, Contains-append_left, Contains-push}
use Rattle.postscript_layout.specs.Numbers.{word}
use Rattle.postscript_layout_write.specs.Indices.{AreIndices}
use Rattle.postscript_layout_write.specs.Pairs.{adjustment_of, by_lookup, by_part, index_at, or_nothing, pairs_at}
use Rattle.postscript_layout_write.specs.Entries.{AreEntries, entry, form_of, listed}
use Rattle.postscript_layout_write.specs.Scopes.{leaves_out, pair_by}
use Rattle.postscript_layout_write.specs.Values.{nothing}
use Rattle.postscript_layout_write.specs.declared.entries.Entry.{Entry}
use Rattle.postscript_layout_write.specs.declared.entries.Form.{Form}
use Rattle.postscript_layout_write.specs.declared.scope.Scope.{Scope}
use Rattle.postscript_layout_write.specs.declared.values.Adjustment.{Adjustment}
use Rattle.postscript_layout_write.proofs.Firsts.{first-none, nat_cases}

pub entries-none : (f : ℕ → Adjustment) (n : ℕ) (es : List Entry) → es ≡ [] → ((y : ℕ) → y < n → f y ≡ nothing) → AreEntries f n es
entries-none f n es empty none = subst (AreEntries f n) (sym empty) (record {
  right = All-nil _;
  all = λ y less. inl (ap form_of (none y less));
  few = omega arith;
})

pub entries-as : (f g : ℕ → Adjustment) (n : ℕ) (es : List Entry) → ((y : ℕ) → y < n → f y ≡ g y) → AreEntries f n es → AreEntries g n es
entries-as f g n es same a = record {
  right = All-weaker (λ e. (e.second < n) × (e.adjustment ≡ f e.second)) (λ e. (e.second < n) × (e.adjustment ≡ g e.second))
      (λ e h. (h.0, h.1 ∙ same e.second h.0)) es a.right;
  all = λ y less. elim (a.all y less) [
    | inl none ↦ inl (ap form_of (sym (same y less)) ∙ none)
    | inr there ↦ inr (subst (λ (b : Adjustment). Contains es (entry y b)) (same y less) there)
  ];
  few = a.few;
}

right-more : (f : ℕ → Adjustment) (n : ℕ) (es : List Entry) → AreEntries f n es → All (λ e. (e.second < n + 1) × (e.adjustment ≡ f e.second)) es
right-more f n es a = All-weaker (λ e. (e.second < n) × (e.adjustment ≡ f e.second)) (λ e. (e.second < n + 1) × (e.adjustment ≡ f e.second))
    (λ e h. (let less = h.0 in (omega (arith, less), h.1))) es a.right

pub entries-more : (f : ℕ → Adjustment) (n : ℕ) (es : List Entry) (b : Adjustment) → AreEntries f n es → b ≡ f n →
    AreEntries f (n + 1) (es ++ listed n b (form_of b))
entries-more f n es b a here = by (form_of b) refl
  where
    by : (form : Option Form) → form_of b ≡ form → AreEntries f (n + 1) (es ++ listed n b form)
    by None is = subst (AreEntries f (n + 1)) (sym (append-nil es)) (record {
      right = right-more f n es a;
      all = λ y less. elim (nat_cases y n) [
        | inl early ↦ a.all y early
        | inr late ↦ (let same : n ≡ y = omega (arith, less, late) in
            inl (subst (λ k. form_of (f k) ≡ None) same (ap form_of (sym here) ∙ is)))
      ];
      few = (let few = a.few in omega (arith, few));
    })
    by (Some form) is = record {
      right = (let P : Entry → Type 0 = λ e. (e.second < n + 1) × (e.adjustment ≡ f e.second) in
          All-append P es (entry n b ∷ []) (right-more f n es a) (All-cons P (entry n b) [] (omega arith, here) (All-nil P)));
      all = λ y less. elim (nat_cases y n) [
        | inl early ↦ elim (a.all y early) [
          | inl none ↦ inl none
          | inr there ↦ inr (Contains-append_left es (entry n b ∷ []) _ there)
        ]
        | inr late ↦ (let same : n ≡ y = omega (arith, less, late) in
            inr (subst (λ k. Contains (es ++ entry n b ∷ []) (entry k (f k))) same
            (subst (λ (x : Adjustment). Contains (es ++ entry n b ∷ []) (entry n x)) here (Contains-push es (entry n b)))))
      ];
      few = (let few = a.few in omega (arith, few, length-append es (entry n b ∷ [])));
    }

-- a first glyph that no subtable covers
part-none : (gpos : List ℕ) (part : Option ℕ) (first second : ℕ) → index_at gpos part first ≡ None → by_part gpos part first second ≡ None
part-none gpos None first second none = refl
part-none gpos (Some subtable) first second none = ap (λ (i : Option ℕ). adjustment_of gpos subtable i first second) none

pub lookup-none : (gpos : List ℕ) (lookup first second : ℕ) (indices : List (Option ℕ)) → AreIndices gpos lookup first indices →
    ((j : ℕ) → j < length indices → get_or indices j None ≡ None) → by_lookup gpos lookup first second ≡ nothing
lookup-none gpos lookup first second indices are none = ap or_nothing (first-none (λ j. by_part gpos (pairs_at gpos lookup j) first second) (word gpos (lookup + 4))
    (λ j less. (let within : j < length indices = subst (λ n. j < n) (sym are.many) less in
    part-none gpos (pairs_at gpos lookup j) first second (sym (are.each j within) ∙ none j within))))

-- the flag of a lookup
pub pair-as : (scope : Scope) (gpos : List ℕ) (lookup first second : ℕ) → leaves_out scope (word gpos (lookup + 2)) ≡ false →
    by_lookup gpos lookup first second ≡ pair_by scope gpos lookup first second
pair-as scope gpos lookup first second kept = sym (ap (λ (b : Bool). if b then nothing else by_lookup gpos lookup first second) kept)

pub pair-none : (scope : Scope) (gpos : List ℕ) (lookup first second : ℕ) → leaves_out scope (word gpos (lookup + 2)) ≡ true →
    pair_by scope gpos lookup first second ≡ nothing
pair-none scope gpos lookup first second left = ap (λ (b : Bool). if b then nothing else by_lookup gpos lookup first second) left
