-- Marks that are set one after the other.
use Rattle.std.proofs.Common.{◌≡◌, sym, ap, ◌∙◌, subst, inl, inr, ℕ, ◌+◌, ◌<◌, ◌≤◌, List, length, get_or, arith, Bool, true, false, get_or-set_other, get_or-set_same}
use Rattle.std.specs.Prelude.{◌⊎◌, slice_set}
use Rattle.std.proofs.Math.ListN.{length-set}
use Rattle.std.proofs.lemmas.Bool.{cases_eq, cases_lt}
use Rattle.std.proofs.lemmas.List.Elements.{Contains-get_or}
use Rattle.std.proofs.lemmas.List.{get_or_default, get_or_past, set_past}
use Rattle.std.specs.List.{Contains}
use Rattle.postscript_files.specs.Choices.{AreMarks}

-- the first of these numbers, up to an index, are marked
pub record AreMarkedTo (numbers : List ℕ) (i count : ℕ) (marks : List Bool) : Type 0 where
  pub many : length marks ≡ count
  pub sound : (n : ℕ) → get_or marks n false ≡ true → Contains numbers n
  pub all : (k : ℕ) → k < i → get_or numbers k 0 < count → get_or marks (get_or numbers k 0) false ≡ true

set-there : (marks : List Bool) (n m : ℕ) → get_or (slice_set marks n true) m false ≡ true → (m ≡ n) ⊎ (get_or marks m false ≡ true)
set-there marks n m h = elim (cases_eq m n) [
  | inl same ↦ inl same
  | inr other ↦ inr (sym (get_or-set_other marks n m true false other) ∙ h)
]

stays-set : (marks : List Bool) (n m : ℕ) → n < length marks → get_or marks m false ≡ true → get_or (slice_set marks n true) m false ≡ true
stays-set marks n m there h = elim (cases_eq m n) [
  | inl same ↦ ap (λ k. get_or (slice_set marks n true) k false) same ∙ get_or-set_same marks n true false there
  | inr other ↦ get_or-set_other marks n m true false other ∙ h
]

pub marked-more : (numbers : List ℕ) (i count : ℕ) (marks : List Bool) → i < length numbers → AreMarkedTo numbers i count marks →
    AreMarkedTo numbers (i + 1) count (slice_set marks (get_or numbers i 0) true)
marked-more numbers i count marks within it = record {
  many = length-set marks (get_or numbers i 0) true ∙ it.many;
  sound = λ n h. elim (set-there marks (get_or numbers i 0) n h) [
    | inl same ↦ subst (λ m. Contains numbers m) (sym same) (Contains-get_or numbers i 0 within)
    | inr set ↦ it.sound n set
  ];
  all = λ k below low. elim (cases_lt (get_or numbers i 0) (length marks)) [
    | inr past ↦ elim (cases_eq k i) [
      | inl same ↦ let e = ap (λ j. get_or numbers j 0) same in let m = it.many in absurd (omega (arith, e, m, past, low))
      | inr other ↦ let e = set_past marks (get_or numbers i 0) true past in
          subst (λ (ms : List Bool). get_or ms (get_or numbers k 0) false ≡ true) (sym e) (it.all k (omega (arith, below, other)) low)
    ]
    | inl there ↦ elim (cases_eq k i) [
      | inl same ↦
          subst (λ j. get_or (slice_set marks (get_or numbers i 0) true) (get_or numbers j 0) false ≡ true) (sym same)
          (get_or-set_same marks (get_or numbers i 0) true false there)
      | inr other ↦ stays-set marks (get_or numbers i 0) (get_or numbers k 0) there (it.all k (omega (arith, below, other)) low)
    ]
  ];
}

unset : (marks : List Bool) (count n : ℕ) → length marks ≡ count → ((k : ℕ) → k < count → get_or marks k false ≡ false) →
    get_or marks n false ≡ true → ⊥
unset marks count n long none h = elim (cases_lt n count) [
  | inl less ↦ let e = none n less in let p : false ≡ true = sym e ∙ h in cc
  | inr more ↦
      let past : length marks ≤ n = omega (arith, long, more) in
      let p : false ≡ true = sym (get_or_past marks n false past) ∙ h in cc
]

pub marked-none : (numbers : List ℕ) (count : ℕ) (marks : List Bool) → length marks ≡ count →
    ((k : ℕ) → k < count → get_or marks k false ≡ false) → AreMarkedTo numbers 0 count marks
marked-none numbers count marks long none = record {
  many = long;
  sound = λ n h. absurd (unset marks count n long none h);
  all = λ k below low. absurd (omega (arith, below));
}

pub marked-all : (numbers : List ℕ) (count : ℕ) (marks : List Bool) → AreMarkedTo numbers (length numbers) count marks →
    AreMarks numbers count marks
marked-all numbers count marks it = record {
  sound = it.sound;
  all = λ n below h.
      let e : get_or numbers h.0 0 ≡ n = get_or_default numbers h.0 0 n h.1 ∙ h.2 in
      subst (λ m. get_or marks m false ≡ true) e (it.all h.0 h.1 (omega (arith, e, below)));
}
