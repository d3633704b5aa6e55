-- Mark glyph sets that are collected.
use Rattle.std.proofs.Common.{◌≡◌, refl, sym, ap, subst, ◌∙◌, inl, inr, ℕ, ◌+◌, ◌*◌, ◌<◌, List, [], ◌∷◌, ◌++◌, length, length-append, get_or, arith, true, false}
use Rattle.std.specs.List.{Contains}
use Rattle.std.proofs.lemmas.List.{get_or_append_left}
use Rattle.std.proofs.lemmas.List.Elements.{Contains-append_left, Contains-push}
use Rattle.postscript_layout_write.specs.Definitions.{in_set}
use Rattle.postscript_layout_write.specs.MarkSets.{AreMarkSets, AreMembers, HasMembers, PutsMembers}
use Rattle.postscript_layout_write.proofs.Firsts.{nat_cases}
use Rattle.postscript_layout_write.proofs.Holding.{holds-on}
use Rattle.postscript_layout_write.proofs.Lists.{push-each}
use Rattle.postscript_layout_write.proofs.Rows.{append-at}

pub members-less : (gdef : List ℕ) (set : ℕ) (kept : List ℕ) (k : ℕ) (members : List ℕ) → AreMembers gdef set kept k members →
    in_set gdef set (get_or kept k 0) ≡ false → AreMembers gdef set kept (k + 1) members
members-less gdef set kept k members are never = record {
  right = λ i less. (let r = are.right i less in let small = r.0 in (omega (arith, small), r.1));
  all = λ j less. elim (nat_cases j k) [
    | inl early ↦ are.all j early
    | inr late ↦ (let same : k ≡ j = omega (arith, less, late) in inl (subst (λ x. in_set gdef set (get_or kept x 0) ≡ false) same never))
  ];
}

pub members-more : (gdef : List ℕ) (set : ℕ) (kept : List ℕ) (k : ℕ) (members : List ℕ) → AreMembers gdef set kept k members →
    in_set gdef set (get_or kept k 0) ≡ true → AreMembers gdef set kept (k + 1) (members ++ k ∷ [])
members-more gdef set kept k members are is = record {
  right = λ i less. push-each (λ _ x. (x < k + 1) × (in_set gdef set (get_or kept x 0) ≡ true)) members k 0 (length members) refl
      (λ i less. (let r = are.right i less in let small = r.0 in (omega (arith, small), r.1))) (omega arith, is) i
      (omega (arith, less, length-append members (k ∷ [])));
  all = λ j less. elim (nat_cases j k) [
    | inl early ↦ elim (are.all j early) [
      | inl none ↦ inl none
      | inr there ↦ inr (Contains-append_left members (k ∷ []) j there)
    ]
    | inr late ↦ (let same : k ≡ j = omega (arith, less, late) in inr (subst (λ x. Contains (members ++ k ∷ []) x) same (Contains-push members k)))
  ];
}

members-on : (gdef : List ℕ) (set : ℕ) (kept bytes more : List ℕ) (at : ℕ) → HasMembers gdef set kept bytes at → HasMembers gdef set kept (bytes ++ more) at
members-on gdef set kept bytes more at h = record {
  members = h.members;
  are = h.are;
  few = h.few;
  there = holds-on more h.there;
}

pub sets-on : (gdef : List ℕ) (base : ℕ) (kept : List ℕ) (count : ℕ) (numbers bytes more : List ℕ) → AreMarkSets gdef base kept count numbers bytes →
    AreMarkSets gdef base kept count numbers (bytes ++ more)
sets-on gdef base kept count numbers bytes more are = record {
  many = are.many;
  each = λ set less. (let h = are.each set less in record {
    high = h.high;
    place = h.place;
    low = h.low;
    small = h.small;
    has = members-on gdef set kept bytes more h.place h.has;
  });
}

pub sets-more : (gdef : List ℕ) (base : ℕ) (kept : List ℕ) (s : ℕ) (numbers bytes newnumbers newbytes : List ℕ) → AreMarkSets gdef base kept s numbers bytes →
    newnumbers ≡ numbers ++ (0 ∷ (base + length bytes) ∷ []) → base + length bytes < 65536 → PutsMembers gdef s kept bytes newbytes →
    AreMarkSets gdef base kept (s + 1) newnumbers newbytes
sets-more gdef base kept s numbers bytes newnumbers newbytes are is small puts =
    subst (λ (xs : List ℕ). AreMarkSets gdef base kept (s + 1) xs newbytes) (sym is) (record {
      many = (let many = are.many in omega (arith, many, length-append numbers (0 ∷ (base + length bytes) ∷ [])));
      each = λ j less. elim (nat_cases j s) [
        | inl early ↦ (let h = are.each j early in let many = are.many in record {
          high = get_or_append_left numbers (0 ∷ (base + length bytes) ∷ []) 0 (j * 2) (omega (arith, many, early)) ∙ h.high;
          place = h.place;
          low = get_or_append_left numbers (0 ∷ (base + length bytes) ∷ []) 0 (j * 2 + 1) (omega (arith, many, early)) ∙ h.low;
          small = h.small;
          has = subst (λ (xs : List ℕ). HasMembers gdef j kept xs h.place) (sym puts.bytes) (members-on gdef j kept bytes puts.more h.place h.has);
        })
        | inr late ↦ (let same : j ≡ s = omega (arith, less, late) in let many = are.many in record {
          high = ap (λ i. get_or (numbers ++ (0 ∷ (base + length bytes) ∷ [])) i 0) {x = j * 2} {y = s * 2 + 0} (omega (arith, same)) ∙ append-at numbers (0 ∷ (base + length bytes) ∷ []) 0 (s * 2) 0 many;
          place = length bytes;
          low = ap (λ i. get_or (numbers ++ (0 ∷ (base + length bytes) ∷ [])) i 0) {x = j * 2 + 1} {y = s * 2 + 1} (omega (arith, same)) ∙ append-at numbers (0 ∷ (base + length bytes) ∷ []) 0 (s * 2) 1 many;
          small = small;
          has = subst (λ k. HasMembers gdef k kept newbytes (length bytes)) (sym same) puts.has;
        })
      ];
    })
