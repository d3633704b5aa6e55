-- Records of vertical origins, one after the other.
use Rattle.std.proofs.Common.{◌≡◌, refl, sym, ap, subst, ◌∙◌, inl, inr, ℕ, ◌+◌, ◌*◌, ◌<◌, ◌≤◌, List, length, get_or, arith, Bool, true, false}
use Rattle.std.specs.Prelude.{◌⊎◌, nat_lt}
use Rattle.std.proofs.lemmas.Bool.{ltb-false, ltb-true}
use Rattle.postscript_vertical.specs.Listed.{AreListed, glyph_in, y_in}
use Rattle.postscript_vertical.specs.Numbers.{PutsPair, word}
use Rattle.postscript_vertical.specs.Origins.{HasNoRecord, HasOrigins, HasRecord, y_at}

pub nat_cases : (a b : ℕ) → (a < b) ⊎ (b ≤ a)
nat_cases a b = by (nat_lt a b) refl
  where
    by : (t : Bool) → nat_lt a b ≡ t → (a < b) ⊎ (b ≤ a)
    by true e = inl (ltb-true a b e)
    by false e = inr (ltb-false a b e)

-- a glyph has one record
pub one-record : (vorg : List ℕ) (glyph x y : ℕ) → HasOrigins vorg → HasRecord vorg glyph x → HasRecord vorg glyph y → x ≡ y
one-record vorg glyph x y read first second = sym first.is_y ∙ ap (y_at vorg) same ∙ second.is_y
  where
    same : first.k ≡ second.k
    same = elim (nat_cases first.k second.k) [
      | inl less ↦ (let rise = read.ascending first.k second.k less second.within in
          absurd (omega (arith, rise, first.is_glyph, second.is_glyph)))
      | inr more ↦ elim (nat_cases second.k first.k) [
        | inl less ↦ (let rise = read.ascending second.k first.k less first.within in
            absurd (omega (arith, rise, first.is_glyph, second.is_glyph)))
        | inr least ↦ omega (arith, more, least)
      ]
    ]

pub none-listed : (vorg origins : List ℕ) (records : List ℕ) → length records ≡ 0 → AreListed vorg origins 0 records
none-listed vorg origins records empty = record {
  count = 0;
  size = empty;
  few = omega arith;
  only = λ k less. absurd (omega (arith, less));
  all = λ i y less has. absurd (omega (arith, less));
  ascending = λ j k order less. absurd (omega (arith, less));
}

-- the next glyph has no record
pub listed-without : (vorg origins records : List ℕ) (i : ℕ) → AreListed vorg origins i records → HasNoRecord vorg (get_or origins i 0) →
    AreListed vorg origins (i + 1) records
listed-without vorg origins records i before none = record {
  count = before.count;
  size = before.size;
  few = let few = before.few in omega (arith, few);
  only = λ k less. let is = before.only k less in let small = is.small in record { small = omega (arith, small); has = is.has };
  all = λ j y less has. elim (nat_cases j i) [
    | inl early ↦ before.all j y early has
    | inr late ↦ (let same : j ≡ i = omega (arith, less, late) in
        absurd (none y (subst (λ (n : ℕ). HasRecord vorg (get_or origins n 0) y) same has)))
  ];
  ascending = before.ascending;
}

-- the next glyph has a record
pub listed-with : (vorg origins old new : List ℕ) (i y : ℕ) → HasOrigins vorg → AreListed vorg origins i old →
    HasRecord vorg (get_or origins i 0) y → PutsPair i y old new → AreListed vorg origins (i + 1) new
listed-with vorg origins old new i y read before has puts = record {
  count = before.count + 1;
  size = let size = before.size in let more = puts.size in omega (arith, size, more);
  few = let few = before.few in omega (arith, few);
  only = λ k less. elim (nat_cases k before.count) [
    | inl early ↦ (let is = before.only k early in let small = is.small in
        record {
          small = let g = old_glyph k early in omega (arith, small, g);
          has = subst (λ (n : ℕ). HasRecord vorg (get_or origins n 0) (y_in new k)) (sym (old_glyph k early))
              (subst (HasRecord vorg (get_or origins (glyph_in old k) 0)) (sym (old_y k early)) is.has);
        })
    | inr late ↦ (let at : k ≡ before.count = omega (arith, less, late) in
        record {
          small = let g = new_glyph k at in omega (arith, g);
          has = subst (λ (n : ℕ). HasRecord vorg (get_or origins n 0) (y_in new k)) (sym (new_glyph k at))
              (subst (HasRecord vorg (get_or origins i 0)) (sym (new_y k at)) has);
        })
  ];
  all = λ j z less found. elim (nat_cases j i) [
    | inl early ↦ (let is = before.all j z early found in
        record {
          k = is.k;
          within = let within = is.within in omega (arith, within);
          is_glyph = old_glyph is.k is.within ∙ is.is_glyph;
          is_y = old_y is.k is.within ∙ is.is_y;
        })
    | inr late ↦ (let same : j ≡ i = omega (arith, less, late) in
        record {
          k = before.count;
          within = omega arith;
          is_glyph = new_glyph before.count refl ∙ sym same;
          is_y = new_y before.count refl
              ∙ one-record vorg (get_or origins i 0) y z read has (subst (λ (n : ℕ). HasRecord vorg (get_or origins n 0) z) same found);
        })
  ];
  ascending = λ j k order less. elim (nat_cases k before.count) [
    | inl early ↦ (let rise = before.ascending j k order early in
        let first = old_glyph j (omega (arith, order, early)) in
        let second = old_glyph k early in
        omega (arith, rise, first, second))
    | inr late ↦ (let at : k ≡ before.count = omega (arith, less, late) in
        let early : j < before.count = omega (arith, order, at) in
        let low = (before.only j early).small in
        let first = old_glyph j early in
        let second = new_glyph k at in
        omega (arith, low, first, second))
  ];
}
  where
    old_glyph : (k : ℕ) → k < before.count → glyph_in new k ≡ glyph_in old k
    old_glyph k early = puts.same (k * 4) (let size = before.size in omega (arith, size, early))

    old_y : (k : ℕ) → k < before.count → y_in new k ≡ y_in old k
    old_y k early = puts.same (k * 4 + 2) (let size = before.size in omega (arith, size, early))

    new_glyph : (k : ℕ) → k ≡ before.count → glyph_in new k ≡ i
    new_glyph k at = ap (word new) (let size = before.size in let there : k * 4 ≡ length old = omega (arith, size, at) in there) ∙ puts.first_put

    new_y : (k : ℕ) → k ≡ before.count → y_in new k ≡ y
    new_y k at = ap (word new) (let size = before.size in let there : k * 4 + 2 ≡ length old + 2 = omega (arith, size, at) in there) ∙ puts.second_put
