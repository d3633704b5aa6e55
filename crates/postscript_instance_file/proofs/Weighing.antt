-- Tables have one weight.
use Rattle.std.proofs.Common.{◌≡◌, ◌⊎◌, inl, inr, refl, sym, ap, subst, ◌∙◌, ℕ, zero, suc, ◌+◌, ◌-◌, ◌*◌, ◌^◌, ◌<◌, ◌≤◌, Bool, true, false, List, min, arith}
use Rattle.std.proofs.Math.Nat.{le-mul_of_pos_right, mul-le-mul_right}
use Rattle.std.proofs.lemmas.Bool.{cases_eq, cases_lt}
use Rattle.postscript_base.specs.Index.{number_at}
use Rattle.postscript_instance_file.specs.Weights.{HasNarrowData, HasWideData, UseInAll, UseRegions, none, one_more}
use Rattle.postscript_instance_file.specs.declared.weight.TheConstants.{STEPS}
use Rattle.postscript_sfnt.specs.Directory.{IsFirstOf}
use Rattle.postscript_sfnt.specs.Lent.{HasNoTable, IsTableOf}
use Rattle.postscript_sfnt.specs.declared.file.FontFile.{FontFile}
use Rattle.postscript_variation.specs.Lent.{IsStoreAt}
use Rattle.postscript_variation.specs.Store.{IsDataOf}
use Rattle.postscript_variation.specs.declared.store.Store.{Store}

one-data : (bytes : List ℕ) (store count number p i z r p' i' z' r' : ℕ) → IsDataOf bytes store count number p i z r →
    IsDataOf bytes store count number p' i' z' r' → r ≡ r'
one-data bytes store count number p i z r p' i' z' r' x y =
    x.data_there.counted ∙ ap (λ (place : ℕ). number_at bytes (place + 4) 2) (x.there ∙ sym y.there) ∙ sym y.data_there.counted

-- two stores at one offset of the same bytes
abbrev pub AreSame : Store → Store → Type 0
AreSame a b = (a.bytes.now ≡ b.bytes.now) × (a.place ≡ b.place) × (a.count ≡ b.count)

pub same : (a : Store) → AreSame a a
same a = (refl, refl, refl)

moved : (a b : Store) (number p i z r : ℕ) → AreSame a b → IsDataOf b.bytes.now b.place b.count number p i z r →
    IsDataOf a.bytes.now a.place a.count number p i z r
moved a b number p i z r e is =
    subst (λ (xs : List ℕ). IsDataOf xs a.place a.count number p i z r) (sym e.0)
    (subst (λ (place : ℕ). IsDataOf b.bytes.now place a.count number p i z r) (sym e.1)
    (subst (λ (count : ℕ). IsDataOf b.bytes.now b.place count number p i z r) (sym e.2) is))

-- item variation data use one number of regions
pub one-use : (a b : Store) (number r s : ℕ) → AreSame a b → UseRegions a number r → UseRegions b number s → r ≡ s
one-use a b number r s e x y = elim x [
  | inl one ↦ elim y [
    | inl other ↦
        one.2
        ∙ one-data a.bytes.now a.place a.count number _ _ _ _ _ _ _ _ one.1.is (moved a b number _ _ _ _ e other.1.is)
        ∙ sym other.2
    | inr absent ↦ absurd (absent.0 _ _ _ _ (moved b a number _ _ _ _ (sym e.0, sym e.1, sym e.2) one.1.is))
  ]
  | inr absent ↦ elim y [
    | inl other ↦ absurd (absent.0 _ _ _ _ (moved a b number _ _ _ _ e other.1.is))
    | inr other ↦ absent.1 ∙ sym other.1
  ]
]

last-of : (store : Store) (n all : ℕ) → UseInAll store n all →
    ((n ≡ 0) × (all ≡ 0))
    ⊎ ((count : ℕ) × (total : ℕ) × (regions : ℕ) × (n ≡ count + 1) × (all ≡ total + regions) × UseInAll store count total
    × UseRegions store count regions)
last-of store n all none = inl (refl, refl)
last-of store n all (one_more count total regions before last) = inr (count, total, regions, refl, refl, before, last)

-- so do all item variation data
pub one-total : (store : Store) (n a b : ℕ) → UseInAll store n a → UseInAll store n b → a ≡ b
one-total store zero a b x y = elim (last-of store zero a x) [
  | inl e ↦ elim (last-of store zero b y) [ inl f ↦ e.1 ∙ sym f.1 | inr f ↦ let off = f.3 in absurd (omega (arith, off)) ]
  | inr e ↦ let off = e.3 in absurd (omega (arith, off))
]
one-total store (suc n) a b x y = elim (last-of store (suc n) a x) [
  | inl e ↦ let off = e.0 in absurd (omega (arith, off))
  | inr e ↦ elim (last-of store (suc n) b y) [
    | inl f ↦ let off = f.0 in absurd (omega (arith, off))
    | inr f ↦
        let p = e.3 in
        let q = f.3 in
        let m : e.0 ≡ n = omega (arith, p) in
        let k : f.0 ≡ n = omega (arith, q) in
        let totals =
        one-total store n e.1 f.1 (subst (λ (count : ℕ). UseInAll store count e.1) m e.5) (subst (λ (count : ℕ). UseInAll store count f.1) k f.5) in
        let regions =
        one-use store store n e.2 f.2 (same store) (subst (λ (count : ℕ). UseRegions store count e.2) m e.6)
        (subst (λ (count : ℕ). UseRegions store count f.2) k f.6) in
        let g = e.4 in
        let h = f.4 in
        omega (arith, totals, regions, g, h)
  ]
]

one-record : (bytes : List ℕ) (start count tag i j : ℕ) → IsFirstOf bytes start count tag i → IsFirstOf bytes start count tag j → i ≡ j
one-record bytes start count tag i j x y = elim (cases_eq i j) [
  | inl same ↦ same
  | inr other ↦ elim (cases_lt i j) [
    | inl less ↦ absurd (y.first i less x.names)
    | inr more ↦ absurd (x.first j (omega (arith, more, other)) y.names)
  ]
]

-- a face has one table of a tag
pub one-table : (file : FontFile) (tag : ℕ) (a b : List ℕ) → IsTableOf file tag a → IsTableOf file tag b → a ≡ b
one-table file tag a b x y =
    let same = one-record file.bytes.now file.start file.count tag x.i y.i x.chosen y.chosen in
    cc

pub has-table : (file : FontFile) (tag : ℕ) (table : List ℕ) → IsTableOf file tag table → HasNoTable file tag → ⊥
has-table file tag table is absent = absent is.i is.chosen.listed is.chosen.names

-- the stores of one table
pub same-stores : (hvar other : List ℕ) (a b : Store) → hvar ≡ other → IsStoreAt hvar (number_at hvar 4 4) a →
    IsStoreAt other (number_at other 4 4) b → AreSame a b
same-stores hvar other a b e x y =
    let x = subst (λ (xs : List ℕ). IsStoreAt xs (number_at xs 4 4) a) e x in
    (x.lent ∙ sym y.lent, x.there ∙ sym y.there, x.is.counted ∙ sym y.is.counted)

pub no-wide : (a b : Store) (sums : ℕ) → AreSame a b → HasNarrowData b sums → HasWideData a sums → ⊥
no-wide a b sums e narrow wide =
    let one = narrow wide.number (subst (λ (n : ℕ). wide.number < n) e.2 wide.there) in
    let same = one-use a b wide.number wide.regions one.0 e wide.use_them one.1 in
    let big = subst (λ (n : ℕ). STEPS < n * sums) same wide.wide in
    let small = one.2 in
    omega (arith, big, small)

pub not-false : (b : Bool) → (b ≡ false → ⊥) → b ≡ true
not-false true h = refl
not-false false h = absurd (h refl)

-- work that is cut to the greatest number is as heavy
pub capped : (most work kept times : ℕ) → most < 2 ^ 64 - 1 → kept ≡ min work (2 ^ 64 - 1) →
    (most < kept * times → most < work * times) × (most < work * times → most < kept * times)
capped most work kept times few is =
    let low : kept ≤ work = omega (arith, is) in (
      λ h. let more = mul-le-mul_right times low in omega (arith, h, more),
      λ h. elim (cases_lt work (2 ^ 64)) [
        | inl small ↦ let e : kept ≡ work = omega (arith, is, small) in subst (λ (n : ℕ). most < n * times) (sym e) h
        | inr big ↦ elim (cases_eq times 0) [
          | inl zeros ↦ let g = subst (λ (n : ℕ). most < work * n) zeros h in absurd (omega (arith, g))
          | inr some ↦
              let e : kept ≡ 2 ^ 64 - 1 = omega (arith, is, big) in
              let positive : 0 < times = omega (arith, some) in
              let more = le-mul_of_pos_right kept positive in
              omega (arith, more, e, few)
        ]
      ],
    )
