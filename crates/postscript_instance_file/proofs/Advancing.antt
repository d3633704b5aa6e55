-- A glyph has only one advance at a location.
use Rattle.std.proofs.Common.{◌≡◌, inl, inr, refl, sym, ap, ap₂, ◌∙◌, ℕ, zero, suc, ◌+◌, ℤ, pos, ◌+ℤ◌, List, Option, None, Some}
use Rattle.postscript_base.specs.Index.{number_at}
use Rattle.postscript_instance.specs.Advances.{IsAdded, IsAdvanceAt}
use Rattle.postscript_instance.specs.declared.advances.AdvancesAt.{AdvancesAt}
use Rattle.postscript_sfnt.specs.Lent.{advance_in}
use Rattle.postscript_variation.specs.Lent.{IsDataIn}
use Rattle.postscript_variation.specs.LentAdvances.{VariesBy, in_whole}
use Rattle.postscript_variation.specs.LentDeltas.{item_place, share_of, sum_by}
use Rattle.postscript_variation.specs.declared.advances.AdvanceVariations.{AdvanceVariations}
use Rattle.postscript_variation.specs.declared.store.Data.{Data}
use Rattle.postscript_variation.specs.declared.store.Store.{Store}

-- two item variation data that are read from the same bytes
record Alike (a b : Data) : Type 0 where
  bytes : a.bytes.now ≡ b.bytes.now
  place : a.place ≡ b.place
  sizes : a.sizes ≡ b.sizes
  count : a.count ≡ b.count
  regions : a.regions ≡ b.regions

alike : (store : Store) (number : ℕ) (a b : Data) → IsDataIn store number a → IsDataIn store number b → Alike a b
alike store number a b is too =
    let place = is.is.there ∙ sym too.is.there in
    record {
      bytes = is.lent ∙ sym too.lent;
      place = place;
      sizes =
          is.is.data_there.are_sizes ∙ ap (λ (n : ℕ). number_at store.bytes.now (n + 2) 2) place ∙ sym too.is.data_there.are_sizes;
      count = is.is.data_there.counted ∙ ap (λ (n : ℕ). number_at store.bytes.now (n + 4) 2) place ∙ sym too.is.data_there.counted;
      regions = is.regions ∙ sym too.regions;
    }

same_share : (a b : Data) (coordinates : List ℤ) (row j : ℕ) → Alike a b → share_of a coordinates row j ≡ share_of b coordinates row j
unfolding share_of
same_share a b coordinates row j like =
    let bytes = like.bytes in
    let place = like.place in
    let sizes = like.sizes in
    let regions = like.regions in
    cc

same_sum : (a b : Data) (coordinates : List ℤ) (row n : ℕ) → Alike a b → sum_by a coordinates row n ≡ sum_by b coordinates row n
same_sum a b coordinates row zero like = refl
same_sum a b coordinates row (suc n) like =
    ap₂ (λ (x y : ℤ). x +ℤ y) (same_sum a b coordinates row n like) (same_share a b coordinates row n like)

one_total : (store : Store) (number item : ℕ) (coordinates : List ℤ) (x y : ℤ) → VariesBy store number item coordinates x →
    VariesBy store number item coordinates y → x ≡ y
one_total store number item coordinates x y one other =
    let a = one.table in
    let b = other.table in
    let like = alike store number a b one.is other.is in
    let place = like.place in
    let sizes = like.sizes in
    let count = like.count in
    let rows : item_place a item ≡ item_place b item = cc in
    one.sum ∙ same_sum a b coordinates (item_place a item) a.count like
    ∙ ap₂ (λ (row n : ℕ). sum_by b coordinates row n) rows count ∙ sym other.sum

one_added : (variations : Option AdvanceVariations) (glyph : ℕ) (coordinates : List ℤ) (x y : ℤ) → IsAdded variations glyph coordinates x →
    IsAdded variations glyph coordinates y → x ≡ y
one_added None glyph coordinates x y one other = one ∙ sym other
one_added (Some variations) glyph coordinates x y one other =
    elim one [
      | inl some ↦
          elim other [
            | inl too ↦ some.2 ∙ ap in_whole (one_total _ _ _ _ _ _ some.1 too.1) ∙ sym too.2
            | inr none ↦ absurd (none.0 some.1.table some.1.is some.1.has)
          ]
      | inr none ↦
          elim other [
            | inl too ↦ absurd (none.0 too.1.table too.1.is too.1.has)
            | inr too ↦ none.1 ∙ sym too.1
          ]
    ]

-- a glyph has one advance
pub one_advance : (advances : AdvancesAt) (glyph : ℕ) (x y : ℤ) → IsAdvanceAt advances glyph x → IsAdvanceAt advances glyph y → x ≡ y
one_advance advances glyph x y one other =
    one.2 ∙ ap (λ (added : ℤ). pos (advance_in advances.default glyph) +ℤ added)
    (one_added advances.variations glyph advances.coordinates.now one.0 other.0 one.1 other.1) ∙ sym other.2
