-- From the scalars of a location, a glyph is drawn as at the location.
use Rattle.std.proofs.Common.{◌≡◌, refl, ap, sym, subst, ◌∙◌, ℕ, zero, suc, ◌+◌, ◌*◌, ◌<◌, ◌⊎◌, inl, inr, ℤ, List, [], ◌∷◌, ◌++◌, length, take, drop, Option, None, Some, slice_get, Vec, arith}
use Rattle.std.proofs.Math.Seq.{drop-append_seam, take-append_seam}
use Rattle.std.proofs.lemmas.List.{append_assoc}
use Rattle.std.proofs.lemmas.Option.{none-some, same_Some, slice_get_within}
use Rattle.std.specs.Option.{option_map}
use Rattle.std.specs.declared.alloc.Global.{Global}
use Rattle.postscript_c.specs.Costs.{Costs, nothing, one_more}
use Rattle.postscript_c.specs.Located.{AreLent, IsLent, KeepsLocations, all_scalars}
use Rattle.postscript_c.specs.Varied.{HasFont, IsPlaceAt, IsPlaceIn, cff2}
use Rattle.postscript_cff2.proofs.Uniqueness.{one_view}
use Rattle.postscript_cff2.specs.Layout.{IsLaidOut, View}
use Rattle.postscript_cff2.specs.Shown.{view_shown}
use Rattle.postscript_sfnt.specs.Directory.{IsFirstOf, IsTable, table_at}
use Rattle.postscript_variable_font.specs.Places.{AreTables}
use Rattle.postscript_variable_font.specs.declared.place.Place.{Place}
use Rattle.postscript_variation.specs.Lent.{IsDataIn, IsStoreAt, axes_of, delta_count, regions_of, scalar_at, store_place, table_count}
use Rattle.postscript_variation.specs.declared.store.Data.{Data}
use Rattle.postscript_variation.specs.declared.store.Store.{Store}

-- ---- lists of scalars, one after the other

fronts : (a b xs ys : List ℕ) → length a ≡ length b → a ++ xs ≡ b ++ ys → (a ≡ b) × (xs ≡ ys)
fronts a b xs ys long same = (
  sym (take-append_seam a xs) ∙ ap (take (length a)) same ∙ ap (λ n. take n (b ++ ys)) long ∙ take-append_seam b ys,
  sym (drop-append_seam a xs) ∙ ap (drop (length a)) same ∙ ap (λ n. drop n (b ++ ys)) long ∙ drop-append_seam b ys,
)

abbrev AreAsLong : (xs ys : List (Vec ℕ Global)) → Type 0
AreAsLong xs ys = (i : ℕ) (a b : Vec ℕ Global) → slice_get xs i ≡ Some a → slice_get ys i ≡ Some b → length a.items ≡ length b.items

-- lists that are as long and hold the same numbers, one after the other, are the same
same_items : (xs ys : List (Vec ℕ Global)) (rest : List ℕ) → AreAsLong xs ys → all_scalars xs ≡ all_scalars ys ++ rest →
    length xs ≡ length ys → (i : ℕ) (a b : Vec ℕ Global) → slice_get xs i ≡ Some a → slice_get ys i ≡ Some b → a.items ≡ b.items
same_items [] ys rest long same many i a b at_a at_b = absurd (none-some a at_a)
same_items (x ∷ xs) [] rest long same many i a b at_a at_b = absurd (none-some b at_b)
same_items (x ∷ xs) (y ∷ ys) rest long same many zero a b at_a at_b =
    let both = fronts x.items y.items (all_scalars xs) (all_scalars ys ++ rest) (long 0 x y refl refl)
    (same ∙ append_assoc y.items (all_scalars ys) rest) in
    ap (λ (v : Vec ℕ Global). v.items) (sym (same_Some x a at_a)) ∙ both.0
    ∙ ap (λ (v : Vec ℕ Global). v.items) (same_Some y b at_b)
same_items (x ∷ xs) (y ∷ ys) rest long same many (suc i) a b at_a at_b =
    let both = fronts x.items y.items (all_scalars xs) (all_scalars ys ++ rest) (long 0 x y refl refl)
    (same ∙ append_assoc y.items (all_scalars ys) rest) in
    same_items xs ys rest (λ k. long (suc k)) both.1 (omega (arith, many)) i a b at_a at_b

-- ---- two stores at the same offset

record Same (s t : Store) : Type 0 where
  pub bytes : s.bytes.now ≡ t.bytes.now
  pub place : s.place ≡ t.place
  pub count : s.count ≡ t.count
  pub lent : s.regions.bytes.now ≡ t.regions.bytes.now
  pub list : s.regions.place ≡ t.regions.place
  pub axes : s.regions.axes ≡ t.regions.axes
  pub regions : s.regions.count ≡ t.regions.count

same_stores : (bytes : List ℕ) (place : ℕ) (s t : Store) → IsStoreAt bytes place s → IsStoreAt bytes place t → Same s t
same_stores bytes place s t x y =
    let list : s.regions.place ≡ t.regions.place = x.is.listed ∙ sym y.is.listed in
    let a = x.is.are_regions.are_axes in
    let b = y.is.are_regions.are_axes in
    let c = x.is.are_regions.counted in
    let d = y.is.are_regions.counted in
    record {
      bytes = x.lent ∙ sym y.lent;
      place = x.there ∙ sym y.there;
      count = x.is.counted ∙ sym y.is.counted;
      lent = x.same ∙ sym y.same;
      list = list;
      axes = cc;
      regions = cc;
    }

-- item variation data of both with the same number
record SameData (a b : Data) : Type 0 where
  pub many : delta_count a ≡ delta_count b
  pub scalars : (coordinates : List ℤ) (j : ℕ) → scalar_at a coordinates j ≡ scalar_at b coordinates j

same_data : (s t : Store) (number : ℕ) (a b : Data) → Same s t → IsDataIn s number a → IsDataIn t number b → SameData a b
same_data s t number a b same x y =
    let bytes = same.bytes in
    let place = same.place in
    let lent = same.lent in
    let list = same.list in
    let axes = same.axes in
    let regions = same.regions in
    let x_lent = x.lent in
    let y_lent = y.lent in
    let x_regions = x.regions in
    let y_regions = y.regions in
    let x_there = x.is.there in
    let y_there = y.is.there in
    let there : a.place ≡ b.place = cc in
    let x_counted = x.is.data_there.counted in
    let y_counted = y.is.data_there.counted in
    record { many = cc; scalars = λ coordinates j. cc }

-- what the data of a location cost
same_costs : (s t : Store) (count cost : ℕ) → Same s t → ((n : ℕ) → n < count → (table : Data) × IsDataIn t n table) → Costs s count cost →
    Costs t count cost
same_costs s t _ _ same there nothing = nothing
same_costs s t _ _ same there (one_more count cost table costs is) =
    let other = there count (omega arith) in
    let many = (same_data s t count table other.0 same is other.1).many in
    let each : delta_count other.0 * (axes_of (regions_of t) + 1) ≡ delta_count table * (axes_of (regions_of s) + 1) =
    ap (λ n. n * (axes_of (regions_of t) + 1)) (sym many) ∙ ap (λ n. delta_count table * (n + 1)) (sym same.axes) in
    subst (λ n. Costs t (count + 1) (cost + n)) each
    (one_more count cost other.0 (same_costs s t count cost same (λ n h. there n (omega (arith, h))) costs) other.1)

-- ---- the location from its scalars

as_long : (s t : Store) (coordinates : List ℤ) (scalars : List ℕ) (xs ys : List (Vec ℕ Global)) (rest : List ℕ) → Same s t →
    AreTables s coordinates (table_count s) xs → AreLent t scalars (table_count t) ys rest → AreAsLong xs ys
as_long s t coordinates scalars xs ys rest same are lent i a b at_a at_b =
    let x = are.each i (subst (λ k. i < k) are.counted (slice_get_within xs i a at_a)) in
    let y = lent.each i (subst (λ k. i < k) lent.counted (slice_get_within ys i b at_b)) in
    let is_a : a ≡ x.0 = same_Some a x.0 (sym at_a ∙ x.1) in
    let is_b : b ≡ y.0 = same_Some b y.0 (sym at_b ∙ y.1) in
    ap (λ (v : Vec ℕ Global). length v.items) is_a ∙ x.2.are.counted
    ∙ (same_data s t i x.2.table y.2.table same x.2.stands y.2.there).many ∙ sym y.2.many
    ∙ ap (λ (v : Vec ℕ Global). length v.items) (sym is_b)

same_tables : (s t : Store) (coordinates : List ℤ) (xs ys : List (Vec ℕ Global)) (rest : List ℕ) → Same s t →
    AreTables s coordinates (table_count s) xs → AreLent t (all_scalars xs) (table_count t) ys rest →
    AreTables t coordinates (table_count t) ys
same_tables s t coordinates xs ys rest same are lent =
    let listed : (n : ℕ) → n < table_count t → n < table_count s = λ n h. subst (λ k. n < k) (sym same.count) h in
    let many : length xs ≡ length ys = are.counted ∙ same.count ∙ sym lent.counted in
    let long : AreAsLong xs ys = as_long s t coordinates (all_scalars xs) xs ys rest same are lent in
    record {
      counted = lent.counted;
      each = λ n h.
          let x = are.each n (listed n h) in
          let y = lent.each n h in
          let items = same_items xs ys rest long lent.laid many n x.0 y.0 x.1 y.1 in
          let both = same_data s t n x.2.table y.2.table same x.2.stands y.2.there in (
            y.0,
            y.1,
            record {
              table = y.2.table;
              stands = y.2.there;
              are = record {
                counted = y.2.many;
                each = λ j less.
                    ap (λ (list : List ℕ). slice_get list j) (sym items) ∙ x.2.are.each j (subst (λ k. j < k) (sym both.many) less)
                    ∙ ap Some (both.scalars coordinates j);
              };
            },
          );
    }

abbrev AreStores : (bytes : List ℕ) → Option Store → Type 0
AreStores bytes o = (s : Store) → o ≡ Some s → IsStoreAt bytes (store_place s) s

kept_in : (a b : Option Store) (bytes : List ℕ) (limit : ℕ) (coordinates : List ℤ) (place from : Place) →
    option_map store_place a ≡ option_map store_place b → AreStores bytes a → AreStores bytes b → IsPlaceIn limit a coordinates place →
    IsLent b (all_scalars place.tables.items) from → IsPlaceIn limit b coordinates from
kept_in None None bytes limit coordinates place from same at_a at_b is lent = lent
kept_in None (Some t) bytes limit coordinates place from same at_a at_b is lent = absurd (none-some (store_place t) same)
kept_in (Some s) None bytes limit coordinates place from same at_a at_b is lent = absurd (none-some (store_place s) (sym same))
kept_in (Some s) (Some t) bytes limit coordinates place from same at_a at_b is lent =
    let there = same_Some (store_place s) (store_place t) same in
    let stores = same_stores bytes (store_place t) s t (subst (λ p. IsStoreAt bytes p s) there (at_a s refl)) (at_b t refl) in
    let found : (n : ℕ) → n < table_count t → (table : Data) × IsDataIn t n table =
    λ n h. let y = lent.1.each n h in (y.2.table, y.2.there) in
    let costs : Costs t (table_count t) is.0.0 =
    subst (λ n. Costs t n is.0.0) stores.count
    (same_costs s t (table_count s) is.0.0 stores (λ n h. found n (subst (λ k. n < k) stores.count h)) is.0.1) in (
      (is.0.0, costs, is.0.2),
      same_tables s t coordinates place.tables.items from.tables.items lent.0 stores is.1 lent.1,
    )

-- the table of a tag
apart : (i j : ℕ) → (i < j) ⊎ ((j < i) ⊎ (i ≡ j))
apart i j = grind (arith)

one_record : (bytes : List ℕ) (start count tag i j : ℕ) → IsFirstOf bytes start count tag i → IsFirstOf bytes start count tag j → i ≡ j
one_record bytes start count tag i j x y = elim (apart i j) [
  | inl less ↦ absurd (y.first i less x.names)
  | inr other ↦ elim other [
    | inl more ↦ absurd (x.first j more y.names)
    | inr same ↦ same
  ]
]

one_table_of : (bytes : List ℕ) (start count tag : ℕ) (a b : List ℕ) → IsTable bytes start count tag a → IsTable bytes start count tag b →
    a ≡ b
one_table_of bytes start count tag a b x y =
    x.slice ∙ ap (table_at bytes start) (one_record bytes start count tag x.i y.i x.chosen y.chosen) ∙ sym y.slice

pub keeps_locations : KeepsLocations
keeps_locations limit file values table scalars glyph answer are there drawn =
    let font = drawn.0 in
    let from = drawn.1 in
    let lent = drawn.2 in
    let same = one_table_of file.bytes.now file.start file.count cff2 are.has.table table are.has.there there in
    let old_bytes : are.font.bytes.now ≡ table = are.has.lent ∙ same in
    let laid_out : IsLaidOut table (view_shown are.font) = subst (λ bytes. IsLaidOut bytes (view_shown are.font)) same are.has.laid_out in
    let views = one_view table (view_shown are.font) (view_shown font) laid_out lent.laid_out in
    let places : option_map store_place are.font.store ≡ option_map store_place font.store = ap (λ (v : View). v.store) views in
    let old_stores : AreStores table are.font.store =
    λ s is. subst (λ bytes. IsStoreAt bytes (store_place s) s) old_bytes (are.font.varies s is) in
    let new_stores : AreStores table font.store =
    λ s is. subst (λ bytes. IsStoreAt bytes (store_place s) s) lent.lent (font.varies s is) in
    let from_all : IsLent font.store (all_scalars are.place.tables.items) from =
    subst (λ list. IsLent font.store list from) are.are drawn.3 in
    let has : HasFont file font = record { table = table; there = there; lent = lent.lent; laid_out = lent.laid_out } in
    let at : IsPlaceAt limit file font values from = record {
      coordinates = are.at.coordinates;
      are = are.at.are;
      is = kept_in are.font.store font.store table limit are.at.coordinates are.place from places old_stores new_stores are.at.is from_all;
    } in
    (font, from, has, at, drawn.4)
