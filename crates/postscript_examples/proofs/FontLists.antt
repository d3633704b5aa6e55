-- What a font's lists have for one of its dictionaries.
use Rattle.std.proofs.Common.{◌≡◌, ◌<◌, List, Vec, Global, ℕ, Some, None, length, map, get_or, slice_get, ap, sym, subst, refl, rules, ◌∙◌}
use Rattle.std.proofs.lemmas.Option.{get_or_from_slice_get, slice_get-get_or}
use Rattle.std.proofs.lemmas.Simd.{map-map}
use Rattle.postscript_compact1.specs.Index.{Index}
use Rattle.postscript_type2.specs.Program.Evaluation.{run_of}
use Rattle.postscript_type2.specs.Program.Routines.{subroutines, texts}
use Rattle.postscript_examples.specs.Glyphs.{drawn_by, first_refused_by, lists}

-- the items of what stands in a list at a place
pub items_at : (all xs : List Index) (i : ℕ) (x y : Index) → xs ≡ all → slice_get all i ≡ Some x → y ≡ get_or xs i y → y.items ≡ x.items
items_at all xs i x y same has is = ap (λ index. index.items) (is ∙ ap (λ l. get_or l i y) same ∙ get_or_from_slice_get all i x y has)

-- what stands in any list at a place
pub item_is : {A : Type 0} (all xs : List A) (i : ℕ) (x y : A) → xs ≡ all → slice_get all i ≡ Some x → y ≡ get_or xs i y → y ≡ x
item_is all xs i x y same has is = is ∙ ap (λ l. get_or l i y) same ∙ get_or_from_slice_get all i x y has

-- what runs draw, by the lists or by the indices that have their items
pub by_items : (codes global local : List (Vec ℕ Global)) (c g l : Index) → map (λ item. item.items) codes ≡ c.items →
    map (λ item. item.items) global ≡ g.items → map (λ item. item.items) local ≡ l.items
    → map (λ code. drawn_by (subroutines global local) code.items) codes ≡ map (drawn_by (lists g l)) c.items
by_items codes global local c g l e f h =
    rw (sym e, sym f, sym h) (sym (map-map (drawn_by (subroutines global local)) (λ item. item.items) codes))

-- and what they are refused with
pub refused_alike : (codes global local : List (Vec ℕ Global)) (c g l : Index) → map (λ item. item.items) codes ≡ c.items →
    map (λ item. item.items) global ≡ g.items → map (λ item. item.items) local ≡ l.items
    → first_refused_by (subroutines global local) (texts codes) ≡ first_refused_by (lists g l) c.items
refused_alike codes global local c g l e f h = rw (sym e, sym f, sym h) refl

-- what stands in a list at a place is there
pub stands : {A : Type 0} (all xs : List A) (i : ℕ) (d : A) → xs ≡ all → i < length xs → slice_get all i ≡ Some (get_or all i d)
stands all xs i d same within = slice_get-get_or all i d (subst (λ l. i < length l) same within)

pub there : (all xs : List Index) (i : ℕ) (d : Index) → xs ≡ all → i < length xs → slice_get all i ≡ None → ⊥
there all xs i d same within none = search (rules, sym none ∙ stands all xs i d same within)

-- a single run, by the lists or by the indices that have their items
pub runs_alike : (code c : List ℕ) (global local : List (Vec ℕ Global)) (g l : Index) → code ≡ c →
    map (λ item. item.items) global ≡ g.items → map (λ item. item.items) local ≡ l.items
    → run_of (subroutines global local) code ≡ run_of (lists g l) c
runs_alike code c global local g l e f h = rw (sym e, sym f, sym h) refl
