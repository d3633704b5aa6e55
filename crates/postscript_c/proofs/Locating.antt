-- Scalars of one item variation data after the other.
use Rattle.std.proofs.Common.{◌≡◌, refl, ap, sym, subst, ◌∙◌, ℕ, ◌+◌, ◌<◌, inl, inr, List, [], ◌∷◌, ◌++◌, length-append, Some, slice_get, Vec, Option, Ok, Err, arith}
use Rattle.std.proofs.lemmas.List.{append_assoc, flat_map_more}
use Rattle.std.specs.declared.alloc.Global.{Global}
use Rattle.postscript_c.proofs.Placing.{either, last, stays}
use Rattle.postscript_c.specs.Located.{AreLent, HasNoTables, IsForData, IsLent, IsLocated, IsNotLent, all_scalars}
use Rattle.postscript_c.specs.Varied.{IsDrawnWithin}
use Rattle.postscript_c.specs.declared.prepared.Unlocated.{Unlocated}
use Rattle.postscript_c.specs.declared.prepared.Unlocated.TheVariants.{BadTable, NoData, TooFew, Memory, Undrawn}
use Rattle.postscript_cff2.specs.Layout.{IsLaidOut}
use Rattle.postscript_cff2.specs.Shown.{view_shown}
use Rattle.postscript_cff2.specs.declared.font.Font.{Font}
use Rattle.postscript_drawing.specs.declared.error.Error.{Error}
use Rattle.postscript_outline.specs.declared.segment.Segment.{Segment}
use Rattle.postscript_variable_font.specs.Places.{LacksData}
use Rattle.postscript_variable_font.specs.declared.place.Place.{Place}
use Rattle.postscript_variation.specs.Lent.{HasNoTable, table_count}
use Rattle.postscript_variation.specs.declared.store.Store.{Store}

pub one_more : (tables : List (Vec ℕ Global)) (x : Vec ℕ Global) → all_scalars tables ++ x.items ≡ all_scalars (tables ++ x ∷ [])
one_more tables x = flat_map_more (λ (table : Vec ℕ Global). table.items) [] tables x

pub no_tables : (store : Store) (scalars : List ℕ) → AreLent store scalars 0 [] scalars
no_tables store scalars = record { counted = refl; each = λ n h. absurd (omega (arith, h)); laid = refl }

pub one_table : (store : Store) (scalars : List ℕ) (n : ℕ) (xs : List (Vec ℕ Global)) (rest : List ℕ) (x : Vec ℕ Global) (behind : List ℕ) →
    AreLent store scalars n xs rest → IsForData store n x.items → rest ≡ x.items ++ behind →
    AreLent store scalars (n + 1) (xs ++ x ∷ []) behind
one_table store scalars n xs rest x behind are is cut =
    let many = are.counted in
    let long = length-append xs (x ∷ []) in
    let at_end : slice_get (xs ++ x ∷ []) n ≡ Some x = subst (λ k. slice_get (xs ++ x ∷ []) k ≡ Some x) many (last xs x) in
    record {
      counted = omega (arith, many, long);
      each = λ j h. elim (either j n h) [
        | inl less ↦ let old = are.each j less in (old.0, stays xs x j (omega (arith, less, many)) ∙ old.1, old.2)
        | inr same ↦ (x, ap (slice_get (xs ++ x ∷ [])) same ∙ at_end, subst (λ k. IsForData store k x.items) (sym same) is)
      ];
      laid = are.laid ∙ ap (λ ys. all_scalars xs ++ ys) cut ∙ sym (append_assoc (all_scalars xs) x.items behind)
          ∙ ap (λ ys. ys ++ behind) (one_more xs x);
    }

-- item variation data of which the first lack
pub lacking : (store : Store) (scalars : List ℕ) (n : ℕ) (tables : List (Vec ℕ Global)) (rest : List ℕ) →
    AreLent store scalars n tables rest → n < table_count store → HasNoTable store n →
    LacksData store n
lacking store scalars n tables rest are there lacks = record {
  there = there;
  lacks = lacks;
  before = λ k less. let all = are.each k less in (all.2.table, all.2.there);
}

-- why there is no location, one cause after the other
pub none_in : (o : Option Store) (store : Store) (scalars : List ℕ) (e : Unlocated) → o ≡ Some store → HasNoTables store scalars e →
    IsNotLent o scalars e
none_in o store scalars (BadTable e) is h = absurd h
none_in o store scalars (NoData number) is h = (store, is, h)
none_in o store scalars TooFew is h = (store, is, h)
none_in o store scalars Memory is h = tt
none_in o store scalars (Undrawn e) is h = absurd h

pub no_location : (table scalars : List ℕ) (glyph limit : ℕ) (font : Font) (e : Unlocated) → IsLaidOut table (view_shown font) →
    font.bytes.now ≡ table → IsNotLent font.store scalars e → IsLocated table scalars glyph limit (Err e)
no_location table scalars glyph limit font (BadTable e) laid lent h = absurd h
no_location table scalars glyph limit font (NoData number) laid lent h = (font, record { lent = lent; laid_out = laid }, h)
no_location table scalars glyph limit font TooFew laid lent h = (font, record { lent = lent; laid_out = laid }, h)
no_location table scalars glyph limit font Memory laid lent h = tt
no_location table scalars glyph limit font (Undrawn e) laid lent h = absurd h

-- what is drawn, and why it is not
pub drawn_so : (table scalars : List ℕ) (glyph limit : ℕ) (font : Font) (place : Place) (segments : List Segment) →
    IsLaidOut table (view_shown font) → font.bytes.now ≡ table → IsLent font.store scalars place →
    IsDrawnWithin limit font glyph place (Ok segments) → IsLocated table scalars glyph limit (Ok segments)
drawn_so table scalars glyph limit font place segments laid lent is drawn = (font, place, record { lent = lent; laid_out = laid }, is, drawn)

pub undrawn_so : (table scalars : List ℕ) (glyph limit : ℕ) (font : Font) (place : Place) (e : Error) →
    IsLaidOut table (view_shown font) → font.bytes.now ≡ table → IsLent font.store scalars place →
    IsDrawnWithin limit font glyph place (Err e) → IsLocated table scalars glyph limit (Err (Undrawn e))
undrawn_so table scalars glyph limit font place e laid lent is drawn = (font, place, record { lent = lent; laid_out = laid }, is, drawn)
