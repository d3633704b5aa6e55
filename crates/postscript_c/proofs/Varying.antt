-- Why no font, and no place of it, is there: one cause after the other.
use Rattle.std.proofs.Common.{◌≡◌, sym, subst, ℕ, ℤ, List, Some, Result, Ok, Err}
use Rattle.std.specs.Prelude.{IfOk}
use Rattle.postscript_c.specs.Placed.{IsUnplaced}
use Rattle.postscript_c.specs.Varied.{HasFont, HasNoFont, HasNoPlaceIn, IsVaried, NamesNoPlace}
use Rattle.postscript_c.specs.declared.place.Unplaced.{Unplaced}
use Rattle.postscript_c.specs.declared.varied.Unvaried.{Unvaried}
use Rattle.postscript_c.specs.declared.varied.Unvaried.TheVariants.{NoTable, BadTable, NoPlace, NoData, FarPlace, Undrawn}
use Rattle.postscript_cff2.specs.declared.font.Font.{Font}
use Rattle.postscript_sfnt.specs.declared.file.FontFile.{FontFile}
use Rattle.postscript_variation.specs.declared.store.Store.{Store}

pub none_in : (limit : ℕ) (file : FontFile) (font : Font) (values : List ℤ) (store : Store) (e : Unvaried) → font.store ≡ Some store →
    HasNoPlaceIn limit store e →
    NamesNoPlace limit file font values e
none_in limit file font values store NoTable is h = absurd h
none_in limit file font values store (BadTable e) is h = absurd h
none_in limit file font values store (NoPlace e) is h = subst (λ (cause : Unplaced). IsUnplaced file values cause) (sym h) tt
none_in limit file font values store (NoData number) is h = (store, is, h)
none_in limit file font values store FarPlace is h = (store, is, h)
none_in limit file font values store (Undrawn e) is h = absurd h

pub no_font : (file : FontFile) (values : List ℤ) (glyph limit : ℕ) (e : Unvaried) → HasNoFont file e →
    IsVaried file values glyph limit (Err e)
no_font file values glyph limit NoTable h = h
no_font file values glyph limit (BadTable e) h = h
no_font file values glyph limit (NoPlace e) h = absurd h
no_font file values glyph limit (NoData number) h = absurd h
no_font file values glyph limit FarPlace h = absurd h
no_font file values glyph limit (Undrawn e) h = absurd h

pub no_place : (file : FontFile) (font : Font) (values : List ℤ) (glyph limit : ℕ) (e : Unvaried) → HasFont file font →
    NamesNoPlace limit file font values e →
    IsVaried file values glyph limit (Err e)
no_place file font values glyph limit NoTable has h = absurd h
no_place file font values glyph limit (BadTable e) has h = absurd h
no_place file font values glyph limit (NoPlace e) has h = h
no_place file font values glyph limit (NoData number) has h = (font, has, h)
no_place file font values glyph limit FarPlace has h = (font, has, h)
no_place file font values glyph limit (Undrawn e) has h = absurd h

-- what is found has another quality too
pub if-ok : {A E : Type 0} (P Q : A → Type 0) (r : Result A E) → ((found : A) → P found → Q found) → IfOk r P → IfOk r Q
if-ok P Q (Ok found) kept so = kept found so
if-ok P Q (Err e) kept so = tt
