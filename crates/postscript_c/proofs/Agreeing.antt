-- The places are those of the view.
use Rattle.std.proofs.Common.{◌≡◌, ◌≢◌, refl, sym, ap, subst, ◌∙◌, inl, inr, ℕ, ℤ, List, [], length, arith}
use Rattle.std.specs.Option.{option_and_then}
use Rattle.postscript_base.specs.Compact1.Dictionary.{Dictionary}
use Rattle.std.specs.Prelude.{IfOk, Option, Some, Result, Ok, Err, slice_get}
use Rattle.postscript_base.specs.Compact1.Decimal.{Decimal, to_i32}
use Rattle.postscript_base.specs.Tape.Outcome.{Outcome, Got, Fault, Past, after, Answers}
use Rattle.postscript_base.specs.declared.error.Error.{Error}
use Rattle.postscript_c.specs.FontWidths.{TellsWidths}
use Rattle.postscript_c.specs.Keyed.{IsKeyedBy}
use Rattle.postscript_c.specs.Law.{AreOf, OpensFont, NamesSelection}
use Rattle.postscript_c.specs.declared.font.PsfFont.{PsfFont}
use Rattle.postscript_c.specs.Places as told
use Rattle.postscript_c.specs.Places.{Places, codes, placed, places, places_of}
use Rattle.postscript_compact1.proofs.OperandLaws.{placed_has}
use Rattle.postscript_compact1.proofs.Outcomes.{got}
use Rattle.postscript_base.specs.Index.{opened}
use Rattle.postscript_view.proofs.LayoutLaws.{whole_offset}
use Rattle.postscript_view.specs.Select.{offset_from, offset_of}
use Rattle.postscript_view.specs.Order.{aside, char_strings, map_from, header_size, parts, tables, view, view_of}
use Rattle.postscript_view.specs.Contents.{View, Tables}
use Rattle.postscript_base.specs.declared.compact1.operator.Operator.{Operator}
use Rattle.postscript_base.specs.declared.compact1.operator.Operator.TheVariants as operators
use Rattle.postscript_compact1.specs.FontSet.Operands.{place_at, type_two}

-- two chains that begin with the same reading, and have a value each
both : {A B C : Type 0} (o : Outcome A) (f : A → ℕ → Outcome B) (g : A → ℕ → Outcome C) (b : B) (n : ℕ) (c : C) (m : ℕ) →
    after o f ≡ Got b n → after o g ≡ Got c m
    → (v : A) × (at : ℕ) × (o ≡ Got v at) × (f v at ≡ Got b n) × (g v at ≡ Got c m)
both (Got v at) f g b n c m e h = (v, at, refl, e, h)
both (Fault r) f g b n c m e h = let is : Fault r ≡ Got b n = e in absurd (cc)
both Past f g b n c m e h = let is : Past ≡ Got b n = e in absurd (cc)

-- a chain that has a value: so has its first reading
pub one : {A B : Type 0} (o : Outcome A) (f : A → ℕ → Outcome B) (b : B) (n : ℕ) → after o f ≡ Got b n →
    (v : A) × (at : ℕ) × (o ≡ Got v at) × (f v at ≡ Got b n)
one o f b n e = let d = both o f f b n b n e e in (d.0, d.1, d.2, d.3)

tables_same : (bytes : List ℕ) (place : ℕ) (t : Tables) (n : ℕ) (u : Dictionary × ℕ) (m : ℕ) → tables 0 bytes place ≡ Got t n →
    told.tables bytes place ≡ Got u m
    → (u.0 ≡ t.dictionary) × ((next : ℕ) × (opened bytes u.1 ≡ Got t.subroutines next))
unfolding tables told.tables
tables_same bytes place t n u m e h =
    let a = both (opened bytes place) _ _ t n u m e h in
    let b = both (opened bytes a.1) _ _ t n u m a.3 a.4 in
    let c = both (opened bytes b.1) _ _ t n u m b.3 b.4 in
    let d = both (opened bytes c.1) _ _ t n u m c.3 c.4 in
    let x = both (map_from (slice_get b.0 0) bytes d.1) _ _ t n u m d.3 d.4 in
    let T = got (record { names = a.0; dictionary = x.0; strings = c.0; subroutines = d.0 }) t x.1 n x.3 in
    let U = got (x.0, c.1) u x.1 m x.4 in
    let there : c.1 ≡ u.1 = ap (λ (u : Dictionary × ℕ). u.1) U.0 in
    let map : x.0 ≡ u.0 = ap (λ (u : Dictionary × ℕ). u.0) U.0 in
    let same : x.0 ≡ t.dictionary = ap (λ (t : Tables). t.dictionary) T.0 in
    let subs : d.0 ≡ t.subroutines = ap (λ (t : Tables). t.subroutines) T.0 in
    let P : ℕ → Type 0 = λ p. opened bytes p ≡ Got t.subroutines d.1 in
    let Q : List (List ℕ) → Type 0 = λ s. opened bytes c.1 ≡ Got s d.1 in
    (sym map ∙ same, (d.1, subst P there (subst Q subs d.2)))

codes_same : (bytes : List ℕ) (map : Dictionary) (place : ℕ) (items : List (List ℕ)) (n : ℕ) (r : ℕ × ℕ) (m : ℕ) →
    char_strings map bytes place ≡ Got items n → codes map bytes place ≡ Got r m
    → ((next : ℕ) × (opened bytes r.0 ≡ Got items next)) × (r.1 ≡ length items)
unfolding char_strings codes
codes_same bytes map place items n r m e h =
    let a = both (place_at 0 0 map operators.CharStrings bytes place) _ _ items n r m e h in
    let b = both (type_two map bytes a.1) _ _ items n r m a.3 a.4 in
    let w = one (aside a.0 opened bytes b.1) _ r m b.4 in
    let S = got items w.0 n w.1 (sym b.3 ∙ w.2) in
    let d = one (opened bytes a.0) _ items n b.3 in
    let D = got d.0 items b.1 n d.3 in
    let R = got (a.0, length w.0) r w.1 m w.3 in
    let there : a.0 ≡ r.0 = ap (λ (r : ℕ × ℕ). r.0) R.0 in
    let count : length w.0 ≡ r.1 = ap (λ (r : ℕ × ℕ). r.1) R.0 in
    let P : ℕ → Type 0 = λ p. opened bytes p ≡ Got items d.1 in
    let Q : List (List ℕ) → Type 0 = λ s. opened bytes a.0 ≡ Got s d.1 in
    ((d.1, subst P there (subst Q D.0 d.2)), sym count ∙ ap (λ (s : List (List ℕ)). length s) (sym S.0))

pub agrees : (bytes : List ℕ) (v : View) (n : ℕ) (p : Places) (m : ℕ) → view bytes 0 ≡ Got v n → places bytes 0 ≡ Got p m → AreOf bytes v p
unfolding view_of places places_of
agrees bytes v n p m e h =
    let a = both (header_size bytes 0) _ _ v n p m e h in
    let e2 = one (aside a.0 (tables 0) bytes a.1) _ v n a.3 in
    let h2 = one (aside a.0 told.tables bytes a.1) _ p m a.4 in
    let e3 = one (tables 0 bytes a.0) _ e2.0 e2.1 e2.2 in
    let h3 = one (told.tables bytes a.0) _ h2.0 h2.1 h2.2 in
    let E = got e3.0 e2.0 a.1 e2.1 e3.3 in
    let H = got h3.0 h2.0 a.1 h2.1 h3.3 in
    let t = tables_same bytes a.0 e3.0 e3.1 h3.0 h3.1 e3.2 h3.2 in
    let map : h2.0.0 ≡ e2.0.dictionary = ap (λ (u : Dictionary × ℕ). u.0) (sym H.0) ∙ t.0 ∙ ap (λ (t : Tables). t.dictionary) E.0 in
    let at : h2.1 ≡ e2.1 = sym H.1 ∙ E.1 in
    let e4 = one (char_strings e2.0.dictionary bytes e2.1) _ v n e2.3 in
    let h4 = one (codes h2.0.0 bytes h2.1) _ p m h2.3 in
    let M : Dictionary → Type 0 = λ map. codes map bytes h2.1 ≡ Got h4.0 h4.1 in
    let N : ℕ → Type 0 = λ at. codes e2.0.dictionary bytes at ≡ Got h4.0 h4.1 in
    let c = codes_same bytes e2.0.dictionary e2.1 e4.0 e4.1 h4.0 h4.1 e4.2 (subst N at (subst M map h4.2)) in
    let e5 = one (parts e2.0.dictionary bytes e4.1) _ v n e4.3 in
    let h5 = one (told.local h2.0.0 bytes h4.1) _ p m h4.3 in
    let V = got (record { tables = e2.0; char_strings = e4.0; parts = e5.0 }) v e5.1 n e5.3 in
    let W = got (record { char_strings = h4.0.0; global_subroutines = h2.0.1; local_subroutines = h5.0; glyphs = h4.0.1 }) p h5.1 m h5.3 in
    let codes_v : e4.0 ≡ v.char_strings = ap (λ (v : View). v.char_strings) V.0 in
    let subs_v : e2.0.subroutines ≡ v.tables.subroutines = ap (λ (v : View). v.tables.subroutines) V.0 in
    let codes_p : h4.0.0 ≡ p.char_strings = ap (λ (p : Places). p.char_strings) W.0 in
    let subs_p : h2.0.1 ≡ p.global_subroutines = ap (λ (p : Places). p.global_subroutines) W.0 in
    let count_p : h4.0.1 ≡ p.glyphs = ap (λ (p : Places). p.glyphs) W.0 in
    let subs_t : e3.0.subroutines ≡ v.tables.subroutines = ap (λ (t : Tables). t.subroutines) E.0 ∙ subs_v in
    let there : h3.0.1 ≡ p.global_subroutines = ap (λ (u : Dictionary × ℕ). u.1) H.0 ∙ subs_p in
    let C : ℕ → Type 0 = λ there. opened bytes there ≡ Got v.char_strings c.0.0 in
    let D : List (List ℕ) → Type 0 = λ items. opened bytes h4.0.0 ≡ Got items c.0.0 in
    let G : ℕ → Type 0 = λ there. opened bytes there ≡ Got v.tables.subroutines t.1.0 in
    let K : List (List ℕ) → Type 0 = λ items. opened bytes h3.0.1 ≡ Got items t.1.0 in
    record {
      codes = (c.0.0, subst C codes_p (subst D codes_v c.0.1));
      globals = (t.1.0, subst G there (subst K subs_t t.1.1));
      glyphs = sym count_p ∙ c.1 ∙ ap (λ (s : List (List ℕ)). length s) codes_v;
    }

-- the dictionary of which C is told is that of the view
pub dictionary_same : (bytes : List ℕ) (v : View) (n size : ℕ) (map : Dictionary) (global : ℕ) → view bytes 0 ≡ Got v n →
    header_size bytes 0 ≡ Got size 0 → aside size told.tables bytes 0 ≡ Got (map, global) 0 → map ≡ v.tables.dictionary
unfolding view_of
dictionary_same bytes v n size map global e header stands =
    let a = one (header_size bytes 0) _ v n e in
    let S = got a.0 size a.1 0 (sym a.2 ∙ header) in
    let b = one (aside a.0 (tables 0) bytes a.1) _ v n a.3 in
    let c = one (tables 0 bytes a.0) _ b.0 b.1 b.2 in
    let C = got c.0 b.0 a.1 b.1 c.3 in
    let d = one (told.tables bytes size) _ (map, global) 0 stands in
    let D = got d.0 (map, global) 0 0 d.3 in
    let P : ℕ → Type 0 = λ p. tables 0 bytes p ≡ Got c.0 c.1 in
    let t = tables_same bytes size c.0 c.1 d.0 d.1 (subst P S.0 c.2) d.2 in
    let x = one (char_strings b.0.dictionary bytes b.1) _ v n b.3 in
    let y = one (parts b.0.dictionary bytes x.1) _ v n x.3 in
    let V = got (record { tables = b.0; char_strings = x.0; parts = y.0 }) v y.1 n y.3 in
    ap (λ (u : Dictionary × ℕ). u.0) (sym D.0) ∙ t.0 ∙ ap (λ (t : Tables). t.dictionary) C.0 ∙ ap (λ (v : View). v.tables.dictionary) V.0

-- an operator that names a place names it as an offset
offset_named : (map : Dictionary) (operator : Operator) (place : ℕ) → place_at 0 0 map operator [] 0 ≡ Got place 0 →
    offset_of map operator ≡ Some place
unfolding offset_of
offset_named map operator place e =
    let p = placed_has 0 0 map operator place [] 0 0 e in
    let on : p.1 ≡ place = omega (arith, p.4) in
    ap (λ (o : Option Decimal). offset_from (option_and_then to_i32 o)) p.2.1 ∙ ap offset_from p.2.2
    ∙ ap (λ (z : ℤ). offset_from (Some z)) (whole_offset p.0 p.1 p.3) ∙ ap (λ (n : ℕ). Some n) on

selection_named : (map : Dictionary) (font : PsfFont) → IsKeyedBy map font → font.is_cid ≢ 0 → font.fd_select ≢ 0 →
    offset_of map operators.FDSelect ≡ Some font.fd_select
selection_named map font (inl plain) cid there = absurd (cid plain.1)
selection_named map font (inr keyed) cid there = elim keyed.3 [
  | inl named ↦ offset_named map operators.FDSelect font.fd_select named
  | inr none ↦ absurd (there none.1)
]

selected : (bytes : List ℕ) (v : View) (n : ℕ) (font : PsfFont) → TellsWidths bytes font → view bytes 0 ≡ Got v n → NamesSelection font v
selected bytes v n font w e cid there =
    ap (λ (map : Dictionary). offset_of map operators.FDSelect)
    (sym (dictionary_same bytes v n w.size w.map w.global e w.header w.stands)) ∙ selection_named w.map font w.keyed cid there

pub font_of : (answer : Result PsfFont Error) (bytes : List ℕ) → Answers placed answer 0 (places bytes 0) →
    IfOk answer (λ font. TellsWidths bytes font) → IfOk answer (λ font. font.limit ≡ 20000000) →
    OpensFont bytes answer
font_of (Ok font) bytes e w limit = record {
  reads = e;
  widths = w;
  limit = limit;
  same = λ v next h. agrees bytes v next (placed font) 0 h e;
  selection = λ v next h. selected bytes v next font w h;
}
font_of (Err refusal) bytes e w limit = record { reads = e; widths = tt; limit = tt; same = tt; selection = tt }
