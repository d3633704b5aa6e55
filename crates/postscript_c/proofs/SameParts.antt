-- The part of a glyph is the same for C and for the font that is opened in place.
use Rattle.std.proofs.Common.{◌≡◌, ◌≢◌, ◌⊎◌, refl, sym, ap, subst, ◌∙◌, inl, inr, ℕ, zero, suc, ◌+◌, ◌<◌, ◌≤◌, ◌^◌, ◌==◌, ℤ, pos, negsuc, ◌+ℤ◌, List, [], ◌∷◌, length, arith}
use Rattle.std.specs.Prelude.{◌↔◌, true, false, Option, Some, None, IsSome, slice_get, option_map}
use Rattle.std.specs.Option.{option_and_then}
use Rattle.std.proofs.lemmas.Int.{ints}
use Rattle.std.proofs.lemmas.Option.{slice_get-map, slice_get_past, slice_get_within}
use Rattle.std.proofs.lemmas.Bool.{cases_lt}
use Rattle.std.proofs.lemmas.Bool.Decides.{nat_tests}
use Rattle.postscript_base.proofs.Opening.{opened_only}
use Rattle.postscript_base.specs.Compact1.Decimal.{Decimal, to_i32}
use Rattle.postscript_base.specs.Compact1.Defaults.{look, first_of}
use Rattle.postscript_base.specs.Compact1.Dictionary.{Dictionary}
use Rattle.postscript_base.specs.Compact1.DictionaryLaw.{IsDictionary}
use Rattle.postscript_base.specs.Error.{code}
use Rattle.postscript_base.specs.Index.{opened}
use Rattle.postscript_base.specs.Index.Lent.{items_of}
use Rattle.postscript_base.specs.Tape.Outcome.{Got, RefusedAs}
use Rattle.postscript_base.specs.declared.compact1.operator.Operator.{Operator}
use Rattle.postscript_base.specs.declared.compact1.operator.Operator.TheVariants as operators
use Rattle.postscript_base.specs.declared.error.Error.{Error}
use Rattle.postscript_base.specs.declared.error.Error.TheVariants.{Memory}
use Rattle.postscript_c.proofs.Agreeing.{dictionary_same, one}
use Rattle.postscript_c.proofs.PartPlaces.{index_none, index_there, part_told, same_widths, told_widths}
use Rattle.postscript_c.specs.AtStart.{NamesNoStart, NamesSubroutines, NamesSubroutinesOf, naming}
use Rattle.postscript_c.specs.CidParts.{HasDictionary, HasItem, HasNumber, IsPartOf, NoPart, item_part}
use Rattle.postscript_c.specs.Drawn.{HasNone, IsFirst}
use Rattle.postscript_c.specs.FontWidths.{HaveWidths}
use Rattle.postscript_c.specs.Glyphs.{index_at, program_at, program_of}
use Rattle.postscript_c.specs.Keyed.{IsKeyedBy, IsPlaceOrNone}
use Rattle.postscript_c.specs.Law.{NamesSelection}
use Rattle.postscript_c.specs.Parts.{IsPartIn, TellsNoPart, no_glyph, no_dictionary, refused}
use Rattle.postscript_c.specs.Places as told
use Rattle.postscript_c.specs.Places.{Places, codes, placed, places, places_of}
use Rattle.postscript_c.specs.SameParts.{HasNoPart, HasNumberIn, HasSameSubroutines, HasSameWidths, IsNoneIn, IsToldNone, AreNumbersOf, KeepsParts, SamePart, TellsPart, TellsParts, program_in}
use Rattle.postscript_c.specs.Widths.{AreWidths, IsWidth}
use Rattle.postscript_c.specs.declared.font.PsfFont.{PsfFont}
use Rattle.postscript_c.specs.declared.part.PsfPart.{PsfPart}
use Rattle.postscript_compact1.proofs.OperandLaws.{placed_has, placed_is}
use Rattle.postscript_compact1.proofs.Outcomes.{got}
use Rattle.postscript_compact1.specs.FontSet.Operands.{place_at, type_two}
use Rattle.postscript_compact1.specs.FontSet.Parts.{HasFirst, IsPlace}
use Rattle.postscript_compact1.specs.Kinds.{map_of}
use Rattle.postscript_type2.specs.Program.Evaluation.{run_of}
use Rattle.postscript_type2.specs.Program.Programs.{begun}
use Rattle.postscript_type2.specs.Program.Routines.{lent}
use Rattle.postscript_view.proofs.LayoutLaws.{reads_layout, whole_offset}
use Rattle.postscript_view.proofs.Selecting.{one_named}
use Rattle.postscript_view.proofs.Wider.{map_is}
use Rattle.postscript_view.specs.Contents as contents
use Rattle.postscript_view.specs.Glyphs.{HasPartNumber, IsPartNumber}
use Rattle.postscript_view.specs.Layout.{AreParts, ArePartsOf, HasLocals, IsLaidOut, IsPart, NamesIndex, OfFont, OfFontDictionaries}
use Rattle.postscript_view.specs.Order.{aside, header_size, map_from}
use Rattle.postscript_view.specs.Select.{IsSelected, Selects, offset_from, offset_of}
use Rattle.postscript_view.specs.Value.{part_shown, parts_shown, view_shown}
use Rattle.postscript_view.specs.declared.font.FontView.{FontView}
use Rattle.postscript_view.specs.declared.private_dict.PrivateDict.{PrivateDict}

-- ---- the place that an operator names
small : (x : Decimal) (n : ℕ) → to_i32 x ≡ Some (pos n) → n < 2 ^ 64
unfolding to_i32
small x n e = grind (arith, ints)

offset_first : (map : Dictionary) (operator : Operator) (n : ℕ) → offset_of map operator ≡ Some n → HasFirst map operator (pos n)
unfolding offset_of
offset_first map operator n e = by (first_of (look map operator)) refl e
  where
    whole : (x : Decimal) (v : Option ℤ) → first_of (look map operator) ≡ Some x → to_i32 x ≡ v → offset_from v ≡ Some n →
        HasFirst map operator (pos n)
    whole x (Some (pos m)) is w e = (x, is, w ∙ ap (λ (m : ℕ). Some (pos m)) (cc))
    whole x (Some (negsuc m)) is w e = let never : None ≡ Some n = e in absurd (cc)
    whole x None is w e = let never : None ≡ Some n = e in absurd (cc)

    by : (o : Option Decimal) → first_of (look map operator) ≡ o → offset_from (option_and_then to_i32 o) ≡ Some n →
        HasFirst map operator (pos n)
    by None is e = let never : None ≡ Some n = e in absurd (cc)
    by (Some x) is e = whole x (to_i32 x) is refl e

named_place : (map : Dictionary) (operator : Operator) (n : ℕ) → HasFirst map operator (pos n) → place_at 0 0 map operator [] 0 ≡ Got n 0
named_place map operator n h =
    let sum : pos 0 +ℤ pos n ≡ pos n = omega (arith, ints) in
    let on : 0 + n ≡ n = omega arith in
    placed_is 0 0 map operator (pos n) n [] 0 h sum (subst IsPlace (sym on) (small h.0 n h.2)) ∙ ap (λ n. Got n 0) on

told_place : (map : Dictionary) (operator : Operator) (n place : ℕ) → HasFirst map operator (pos n) → IsPlaceOrNone map operator place →
    place ≡ n
told_place map operator n place h (inl named) = (got _ _ _ _ (sym named ∙ named_place map operator n h)).0
told_place map operator n place h (inr lacks) = absurd (lacks.0 n 0 (named_place map operator n h))

-- ---- what both have in common
record Common (bytes : List ℕ) (font : PsfFont) (v : FontView) : Type 0 where
  keyed : IsKeyedBy v.dictionary font
  laid : IsLaidOut bytes 0 (view_shown v)
  there : v.bytes.now ≡ bytes
  glyphs : font.glyphs ≡ length (items_of v.char_strings)
  at : ℕ
  next : ℕ
  local : told.local v.dictionary bytes at ≡ Got font.part.local_subroutines next
  widths : HaveWidths bytes v.dictionary font.part
  selection : NamesSelection font (view_shown v)
  named : HasFirst v.dictionary operators.CharStrings (pos font.char_strings)
  codes : (next : ℕ) × (opened bytes font.char_strings ≡ Got (items_of v.char_strings) next)
  globals : (next : ℕ) × (opened bytes font.global_subroutines ≡ Got (items_of v.global_subroutines) next)
  behind : 0 < font.global_subroutines

local_read : (bytes : List ℕ) (p : Places) (m size : ℕ) (map : Dictionary) (global : ℕ) → places bytes 0 ≡ Got p m →
    header_size bytes 0 ≡ Got size 0 → aside size told.tables bytes 0 ≡ Got (map, global) 0
    → ((at : ℕ) × (next : ℕ) × (told.local map bytes at ≡ Got p.local_subroutines next)) × ((at : ℕ) × (next : ℕ) × (count : ℕ) × (codes
    map bytes at ≡ Got (p.char_strings, count) next))
unfolding places places_of
local_read bytes p m size map global e header stands =
    let a = one (header_size bytes 0) _ p m e in
    let S = got a.0 size a.1 0 (sym a.2 ∙ header) in
    let b = one (aside a.0 told.tables bytes a.1) _ p m a.3 in
    let P : ℕ → ℕ → Type 0 = λ there at. aside there told.tables bytes at ≡ Got b.0 b.1 in
    let B = got b.0 (map, global) b.1 0 (sym (subst (λ at. P size at) S.1 (subst (λ there. P there a.1) S.0 b.2)) ∙ stands) in
    let c = one (codes b.0.0 bytes b.1) _ p m b.3 in
    let d = one (told.local b.0.0 bytes c.1) _ p m c.3 in
    let D = got (record { char_strings = c.0.0; global_subroutines = b.0.1; local_subroutines = d.0; glyphs = c.0.1 }) p d.1 m d.3 in
    let local : d.0 ≡ p.local_subroutines = ap (λ (p : Places). p.local_subroutines) D.0 in
    let is : b.0.0 ≡ map = ap (λ (u : Dictionary × ℕ). u.0) B.0 in
    let there : c.0.0 ≡ p.char_strings = ap (λ (p : Places). p.char_strings) D.0 in (
      (
        c.1,
        d.1,
        subst (λ (m : Dictionary). told.local m bytes c.1 ≡ Got p.local_subroutines d.1) is
            (subst (λ (l : ℕ). told.local b.0.0 bytes c.1 ≡ Got l d.1) local d.2),
      ),
      (
        b.1,
        c.1,
        c.0.1,
        subst (λ (m : Dictionary). codes m bytes b.1 ≡ Got (p.char_strings, c.0.1) c.1) is
            (subst (λ (q : ℕ). codes b.0.0 bytes b.1 ≡ Got (q, c.0.1) c.1) there c.2),
      ),
    )

codes_named : (bytes : List ℕ) (map : Dictionary) (at next there count : ℕ) → codes map bytes at ≡ Got (there, count) next →
    HasFirst map operators.CharStrings (pos there)
unfolding codes
codes_named bytes map at next there count e =
    let a = one (place_at 0 0 map operators.CharStrings bytes at) _ (there, count) next e in
    let p = placed_has 0 0 map operators.CharStrings a.0 bytes at a.1 a.2 in
    let b = one (type_two map bytes a.1) _ (there, count) next a.3 in
    let w = one (aside a.0 opened bytes b.1) _ (there, count) next b.3 in
    let R = got (a.0, length w.0) (there, count) w.1 next w.3 in
    let same : a.0 ≡ there = ap (λ (r : ℕ × ℕ). r.0) R.0 in
    let from : p.1 ≡ a.0 = omega (arith, p.4) in
    subst (HasFirst map operators.CharStrings) (whole_offset p.0 p.1 p.3 ∙ ap pos (from ∙ same)) p.2

-- global subroutines stand behind three INDEXes, and so not at 0
next_behind : (bytes : List ℕ) (place : ℕ) (items : List (List ℕ)) (next : ℕ) → opened bytes place ≡ Got items next → place < next
next_behind bytes place items next e = elim (opened_only bytes place items next e) [
  | inl empty ↦ let behind = empty.behind in omega arith
  | inr spread ↦ let behind = spread.laid.behind in omega arith
]

tables_behind : (bytes : List ℕ) (place : ℕ) (u : Dictionary × ℕ) (m : ℕ) → told.tables bytes place ≡ Got u m → 0 < u.1
unfolding told.tables
tables_behind bytes place u m e =
    let a = one (opened bytes place) _ u m e in
    let b = one (opened bytes a.1) _ u m a.3 in
    let c = one (opened bytes b.1) _ u m b.3 in
    let d = one (opened bytes c.1) _ u m c.3 in
    let x = one (map_from (slice_get b.0 0) bytes d.1) _ u m d.3 in
    let U = got (x.0, c.1) u x.1 m x.3 in
    let there : c.1 ≡ u.1 = ap (λ (u : Dictionary × ℕ). u.1) U.0 in
    let behind = next_behind bytes b.1 c.0 c.1 c.2 in
    omega arith

globals_behind : (bytes : List ℕ) (p : Places) (m : ℕ) → places bytes 0 ≡ Got p m → 0 < p.global_subroutines
unfolding places places_of
globals_behind bytes p m e =
    let a = one (header_size bytes 0) _ p m e in
    let b = one (aside a.0 told.tables bytes a.1) _ p m a.3 in
    let c = one (codes b.0.0 bytes b.1) _ p m b.3 in
    let d = one (told.local b.0.0 bytes c.1) _ p m c.3 in
    let D = got (record { char_strings = c.0.0; global_subroutines = b.0.1; local_subroutines = d.0; glyphs = c.0.1 }) p d.1 m d.3 in
    let there : b.0.1 ≡ p.global_subroutines = ap (λ (p : Places). p.global_subroutines) D.0 in
    let t = one (told.tables bytes a.0) _ b.0 b.1 b.2 in
    let T = got t.0 b.0 a.1 b.1 t.3 in
    let same : t.0.1 ≡ b.0.1 = ap (λ (u : Dictionary × ℕ). u.1) T.0 in
    let behind = tables_behind bytes a.0 t.0 t.1 t.2 in
    omega arith

common : (bytes : List ℕ) (font : PsfFont) (v : FontView) → AreNumbersOf bytes font → IsFirst bytes v → Common bytes font v
common bytes font v told_of first =
    let is = told_of.1 in
    let w = is.widths in
    let same : w.map ≡ v.dictionary = dictionary_same bytes (view_shown v) 0 w.size w.map w.global first.shown w.header w.stands in
    let of = is.same (view_shown v) 0 first.shown in
    let read = local_read bytes (placed font) 0 w.size w.map w.global is.reads w.header w.stands in
    let local = read.0 in
    let named = read.1 in
    record {
      keyed = subst (λ (m : Dictionary). IsKeyedBy m font) same w.keyed;
      laid = (reads_layout bytes 0 (view_shown v)).0 first.shown;
      there = first.there;
      glyphs = of.glyphs;
      at = local.0;
      next = local.1;
      local = subst (λ (m : Dictionary). told.local m bytes local.0 ≡ Got font.part.local_subroutines local.1) same local.2;
      widths = subst (λ (m : Dictionary). HaveWidths bytes m font.part) same w.have;
      selection = is.selection (view_shown v) 0 first.shown;
      named = subst (λ (m : Dictionary). HasFirst m operators.CharStrings (pos font.char_strings)) same
          (codes_named bytes w.map named.0 named.1 font.char_strings named.2 named.3);
      codes = of.codes;
      globals = of.globals;
      behind = globals_behind bytes (placed font) 0 is.reads;
    }

-- ---- the number by FDSelect
select_in : (bytes : List ℕ) (font : PsfFont) (v : FontView) (glyph fd : ℕ) → Common bytes font v → font.is_cid ≢ 0 → font.fd_select ≢ 0 →
    Selects bytes font.fd_select font.glyphs glyph fd
    → IsSelected v.bytes.now v.dictionary (length (items_of v.char_strings)) glyph fd
select_in bytes font v glyph fd c cid there selects = (
  font.fd_select,
  c.selection cid there,
  subst (λ (g : ℕ). Selects v.bytes.now font.fd_select g glyph fd) c.glyphs
      (subst (λ (b : List ℕ). Selects b font.fd_select font.glyphs glyph fd) (sym c.there) selects),
)

selected_place : (map : Dictionary) (font : PsfFont) (place : ℕ) → IsKeyedBy map font → font.is_cid ≢ 0 →
    HasFirst map operators.FDSelect (pos place) → font.fd_select ≡ place
selected_place map font place (inl plain) cid h = absurd (cid plain.1)
selected_place map font place (inr keyed) cid h = told_place map operators.FDSelect place font.fd_select h keyed.3

select_told : (bytes : List ℕ) (font : PsfFont) (v : FontView) (glyph fd : ℕ) → Common bytes font v → NamesNoStart v → font.is_cid ≢ 0
    → IsSelected v.bytes.now v.dictionary
    (length (items_of v.char_strings)) glyph fd → (font.fd_select ≢ 0) × Selects bytes font.fd_select font.glyphs glyph fd
select_told bytes font v glyph fd c start cid s =
    let h = offset_first v.dictionary operators.FDSelect s.0 s.1 in
    let at : font.fd_select ≡ s.0 = selected_place v.dictionary font s.0 c.keyed cid h in
    let here = subst (λ (b : List ℕ). Selects b s.0 (length (items_of v.char_strings)) glyph fd) c.there s.2 in
    let all = subst (λ (p : ℕ). Selects bytes p font.glyphs glyph fd) (sym at)
    (subst (λ (g : ℕ). Selects bytes s.0 g glyph fd) (sym c.glyphs) here) in
    (λ zero. start.selection (subst (λ (n : ℕ). HasFirst v.dictionary operators.FDSelect (pos n)) (sym at ∙ zero) h), all)

-- ---- FDArray
array_place : (map : Dictionary) (font : PsfFont) (place : ℕ) → IsKeyedBy map font → font.is_cid ≢ 0 →
    HasFirst map operators.FDArray (pos place) → font.font_dictionaries ≡ place
array_place map font place (inl plain) cid h = absurd (cid plain.1)
array_place map font place (inr keyed) cid h = told_place map operators.FDArray place font.font_dictionaries h keyed.2

-- It has these items, which have these parts. C has the items, unless its place is 0.
record Keyed (bytes : List ℕ) (font : PsfFont) (v : FontView) : Type 0 where
  items : List (List ℕ)
  is : font.is_cid ≢ 0
  named : NamesIndex bytes v.dictionary operators.FDArray items
  place : font.font_dictionaries ≡ named.0
  parts : ArePartsOf bytes items (parts_shown v.parts.items)

array_told : (bytes : List ℕ) (font : PsfFont) (v : FontView) (k : Keyed bytes font v) → font.font_dictionaries ≢ 0 →
    index_at font.font_dictionaries bytes 0 ≡ Got k.items 0
array_told bytes font v k some =
    let there : k.named.0 ≡ 0 → ⊥ = λ zero. some (k.place ∙ zero) in
    ap (λ (p : ℕ). index_at p bytes 0) k.place ∙ index_there bytes k.named.0 k.items there k.named.2

array_some : (bytes : List ℕ) (font : PsfFont) (v : FontView) → NamesNoStart v → (k : Keyed bytes font v) → font.font_dictionaries ≢ 0
array_some bytes font v start k =
    λ zero. start.array (subst (λ (n : ℕ). HasFirst v.dictionary operators.FDArray (pos n)) (sym k.place ∙ zero) k.named.1)

-- the items that C has are these, where it has any
same_items : (bytes : List ℕ) (font : PsfFont) (v : FontView) (k : Keyed bytes font v) (items : List (List ℕ)) (fd : ℕ) →
    index_at font.font_dictionaries bytes 0 ≡ Got items 0 → fd < length items → items ≡ k.items
same_items bytes font v k items fd e within =
    let some : font.font_dictionaries ≢ 0 = λ zero.
    let none = (got _ _ _ _ (sym e ∙ ap (λ (p : ℕ). index_at p bytes 0) zero ∙ index_none bytes)).0 in
    let empty : length items ≡ 0 = ap (λ (items : List (List ℕ)). length items) none in
    omega arith in
    (got _ _ _ _ (sym e ∙ array_told bytes font v k some)).0

-- ---- a font that is CID-keyed, and one that is not
data Cases (bytes : List ℕ) (font : PsfFont) (v : FontView) : Type 0 where
  OfPlain : (p : contents.PrivateDict) → font.is_cid ≡ 0 → look v.dictionary operators.ROS ≡ None → IsPart bytes v.dictionary None p →
      parts_shown v.parts.items ≡ p ∷ [] → Cases bytes font v
  OfKeyed : Keyed bytes font v → Cases bytes font v

some_none : (o : Option (List Decimal)) → IsSome o → o ≡ None → ⊥
some_none None some none = let never : false ≡ true = some in absurd (cc)
some_none (Some x) some none = absurd (cc)

cid_is : (map : Dictionary) (font : PsfFont) → IsKeyedBy map font → IsSome (look map operators.ROS) → font.is_cid ≢ 0
cid_is map font (inl plain) keyed = absurd (some_none (look map operators.ROS) keyed plain.0)
cid_is map font (inr c) keyed = λ zero. let one = c.1 in absurd (omega (arith, one, zero))

plain_is : (map : Dictionary) (font : PsfFont) → IsKeyedBy map font → look map operators.ROS ≡ None → font.is_cid ≡ 0
plain_is map font (inl plain) none = plain.1
plain_is map font (inr c) none = absurd (c.0 none)

cases : (bytes : List ℕ) (font : PsfFont) (v : FontView) → Common bytes font v → AreParts bytes v.dictionary (parts_shown v.parts.items) →
    Cases bytes font v
cases bytes font v c (OfFont p none is alone) = OfPlain p (plain_is v.dictionary font c.keyed none) none is alone
cases bytes font v c (OfFontDictionaries items keyed named are) =
    let is = cid_is v.dictionary font c.keyed keyed in
    OfKeyed (record {
      items = items;
      is = is;
      named = named;
      place = array_place v.dictionary font named.0 c.keyed is named.1;
      parts = are;
    })

-- ---- lists of parts
same_length : (bytes : List ℕ) (items : List (List ℕ)) (ps : List contents.PrivateDict) → ArePartsOf bytes items ps →
    length items ≡ length ps
same_length bytes [] [] h = refl
same_length bytes (item ∷ items) (p ∷ ps) h = ap (λ (n : ℕ). suc n) (same_length bytes items ps h.3)
same_length bytes [] (p ∷ ps) h = absurd h
same_length bytes (item ∷ items) [] h = absurd h

item_of : (bytes : List ℕ) (items : List (List ℕ)) (ps : List contents.PrivateDict) (fd : ℕ) (p : contents.PrivateDict) →
    ArePartsOf bytes items ps → slice_get ps fd ≡ Some p
    → (item : List ℕ) × (map : Dictionary) × (slice_get items fd ≡ Some item) × IsDictionary item 0 map × IsPart bytes map (Some map) p
item_of bytes [] [] fd p h e = absurd (cc)
item_of bytes (item ∷ items) (q ∷ ps) zero p h e =
    (item, h.0, refl, h.1, subst (λ (p : contents.PrivateDict). IsPart bytes h.0 (Some h.0) p) (cc) h.2)
item_of bytes (item ∷ items) (q ∷ ps) (suc fd) p h e = item_of bytes items ps fd p h.3 e
item_of bytes [] (q ∷ ps) fd p h e = absurd h
item_of bytes (item ∷ items) [] fd p h e = absurd h

pub there_is : {A : Type 0} (xs : List A) (i : ℕ) → i < length xs → (x : A) × (slice_get xs i ≡ Some x)
there_is [] i h = absurd (omega arith)
there_is (x ∷ xs) zero h = (x, refl)
there_is (x ∷ xs) (suc i) h = there_is xs i (omega arith)

pub length_shown : (ps : List PrivateDict) → length (parts_shown ps) ≡ length ps
length_shown [] = refl
length_shown (p ∷ ps) = ap (λ (n : ℕ). suc n) (length_shown ps)

-- ---- a part of a dictionary is the same
abbrev Same : List ℕ → (start : Type 0) → PrivateDict → PsfPart → Type 0
Same bytes start part found = HasSameWidths part found × ((start → ⊥) → HasSameSubroutines bytes part found)

same_of : (bytes : List ℕ) (map : Dictionary) (part : PrivateDict) (found : PsfPart) (at next : ℕ) (start : Type 0) →
    HasLocals bytes map part.dictionary (items_of part.subroutines)
    → ((start → ⊥) → NamesSubroutines bytes map part.dictionary 0 → ⊥) → told.part map bytes at ≡ Got found.local_subroutines
    next → AreWidths bytes map found.default_width found.nominal_width → Same bytes start part found
same_of bytes map part found at next start locals names reads widths = (record { default = w.0; nominal = w.1 }, subs)
  where
    w : IsWidth (first_of (look part.dictionary operators.DefaultWidthX)) found.default_width × IsWidth
        (first_of (look part.dictionary operators.NominalWidthX)) found.nominal_width
    w = same_widths bytes map part.dictionary (items_of part.subroutines) found.default_width found.nominal_width locals widths

    subs : (start → ⊥) → HasSameSubroutines bytes part found
    subs none =
        let t = part_told bytes map part.dictionary (items_of part.subroutines) locals (names none) in
        let there = (got _ _ _ _ (sym (t.1 at) ∙ reads)).0 in
        subst (λ (p : ℕ). index_at p bytes 0 ≡ Got (items_of part.subroutines) 0) there t.2

pub shown_at : (ps : List PrivateDict) (fd : ℕ) (p : PrivateDict) → slice_get ps fd ≡ Some p →
    slice_get (parts_shown ps) fd ≡ Some (part_shown p)
shown_at ps fd p e = slice_get-map part_shown ps fd ∙ ap (option_map part_shown) e

-- its subroutines are not to stand at 0
not_start : (bytes : List ℕ) (v : FontView) (map : Dictionary) (p : PrivateDict) → v.bytes.now ≡ bytes →
    naming v.dictionary p.font_dictionary ≡ map → (NamesSubroutinesOf v p 0 → ⊥) → NamesSubroutines bytes map p.dictionary 0 → ⊥
not_start bytes v map p there is none names =
    none (subst (λ (b : List ℕ). NamesSubroutines b (naming v.dictionary p.font_dictionary) p.dictionary 0) (sym there)
    (subst (λ (m : Dictionary). NamesSubroutines bytes m p.dictionary 0) (sym is) names))

-- a glyph has one number
one_number : (v : FontView) (glyph a b : ℕ) → HasPartNumber v glyph a → HasPartNumber v glyph b → a ≡ b
one_number v glyph a b h g = by h.selected g.selected
  where
    by : IsPartNumber v glyph a → IsPartNumber v glyph b → a ≡ b
    by (inl x) (inl y) = x.1 ∙ sym y.1
    by (inl x) (inr y) = absurd (y.0 x.0)
    by (inr x) (inl y) = absurd (x.0 y.0)
    by (inr x) (inr y) = one_named v.bytes.now v.dictionary (length (items_of v.char_strings)) glyph a b x.1 y.1

-- ---- the program of a glyph
no_program : (bytes : List ℕ) (font : PsfFont) (found : PsfPart) (glyph : ℕ) (codes : List (List ℕ)) →
    index_at font.char_strings bytes 0 ≡ Got codes 0 → slice_get codes glyph ≡ None → HasNone bytes font found glyph
unfolding program_at program_of
no_program bytes font found glyph codes is none = rw (is, none) refl

some_program : (bytes : List ℕ) (font : PsfFont) (found : PsfPart) (glyph : ℕ) (codes : List (List ℕ)) (code : List ℕ) →
    index_at font.char_strings bytes 0 ≡ Got codes 0 → slice_get codes glyph ≡ Some code → HasNone bytes font found glyph → ⊥
unfolding program_at program_of
some_program bytes font found glyph codes code is there h =
    let e = rw (is, there) at h in
    let a = one (index_at font.global_subroutines bytes 0) _ None 0 e in
    let b = one (index_at found.local_subroutines bytes a.1) _ None 0 a.3 in
    let never = (got _ _ _ _ b.3).0 in
    absurd (cc)

program_is : (bytes : List ℕ) (font : PsfFont) (found : PsfPart) (glyph : ℕ) (codes globals locals : List (List ℕ)) (code : List ℕ) →
    index_at font.char_strings bytes 0 ≡ Got codes 0 → slice_get codes glyph ≡ Some code
    → index_at font.global_subroutines bytes 0 ≡ Got globals 0 → index_at found.local_subroutines bytes 0 ≡ Got locals 0 → program_at font
    found glyph bytes 0 ≡ Got (Some (begun (run_of (lent globals locals) code))) 0
unfolding program_at program_of
program_is bytes font found glyph codes globals locals code are there global local = rw (are, there, global, local) refl

codes_told : (bytes : List ℕ) (font : PsfFont) (v : FontView) → Common bytes font v → font.char_strings ≢ 0 →
    index_at font.char_strings bytes 0 ≡ Got (items_of v.char_strings) 0
unfolding index_at
codes_told bytes font v c some =
    let no : (font.char_strings == 0) ≡ false = grind (arith, nat_tests) in
    rw (no, c.codes.1) refl

globals_told : (bytes : List ℕ) (font : PsfFont) (v : FontView) → Common bytes font v →
    index_at font.global_subroutines bytes 0 ≡ Got (items_of v.global_subroutines) 0
unfolding index_at
globals_told bytes font v c =
    let behind = c.behind in
    let no : (font.global_subroutines == 0) ≡ false = grind (arith, nat_tests) in
    rw (no, c.globals.1) refl

-- the char strings are not to stand at 0
codes_there : (bytes : List ℕ) (font : PsfFont) (v : FontView) → Common bytes font v → NamesNoStart v →
    index_at font.char_strings bytes 0 ≡ Got (items_of v.char_strings) 0
codes_there bytes font v c start =
    codes_told bytes font v c
    (λ zero. start.char_strings (subst (λ (n : ℕ). HasFirst v.dictionary operators.CharStrings (pos n)) zero c.named))

same_program : (bytes : List ℕ) (font : PsfFont) (v : FontView) (glyph : ℕ) (code : List ℕ) (part : PrivateDict) (found : PsfPart) →
    Common bytes font v → NamesNoStart v → slice_get (items_of v.char_strings) glyph ≡ Some code
    → HasSameSubroutines bytes part found → program_at font found glyph bytes 0 ≡ Got (Some (program_in v code part)) 0
same_program bytes font v glyph code part found c start there local =
    program_is bytes font found glyph (items_of v.char_strings) (items_of v.global_subroutines) (items_of part.subroutines) code
    (codes_there bytes font v c start) there (globals_told bytes font v c) local

missing_is : (bytes : List ℕ) (font : PsfFont) (v : FontView) (glyph : ℕ) (found : PsfPart) → Common bytes font v → NamesNoStart v →
    HasNone bytes font found glyph ↔ (font.glyphs ≤ glyph)
missing_is bytes font v glyph found c start = (behind, lacks)
  where
    codes : index_at font.char_strings bytes 0 ≡ Got (items_of v.char_strings) 0
    codes = codes_there bytes font v c start

    behind : HasNone bytes font found glyph → font.glyphs ≤ glyph
    behind h = elim (cases_lt glyph font.glyphs) [
      | inl below ↦
          let glyphs = c.glyphs in
          let code = there_is (items_of v.char_strings) glyph (omega arith) in
          absurd (some_program bytes font found glyph (items_of v.char_strings) code.0 codes code.1 h)
      | inr past ↦ past
    ]

    lacks : font.glyphs ≤ glyph → HasNone bytes font found glyph
    lacks past =
        let glyphs = c.glyphs in no_program bytes font found glyph (items_of v.char_strings) codes
        (slice_get_past (items_of v.char_strings) glyph (omega arith))

-- ---- a font that is not CID-keyed
plain_local : (bytes : List ℕ) (map : Dictionary) (at place next : ℕ) → look map operators.ROS ≡ None →
    told.local map bytes at ≡ Got place next → told.part map bytes at ≡ Got place next
unfolding told.local
plain_local bytes map at place next none e = rw none at e

plain_number : (bytes : List ℕ) (font : PsfFont) (v : FontView) (glyph fd : ℕ) → Common bytes font v → font.is_cid ≡ 0 →
    length v.parts.items ≡ 1 → HasNumberIn bytes font glyph fd ↔ HasPartNumber v glyph fd
plain_number bytes font v glyph fd c is single = (there, back)
  where
    zero_in : HasNumberIn bytes font glyph fd → fd ≡ 0
    zero_in h = elim h.number [ inl x ↦ x.1 | inr y ↦ absurd (y.0 is) ]

    there : HasNumberIn bytes font glyph fd → HasPartNumber v glyph fd
    there h =
        let zero = zero_in h in
        let below = h.there in
        let glyphs = c.glyphs in
        record { glyph_there = omega arith; part_there = omega arith; selected = inl (single, zero) }

    zero_of : HasPartNumber v glyph fd → fd ≡ 0
    zero_of h = elim h.selected [ inl x ↦ x.1 | inr y ↦ absurd (y.0 single) ]

    back : HasPartNumber v glyph fd → HasNumberIn bytes font glyph fd
    back h =
        let below = h.glyph_there in
        let glyphs = c.glyphs in
        record { there = omega arith; number = inl (is, zero_of h) }

plain_same : (bytes : List ℕ) (font : PsfFont) (v : FontView) (glyph : ℕ) (q : contents.PrivateDict) → Common bytes font v →
    font.is_cid ≡ 0 → look v.dictionary operators.ROS ≡ None
    → IsPart bytes v.dictionary None q → parts_shown v.parts.items ≡ q ∷ [] → (fd : ℕ) (p : PrivateDict)
    (found : PsfPart) → fd ≡ 0 → slice_get v.parts.items fd ≡ Some p
    → IsPartIn bytes font glyph found → Same bytes (NamesSubroutinesOf v p 0) p found
plain_same bytes font v glyph q c is plain part alone fd p found first-one e in_c =
    let at_zero = subst (λ (n : ℕ). slice_get (parts_shown v.parts.items) n ≡ Some (part_shown p)) first-one
    (shown_at v.parts.items fd p e) in
    let first : Some q ≡ Some (part_shown p) = subst
    (λ (ps : List contents.PrivateDict). slice_get ps 0 ≡ Some (part_shown p)) alone at_zero in
    let same : q ≡ part_shown p = cc in
    let are = subst (λ (q : contents.PrivateDict). IsPart bytes v.dictionary None q) same part in
    let named : naming v.dictionary p.font_dictionary ≡ v.dictionary = ap (naming v.dictionary) are.1 in
    let of = same_of bytes v.dictionary p font.part c.at c.next (NamesSubroutinesOf v p 0) are.0
    (not_start bytes v v.dictionary p c.there named)
    (plain_local bytes v.dictionary c.at font.part.local_subroutines c.next plain c.local) (c.widths.plain plain) in
    subst (λ (found : PsfPart). Same bytes (NamesSubroutinesOf v p 0) p found) (sym (in_c.0 is)) of

plain_tells : (bytes : List ℕ) (font : PsfFont) (v : FontView) (glyph : ℕ) (q : contents.PrivateDict) → Common bytes font v →
    font.is_cid ≡ 0 → look v.dictionary operators.ROS ≡ None
    → IsPart bytes v.dictionary None q → parts_shown v.parts.items ≡ q ∷ [] → length v.parts.items ≡ 1 → TellsPart bytes font v glyph
plain_tells bytes font v glyph q c is plain part alone single =
    let number = λ (fd : ℕ). plain_number bytes font v glyph fd c is single in
    let zero_of : (fd : ℕ) → HasPartNumber v glyph fd → fd ≡ 0 = λ fd h. elim h.selected [ inl x ↦ x.1 | inr y ↦ absurd (y.0 single) ] in
    let first : glyph < font.glyphs → HasPartNumber v glyph 0 = λ below. (number 0).0 (record { there = below; number = inl (is, refl) }) in
    record {
      number = λ fd. (number fd).0;
      only = λ found in_c below. (0, first below);
      widths = λ p found b. (plain_same bytes font v glyph q c is plain part alone b.0 p found (zero_of b.0 b.1) b.2 b.3).0;
      subroutines = λ p found b. (plain_same bytes font v glyph q c is plain part alone b.0 p found (zero_of b.0 b.1) b.2 b.3).1;
      none = λ none. elim (cases_lt glyph font.glyphs) [
        | inl below ↦ absurd (none 0 (first below))
        | inr behind ↦ inl behind
      ];
    }

plain_all : (bytes : List ℕ) (font : PsfFont) (v : FontView) (glyph : ℕ) → Common bytes font v → NamesNoStart v → font.is_cid ≡ 0 →
    length v.parts.items ≡ 1 → TellsPart bytes font v glyph → SamePart bytes font v glyph
plain_all bytes font v glyph c start is single tells = record {
  number = λ fd. plain_number bytes font v glyph fd c is single;
  has = λ fd h. (font.part, ((λ _. refl), λ keyed. absurd (keyed is)));
  only = tells.only;
  widths = tells.widths;
  subroutines = λ p found b. tells.subroutines p found b (start.subroutines b.0 p b.2);
  program = λ code p found g in_c.
      same_program bytes font v glyph code p found c start g.has_code
      (tells.subroutines p found (g.number, g.has_number, g.has_part, in_c) (start.subroutines g.number p g.has_part));
  none = (
    λ lacks. elim lacks [
      | inl behind ↦ λ fd h. let below = h.glyph_there in let glyphs = c.glyphs in absurd (omega arith)
      | inr keyed ↦ absurd (keyed.0 is)
    ],
    tells.none,
  );
  status = λ status partless. absurd (partless.0 is);
  missing = λ found. missing_is bytes font v glyph found c start;
}

-- ---- a font that is CID-keyed
count_of : (bytes : List ℕ) (font : PsfFont) (v : FontView) (k : Keyed bytes font v) → length k.items ≡ length v.parts.items
count_of bytes font v k = same_length bytes k.items (parts_shown v.parts.items) k.parts ∙ length_shown v.parts.items

keyed_there : (bytes : List ℕ) (font : PsfFont) (v : FontView) (glyph fd : ℕ) → Common bytes font v → (k : Keyed bytes font v) →
    glyph < font.glyphs → fd < length k.items → HasNumber bytes font (length k.items) glyph fd
    → HasPartNumber v glyph fd
keyed_there bytes font v glyph fd c k below within numbered =
    let glyphs = c.glyphs in
    let count = count_of bytes font v k in
    record { glyph_there = omega arith; part_there = omega arith; selected = by numbered }
  where
    by : HasNumber bytes font (length k.items) glyph fd → IsPartNumber v glyph fd
    by (inl x) = inl (sym (count_of bytes font v k) ∙ x.0, x.1)
    by (inr x) = inr ((λ single. x.0 (count_of bytes font v k ∙ single)), select_in bytes font v glyph fd c k.is x.1 x.2)

keyed_number : (bytes : List ℕ) (font : PsfFont) (v : FontView) (glyph fd : ℕ) → Common bytes font v → Keyed bytes font v →
    HasNumberIn bytes font glyph fd → HasPartNumber v glyph fd
keyed_number bytes font v glyph fd c k h = elim h.number [
  | inl x ↦ absurd (k.is x.0)
  | inr x ↦
      let same = same_items bytes font v k x.1.0 fd x.1.1 x.1.2 in
      keyed_there bytes font v glyph fd c k h.there (subst (λ (items : List (List ℕ)). fd < length items) same x.1.2)
      (subst (λ (items : List (List ℕ)). HasNumber bytes font (length items) glyph fd) same x.1.3)
]

-- C's items and their number, of a font dictionary that C has
numbered_in : (bytes : List ℕ) (font : PsfFont) (glyph : ℕ) (item : List ℕ) (cid : font.is_cid ≢ 0)
    (h : HasDictionary bytes font glyph item) → HasNumberIn bytes font glyph h.2.fd
numbered_in bytes font glyph item cid h =
    let has = h.2 in
    record { there = has.there; number = inr (cid, (h.0, h.1, slice_get_within h.0 has.fd item has.listed, has.numbered)) }

-- the font dictionary of a part
record OfItem (bytes : List ℕ) (items : List (List ℕ)) (fd : ℕ) (p : PrivateDict) (none : Type 0) : Type 0 where
  item : List ℕ
  map : Dictionary
  listed : slice_get items fd ≡ Some item
  spelled : map_of item bytes 0 ≡ Got map 0
  locals : HasLocals bytes map p.dictionary (items_of p.subroutines)
  start : none → NamesSubroutines bytes map p.dictionary 0 → ⊥

keyed_item : (bytes : List ℕ) (font : PsfFont) (v : FontView) (fd : ℕ) (p : PrivateDict) → v.bytes.now ≡ bytes →
    (k : Keyed bytes font v) → slice_get v.parts.items fd ≡ Some p → OfItem bytes k.items fd p (NamesSubroutinesOf v p 0 → ⊥)
keyed_item bytes font v fd p there k e =
    let i = item_of bytes k.items (parts_shown v.parts.items) fd (part_shown p) k.parts (shown_at v.parts.items fd p e) in
    let named : naming v.dictionary p.font_dictionary ≡ i.1 = ap (naming v.dictionary) i.4.1 in
    record {
      item = i.0;
      map = i.1;
      listed = i.2;
      spelled = map_is i.0 i.1 bytes 0 i.3;
      locals = i.4.0;
      start = λ none. not_start bytes v i.1 p there named none;
    }

-- a font dictionary that C has for a glyph is that of the number that the glyph has
same_item : (bytes : List ℕ) (font : PsfFont) (v : FontView) (glyph fd : ℕ) (item other : List ℕ) → Common bytes font v →
    (k : Keyed bytes font v) → HasPartNumber v glyph fd → slice_get k.items fd ≡ Some item
    → HasDictionary bytes font glyph other → other ≡ item
same_item bytes font v glyph fd item other c k h there d =
    let has = d.2 in
    let same : has.fd ≡ fd = one_number v glyph has.fd fd
    (keyed_number bytes font v glyph has.fd c k (numbered_in bytes font glyph other k.is d)) h in
    let items = same_items bytes font v k d.0 has.fd d.1 (slice_get_within d.0 has.fd other has.listed) in
    let listed = subst (λ (n : ℕ). slice_get k.items n ≡ Some other) same
    (subst (λ (items : List (List ℕ)). slice_get items has.fd ≡ Some other) items has.listed) in
    let both : Some other ≡ Some item = sym listed ∙ there in
    cc

keyed_same : (bytes : List ℕ) (font : PsfFont) (v : FontView) (glyph fd : ℕ) (p : PrivateDict) (found : PsfPart) → Common bytes font v →
    (k : Keyed bytes font v) → HasPartNumber v glyph fd → slice_get v.parts.items fd ≡ Some p
    → IsPartIn bytes font glyph found → Same bytes (NamesSubroutinesOf v p 0) p found
keyed_same bytes font v glyph fd p found c k h e in_c =
    let i = keyed_item bytes font v fd p c.there k e in
    let has = in_c.1 k.is in
    let of = has.2 in
    let same : has.0 ≡ i.item = same_item bytes font v glyph fd i.item has.0 c k h i.listed has.1 in
    let spelled = subst (λ (item : List ℕ). map_of item bytes 0 ≡ Got of.map 0) same of.spelled in
    let map : of.map ≡ i.map = (got _ _ _ _ (sym spelled ∙ i.spelled)).0 in
    same_of bytes i.map p found 0 0 (NamesSubroutinesOf v p 0) i.locals i.start
    (subst (λ (m : Dictionary). told.part m bytes 0 ≡ Got found.local_subroutines 0) map of.subroutines)
    (subst (λ (m : Dictionary). AreWidths bytes m found.default_width found.nominal_width) map of.widths)

-- a glyph that has no number in place has no font dictionary in what C has
keyed_lacks : (bytes : List ℕ) (font : PsfFont) (v : FontView) (glyph : ℕ) (items : List (List ℕ)) → Common bytes font v →
    (k : Keyed bytes font v) → index_at font.font_dictionaries bytes 0 ≡ Got items 0 → IsNoneIn v glyph
    → HasNoPart bytes font glyph
keyed_lacks bytes font v glyph items c k e none =
    inr (
      k.is,
      (
        items,
        e,
        λ item has. none has.fd
            (keyed_number bytes font v glyph has.fd c k (numbered_in bytes font glyph item k.is (items, e, has))),
      ),
    )

-- C has items, of FDArray or none
some_items : (bytes : List ℕ) (font : PsfFont) (v : FontView) → Keyed bytes font v →
    (items : List (List ℕ)) × (index_at font.font_dictionaries bytes 0 ≡ Got items 0)
some_items bytes font v k = by (cases_lt 0 font.font_dictionaries)
  where
    by : (0 < font.font_dictionaries) ⊎ (font.font_dictionaries ≤ 0) →
        (items : List (List ℕ)) × (index_at font.font_dictionaries bytes 0 ≡ Got items 0)
    by (inl some) = (k.items, array_told bytes font v k (λ zero. absurd (omega arith)))
    by (inr none) = let zero : font.font_dictionaries ≡ 0 = omega arith in ([], ap (λ (p : ℕ). index_at p bytes 0) zero ∙ index_none bytes)

keyed_tells : (bytes : List ℕ) (font : PsfFont) (v : FontView) (glyph : ℕ) → Common bytes font v → Keyed bytes font v →
    TellsPart bytes font v glyph
keyed_tells bytes font v glyph c k =
    let items = some_items bytes font v k in
    record {
      number = λ fd. keyed_number bytes font v glyph fd c k;
      only = λ found in_c below. let h = in_c.1 k.is in
          (h.1.2.fd, keyed_number bytes font v glyph h.1.2.fd c k (numbered_in bytes font glyph h.0 k.is h.1));
      widths = λ p found b. (keyed_same bytes font v glyph b.0 p found c k b.1 b.2 b.3).0;
      subroutines = λ p found b. (keyed_same bytes font v glyph b.0 p found c k b.1 b.2 b.3).1;
      none = keyed_lacks bytes font v glyph items.0 c k items.1;
    }

-- ---- and nothing is named at 0
numbered_back : (bytes : List ℕ) (font : PsfFont) (v : FontView) (glyph fd : ℕ) → Common bytes font v → NamesNoStart v →
    (k : Keyed bytes font v) → HasPartNumber v glyph fd → HasNumber bytes font (length k.items) glyph fd
numbered_back bytes font v glyph fd c start k h = by h.selected
  where
    by : IsPartNumber v glyph fd → HasNumber bytes font (length k.items) glyph fd
    by (inl x) = inl (count_of bytes font v k ∙ x.0, x.1)
    by (inr x) =
        let s = select_told bytes font v glyph fd c start k.is x.1 in
        inr ((λ single. x.0 (sym (count_of bytes font v k) ∙ single)), s.0, s.1)

keyed_back : (bytes : List ℕ) (font : PsfFont) (v : FontView) (glyph fd : ℕ) → Common bytes font v → NamesNoStart v →
    (k : Keyed bytes font v) → HasPartNumber v glyph fd → HasNumberIn bytes font glyph fd
keyed_back bytes font v glyph fd c start k h =
    let below = h.glyph_there in
    let glyphs = c.glyphs in
    let within = h.part_there in
    let count = count_of bytes font v k in
    let array = array_told bytes font v k (array_some bytes font v start k) in
    record { there = omega arith; number = inr (k.is, (k.items, array, omega arith, numbered_back bytes font v glyph fd c start k h)) }

-- the font dictionary that a glyph has in place is one that C has
keyed_dictionary : (bytes : List ℕ) (font : PsfFont) (v : FontView) (glyph fd : ℕ) (item : List ℕ) → Common bytes font v →
    NamesNoStart v → (k : Keyed bytes font v) → HasPartNumber v glyph fd → slice_get k.items fd ≡ Some item
    → HasDictionary bytes font glyph item
keyed_dictionary bytes font v glyph fd item c start k h listed =
    let below = h.glyph_there in
    let glyphs = c.glyphs in (
      k.items,
      array_told bytes font v k (array_some bytes font v start k),
      record { fd = fd; there = omega arith; numbered = numbered_back bytes font v glyph fd c start k h; listed = listed },
    )

keyed_has : (bytes : List ℕ) (font : PsfFont) (v : FontView) (glyph fd : ℕ) → Common bytes font v → NamesNoStart v → Keyed bytes font v →
    HasPartNumber v glyph fd → (found : PsfPart) × IsPartIn bytes font glyph found
keyed_has bytes font v glyph fd c start k h =
    let p = there_is v.parts.items fd h.part_there in
    let i = keyed_item bytes font v fd p.0 c.there k p.1 in
    let t = part_told bytes i.map p.0.dictionary (items_of p.0.subroutines) i.locals (i.start (start.subroutines fd p.0 p.1)) in
    let w = told_widths bytes i.map p.0.dictionary (items_of p.0.subroutines) i.locals in
    let found : PsfPart = record { local_subroutines = t.0; default_width = w.0; nominal_width = w.1 } in
    let part : IsPartOf bytes i.item found = record { map = i.map; spelled = i.spelled; subroutines = t.1 0; widths = w.2 } in
    (found, ((λ plain. absurd (k.is plain)), λ _. (i.item, keyed_dictionary bytes font v glyph fd i.item c start k h i.listed, part)))

keyed_none : (bytes : List ℕ) (font : PsfFont) (v : FontView) (glyph : ℕ) → Common bytes font v → NamesNoStart v → Keyed bytes font v →
    HasNoPart bytes font glyph → IsNoneIn v glyph
keyed_none bytes font v glyph c start k (inl behind) = λ fd h. let below = h.glyph_there in let glyphs = c.glyphs in absurd (omega arith)
keyed_none bytes font v glyph c start k (inr lacks) = λ fd h.
    let p = there_is v.parts.items fd h.part_there in
    let i = keyed_item bytes font v fd p.0 c.there k p.1 in
    let d = keyed_dictionary bytes font v glyph fd i.item c start k h i.listed in
    let there = lacks.1 in
    let items : d.0 ≡ there.0 = (got _ _ _ _ (sym d.1 ∙ there.1)).0 in
    there.2 i.item (subst (λ (items : List (List ℕ)). HasItem bytes font items glyph i.item) items d.2)

-- ---- why a part is refused
part_reads : (bytes item : List ℕ) (map : Dictionary) (there : ℕ) → map_of item bytes 0 ≡ Got map 0 →
    told.part map bytes 0 ≡ Got there 0 → item_part item bytes 0 ≡ Got there 0
unfolding item_part
part_reads bytes item map there spelled reads = rw (spelled, reads) refl

of_memory : (e : Error) → (e ≢ Memory → ⊥) → code e ≡ 3
of_memory Memory h = refl
of_memory _ h = absurd (h (λ is. absurd (cc)))

not_refused : (bytes : List ℕ) (font : PsfFont) (v : FontView) (glyph : ℕ) (e : Error) → Common bytes font v → NamesNoStart v →
    Keyed bytes font v → NoPart e bytes font glyph → ⊥
not_refused bytes font v glyph e c start k (inl array) =
    subst (RefusedAs e) (array_told bytes font v k (array_some bytes font v start k)) array
not_refused bytes font v glyph e c start k (inr h) =
    let fd = h.1.2.fd in
    let number = keyed_number bytes font v glyph fd c k (numbered_in bytes font glyph h.0 k.is h.1) in
    let p = there_is v.parts.items fd number.part_there in
    let i = keyed_item bytes font v fd p.0 c.there k p.1 in
    let same : h.0 ≡ i.item = same_item bytes font v glyph fd i.item h.0 c k number i.listed h.1 in
    let t = part_told bytes i.map p.0.dictionary (items_of p.0.subroutines) i.locals (i.start (start.subroutines fd p.0 p.1)) in
    let reads = part_reads bytes i.item i.map t.0 i.spelled (t.1 0) in
    subst (RefusedAs e) (ap (λ (item : List ℕ). item_part item bytes 0) same ∙ reads) h.2

keyed_status : (bytes : List ℕ) (font : PsfFont) (v : FontView) (glyph : ℕ) (status : ℤ) → Common bytes font v → NamesNoStart v →
    (k : Keyed bytes font v) → TellsNoPart bytes font glyph status → IsToldNone font v glyph status
keyed_status bytes font v glyph status c start k (no_glyph is behind lacks) = inl (is, behind)
keyed_status bytes font v glyph status c start k (no_dictionary is below lacks) =
    inr (inl (is, below, keyed_none bytes font v glyph c start k (inr (k.is, lacks))))
keyed_status bytes font v glyph status c start k (refused e is why) =
    inr (inr (is ∙ ap pos (of_memory e (λ other. not_refused bytes font v glyph e c start k (why other)))))

keyed_all : (bytes : List ℕ) (font : PsfFont) (v : FontView) (glyph : ℕ) → Common bytes font v → NamesNoStart v → Keyed bytes font v →
    TellsPart bytes font v glyph → SamePart bytes font v glyph
keyed_all bytes font v glyph c start k tells = record {
  number = λ fd. (tells.number fd, keyed_back bytes font v glyph fd c start k);
  has = λ fd h. keyed_has bytes font v glyph fd c start k h;
  only = tells.only;
  widths = tells.widths;
  subroutines = λ p found b. tells.subroutines p found b (start.subroutines b.0 p b.2);
  program = λ code p found g in_c.
      same_program bytes font v glyph code p found c start g.has_code
      (tells.subroutines p found (g.number, g.has_number, g.has_part, in_c) (start.subroutines g.number p g.has_part));
  none = (keyed_none bytes font v glyph c start k, tells.none);
  status = λ status partless. keyed_status bytes font v glyph status c start k partless.1;
  missing = λ found. missing_is bytes font v glyph found c start;
}

-- ---- the laws
alone_is : (ps : List PrivateDict) (q : contents.PrivateDict) → parts_shown ps ≡ q ∷ [] → length ps ≡ 1
alone_is ps q alone = sym (length_shown ps) ∙ ap (λ (ps : List contents.PrivateDict). length ps) alone

tells_by : (bytes : List ℕ) (font : PsfFont) (v : FontView) (glyph : ℕ) → Common bytes font v → Cases bytes font v →
    TellsPart bytes font v glyph
tells_by bytes font v glyph c (OfPlain q is plain part alone) =
    plain_tells bytes font v glyph q c is plain part alone (alone_is v.parts.items q alone)
tells_by bytes font v glyph c (OfKeyed k) = keyed_tells bytes font v glyph c k

pub tells_parts : TellsParts
tells_parts bytes font v glyph told first =
    let c = common bytes font v told first in tells_by bytes font v glyph c (cases bytes font v c c.laid.parts)

same_by : (bytes : List ℕ) (font : PsfFont) (v : FontView) (glyph : ℕ) → Common bytes font v → NamesNoStart v → Cases bytes font v →
    TellsPart bytes font v glyph → SamePart bytes font v glyph
same_by bytes font v glyph c start (OfPlain q is plain part alone) tells =
    plain_all bytes font v glyph c start is (alone_is v.parts.items q alone) tells
same_by bytes font v glyph c start (OfKeyed k) tells = keyed_all bytes font v glyph c start k tells

pub keeps_parts : KeepsParts
keeps_parts bytes font v glyph told first start =
    let c = common bytes font v told first in
    same_by bytes font v glyph c start (cases bytes font v c c.laid.parts) (tells_parts bytes font v glyph told first)
