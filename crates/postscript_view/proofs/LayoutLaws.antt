-- A font is read in place exactly where it is laid out.
use Rattle.std.proofs.Common.{◌≡◌, ◌≢◌, refl, sym, ap, subst, ◌∙◌, ℕ, ◌+◌, ◌<◌, ◌≤◌, ◌==◌, nat_lt, if◌then◌else◌, Bool, true, false, ℤ, pos, ◌+ℤ◌, None, List, [], ◌∷◌, length, take, drop, arith, Some}
use Rattle.std.specs.Prelude.{slice_get, IsSome, Option, Result, Ok, Err, IfOk, IfErr}
use Rattle.std.specs.Option.{is_none}
use Rattle.std.proofs.lemmas.Int.{ints}
use Rattle.std.proofs.lemmas.Bool.Decides.{nat_tests}
use Rattle.postscript_base.specs.Refusal.{unexpected_eof}
use Rattle.postscript_base.specs.Tape.Loops.{each}
use Rattle.postscript_base.specs.Tape.Outcome.{Outcome, Got, Fault, Past, Reading, after, end, pure, Answers, RefusedAs}
use Rattle.postscript_base.specs.Compact1.Defaults.{look, first_of, first_two_of}
use Rattle.postscript_base.specs.Compact1.Dictionary.{Dictionary, dictionary, dictionary_of}
use Rattle.postscript_base.specs.Compact1.DictionaryLaw.{IsDictionary}
use Rattle.postscript_base.specs.declared.compact1.operator.Operator.{Operator}
use Rattle.postscript_base.specs.declared.compact1.operator.Operator.TheVariants as operators
use Rattle.postscript_base.specs.declared.error.Error.{Error}
use Rattle.postscript_base.specs.declared.error.Error.TheVariants.{Memory}
use Rattle.postscript_base.proofs.DictionaryIs.{reads_dictionaries}
use Rattle.postscript_compact1.specs.Kinds.{map_of}
use Rattle.postscript_compact1.specs.FontSet.Parts.{HasFirst, HasPrivate, IsPlace, IsSlice}
use Rattle.postscript_compact1.specs.FontSet.Operands.{place_at, type_two, bounds}
use Rattle.postscript_compact1.proofs.OperandLaws.{faulty, placed_is, placed_has, type_is, type_has, bounds_is, bounds_has}
use Rattle.postscript_compact1.proofs.Outcomes.{got}
use Rattle.postscript_compact1.proofs.Steps.{Done, Last, Step, accepted}
use Rattle.postscript_base.specs.Index.{number_at, opened, IsOpened}
use Rattle.postscript_base.proofs.Opening.{opened_is, opened_only}
use Rattle.postscript_view.specs.Layout.{IsIndexAt, NamesIndex, AreTables, AreCharStrings, AreSubroutines, HasLocals, WithBoth, WithoutSubrs, WithoutPrivate, IsPart, ArePartsOf, AreParts, OfFont, OfFontDictionaries, IsLaidOut, ReadsLayout}
use Rattle.postscript_view.specs.Order.{aside, header_size, map_from, tables, char_strings, slice_at, subroutines, own_part, part, item_part, font_parts, parts, view_of}
use Rattle.postscript_view.specs.Contents.{Tables, PrivateDict, View}
use Rattle.postscript_view.specs.Value.{view_shown}
use Rattle.postscript_view.specs.declared.font.FontView.{FontView}
use Rattle.postscript_view.proofs.Wider.{map_is, slice_is, has_some}

-- ---- a reading at another place
pub aside_has : {A : Type 0} (there : ℕ) (reading : Reading A) (bytes : List ℕ) (place : ℕ) (x : A) (next : ℕ) →
    aside there reading bytes place ≡ Got x next → (behind : ℕ) × (reading bytes there ≡ Got x behind) × (place ≡ next)
aside_has there reading bytes place x next e = by (reading bytes there) refl e
  where
    by : (o : Outcome _) → reading bytes there ≡ o → after o (λ x _. Got x place) ≡ Got x next →
        (behind : ℕ) × (reading bytes there ≡ Got x behind) × (place ≡ next)
    by (Got y behind) is e = let same = got y x place next e in (behind, is ∙ ap (λ y. Got y behind) same.0, same.1)
    by (Fault r) is e = faulty x r next e
    by Past is e = let no : Past ≡ Got x next = e in absurd (cc)

-- ---- an INDEX
index_is : (bytes : List ℕ) (offset place : ℕ) (items : List (List ℕ)) → IsIndexAt bytes offset items →
    aside offset opened bytes place ≡ Got items place
index_is bytes offset place items h = rw (opened_is bytes offset items h.0 h.2) refl

-- at the place that an operator names, from a base on
pub index_has : (bytes : List ℕ) (base : ℕ) (map : Dictionary) (operator : Operator) (there place at next : ℕ) (items : List (List ℕ)) →
    place_at 0 base map operator bytes place ≡ Got there at → aside there opened bytes at ≡ Got items next
    → (z : ℤ) × (offset : ℕ) × HasFirst map operator z × (pos base +ℤ z ≡ pos offset) × IsIndexAt bytes offset items × (place ≡ next)
index_has bytes base map operator there place at next items named stands =
    let p = placed_has 0 base map operator there bytes place at named in
    let a = aside_has there opened bytes at items next stands in
    let on : 0 + p.1 ≡ p.1 = omega arith in
    let here : there ≡ p.1 = p.4 ∙ on in (
      p.0,
      p.1,
      p.2,
      p.3,
      (
        a.0,
        subst IsPlace on p.5,
        subst (λ k. IsOpened bytes k items a.0) here (opened_only bytes there items a.0 a.1),
      ),
      p.6 ∙ a.2,
    )

named_is : (bytes : List ℕ) (base : ℕ) (map : Dictionary) (operator : Operator) (z : ℤ) (offset place : ℕ) → HasFirst map operator z →
    pos base +ℤ z ≡ pos offset → IsPlace offset → place_at 0 base map operator bytes place ≡ Got offset place
named_is bytes base map operator z offset place h sum fits =
    let on : 0 + offset ≡ offset = omega arith in
    placed_is 0 base map operator z offset bytes place h sum (subst IsPlace (sym on) fits) ∙ ap (λ n. Got n place) on

pub whole_offset : (z : ℤ) (offset : ℕ) → pos 0 +ℤ z ≡ pos offset → z ≡ pos offset
whole_offset z offset sum = omega (arith, ints)

pub names_index : (bytes : List ℕ) (map : Dictionary) (operator : Operator) (there place at next : ℕ) (items : List (List ℕ)) →
    place_at 0 0 map operator bytes place ≡ Got there at → aside there opened bytes at ≡ Got items next
    → NamesIndex bytes map operator items × (place ≡ next)
names_index bytes map operator there place at next items named stands =
    let h = index_has bytes 0 map operator there place at next items named stands in
    ((h.1, subst (HasFirst map operator) (whole_offset h.0 h.1 h.3) h.2, h.4), h.5)

-- ---- dictionaries
pub map_has : (held : List ℕ) (m : Dictionary) (bytes : List ℕ) (place next : ℕ) → map_of held bytes place ≡ Got m next →
    IsDictionary held 0 m × (place ≡ next)
unfolding map_of
map_has held m bytes place next e = by (dictionary held 0) refl e
  where
    by : (o : Outcome Dictionary) → dictionary held 0 ≡ o → after o (λ m _. Got m place) ≡ Got m next →
        IsDictionary held 0 m × (place ≡ next)
    by (Got d n) is e = let same = got d m place next e in ((reads_dictionaries.only held 0 m n (is ∙ ap (λ d. Got d n) same.0)).0, same.1)
    by (Fault r) is e = faulty m r next e
    by Past is e = let no : Past ≡ Got m next = e in absurd (cc)

pub from_has : (o : Option (List ℕ)) (m : Dictionary) (bytes : List ℕ) (place next : ℕ) → map_from o bytes place ≡ Got m next →
    (item : List ℕ) × (o ≡ Some item) × IsDictionary item 0 m × (place ≡ next)
from_has None m bytes place next e = faulty m unexpected_eof next e
from_has (Some item) m bytes place next e = let h = map_has item m bytes place next e in (item, refl, h.0, h.1)

-- ---- what stands behind the header
tables_is : (bytes : List ℕ) (place number : ℕ) (t : Tables) → AreTables bytes place number t →
    (next : ℕ) × (tables number bytes place ≡ Got t next)
unfolding tables
tables_is bytes place number t h = (
  h.next,
  rw (
    opened_is bytes place t.names h.names_next h.are_names,
    opened_is bytes h.names_next h.dictionaries h.dictionaries_next h.are_dictionaries,
    opened_is bytes h.dictionaries_next t.strings h.strings_next h.are_strings,
    opened_is bytes h.strings_next t.subroutines h.next h.are_subroutines,
    h.there,
    map_is h.item t.dictionary bytes h.next h.is_dictionary,
  ) refl,
)

pub tables_have : (bytes : List ℕ) (place number : ℕ) (t : Tables) (next : ℕ) → tables number bytes place ≡ Got t next →
    AreTables bytes place number t
unfolding tables
tables_have bytes place number t next e =
    let h = accepted (Step opened
    (λ names. Step opened (λ dictionaries. Step opened
    (λ strings. Step opened (λ subroutines. Step (map_from (slice_get dictionaries number)) (λ m.
    Done (record { names = names; dictionary = m; strings = strings; subroutines = subroutines }))))))) bytes place t next e in
    let d = h.3 in
    let s = d.3 in
    let g = s.3 in
    let m = g.3 in
    let item = from_has (slice_get d.0 number) m.0 bytes g.1 m.1 m.2 in
    let is = m.3.0 in
    record {
      dictionaries = d.0;
      item = item.0;
      names_next = h.1;
      dictionaries_next = d.1;
      strings_next = s.1;
      next = g.1;
      are_names = subst (λ (t : Tables). IsOpened bytes place t.names h.1) is (opened_only bytes place h.0 h.1 h.2);
      are_dictionaries = opened_only bytes h.1 d.0 d.1 d.2;
      are_strings = subst (λ (t : Tables). IsOpened bytes d.1 t.strings s.1) is (opened_only bytes d.1 s.0 s.1 s.2);
      are_subroutines = subst (λ (t : Tables). IsOpened bytes s.1 t.subroutines g.1) is (opened_only bytes s.1 g.0 g.1 g.2);
      there = item.1;
      is_dictionary = subst (λ (t : Tables). IsDictionary item.0 0 t.dictionary) is item.2;
    }

-- ---- the char strings
char_strings_is : (bytes : List ℕ) (m : Dictionary) (codes : List (List ℕ)) (place : ℕ) → AreCharStrings bytes m codes →
    char_strings m bytes place ≡ Got codes place
unfolding char_strings
char_strings_is bytes m codes place h =
    let n = h.named in
    let sum : pos 0 +ℤ pos n.0 ≡ pos n.0 = omega (arith, ints) in
    rw (named_is bytes 0 m operators.CharStrings (pos n.0) n.0 place n.1 sum n.2.1, type_is m bytes place h.type)
    (index_is bytes n.0 place codes n.2)

pub char_strings_have : (bytes : List ℕ) (m : Dictionary) (codes : List (List ℕ)) (place next : ℕ) →
    char_strings m bytes place ≡ Got codes next → AreCharStrings bytes m codes × (place ≡ next)
unfolding char_strings
char_strings_have bytes m codes place next e =
    let h = accepted (Step (place_at 0 0 m operators.CharStrings) (λ there. Step (type_two m) (λ _. Last (aside there opened)))) bytes
    place codes next e in
    let t = type_has m h.3.0 bytes h.1 h.3.1 h.3.2 in
    let n = names_index bytes m operators.CharStrings h.0 place h.1 next codes h.2
    (subst (λ k. aside h.0 opened bytes k ≡ Got codes next) (sym t.1) h.3.3) in
    (record { type = t.0; named = n.0 }, n.1)

-- ---- the private dictionary and its subroutines
pub slice_has : (there size : ℕ) (held bytes : List ℕ) (place next : ℕ) → slice_at there size bytes place ≡ Got held next →
    IsSlice bytes there size held × (place ≡ next)
unfolding slice_at
slice_has there size held bytes place next e = by (size == 0) refl e
  where
    cut : (b : Bool) → nat_lt (length bytes) (there + size) ≡ b → 0 < size →
        (if b then end else Got (take size (drop there bytes)) place) ≡ Got held next → IsSlice bytes there size held × (place ≡ next)
    cut true t some e = faulty held unexpected_eof next e
    cut false t some e = let same = got _ _ _ _ e in ((λ _. grind (arith, nat_tests), sym same.0), same.1)

    by : (b : Bool) → (size == 0) ≡ b →
        (if b then Got [] place else if nat_lt (length bytes) (there + size) then end else Got (take size (drop there bytes)) place) ≡ Got
        held next →
        IsSlice bytes there size held × (place ≡ next)
    by true t e =
        let none : size ≡ 0 = grind (arith, nat_tests) in
        let same = got _ _ _ _ e in
        let empty : [] ≡ held = same.0 in
        ((λ some. absurd (omega arith), rw none (sym empty)), same.1)
    by false t e = let some : 0 < size = grind (arith, nat_tests) in cut (nat_lt (length bytes) (there + size)) refl some e

locals_is : (bytes : List ℕ) (base : ℕ) (local : Dictionary) (subs : List (List ℕ)) (place : ℕ) → AreSubroutines bytes base local subs →
    subroutines base local bytes place ≡ Got subs place
unfolding subroutines
locals_is bytes base local subs place h =
    rw (h.2.1, named_is bytes base local operators.Subrs h.0 h.1 place h.2 h.3 h.4.1) (index_is bytes h.1 place subs h.4)

-- the subroutines stand where they are named, or are lacking
locals_have : (bytes : List ℕ) (m local : Dictionary) (offset : ℕ) (subs : List (List ℕ)) (place next : ℕ) →
    HasPrivate bytes 0 m offset local → subroutines offset local bytes place ≡ Got subs next →
    HasLocals bytes m local subs × (place ≡ next)
unfolding subroutines
locals_have bytes m local offset subs place next private e = by (first_of (look local operators.Subrs)) refl e
  where
    by : (o : Option _) → first_of (look local operators.Subrs) ≡ o
        → (if is_none o then pure
        [] else (λ bytes place. after (place_at 0 offset local operators.Subrs bytes place) (λ there at. aside there opened bytes at)))
        bytes place ≡ Got subs next → HasLocals bytes m local subs × (place ≡ next)
    by None is e = let same = got _ _ _ _ e in (WithoutSubrs offset private is (sym same.0), same.1)
    by (Some x) is e =
        let h = accepted (Step (place_at 0 offset local operators.Subrs) (λ there. Last (aside there opened))) bytes place subs next e in
        let n = index_has bytes offset local operators.Subrs h.0 place h.1 next subs h.2 h.3 in
        (WithBoth offset private (n.0, n.1, n.2, n.3, n.4), n.5)

abbrev pub part_with : Dictionary → List (List ℕ) → Option Dictionary → PrivateDict
part_with local subs font = record { dictionary = local; subroutines = subs; font = font }

private_is : (bytes : List ℕ) (m local : Dictionary) (offset : ℕ) (subs : List (List ℕ)) (place : ℕ) → HasPrivate bytes 0 m offset local →
    subroutines offset local bytes place ≡ Got subs place → part m bytes place ≡ Got (part_with local subs None) place
unfolding part own_part
private_is bytes m local offset subs place h s =
    rw (
      h.2.2,
      bounds_is 0 m h.0 offset bytes place h.2 h.3,
      slice_is h.0 (0 + offset) h.1 bytes place h.4,
      map_is h.1 local bytes place h.5,
      s,
    ) refl

lacking_is : (bytes : List ℕ) (local : Dictionary) (place base : ℕ) → first_of (look local operators.Subrs) ≡ None →
    subroutines base local bytes place ≡ Got [] place
unfolding subroutines
lacking_is bytes local place base none = rw none refl

without_is : (bytes : List ℕ) (m : Dictionary) (place : ℕ) → first_two_of (look m operators.Private) ≡ None →
    part m bytes place ≡ Got (part_with (dictionary_of []) [] None) place
unfolding part
without_is bytes m place none = rw none refl

part_is : (bytes : List ℕ) (m local : Dictionary) (subs : List (List ℕ)) (place : ℕ) → HasLocals bytes m local subs →
    part m bytes place ≡ Got (part_with local subs None) place
part_is bytes m local subs place (WithBoth offset private stand) =
    private_is bytes m local offset subs place private (locals_is bytes offset local subs place stand)
part_is bytes m local subs place (WithoutSubrs offset private none is) =
    private_is bytes m local offset subs place private (rw is (lacking_is bytes local place offset none))
part_is bytes m local subs place (WithoutPrivate none empty is) = rw (empty, is) (without_is bytes m place none)

own_has : (bytes : List ℕ) (m : Dictionary) (p : PrivateDict) (place next : ℕ) → own_part m bytes place ≡ Got p next →
    IsPart bytes m None p × (place ≡ next)
unfolding own_part
own_has bytes m p place next e =
    let h = accepted (Step (bounds 0 m)
    (λ b. Step (slice_at b.2 b.0)
    (λ text. Step (map_of text) (λ local. Step (subroutines b.1 local) (λ subs. Done (part_with local subs None)))))) bytes place p next
    e in
    let b = bounds_has 0 m h.0 bytes place h.1 h.2 in
    let t = h.3 in
    let slice = slice_has h.0.2 h.0.0 t.0 bytes h.1 t.1 t.2 in
    let l = t.3 in
    let local = map_has t.0 l.0 bytes t.1 l.1 l.2 in
    let s = l.3 in
    let private : HasPrivate bytes 0 m h.0.1 l.0 = (h.0.0, t.0, b.0, b.2, subst (λ k. IsSlice bytes k h.0.0 t.0) b.1 slice.0, local.0) in
    let all = locals_have bytes m l.0 h.0.1 s.0 l.1 s.1 private s.2 in
    let is : part_with l.0 s.0 None ≡ p = s.3.0 in
    (subst (λ (p : PrivateDict). IsPart bytes m None p) is (all.0, refl), b.3 ∙ (slice.1 ∙ (local.1 ∙ (all.1 ∙ s.3.1))))

pub part_has : (bytes : List ℕ) (m : Dictionary) (p : PrivateDict) (place next : ℕ) → part m bytes place ≡ Got p next →
    IsPart bytes m None p × (place ≡ next)
unfolding part
part_has bytes m p place next e = by (first_two_of (look m operators.Private)) refl e
  where
    by : (o : Option _) → first_two_of (look m operators.Private) ≡ o →
        (if is_none o then pure (part_with (dictionary_of []) [] None) else own_part m) bytes place ≡ Got p next →
        IsPart bytes m None p × (place ≡ next)
    by None is e =
        let same = got _ _ _ _ e in (subst (λ (p : PrivateDict). IsPart bytes m None p) same.0 (WithoutPrivate is refl refl, refl), same.1)
    by (Some x) is e = own_has bytes m p place next e

-- ---- the parts
same_part : (p : PrivateDict) (font : Option Dictionary) → p.font ≡ font → part_with p.dictionary p.subroutines font ≡ p
same_part p font is = ap (λ f. part_with p.dictionary p.subroutines f) (sym is)

item_is : (bytes item : List ℕ) (m : Dictionary) (p : PrivateDict) (place : ℕ) → IsDictionary item 0 m → IsPart bytes m (Some m) p →
    item_part item bytes place ≡ Got p place
unfolding item_part
item_is bytes item m p place is h =
    rw (map_is item m bytes place is, part_is bytes m p.dictionary p.subroutines place h.0)
    (ap (λ p. Got p place) (same_part p (Some m) h.1))

pub item_has : (bytes item : List ℕ) (p : PrivateDict) (place next : ℕ) → item_part item bytes place ≡ Got p next →
    (m : Dictionary) × IsDictionary item 0 m × IsPart bytes m (Some m) p × (place ≡ next)
unfolding item_part
item_has bytes item p place next e =
    let h = accepted (Step (map_of item)
    (λ m. Step (part m) (λ (named : PrivateDict). Done (part_with named.dictionary named.subroutines (Some m))))) bytes place p next e in
    let m = map_has item h.0 bytes place h.1 h.2 in
    let q = h.3 in
    let has = part_has bytes h.0 q.0 h.1 q.1 q.2 in
    (h.0, m.0, subst (λ (p : PrivateDict). IsPart bytes h.0 (Some h.0) p) q.3.0 (has.0.0, refl), m.1 ∙ (has.1 ∙ q.3.1))

each_is : (bytes : List ℕ) (items : List (List ℕ)) (ps : List PrivateDict) (place : ℕ) → ArePartsOf bytes items ps →
    each item_part items bytes place ≡ Got ps place
unfolding each
each_is bytes [] [] place h = refl
each_is bytes (item ∷ items) (p ∷ ps) place h = rw (item_is bytes item h.0 p place h.1 h.2, each_is bytes items ps place h.3) refl
each_is bytes [] (p ∷ ps) place h = absurd h
each_is bytes (item ∷ items) [] place h = absurd h

each_has : (bytes : List ℕ) (items : List (List ℕ)) (ps : List PrivateDict) (place next : ℕ) →
    each item_part items bytes place ≡ Got ps next → ArePartsOf bytes items ps × (place ≡ next)
unfolding each
each_has bytes [] ps place next e = let same = got _ _ _ _ e in (subst (ArePartsOf bytes []) same.0 tt, same.1)
each_has bytes (item ∷ items) ps place next e =
    let h = accepted (Step (item_part item) (λ p. Step (each item_part items) (λ rest. Done (p ∷ rest)))) bytes place ps next e in
    let one = item_has bytes item h.0 place h.1 h.2 in
    let r = h.3 in
    let rest = each_has bytes items r.0 h.1 r.1 r.2 in
    (subst (ArePartsOf bytes (item ∷ items)) r.3.0 (one.0, one.1, one.2, rest.0), one.3 ∙ (rest.1 ∙ r.3.1))

parts_is : (bytes : List ℕ) (m : Dictionary) (ps : List PrivateDict) (place : ℕ) → AreParts bytes m ps → parts m bytes place ≡ Got ps place
unfolding parts font_parts
parts_is bytes m ps place (OfFont p plain h is) =
    rw (plain, part_is bytes m p.dictionary p.subroutines place h.0)
    (ap (λ ps. Got ps place) (ap (λ p. p ∷ []) (same_part p None h.1) ∙ sym is))
parts_is bytes m ps place (OfFontDictionaries items keyed named are) =
    let sum : pos 0 +ℤ pos named.0 ≡ pos named.0 = omega (arith, ints) in
    rw (
      has_some (look m operators.ROS) keyed,
      named_is bytes 0 m operators.FDArray (pos named.0) named.0 place named.1 sum named.2.1,
      index_is bytes named.0 place items named.2,
    ) (each_is bytes items ps place are)

keyed_have : (bytes : List ℕ) (m : Dictionary) (ps : List PrivateDict) (place next : ℕ) → IsSome (look m operators.ROS) →
    font_parts m bytes place ≡ Got ps next → AreParts bytes m ps × (place ≡ next)
unfolding font_parts
keyed_have bytes m ps place next keyed e =
    let h = accepted (Step (place_at 0 0 m operators.FDArray) (λ there. Step (aside there opened) (λ items. Last (each item_part items))))
    bytes place ps next e in
    let i = h.3 in
    let n = names_index bytes m operators.FDArray h.0 place h.1 i.1 i.0 h.2 i.2 in
    let all = each_has bytes i.0 ps i.1 next i.3 in
    (OfFontDictionaries i.0 keyed n.0 all.0, n.1 ∙ all.1)

parts_have : (bytes : List ℕ) (m : Dictionary) (ps : List PrivateDict) (place next : ℕ) → parts m bytes place ≡ Got ps next →
    AreParts bytes m ps × (place ≡ next)
unfolding parts
parts_have bytes m ps place next e = by (look m operators.ROS) refl e
  where
    by : (o : Option _) → look m operators.ROS ≡ o →
        (if is_none o then (λ bytes place. after (part m bytes place) (λ p next. Got (p ∷ []) next)) else font_parts m) bytes place ≡ Got
        ps next →
        AreParts bytes m ps × (place ≡ next)
    by None is e =
        let h = accepted (Step (part m) (λ p. Done (p ∷ []))) bytes place ps next e in
        let one = part_has bytes m h.0 place h.1 h.2 in
        (OfFont h.0 is one.0 (sym h.3.0), one.1 ∙ h.3.1)
    by (Some x) is e = keyed_have bytes m ps place next (subst IsSome (sym is) refl) e

-- ---- the font
header_is : (bytes : List ℕ) (place : ℕ) → 3 ≤ length bytes → header_size bytes place ≡ Got (number_at bytes 2 1) place
unfolding header_size
header_is bytes place h = let enough : nat_lt (length bytes) 3 ≡ false = grind (arith, nat_tests) in rw enough refl

pub header_has : (bytes : List ℕ) (size place next : ℕ) → header_size bytes place ≡ Got size next →
    (3 ≤ length bytes) × (number_at bytes 2 1 ≡ size) × (place ≡ next)
unfolding header_size
header_has bytes size place next e = by (nat_lt (length bytes) 3) refl e
  where
    by : (b : Bool) → nat_lt (length bytes) 3 ≡ b → (if b then end else Got (number_at bytes 2 1) place) ≡ Got size next →
        (3 ≤ length bytes) × (number_at bytes 2 1 ≡ size) × (place ≡ next)
    by true t e = faulty size unexpected_eof next e
    by false t e = let same = got _ _ _ _ e in (grind (arith, nat_tests), same.0, same.1)

laid_out_is : (bytes : List ℕ) (number : ℕ) (v : View) → IsLaidOut bytes number v → view_of number bytes 0 ≡ Got v 0
unfolding view_of
laid_out_is bytes number v h =
    let t = tables_is bytes (number_at bytes 2 1) number v.tables h.tables in
    rw (
      header_is bytes 0 h.header,
      t.1,
      char_strings_is bytes v.tables.dictionary v.char_strings 0 h.char_strings,
      parts_is bytes v.tables.dictionary v.parts 0 h.parts,
    ) refl

laid_out_has : (bytes : List ℕ) (number : ℕ) (v : View) (next : ℕ) → view_of number bytes 0 ≡ Got v next → IsLaidOut bytes number v
unfolding view_of
laid_out_has bytes number v next e =
    let h = accepted (Step header_size
    (λ size. Step (aside size (tables number)) (λ (t : Tables). Step (char_strings t.dictionary) (λ codes. Step (parts t.dictionary) (λ ps.
    Done (record { tables = t; char_strings = codes; parts = ps })))))) bytes 0 v next e in
    let head = header_has bytes h.0 0 h.1 h.2 in
    let t = h.3 in
    let a = aside_has h.0 (tables number) bytes h.1 t.0 t.1 t.2 in
    let are = tables_have bytes h.0 number t.0 a.0 a.1 in
    let c = t.3 in
    let codes = char_strings_have bytes t.0.dictionary c.0 t.1 c.1 c.2 in
    let p = c.3 in
    let ps = parts_have bytes t.0.dictionary p.0 c.1 p.1 p.2 in
    subst (λ (v : View). IsLaidOut bytes number v) p.3.0
    (record { header = head.0; tables = subst (λ k. AreTables bytes k number t.0) (sym head.1) are; char_strings = codes.0; parts = ps.0 })

pub reads_layout : ReadsLayout
reads_layout bytes number v = (laid_out_has bytes number v 0, laid_out_is bytes number v)

-- ---- what is answered is laid out, and nothing is where it is refused
pub found_view : (r : Result FontView Error) (bytes : List ℕ) (number : ℕ) → Answers view_shown r 0 (view_of number bytes 0) →
    IfOk r (λ v. IsLaidOut bytes number (view_shown v))
found_view (Ok v) bytes number answers = laid_out_has bytes number (view_shown v) 0 answers
found_view (Err e) bytes number answers = tt

pub only_view : (r : Result FontView Error) (bytes : List ℕ) (number : ℕ) → Answers view_shown r 0 (view_of number bytes 0) →
    IfErr r (λ e. e ≢ Memory → (v : View) → IsLaidOut bytes number v → ⊥)
only_view (Ok v) bytes number answers = tt
only_view (Err e) bytes number answers = λ other v h. subst (RefusedAs e) (laid_out_is bytes number v h) (answers other)
