-- The characters of a list that a map has a glyph for, found one after the other.
use Rattle.std.proofs.Common.{◌≡◌, refl, sym, ap, subst, ◌∙◌, inl, inr, ℕ, zero, suc, ◌+◌, ◌<◌, List, [], ◌∷◌, ◌++◌, length, get_or, arith, Bool, true, false}
use Rattle.std.specs.Prelude.{◌⊎◌, ◌↔◌, ◌==◌, if◌then◌else◌, Result, Ok, Err, IfOk, Vec}
use Rattle.std.specs.declared.alloc.Global.{Global}
use Rattle.std.specs.List.{Contains}
use Rattle.std.specs.List.Sorted.{IsStrictlyIncreasing}
use Rattle.std.proofs.lemmas.Bool.{cases_eq, eqb-true}
use Rattle.std.proofs.lemmas.Bool.Decides.{nat_tests}
use Rattle.std.proofs.lemmas.List.{get_or_default}
use Rattle.std.proofs.lemmas.List.Kept.{AllPairs-from_increasing}
use Rattle.postscript_sfnt.specs.Maps.{Maps}
use Rattle.postscript_sfnt.specs.declared.character_map.CharacterMap.{CharacterMap}
use Rattle.postscript_sfnt_write.specs.Mappings.{CharsRise, IsMapping}
use Rattle.postscript_sfnt_write.specs.declared.mapping.Mapping.{Mapping}
use Rattle.postscript_files.specs.Choices.{AreKeptPairs, AreLookedUp, HasGlyph, IsGlyphFor, IsThere, PushesIf}
use Rattle.postscript_files.specs.declared.choice.Choice.{Choice}
use Rattle.postscript_files.specs.declared.error.Error.{Error}
use Rattle.postscript_files.proofs.OneGlyph.{one-glyph}

-- the mapping is that of one of the first k characters
pub record IsOfFirst (map : CharacterMap) (chars : List ℕ) (k : ℕ) (pair : Mapping) : Type 0 where
  pub has : HasGlyph map pair.char pair.glyph
  pub place : ℕ
  pub below : place < k
  pub is : get_or chars place 0 ≡ pair.char

-- the same of the first k characters of the list
pub record IsSoFar (map : CharacterMap) (chars : List ℕ) (k : ℕ) (pairs : List Mapping) : Type 0 where
  pub rise : CharsRise pairs
  pub each : (i : ℕ) (pair : Mapping) → IsMapping pairs i pair → IsOfFirst map chars k pair
  pub all : (j : ℕ) → j < k → (glyph : ℕ) → HasGlyph map (get_or chars j 0) glyph → IsThere pairs (get_or chars j 0) glyph

pub none-so-far : (map : CharacterMap) (chars : List ℕ) → IsSoFar map chars 0 []
none-so-far map chars = record {
  rise = λ i j a b less x y. absurd (cc);
  each = λ i pair h. absurd (cc);
  all = λ j below glyph has. absurd (omega (arith, below));
}

-- a mapping of a longer list is an earlier one or the last one
old-or-last : (pairs : List Mapping) (last : Mapping) (i : ℕ) (pair : Mapping) → IsMapping (pairs ++ last ∷ []) i pair →
    ((i < length pairs) × IsMapping pairs i pair) ⊎ ((i ≡ length pairs) × (last ≡ pair))
old-or-last [] last zero pair h = let e : last ≡ pair = cc in inr (refl, e)
old-or-last [] last (suc i) pair h = absurd (cc)
old-or-last (p ∷ pairs) last zero pair h = inl (omega arith, h)
old-or-last (p ∷ pairs) last (suc i) pair h = elim (old-or-last pairs last i pair h) [
  | inl old ↦ let less = old.0 in inl (omega (arith, less), old.1)
  | inr new ↦ inr (ap suc new.0, new.1)
]

still : (pairs : List Mapping) (last : Mapping) (i : ℕ) (pair : Mapping) → IsMapping pairs i pair → IsMapping (pairs ++ last ∷ []) i pair
still [] last i pair h = absurd (cc)
still (p ∷ pairs) last zero pair h = h
still (p ∷ pairs) last (suc i) pair h = still pairs last i pair h

at-end : (pairs : List Mapping) (last : Mapping) → IsMapping (pairs ++ last ∷ []) (length pairs) last
at-end [] last = refl
at-end (p ∷ pairs) last = at-end pairs last

there-still : (pairs : List Mapping) (last : Mapping) (char glyph : ℕ) → IsThere pairs char glyph → IsThere (pairs ++ last ∷ []) char glyph
there-still pairs last char glyph h = (h.0, h.1, still pairs last h.0 h.1 h.2, h.3, h.4)

-- the characters of the list before a place are below the one there
rising : (chars : List ℕ) → IsStrictlyIncreasing chars → (j k : ℕ) → j < k → k < length chars → get_or chars j 0 < get_or chars k 0
rising chars rise j k less there = AllPairs-from_increasing chars rise j k 0 less there

first-more : (map : CharacterMap) (chars : List ℕ) (k : ℕ) (pair : Mapping) → IsOfFirst map chars k pair → IsOfFirst map chars (k + 1) pair
first-more map chars k pair h = record {
  has = h.has;
  place = h.place;
  below = omega (arith, h.below);
  is = h.is;
}

rise-more : (chars : List ℕ) (map : CharacterMap) (k : ℕ) (pairs : List Mapping) (last : Mapping) → IsStrictlyIncreasing chars →
    k < length chars → last.char ≡ get_or chars k 0 → IsSoFar map chars k pairs → CharsRise (pairs ++ last ∷ [])
rise-more chars map k pairs last rise there is before i j a b less x y = elim (old-or-last pairs last j b y) [
  | inl later ↦ elim (old-or-last pairs last i a x) [
    | inl earlier ↦ before.rise i j a b less earlier.1 later.1
    | inr end ↦ let e = end.0 in let p = later.0 in absurd (omega (arith, e, p, less))
  ]
  | inr end ↦ elim (old-or-last pairs last i a x) [
    | inl earlier ↦
        let old = before.each i a earlier.1 in
        let p : get_or chars old.place 0 < get_or chars k 0 = rising chars rise old.place k old.below there in
        let e : last.char ≡ b.char = ap (λ (m : Mapping). m.char) end.1 in
        let f = old.is in omega (arith, p, e, f, is)
    | inr both ↦ let e = both.0 in let f = end.0 in absurd (omega (arith, e, f, less))
  ]
]

-- one more character, which has a glyph
pushed : (map : CharacterMap) (chars : List ℕ) (k : ℕ) (pairs : List Mapping) (last : Mapping) → IsStrictlyIncreasing chars →
    k < length chars → last.char ≡ get_or chars k 0 → HasGlyph map last.char last.glyph → IsSoFar map chars k pairs →
    IsSoFar map chars (k + 1) (pairs ++ last ∷ [])
pushed map chars k pairs last rise there is has before = record {
  rise = rise-more chars map k pairs last rise there is before;
  each = λ i pair h. elim (old-or-last pairs last i pair h) [
    | inl old ↦ first-more map chars k pair (before.each i pair old.1)
    | inr new ↦ subst (IsOfFirst map chars (k + 1)) new.1 (record { has = has; place = k; below = omega arith; is = sym is })
  ];
  all = λ j below glyph holds. elim (cases_eq j k) [
    | inl same ↦
        let at : get_or chars j 0 ≡ last.char = ap (λ n. get_or chars n 0) same ∙ sym is in
        let maps : Maps map last.char glyph = subst (λ c. Maps map c glyph) at holds.maps in
        (length pairs, last, at-end pairs last, sym at, one-glyph map last.char last.glyph glyph has.maps maps)
    | inr other ↦ there-still pairs last (get_or chars j 0) glyph (before.all j (omega (arith, below, other)) glyph holds)
  ];
}

-- one more character, which has none
passed : (map : CharacterMap) (chars : List ℕ) (k : ℕ) (pairs : List Mapping) →
    ((glyph : ℕ) → HasGlyph map (get_or chars k 0) glyph → ⊥) → IsSoFar map chars k pairs → IsSoFar map chars (k + 1) pairs
passed map chars k pairs none before = record {
  rise = before.rise;
  each = λ i pair h. first-more map chars k pair (before.each i pair h);
  all = λ j below glyph holds. elim (cases_eq j k) [
    | inl same ↦ absurd (none glyph (subst (λ n. HasGlyph map (get_or chars n 0) glyph) same holds))
    | inr other ↦ before.all j (omega (arith, below, other)) glyph holds
  ];
}

no-glyph : (map : CharacterMap) (char glyph : ℕ) → IsGlyphFor map char 0 → HasGlyph map char glyph → ⊥
no-glyph map char glyph (inl told) has = let e = one-glyph map char glyph 0 has.maps told.1 in omega (arith, e, has.some)
no-glyph map char glyph (inr past) has = let p = past.0 in omega (arith, p, has.unicode)

has-glyph : (map : CharacterMap) (char glyph : ℕ) → 0 < glyph → IsGlyphFor map char glyph → HasGlyph map char glyph
has-glyph map char glyph some (inl told) = record { unicode = told.0; maps = told.1; some = some }
has-glyph map char glyph some (inr past) = let e = past.1 in absurd (omega (arith, e, some))

chosen : (none : Bool) (map : CharacterMap) (chars : List ℕ) (k glyph : ℕ) (pairs : List Mapping) → (glyph == 0) ≡ none →
    IsStrictlyIncreasing chars → k < length chars → IsGlyphFor map (get_or chars k 0) glyph → IsSoFar map chars k pairs →
    IsSoFar map chars (k + 1) (if none then pairs else pairs ++ (record { char = get_or chars k 0; glyph = glyph } ∷ []))
chosen true map chars k glyph pairs is rise there told before =
    let e : glyph ≡ 0 = eqb-true glyph 0 is in
    passed map chars k pairs (λ g has. no-glyph map (get_or chars k 0) g (subst (IsGlyphFor map (get_or chars k 0)) e told) has) before
chosen false map chars k glyph pairs is rise there told before =
    pushed map chars k pairs (record { char = get_or chars k 0; glyph = glyph }) rise there refl
    (has-glyph map (get_or chars k 0) glyph (grind (arith, nat_tests, is)) told) before

pub one-more : (map : CharacterMap) (chars : List ℕ) (k glyph : ℕ) (pairs new : List Mapping) → IsStrictlyIncreasing chars →
    k < length chars → IsGlyphFor map (get_or chars k 0) glyph → PushesIf pairs (get_or chars k 0) glyph new →
    IsSoFar map chars k pairs → IsSoFar map chars (k + 1) new
one-more map chars k glyph pairs new rise there told is before =
    subst (IsSoFar map chars (k + 1)) (sym is) (chosen (glyph == 0) map chars k glyph pairs refl rise there told before)

pub all-found : (map : CharacterMap) (chars : List ℕ) (k : ℕ) (pairs : List Mapping) → k ≡ length chars → IsSoFar map chars k pairs →
    AreLookedUp map chars pairs
all-found map chars k pairs all before = record {
  rise = before.rise;
  each = λ i pair h.
      let it = before.each i pair h in
      let there : it.place < length chars = (let p = it.below in omega (arith, p, all)) in
      (it.has, (it.place, there, sym (get_or_default chars it.place 0 pair.char there) ∙ it.is));
  all = λ char glyph has among.
      let at : get_or chars among.0 0 ≡ char = get_or_default chars among.0 0 char among.1 ∙ among.2 in
      let below : among.0 < k = (let p = among.1 in omega (arith, p, all)) in
      subst (λ c. IsThere pairs c glyph) at
      (before.all among.0 below glyph (subst (λ c. HasGlyph map c glyph) (sym at) has));
}

-- another list of the same characters
pub among-same : (r : Result (Vec Mapping Global) Error) (map : CharacterMap) (chars all lent : List ℕ) → lent ≡ all →
    ((char : ℕ) → Contains all char ↔ Contains chars char) → IfOk r (λ pairs. AreLookedUp map lent pairs.items) →
    IfOk r (λ pairs. AreLookedUp map chars pairs.items)
among-same (Ok pairs) map chars all lent is same found = record {
  rise = found.rise;
  each = λ i pair h.
      let it = found.each i pair h in
      (it.0, (same pair.char).0 (subst (λ xs. Contains xs pair.char) is it.1));
  all = λ char glyph has among. found.all char glyph has (subst (λ xs. Contains xs char) (sym is) ((same char).1 among));
}
among-same (Err e) map chars all lent is same found = tt

-- characters alone are chosen
pub chosen-alone : (r : Result (Vec Mapping Global) Error) (choice : Choice) (map : CharacterMap) → length choice.glyphs.now ≡ 0 →
    IfOk r (λ pairs. AreLookedUp map choice.chars.now pairs.items) → IfOk r (λ pairs. AreKeptPairs choice map pairs.items)
chosen-alone (Ok pairs) choice map none found = record {
  rise = found.rise;
  each = λ i pair h. let it = found.each i pair h in record { has = it.0; asked = inl it.1 };
  all = λ char glyph kept. elim kept.asked [
    | inl asked ↦ found.all char glyph kept.has asked
    | inr among ↦ (let less = among.1 in absurd (omega (arith, less, none)))
  ];
}
chosen-alone (Err e) choice map none found = tt
