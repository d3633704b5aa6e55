-- The characters of a subset.
use Rattle.std.proofs.Common.{◌≡◌, ◌≢◌, refl, sym, ap, ◌∙◌, subst, inl, inr, ℕ, zero, suc, ◌<◌, List, [], ◌∷◌, length, get_or, arith}
use Rattle.std.specs.Prelude.{◌⊎◌, Some, map, slice_get, option_map}
use Rattle.std.specs.List.{Contains}
use Rattle.std.proofs.lemmas.Bool.{cases_eq}
use Rattle.std.proofs.lemmas.List.{get_or-map, length-map}
use Rattle.std.proofs.lemmas.List.Elements.{Contains-append_cases, Contains-append_right}
use Rattle.std.proofs.lemmas.Option.{get_or_from_slice_get, slice_get-get_or, slice_get-map, slice_get_within}
use Rattle.postscript_sfnt.specs.declared.character_map.CharacterMap.{CharacterMap}
use Rattle.postscript_sfnt_write.specs.Mappings.{CharsRise, IsMapping}
use Rattle.postscript_sfnt_write.specs.declared.mapping.Mapping.{Mapping}
use Rattle.postscript_files.specs.Choices.{AreKeptPairs, IsKept, glyph_of, glyphs_of, named_of}
use Rattle.postscript_files.specs.Origins.{IsOrigin}
use Rattle.postscript_files.specs.Renumbered.{AreNumbersOf, AreRenumbered, IsNumbered, renumber}
use Rattle.postscript_files.specs.declared.choice.Choice.{Choice}

abbrev none : Mapping
none = record { char = 0; glyph = 0 }

-- a mapping with its new number
pub mapping-there : (pairs mappings : List Mapping) (numbers : List ℕ) → AreRenumbered pairs numbers mappings → (k : ℕ) (pair : Mapping) →
    IsMapping pairs k pair → IsMapping mappings k (renumber numbers pair)
mapping-there pairs mappings numbers are k pair h =
    ap (λ (ms : List Mapping). slice_get ms k) are ∙ slice_get-map (renumber numbers) pairs k ∙ ap (option_map (renumber numbers)) h

-- each mapping with a new number comes from one with an old number
pub mapping-from : (pairs mappings : List Mapping) (numbers : List ℕ) → AreRenumbered pairs numbers mappings → (k : ℕ) (m : Mapping) →
    IsMapping mappings k m → (pair : Mapping) × IsMapping pairs k pair × (pair.char ≡ m.char)
mapping-from pairs mappings numbers are k m h =
    let as_many : length mappings ≡ length pairs = ap length are ∙ length-map pairs (renumber numbers) in
    let within : k < length pairs = let w = slice_get_within mappings k m h in omega (arith, as_many, w) in
    let given : IsMapping pairs k (get_or pairs k none) = slice_get-get_or pairs k none within in
    let both : Some (renumber numbers (get_or pairs k none)) ≡ Some m =
    sym (mapping-there pairs mappings numbers are k (get_or pairs k none) given) ∙ h in
    let same : renumber numbers (get_or pairs k none) ≡ m = cc in
    (get_or pairs k none, given, ap (λ (x : Mapping). x.char) same)

-- mappings with new numbers are in the order of those with old ones
pub renumbered-rise : (pairs mappings : List Mapping) (numbers : List ℕ) → AreRenumbered pairs numbers mappings → CharsRise pairs →
    CharsRise mappings
renumbered-rise pairs mappings numbers are rise i j a b less x y =
    let first = mapping-from pairs mappings numbers are i a x in
    let second = mapping-from pairs mappings numbers are j b y in
    let up = rise i j first.0 second.0 less first.1 second.1 in
    omega (arith, up, first.2, second.2)

none-more : (one : Mapping) (rest : List Mapping) (char : ℕ) → one.char ≢ char →
    ((k : ℕ) (m : Mapping) → IsMapping rest k m → m.char ≡ char → ⊥) →
    (k : ℕ) (m : Mapping) → IsMapping (one ∷ rest) k m → m.char ≡ char → ⊥
none-more one rest char other less zero m h e = let is : one ≡ m = cc in other (ap (λ (x : Mapping). x.char) is ∙ e)
none-more one rest char other less (suc k) m h e = less k m h e

-- some mapping is of the character, or none is
pub find-char : (mappings : List Mapping) (char : ℕ) → ((k : ℕ) × (m : Mapping) × IsMapping mappings k m × (m.char ≡ char))
    ⊎ ((k : ℕ) (m : Mapping) → IsMapping mappings k m → m.char ≡ char → ⊥)
find-char [] char = inr (λ k m h e. absurd (cc))
find-char (one ∷ rest) char = elim (cases_eq one.char char) [
  | inl same ↦ inl (zero, one, refl, same)
  | inr other ↦ elim (find-char rest char) [
    | inl h ↦ inl (suc h.0, h.1, h.2, h.3)
    | inr less ↦ inr (none-more one rest char other less)
  ]
]

-- the glyph of a kept character is named
pub glyph-named : (glyphs : List ℕ) (pairs : List Mapping) (k : ℕ) (pair : Mapping) → IsMapping pairs k pair →
    Contains (named_of glyphs pairs) pair.glyph
glyph-named glyphs pairs k pair h =
    let within : k < length pairs = slice_get_within pairs k pair h in
    let as_many : length (map glyph_of pairs) ≡ length pairs = length-map pairs glyph_of in
    Contains-append_right glyphs (map glyph_of pairs) pair.glyph (
      k,
      omega (arith, as_many, within),
      get_or-map glyph_of pairs k none pair.glyph within ∙ ap glyph_of (get_or_from_slice_get pairs k pair none h),
    )

-- each named glyph is chosen, or it is that of a character
pub named-for : (choice : Choice) (charmap : CharacterMap) (pairs : List Mapping) → AreKeptPairs choice charmap pairs → (glyph : ℕ) →
    Contains (named_of (glyphs_of choice) pairs) glyph → Contains (glyphs_of choice) glyph ⊎ ((char : ℕ) × IsKept choice charmap char glyph)
named-for choice charmap pairs kept glyph h = elim (Contains-append_cases (glyphs_of choice) (map glyph_of pairs) glyph h) [
  | inl chosen ↦ inl chosen
  | inr of_char ↦
      let as_many : length (map glyph_of pairs) ≡ length pairs = length-map pairs glyph_of in
      let at : ℕ = of_char.0 in
      let there = of_char.1 in
      let within : of_char.0 < length pairs = omega (arith, as_many, there) in
      let given : IsMapping pairs of_char.0 (get_or pairs of_char.0 none) = slice_get-get_or pairs of_char.0 none within in
      let is : (get_or pairs of_char.0 none).glyph ≡ glyph =
      sym (get_or-map glyph_of pairs of_char.0 none glyph within) ∙ of_char.2 in
      inr (
        (get_or pairs of_char.0 none).char,
        subst (IsKept choice charmap (get_or pairs of_char.0 none).char) is
            (kept.each of_char.0 (get_or pairs of_char.0 none) given),
      )
]

-- the new number of a glyph that has an origin is one of its new glyphs
pub numbered : (origins numbers : List ℕ) (glyph : ℕ) → AreNumbersOf origins numbers → ((i : ℕ) × IsOrigin origins i glyph) →
    IsOrigin origins (get_or numbers glyph 0) glyph
numbered origins numbers glyph are h = subst (IsNumbered origins numbers) h.1.is (are h.0 h.1.there)
