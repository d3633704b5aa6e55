-- Encodings that say the same.
use Rattle.std.proofs.Common.{◌≡◌, sym, subst, ℕ, List, inl, inr}
use Rattle.std.specs.Prelude.{Some, ◌↔◌}
use Rattle.postscript_compact1.specs.Computed.Encodings.{identifier_of}
use Rattle.postscript_view.specs.Encoding.{Gives, GivesOwn, IsFirstSupplement, IsInList, IsInCodeRanges, IsSupplemented}
use Rattle.postscript_view.specs.Naming.{Names}
use Rattle.postscript_view.specs.declared.char_set.CharSetView.{CharSetView}
use Rattle.postscript_view.specs.declared.encoding.Codes.{Codes}
use Rattle.postscript_view.specs.declared.encoding.Codes.TheVariants.{Predefined, Listed, Ranges}
use Rattle.postscript_view.specs.declared.encoding.EncodingView.{EncodingView}
use Rattle.postscript_write.specs.Naming.{SameCodes, SameEncoding, SameName}

own : (a b : Codes) → SameCodes a b → (old new : CharSetView) (code glyph : ℕ) →
    ((identifier : ℕ) → Names old glyph identifier → Names new glyph identifier) → GivesOwn a old code glyph → GivesOwn b new code glyph
own (Predefined x) (Predefined y) e old new code glyph names h =
    (h.0, subst (λ z. identifier_of z code ≡ Some h.0) (sym e) h.1, h.2, names h.0 h.3)
own (Listed x) (Listed y) e old new code glyph names h = subst (λ (bytes : List ℕ). IsInList bytes code glyph) (sym e) h
own (Ranges x) (Ranges y) e old new code glyph names h = subst (λ (bytes : List ℕ). IsInCodeRanges bytes code glyph) (sym e) h
own (Predefined x) (Listed y) e old new code glyph names h = absurd e
own (Predefined x) (Ranges y) e old new code glyph names h = absurd e
own (Listed x) (Predefined y) e old new code glyph names h = absurd e
own (Listed x) (Ranges y) e old new code glyph names h = absurd e
own (Ranges x) (Predefined y) e old new code glyph names h = absurd e
own (Ranges x) (Listed y) e old new code glyph names h = absurd e

turned : (a b : Codes) → SameCodes a b → SameCodes b a
turned (Predefined x) (Predefined y) e = sym e
turned (Listed x) (Listed y) e = sym e
turned (Ranges x) (Ranges y) e = sym e
turned (Predefined x) (Listed y) e = e
turned (Predefined x) (Ranges y) e = e
turned (Listed x) (Predefined y) e = e
turned (Listed x) (Ranges y) e = e
turned (Ranges x) (Predefined y) e = e
turned (Ranges x) (Listed y) e = e

has : (a b : EncodingView) → SameCodes a.codes b.codes → b.supplements.now ≡ a.supplements.now → (old new : CharSetView)
    (code glyph : ℕ) → ((identifier : ℕ) → Names old glyph identifier → Names new glyph identifier) →
    Gives a old code glyph → Gives b new code glyph
has a b same e old new code glyph names h = elim h [
  | inl w ↦ inl (w.0, subst (λ (s : List ℕ). IsFirstSupplement s code w.0) (sym e) w.1, names w.0 w.2)
  | inr w ↦ inr (subst (λ (s : List ℕ). IsSupplemented s code → ⊥) (sym e) w.0, own a.codes b.codes same old new code glyph names w.1)
]

pub keeps_code : (a b : EncodingView) → SameEncoding a b → (old new : CharSetView) (code glyph : ℕ) →
    SameName old (Some glyph) new glyph → Gives a old code glyph ↔ Gives b new code glyph
keeps_code a b same old new code glyph names = (
  has a b same.codes same.supplements old new code glyph (λ identifier. (names identifier).0),
  has b a (turned a.codes b.codes same.codes) (sym same.supplements) new old code glyph (λ identifier. (names identifier).1),
)
