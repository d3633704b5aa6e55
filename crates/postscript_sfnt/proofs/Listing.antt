-- Lists of all characters that have a glyph.
use Rattle.std.proofs.Common.{sym, subst, inl, inr, ℕ, ◌+◌, ◌<◌, List, [], ◌∷◌, ◌++◌, append_assoc, append-nil, arith}
use Rattle.std.proofs.lemmas.Bool.{cases_eq}
use Rattle.postscript_sfnt.specs.Maps.{AreAll, IsNext, LacksAll, Maps}
use Rattle.postscript_sfnt.specs.declared.character_map.CharacterMap.{CharacterMap}

lacks_one : (map : CharacterMap) (char end : ℕ) → Maps map char 0 → LacksAll map (char + 1) end → LacksAll map char end
lacks_one map char end none h = λ k from below. elim (cases_eq k char) [
  | inl same ↦ subst (λ n. Maps map n 0) (sym same) none
  | inr other ↦ h k (omega (arith, from, other)) below
]

-- a character that has no glyph
pub all_skipped : (map : CharacterMap) (char : ℕ) (rest : List (ℕ × ℕ)) → Maps map char 0 → AreAll map (char + 1) rest →
    AreAll map char rest
all_skipped map char [] none h = lacks_one map char 0x110000 none h
all_skipped map char (next ∷ rest) none h = (
  record {
    behind = omega (arith, h.0.behind);
    within = h.0.within;
    maps = h.0.maps;
    mapped = h.0.mapped;
    before = lacks_one map char next.0 none h.0.before;
  },
  h.1,
)

-- a character that has one
pub next_here : (map : CharacterMap) (char glyph : ℕ) → char < 0x110000 → 0 < glyph → Maps map char glyph → IsNext map char char glyph
next_here map char glyph within mapped maps =
    record {
      behind = omega arith;
      within = within;
      maps = maps;
      mapped = mapped;
      before = λ k from below. absurd (omega (arith, from, below));
    }

pub all_pushed : (map : CharacterMap) (from char glyph : ℕ) (all rest : List (ℕ × ℕ)) →
    ((rest : List (ℕ × ℕ)) → AreAll map from rest → AreAll map 0 (all ++ rest)) → IsNext map from char glyph → AreAll map (char + 1) rest
    → AreAll map 0 ((all ++ (char, glyph) ∷ []) ++ rest)
all_pushed map from char glyph all rest before next behind =
    subst (λ (xs : List (ℕ × ℕ)). AreAll map 0 xs) (sym (append_assoc all ((char, glyph) ∷ []) rest))
    (before ((char, glyph) ∷ rest) (next, behind))

-- where no character is left that has one
pub all_there : (map : CharacterMap) (from : ℕ) (all : List (ℕ × ℕ)) →
    ((rest : List (ℕ × ℕ)) → AreAll map from rest → AreAll map 0 (all ++ rest)) → LacksAll map from 0x110000 → AreAll map 0 all
all_there map from all before none = subst (λ (xs : List (ℕ × ℕ)). AreAll map 0 xs) (append-nil all) (before [] none)
