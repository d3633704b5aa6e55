-- Glyphs that are marked.
use Rattle.std.proofs.Common.{◌≡◌, ◌≢◌, refl, sym, ap, ◌∙◌, inl, inr, ℕ, ◌+◌, List, [], ◌∷◌, ◌++◌, get_or, arith, Bool, true, false, slice_set}
use Rattle.std.specs.Prelude.{◌==◌, ◌||◌, ◌⊎◌, Option, Some, None, map, if◌then◌else◌}
use Rattle.std.specs.List.{filter, range_with_len}
use Rattle.std.proofs.lemmas.Bool.{eqb-true, eq-eqb}
use Rattle.std.proofs.lemmas.List.{get_or-set_other, map-append, map-id}
use Rattle.std.proofs.lemmas.List.FromFn.{filter_of_map_range_with_len_more, map-range_with_len_more}
use Rattle.postscript_write.specs.Sources.{every, is_kept, chosen, kept_of, kept_or_none, keeping}

or_true : (a : Bool) → (a || true) ≡ true
or_true true = refl
or_true false = refl

pub apart : (a b : ℕ) → (a == b) ≡ false → b ≢ a
apart a b e same = let h : true ≡ false = sym (eq-eqb a b (sym same)) ∙ e in absurd (cc)

-- those of one glyph more
pub kept_more : (named : List ℕ) (g : ℕ) → kept_of named (g + 1) ≡ kept_of named g ++ (if is_kept named g then g ∷ [] else [])
kept_more named g =
    ap (filter (is_kept named)) (sym (map-id (range_with_len 0 (g + 1))))
    ∙ filter_of_map_range_with_len_more (is_kept named) (λ x. x) 0 g g (omega arith)
    ∙ ap (λ xs. filter (is_kept named) xs ++ (if is_kept named g then g ∷ [] else [])) (map-id (range_with_len 0 g))

pub kept_pushed : (named kept more : List ℕ) (g : ℕ) (keeps : Bool) → kept ≡ kept_of named g → keeps ≡ is_kept named g →
    more ≡ kept ++ (if keeps then g ∷ [] else []) → more ≡ kept_of named (g + 1)
kept_pushed named kept more g keeps so_far is e =
    e ∙ ap (λ s. s ++ (if keeps then g ∷ [] else [])) so_far ∙ ap (λ b. kept_of named g ++ (if b then g ∷ [] else [])) is
    ∙ sym (kept_more named g)

some-of : (b : Bool) (g : ℕ) → map Some (if b then g ∷ [] else []) ≡ (if b then Some g ∷ [] else [])
some-of true g = refl
some-of false g = refl

pub chosen_more : (named : List ℕ) (g : ℕ) → chosen named (g + 1) ≡ chosen named g ++ (if is_kept named g then Some g ∷ [] else [])
chosen_more named g =
    ap (map Some) (kept_more named g) ∙ map-append Some (kept_of named g) (if is_kept named g then g ∷ [] else [])
    ∙ ap (λ xs. chosen named g ++ xs) (some-of (is_kept named g) g)

pub keeping_more : (named : List ℕ) (sources more : List (Option ℕ)) (g : ℕ) (kept : Bool) → sources ≡ keeping named g →
    kept ≡ is_kept named g → more ≡ sources ++ (if kept then Some g else None) ∷ [] → more ≡ keeping named (g + 1)
keeping_more named sources more g kept so_far is e =
    e ∙ ap (λ s. s ++ (if kept then Some g else None) ∷ []) so_far ∙ ap (λ b. keeping named g ++ (if b then Some g else None) ∷ []) is
    ∙ sym (map-range_with_len_more (kept_or_none named) 0 g g (omega arith))

pub every_more : (sources more : List (Option ℕ)) (g : ℕ) → sources ≡ every g → more ≡ sources ++ Some g ∷ [] → more ≡ every (g + 1)
every_more sources more g so_far e = e ∙ ap (λ s. s ++ Some g ∷ []) so_far ∙ sym (map-range_with_len_more Some 0 g g (omega arith))

-- where one mark more is set, a mark that is set was set, or is that one
pub set_more : (marks : List Bool) (i number : ℕ) (b : Bool) → (i == number) ≡ b → get_or (slice_set marks i true) number false ≡ true →
    (i ≡ number) ⊎ (get_or marks number false ≡ true)
set_more marks i number true e set = inl (eqb-true i number e)
set_more marks i number false e set = inr (sym (get_or-set_other marks i number true false (apart i number e)) ∙ set)
