-- A font is made of no more glyphs than another one has, and begins with `.notdef`.
use Rattle.std.proofs.Common.{◌≡◌, refl, sym, ap, subst, ◌∙◌, ℕ, zero, suc, ◌+◌, ◌≤◌, ◌<◌, ◌==◌, ◌||◌, List, [], ◌∷◌, length, get_or, map, Some, None, Bool, true, false, cond, if◌then◌else◌, arith}
use Rattle.std.specs.List.{filter, range_with_len}
use Rattle.std.specs.Option.{is_some}
use Rattle.std.proofs.lemmas.List.{get_or-map, length-map}
use Rattle.std.proofs.lemmas.List.FromFn.{get_or-map-range_with_len, length-map-range_with_len, length-range_with_len}
use Rattle.std.proofs.lemmas.List.Sums.{count_by-le-length, length-filter}
use Rattle.postscript_write.specs.Identified.{AreRenewed, AreSources, KeepNumbers}
use Rattle.postscript_write.specs.Sources.{choice_by, chosen, every, is_kept, keeping, kept_of, kept_or_none}

pub every_long : (glyphs : ℕ) → length (every glyphs) ≡ glyphs
every_long glyphs = length-map-range_with_len Some 0 glyphs

pub chosen_long : (named : List ℕ) (glyphs : ℕ) → length (chosen named glyphs) ≤ glyphs
chosen_long named glyphs =
    omega (
      arith,
      length-map (kept_of named glyphs) Some,
      length-filter (is_kept named) (range_with_len 0 glyphs),
      count_by-le-length (is_kept named) (range_with_len 0 glyphs),
      length-range_with_len 0 glyphs,
    )

pub keeping_long : (named : List ℕ) (glyphs : ℕ) → length (keeping named glyphs) ≡ glyphs
keeping_long named glyphs = length-map-range_with_len (kept_or_none named) 0 glyphs

-- where every glyph is written, each one keeps its number
pub every_kept : (glyphs : ℕ) → KeepNumbers (every glyphs) glyphs
every_kept glyphs = record {
  many = every_long glyphs;
  first = λ some. get_or-map-range_with_len Some 0 glyphs 0 0 None (omega (arith, some, every_long glyphs)) (omega arith);
  each = λ i glyph less is.
      let own : get_or (every glyphs) i None ≡ Some i = get_or-map-range_with_len Some 0 glyphs i i None
      (omega (arith, less, every_long glyphs)) (omega arith) in
      let both : Some i ≡ Some glyph = sym own ∙ is in
      cc;
}

-- `.notdef` is kept
first_kept : (named : List ℕ) → is_kept named 0 ≡ true
first_kept [] = refl
first_kept (one ∷ named) = ap (λ b. (one == 0) || b) (first_kept named) ∙ or_true (one == 0)
  where
    or_true : (b : Bool) → (b || true) ≡ true
    or_true true = refl
    or_true false = refl

own_number : (named : List ℕ) (i glyph : ℕ) → kept_or_none named i ≡ Some glyph → glyph ≡ i
own_number named i glyph is = by (is_kept named i) is
  where
    by : (b : Bool) → (if b then Some i else None) ≡ Some glyph → glyph ≡ i
    by true is = cc
    by false is = absurd (cc)

pub keeping_kept : (named : List ℕ) (glyphs : ℕ) → KeepNumbers (keeping named glyphs) glyphs
keeping_kept named glyphs = record {
  many = keeping_long named glyphs;
  first = λ some.
      get_or-map-range_with_len (kept_or_none named) 0 glyphs 0 0 None (omega (arith, some, keeping_long named glyphs)) (omega arith)
      ∙ ap (λ b. if b then Some 0 else None) (first_kept named);
  each = λ i glyph less is.
      own_number named i glyph
      (sym (get_or-map-range_with_len (kept_or_none named) 0 glyphs i i None (omega (arith, less, keeping_long named glyphs))
      (omega arith)) ∙ is);
}

-- glyphs that are chosen get new numbers, `.notdef` the first
pub chosen_renewed : (named : List ℕ) (glyphs : ℕ) → 0 < glyphs → AreRenewed (chosen named glyphs)
chosen_renewed named zero some = absurd (omega (arith, some))
chosen_renewed named (suc glyphs) some = subst AreRenewed (sym is) (record {
  some = omega arith;
  first = λ any. refl;
  each = λ i less. ap is_some (get_or-map Some (0 ∷ rest) i 0 None (omega (arith, less, length-map (0 ∷ rest) Some)));
})
  where
    rest : List ℕ
    rest = filter (is_kept named) (range_with_len (0 + 1) glyphs)

    is : chosen named (suc glyphs) ≡ map Some (0 ∷ rest)
    is = ap (λ b. map Some (cond b (0 ∷ rest) rest)) (first_kept named)

-- either way
pub long_by : (retain_gids : Bool) (named : List ℕ) (glyphs : ℕ) → length (choice_by retain_gids named glyphs) ≤ glyphs
long_by true named glyphs = omega (arith, keeping_long named glyphs)
long_by false named glyphs = chosen_long named glyphs

pub sources_by : (retain_gids : Bool) (named : List ℕ) (glyphs : ℕ) → 0 < glyphs →
    AreSources retain_gids glyphs (choice_by retain_gids named glyphs)
sources_by true named glyphs some = keeping_kept named glyphs
sources_by false named glyphs some = chosen_renewed named glyphs some
