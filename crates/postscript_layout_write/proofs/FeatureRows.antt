-- A small table and the one with two of its four features, computed by hand.
use Rattle.std.proofs.Common.{◌≡◌, refl, ℕ, ◌+◌, ◌*◌, ◌<◌, List, [], ◌∷◌, zero, suc, arith}
use Rattle.postscript_base.specs.Index.{number_at}
use Rattle.postscript_layout.specs.Numbers.{long}
use Rattle.postscript_layout_write.specs.Features.{KeepsFeature, KeepsLanguage, KeepsScript, chosen_features, has_default, has_parameters, no_parameters}
use Rattle.postscript_layout_write.specs.ScriptLists.{named}

-- The script latn has a default language system, whose required feature is smcp, with liga and kern, and the language TRK, which requires ss01 and
-- has no other features. The features are kern with lookup 1, liga with lookups 0 and 1, smcp with none, and ss01 with lookup 0 and the name 257.
abbrev old : List ℕ
old =
    -- header
    0 ∷ 1 ∷ 0 ∷ 0 ∷ 0 ∷ 10 ∷ 0 ∷ 44 ∷ 0 ∷ 100 ∷
    -- the script list, the script at 18, and its language systems at 28 and 38
    0 ∷ 1 ∷ 108 ∷ 97 ∷ 116 ∷ 110 ∷ 0 ∷ 8 ∷
    0 ∷ 10 ∷ 0 ∷ 1 ∷ 84 ∷ 82 ∷ 75 ∷ 32 ∷ 0 ∷ 20 ∷
    0 ∷ 0 ∷ 0 ∷ 2 ∷ 0 ∷ 2 ∷ 0 ∷ 1 ∷ 0 ∷ 0 ∷
    0 ∷ 0 ∷ 0 ∷ 3 ∷ 0 ∷ 0 ∷
    -- the feature list, and the features at 70, 76, 84 and 88, with parameters at 94
    0 ∷ 4 ∷ 107 ∷ 101 ∷ 114 ∷ 110 ∷ 0 ∷ 26 ∷ 108 ∷ 105 ∷ 103 ∷ 97 ∷ 0 ∷ 32 ∷ 115 ∷ 109 ∷ 99 ∷ 112 ∷ 0 ∷ 40 ∷ 115 ∷ 115 ∷ 48 ∷ 49 ∷ 0 ∷ 44 ∷
    0 ∷ 0 ∷ 0 ∷ 1 ∷ 0 ∷ 1 ∷
    0 ∷ 0 ∷ 0 ∷ 2 ∷ 0 ∷ 0 ∷ 0 ∷ 1 ∷
    0 ∷ 0 ∷ 0 ∷ 0 ∷
    0 ∷ 6 ∷ 0 ∷ 1 ∷ 0 ∷ 0 ∷ 0 ∷ 0 ∷ 1 ∷ 1 ∷
    -- two unused bytes, and the lookup list
    0 ∷ 0 ∷ 0 ∷ 0 ∷ []

-- the same with liga and ss01
abbrev new : List ℕ
new =
    0 ∷ 1 ∷ 0 ∷ 0 ∷ 0 ∷ 10 ∷ 0 ∷ 42 ∷ 0 ∷ 74 ∷
    0 ∷ 1 ∷ 108 ∷ 97 ∷ 116 ∷ 110 ∷ 0 ∷ 8 ∷
    0 ∷ 10 ∷ 0 ∷ 1 ∷ 84 ∷ 82 ∷ 75 ∷ 32 ∷ 0 ∷ 18 ∷
    0 ∷ 0 ∷ 255 ∷ 255 ∷ 0 ∷ 1 ∷ 0 ∷ 0 ∷
    0 ∷ 0 ∷ 0 ∷ 1 ∷ 0 ∷ 0 ∷
    0 ∷ 2 ∷ 108 ∷ 105 ∷ 103 ∷ 97 ∷ 0 ∷ 14 ∷ 115 ∷ 115 ∷ 48 ∷ 49 ∷ 0 ∷ 22 ∷
    0 ∷ 0 ∷ 0 ∷ 2 ∷ 0 ∷ 0 ∷ 0 ∷ 1 ∷
    0 ∷ 6 ∷ 0 ∷ 1 ∷ 0 ∷ 0 ∷ 0 ∷ 0 ∷ 1 ∷ 1 ∷
    0 ∷ 0 ∷ []

two_are_chosen : chosen_features old (0x6c696761 ∷ 0x73733031 ∷ []) ≡ 1 ∷ 3 ∷ []
unfolding number_at
two_are_chosen = refl

default_is_kept : KeepsLanguage (1 ∷ 3 ∷ []) old 28 new 28
unfolding number_at
default_is_kept = record { order = refl; required = refl; features = refl }

language_is_kept : KeepsLanguage (1 ∷ 3 ∷ []) old 38 new 36
unfolding number_at
language_is_kept = record { order = refl; required = refl; features = refl }

script_is_kept : KeepsScript (1 ∷ 3 ∷ []) old 18 new 18
unfolding number_at
script_is_kept = record {
  default = has_default (λ none. omega (arith, none)) (λ none. omega (arith, none)) default_is_kept;
  count = refl;
  tags = tags;
  languages = languages;
}
  where
    tags : (j : ℕ) → j < 1 → long new (18 + 4 + j * 6) ≡ long old (18 + 4 + j * 6)
    tags zero less = refl
    tags (suc j) less = absurd (omega (arith, less))

    languages : (j : ℕ) → j < 1 → KeepsLanguage (1 ∷ 3 ∷ []) old (named old 18 (18 + 4) j) new (named new 18 (18 + 4) j)
    languages zero less = language_is_kept
    languages (suc j) less = absurd (omega (arith, less))

first_is_kept : KeepsFeature old 0x6c696761 76 new 56
unfolding number_at
first_is_kept = record { lookups = refl; parameters = no_parameters refl refl }

second_is_kept : KeepsFeature old 0x73733031 88 new 64
unfolding number_at
second_is_kept = record {
  lookups = refl;
  parameters = has_parameters (λ none. omega (arith, none)) (λ none. omega (arith, none)) refl;
}
