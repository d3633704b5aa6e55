-- The substitutions of a glyph, by the type and the format of the subtable.
use Rattle.std.proofs.Common.{◌≡◌, refl, sym, subst, inl, inr, ℕ, ◌+◌, ◌-◌, ◌*◌, ◌%◌, ◌<◌, ◌≤◌, List, [], ◌∷◌, length, ◌∙◌, arith}
use Rattle.std.specs.Prelude.{◌⊎◌, slice_index}
use Rattle.std.specs.List.{All}
use Rattle.std.proofs.lemmas.Grind.{get_or_default_zero}
use Rattle.std.proofs.lemmas.List.Elements.{All-head, Contains-get_or}
use Rattle.postscript_layout.specs.Closure.{Rules}
use Rattle.postscript_layout.specs.Numbers.{word, words}
use Rattle.postscript_layout.specs.Steps.{Below, Follows, IsHeld, Makes, in_range, joins}
use Rattle.postscript_layout.specs.Substitutions.{ByIndex, ByLookup, BySubtable, Substitutes, Covers, by_list, by_range, SubstitutesGlyph, by_delta, by_glyph, by_several, by_ligature, in_reverse, coverage_of, part_of, reverse_offset}
use Rattle.postscript_layout.specs.declared.glyph_set.GlyphSet.{GlyphSet}
use Rattle.postscript_layout.proofs.Following.{follows-as, follows-none, follows-unmade}

-- each substitution replaces the glyph itself
goes : (gsub : List ℕ) (type subtable i glyph : ℕ) (a : GlyphSet) (ins outs : List ℕ) → SubstitutesGlyph gsub type subtable i glyph ins outs →
    All (IsHeld a) ins → IsHeld a glyph
goes gsub type subtable i glyph a _ _ (by_delta _ _) h = All-head (IsHeld a) glyph [] h
goes gsub type subtable i glyph a _ _ (by_glyph _ _ _) h = All-head (IsHeld a) glyph [] h
goes gsub type subtable i glyph a _ _ (by_several _ _ _) h = All-head (IsHeld a) glyph [] h
goes gsub type subtable i glyph a _ _ (by_ligature _ _ _ _ _) h = All-head (IsHeld a) glyph _ h
goes gsub type subtable i glyph a _ _ (in_reverse _ _ _) h = All-head (IsHeld a) glyph [] h

pub follows-unheld : (gsub : List ℕ) (type subtable i glyph : ℕ) (a : GlyphSet) → (IsHeld a glyph → ⊥) →
    Follows (SubstitutesGlyph gsub type subtable i glyph) a a
follows-unheld gsub type subtable i glyph a none =
    follows-unmade (SubstitutesGlyph gsub type subtable i glyph) a
    (λ ins outs is h. none (goes gsub type subtable i glyph a ins outs is h))

-- type 1, format 1
pub follows-delta : (gsub : List ℕ) (subtable i glyph : ℕ) (a b : GlyphSet) → word gsub subtable ≡ 1 →
    Follows (Makes (glyph ∷ []) ((glyph + word gsub (subtable + 4)) % 65536 ∷ [])) a b →
    Follows (SubstitutesGlyph gsub 1 subtable i glyph) a b
follows-delta gsub subtable i glyph a b form x =
    follows-as (Makes (glyph ∷ []) ((glyph + word gsub (subtable + 4)) % 65536 ∷ [])) (SubstitutesGlyph gsub 1 subtable i glyph) a b x to from
  where
    to : (ins outs : List ℕ) → SubstitutesGlyph gsub 1 subtable i glyph ins outs →
        Makes (glyph ∷ []) ((glyph + word gsub (subtable + 4)) % 65536 ∷ []) ins outs
    to _ _ (by_delta _ _) = (refl, refl)
    to _ _ (by_glyph _ two _) = absurd (omega (arith, form, two))
    to _ _ (by_several kind _ _) = elim kind [ inl e ↦ absurd (omega (arith, e)) | inr e ↦ absurd (omega (arith, e)) ]
    to _ _ (by_ligature _ kind _ _ _) = absurd (omega (arith, kind))
    to _ _ (in_reverse kind _ _) = absurd (omega (arith, kind))

    from : (ins outs : List ℕ) → Makes (glyph ∷ []) ((glyph + word gsub (subtable + 4)) % 65536 ∷ []) ins outs →
        SubstitutesGlyph gsub 1 subtable i glyph ins outs
    from ins outs is = subst (λ (xs : List ℕ). SubstitutesGlyph gsub 1 subtable i glyph xs outs) (sym is.0)
        (subst (λ (ys : List ℕ). SubstitutesGlyph gsub 1 subtable i glyph (glyph ∷ []) ys) (sym is.1) (by_delta refl form))

-- type 1, format 2
pub follows-glyph : (gsub : List ℕ) (subtable i glyph : ℕ) (a b : GlyphSet) → word gsub subtable ≡ 2 → i < word gsub (subtable + 4) →
    Follows (Makes (glyph ∷ []) (word gsub (subtable + 6 + i * 2) ∷ [])) a b →
    Follows (SubstitutesGlyph gsub 1 subtable i glyph) a b
follows-glyph gsub subtable i glyph a b form less x =
    follows-as (Makes (glyph ∷ []) (word gsub (subtable + 6 + i * 2) ∷ [])) (SubstitutesGlyph gsub 1 subtable i glyph) a b x to from
  where
    to : (ins outs : List ℕ) → SubstitutesGlyph gsub 1 subtable i glyph ins outs →
        Makes (glyph ∷ []) (word gsub (subtable + 6 + i * 2) ∷ []) ins outs
    to _ _ (by_delta _ one) = absurd (omega (arith, form, one))
    to _ _ (by_glyph _ _ _) = (refl, refl)
    to _ _ (by_several kind _ _) = elim kind [ inl e ↦ absurd (omega (arith, e)) | inr e ↦ absurd (omega (arith, e)) ]
    to _ _ (by_ligature _ kind _ _ _) = absurd (omega (arith, kind))
    to _ _ (in_reverse kind _ _) = absurd (omega (arith, kind))

    from : (ins outs : List ℕ) → Makes (glyph ∷ []) (word gsub (subtable + 6 + i * 2) ∷ []) ins outs →
        SubstitutesGlyph gsub 1 subtable i glyph ins outs
    from ins outs is = subst (λ (xs : List ℕ). SubstitutesGlyph gsub 1 subtable i glyph xs outs) (sym is.0)
        (subst (λ (ys : List ℕ). SubstitutesGlyph gsub 1 subtable i glyph (glyph ∷ []) ys) (sym is.1) (by_glyph refl form less))

-- type 1, format 2, past the end of the list
pub single-short : (gsub : List ℕ) (subtable i glyph : ℕ) (a : GlyphSet) → word gsub subtable ≡ 2 → word gsub (subtable + 4) ≤ i →
    Follows (SubstitutesGlyph gsub 1 subtable i glyph) a a
single-short gsub subtable i glyph a form past = follows-none (SubstitutesGlyph gsub 1 subtable i glyph) a none
  where
    none : (ins outs : List ℕ) → SubstitutesGlyph gsub 1 subtable i glyph ins outs → ⊥
    none _ _ (by_delta _ one) = omega (arith, form, one)
    none _ _ (by_glyph _ _ less) = omega (arith, past, less)
    none _ _ (by_several kind _ _) = elim kind [ inl e ↦ omega (arith, e) | inr e ↦ omega (arith, e) ]
    none _ _ (by_ligature _ kind _ _ _) = omega (arith, kind)
    none _ _ (in_reverse kind _ _) = omega (arith, kind)

-- type 1, another format
pub single-strange : (gsub : List ℕ) (subtable i glyph : ℕ) (a : GlyphSet) → (word gsub subtable ≡ 1 → ⊥) → (word gsub subtable ≡ 2 → ⊥) →
    Follows (SubstitutesGlyph gsub 1 subtable i glyph) a a
single-strange gsub subtable i glyph a no_one no_two = follows-none (SubstitutesGlyph gsub 1 subtable i glyph) a none
  where
    none : (ins outs : List ℕ) → SubstitutesGlyph gsub 1 subtable i glyph ins outs → ⊥
    none _ _ (by_delta _ one) = no_one one
    none _ _ (by_glyph _ two _) = no_two two
    none _ _ (by_several kind _ _) = elim kind [ inl e ↦ omega (arith, e) | inr e ↦ omega (arith, e) ]
    none _ _ (by_ligature _ kind _ _ _) = omega (arith, kind)
    none _ _ (in_reverse kind _ _) = omega (arith, kind)

-- types 2, 3 and 4 with another format, or past the last offset
pub other-none : (gsub : List ℕ) (type subtable i glyph : ℕ) (a : GlyphSet) → (type ≡ 2) ⊎ ((type ≡ 3) ⊎ (type ≡ 4)) →
    (word gsub subtable ≡ 1 → i < word gsub (subtable + 4) → ⊥) → Follows (SubstitutesGlyph gsub type subtable i glyph) a a
other-none gsub type subtable i glyph a kinds never = follows-none (SubstitutesGlyph gsub type subtable i glyph) a none
  where
    not_one : type ≡ 1 → ⊥
    not_one one = elim kinds [ inl e ↦ omega (arith, e, one) | inr more ↦ elim more [ inl e ↦ omega (arith, e, one) | inr e ↦ omega (arith, e, one) ] ]

    not_eight : type ≡ 8 → ⊥
    not_eight one = elim kinds [ inl e ↦ omega (arith, e, one) | inr more ↦ elim more [ inl e ↦ omega (arith, e, one) | inr e ↦ omega (arith, e, one) ] ]

    none : (ins outs : List ℕ) → SubstitutesGlyph gsub type subtable i glyph ins outs → ⊥
    none _ _ (by_delta one _) = not_one one
    none _ _ (by_glyph one _ _) = not_one one
    none _ _ (by_several _ form less) = never form less
    none _ _ (by_ligature _ _ form less _) = never form less
    none _ _ (in_reverse eight _ _) = not_eight eight

-- types 2 and 3
pub follows-several : (gsub : List ℕ) (type subtable i glyph : ℕ) (a b : GlyphSet) → (type ≡ 2) ⊎ (type ≡ 3) → word gsub subtable ≡ 1 →
    i < word gsub (subtable + 4) →
    Follows (Makes (glyph ∷ []) (words gsub (part_of gsub subtable (subtable + 6) i + 2) (word gsub (part_of gsub subtable (subtable + 6) i)))) a b →
    Follows (SubstitutesGlyph gsub type subtable i glyph) a b
follows-several gsub type subtable i glyph a b kinds form less x =
    follows-as (Makes (glyph ∷ []) several) (SubstitutesGlyph gsub type subtable i glyph) a b x to from
  where
    several : List ℕ
    several = words gsub (part_of gsub subtable (subtable + 6) i + 2) (word gsub (part_of gsub subtable (subtable + 6) i))

    to : (ins outs : List ℕ) → SubstitutesGlyph gsub type subtable i glyph ins outs → Makes (glyph ∷ []) several ins outs
    to _ _ (by_delta e _) = elim kinds [ inl two ↦ absurd (omega (arith, e, two)) | inr three ↦ absurd (omega (arith, e, three)) ]
    to _ _ (by_glyph e _ _) = elim kinds [ inl two ↦ absurd (omega (arith, e, two)) | inr three ↦ absurd (omega (arith, e, three)) ]
    to _ _ (by_several _ _ _) = (refl, refl)
    to _ _ (by_ligature _ e _ _ _) = elim kinds [ inl two ↦ absurd (omega (arith, e, two)) | inr three ↦ absurd (omega (arith, e, three)) ]
    to _ _ (in_reverse e _ _) = elim kinds [ inl two ↦ absurd (omega (arith, e, two)) | inr three ↦ absurd (omega (arith, e, three)) ]

    from : (ins outs : List ℕ) → Makes (glyph ∷ []) several ins outs → SubstitutesGlyph gsub type subtable i glyph ins outs
    from ins outs is = subst (λ (xs : List ℕ). SubstitutesGlyph gsub type subtable i glyph xs outs) (sym is.0)
        (subst (λ (ys : List ℕ). SubstitutesGlyph gsub type subtable i glyph (glyph ∷ []) ys) (sym is.1) (by_several kinds form less))

-- type 4
pub follows-ligatures : (gsub : List ℕ) (subtable i glyph : ℕ) (a b : GlyphSet) → word gsub subtable ≡ 1 → i < word gsub (subtable + 4) →
    Follows (Below (λ k. joins gsub glyph (part_of gsub (part_of gsub subtable (subtable + 6) i) (part_of gsub subtable (subtable + 6) i + 2) k))
    (word gsub (part_of gsub subtable (subtable + 6) i))) a b →
    Follows (SubstitutesGlyph gsub 4 subtable i glyph) a b
follows-ligatures gsub subtable i glyph a b form less x =
    follows-as (Below ligature (word gsub offset)) (SubstitutesGlyph gsub 4 subtable i glyph) a b x to from
  where
    offset : ℕ
    offset = part_of gsub subtable (subtable + 6) i

    ligature : ℕ → Rules
    ligature k = joins gsub glyph (part_of gsub offset (offset + 2) k)

    to : (ins outs : List ℕ) → SubstitutesGlyph gsub 4 subtable i glyph ins outs → Below ligature (word gsub offset) ins outs
    to _ _ (by_delta e _) = absurd (omega (arith, e))
    to _ _ (by_glyph e _ _) = absurd (omega (arith, e))
    to _ _ (by_several kind _ _) = elim kind [ inl e ↦ absurd (omega (arith, e)) | inr e ↦ absurd (omega (arith, e)) ]
    to _ _ (by_ligature k _ _ _ there) = (k, there, (refl, refl))
    to _ _ (in_reverse e _ _) = absurd (omega (arith, e))

    from : (ins outs : List ℕ) → Below ligature (word gsub offset) ins outs → SubstitutesGlyph gsub 4 subtable i glyph ins outs
    from ins outs is = subst (λ (xs : List ℕ). SubstitutesGlyph gsub 4 subtable i glyph xs outs) (sym is.2.0)
        (subst (λ (ys : List ℕ). SubstitutesGlyph gsub 4 subtable i glyph
        (glyph ∷ words gsub (part_of gsub offset (offset + 2) is.0 + 4) (word gsub (part_of gsub offset (offset + 2) is.0 + 2) - 1)) ys) (sym is.2.1)
        (by_ligature is.0 refl form less is.1))

-- type 8
pub follows-reverse : (gsub : List ℕ) (subtable i glyph : ℕ) (a b : GlyphSet) → word gsub subtable ≡ 1 →
    i < word gsub (reverse_offset gsub subtable) →
    Follows (Makes (glyph ∷ []) (word gsub (reverse_offset gsub subtable + 2 + i * 2) ∷ [])) a b →
    Follows (SubstitutesGlyph gsub 8 subtable i glyph) a b
follows-reverse gsub subtable i glyph a b form less x =
    follows-as (Makes (glyph ∷ []) (word gsub (reverse_offset gsub subtable + 2 + i * 2) ∷ [])) (SubstitutesGlyph gsub 8 subtable i glyph)
    a b x to from
  where
    to : (ins outs : List ℕ) → SubstitutesGlyph gsub 8 subtable i glyph ins outs →
        Makes (glyph ∷ []) (word gsub (reverse_offset gsub subtable + 2 + i * 2) ∷ []) ins outs
    to _ _ (by_delta e _) = absurd (omega (arith, e))
    to _ _ (by_glyph e _ _) = absurd (omega (arith, e))
    to _ _ (by_several kind _ _) = elim kind [ inl e ↦ absurd (omega (arith, e)) | inr e ↦ absurd (omega (arith, e)) ]
    to _ _ (by_ligature _ e _ _ _) = absurd (omega (arith, e))
    to _ _ (in_reverse _ _ _) = (refl, refl)

    from : (ins outs : List ℕ) → Makes (glyph ∷ []) (word gsub (reverse_offset gsub subtable + 2 + i * 2) ∷ []) ins outs →
        SubstitutesGlyph gsub 8 subtable i glyph ins outs
    from ins outs is = subst (λ (xs : List ℕ). SubstitutesGlyph gsub 8 subtable i glyph xs outs) (sym is.0)
        (subst (λ (ys : List ℕ). SubstitutesGlyph gsub 8 subtable i glyph (glyph ∷ []) ys) (sym is.1) (in_reverse refl form less))

pub reverse-none : (gsub : List ℕ) (subtable i glyph : ℕ) (a : GlyphSet) →
    (word gsub subtable ≡ 1 → i < word gsub (reverse_offset gsub subtable) → ⊥) → Follows (SubstitutesGlyph gsub 8 subtable i glyph) a a
reverse-none gsub subtable i glyph a never = follows-none (SubstitutesGlyph gsub 8 subtable i glyph) a none
  where
    none : (ins outs : List ℕ) → SubstitutesGlyph gsub 8 subtable i glyph ins outs → ⊥
    none _ _ (by_delta e _) = omega (arith, e)
    none _ _ (by_glyph e _ _) = omega (arith, e)
    none _ _ (by_several kind _ _) = elim kind [ inl e ↦ omega (arith, e) | inr e ↦ omega (arith, e) ]
    none _ _ (by_ligature _ e _ _ _) = omega (arith, e)
    none _ _ (in_reverse _ form less) = never form less

none-of : (gsub : List ℕ) (type subtable i glyph : ℕ) → (type ≡ 1 → ⊥) → (type ≡ 2 → ⊥) → (type ≡ 3 → ⊥) → (type ≡ 4 → ⊥) →
    (type ≡ 8 → ⊥) →
    (ins outs : List ℕ) → SubstitutesGlyph gsub type subtable i glyph ins outs → ⊥
none-of gsub type subtable i glyph one two three four eight _ _ (by_delta e _) = one e
none-of gsub type subtable i glyph one two three four eight _ _ (by_glyph e _ _) = one e
none-of gsub type subtable i glyph one two three four eight _ _ (by_several kind _ _) = elim kind [ inl e ↦ two e | inr e ↦ three e ]
none-of gsub type subtable i glyph one two three four eight _ _ (by_ligature _ e _ _ _) = four e
none-of gsub type subtable i glyph one two three four eight _ _ (in_reverse e _ _) = eight e

-- types without substitutions
pub none-by_type : (gsub : List ℕ) (type subtable i glyph : ℕ) (a : GlyphSet) → (type ≡ 1 → ⊥) → (type ≡ 2 → ⊥) → (type ≡ 3 → ⊥) →
    (type ≡ 4 → ⊥) → (type ≡ 8 → ⊥) → Follows (SubstitutesGlyph gsub type subtable i glyph) a a
none-by_type gsub type subtable i glyph a one two three four eight = follows-none (SubstitutesGlyph gsub type subtable i glyph) a
    (none-of gsub type subtable i glyph one two three four eight)

-- subtables, by their coverage tables
pub covered-none : (gsub : List ℕ) (type subtable : ℕ) (a : GlyphSet) → (type ≡ 1 → ⊥) → (type ≡ 2 → ⊥) → (type ≡ 3 → ⊥) →
    (type ≡ 4 → ⊥) → (type ≡ 8 → ⊥) → Follows (BySubtable gsub type subtable) a a
covered-none gsub type subtable a one two three four eight = follows-none (BySubtable gsub type subtable) a
    (λ ins outs is. none-of gsub type subtable is.0 is.1 one two three four eight ins outs is.3)

pub covered-strange : (gsub : List ℕ) (type subtable : ℕ) (a : GlyphSet) → (word gsub (coverage_of gsub subtable) ≡ 1 → ⊥) →
    (word gsub (coverage_of gsub subtable) ≡ 2 → ⊥) → Follows (BySubtable gsub type subtable) a a
covered-strange gsub type subtable a no_one no_two = follows-none (BySubtable gsub type subtable) a (λ ins outs is. none is.1 is.0 is.2)
  where
    none : (glyph i : ℕ) → Covers gsub (coverage_of gsub subtable) glyph i → ⊥
    none _ _ (by_list _ form _) = no_one form
    none _ _ (by_range _ _ form _ _ _) = no_two form

pub covered-list : (gsub : List ℕ) (type subtable : ℕ) (a b : GlyphSet) → word gsub (coverage_of gsub subtable) ≡ 1 →
    Follows (Below (λ i. SubstitutesGlyph gsub type subtable i (word gsub (coverage_of gsub subtable + 4 + i * 2)))
    (word gsub (coverage_of gsub subtable + 2))) a b →
    Follows (BySubtable gsub type subtable) a b
covered-list gsub type subtable a b form x =
    follows-as (Below each (word gsub (coverage + 2))) (BySubtable gsub type subtable) a b x
    (λ ins outs is. to is.1 is.0 is.2 ins outs is.3)
    (λ ins outs is. (is.0, word gsub (coverage + 4 + is.0 * 2), by_list is.0 form is.1, is.2))
  where
    coverage : ℕ
    coverage = coverage_of gsub subtable

    each : ℕ → Rules
    each i = SubstitutesGlyph gsub type subtable i (word gsub (coverage + 4 + i * 2))

    to : (glyph i : ℕ) → Covers gsub coverage glyph i → (ins outs : List ℕ) → SubstitutesGlyph gsub type subtable i glyph ins outs →
        Below each (word gsub (coverage + 2)) ins outs
    to _ _ (by_list i _ less) ins outs is = (i, less, is)
    to _ _ (by_range _ _ two _ _ _) ins outs is = absurd (omega (arith, form, two))

pub covered-ranges : (gsub : List ℕ) (type subtable : ℕ) (a b : GlyphSet) → word gsub (coverage_of gsub subtable) ≡ 2 →
    Follows (Below (λ r. in_range gsub type subtable (coverage_of gsub subtable + 4 + r * 6)) (word gsub (coverage_of gsub subtable + 2))) a b →
    Follows (BySubtable gsub type subtable) a b
covered-ranges gsub type subtable a b form x =
    follows-as (Below each (word gsub (coverage + 2))) (BySubtable gsub type subtable) a b x
    (λ ins outs is. to is.1 is.0 is.2 ins outs is.3)
    (λ ins outs is. from ins outs is.0 is.1 is.2)
  where
    coverage : ℕ
    coverage = coverage_of gsub subtable

    each : ℕ → Rules
    each r = in_range gsub type subtable (coverage + 4 + r * 6)

    to : (glyph i : ℕ) → Covers gsub coverage glyph i → (ins outs : List ℕ) → SubstitutesGlyph gsub type subtable i glyph ins outs →
        Below each (word gsub (coverage + 2)) ins outs
    to _ _ (by_list _ one _) ins outs is = absurd (omega (arith, form, one))
    to _ _ (by_range r glyph _ less low high) ins outs is =
        let there : word gsub (coverage + 4 + r * 6) + (glyph - word gsub (coverage + 4 + r * 6)) ≡ glyph = omega (arith, low) in (
          r,
          less,
          (
            glyph - word gsub (coverage + 4 + r * 6),
            omega (arith, low, high),
            subst
                (λ g. SubstitutesGlyph gsub type subtable (word gsub (coverage + 4 + r * 6 + 4) + (glyph - word gsub (coverage + 4 + r * 6))) g ins outs)
                (sym there) is,
          ),
        )

    from : (ins outs : List ℕ) (r : ℕ) → r < word gsub (coverage + 2) → each r ins outs → BySubtable gsub type subtable ins outs
    from ins outs r less is =
        let at = coverage + 4 + r * 6 in
        let below = is.1 in
        let n = is.0 in
        let there : (word gsub at + n) - word gsub at ≡ n = omega arith in (
          word gsub (at + 4) + n,
          word gsub at + n,
          subst (λ k. Covers gsub coverage (word gsub at + n) (word gsub (at + 4) + k)) there
              (by_range r (word gsub at + n) form less (omega arith) (omega (arith, below))),
          is.2,
        )

-- the rules of the chosen lookups, one lookup after the other
pub follows-chosen : (gsub lookups : List ℕ) (count : ℕ) (a b : GlyphSet) → count ≡ length lookups →
    Follows (Below (λ k. ByIndex gsub (slice_index lookups k)) count) a b → Follows (Substitutes gsub lookups) a b
follows-chosen gsub lookups count a b all f = follows-as (Below (λ k. ByIndex gsub (slice_index lookups k)) count) (Substitutes gsub lookups) a b f to from
  where
    to : (ins outs : List ℕ) → Substitutes gsub lookups ins outs → Below (λ k. ByIndex gsub (slice_index lookups k)) count ins outs
    to ins outs is =
        let k = is.1.0 in
        let less : k < length lookups = is.1.1 in
        let same : is.0 ≡ slice_index lookups k = sym is.1.2 ∙ get_or_default_zero lookups k is.0 less in
        (k, omega (arith, less, all), subst (λ (i : ℕ). ByIndex gsub i ins outs) same is.2)

    from : (ins outs : List ℕ) → Below (λ k. ByIndex gsub (slice_index lookups k)) count ins outs → Substitutes gsub lookups ins outs
    from ins outs is =
        let less = is.1 in
        (slice_index lookups is.0, Contains-get_or lookups is.0 0 (omega (arith, less, all)), is.2)

-- the rules of the lookup with an index in the lookup list
pub follows-index : (gsub : List ℕ) (i : ℕ) (a b : GlyphSet) → i < word gsub (word gsub 8) →
    Follows (ByLookup gsub (part_of gsub (word gsub 8) (word gsub 8 + 2) i)) a b → Follows (ByIndex gsub i) a b
follows-index gsub i a b less f =
    follows-as (ByLookup gsub (part_of gsub (word gsub 8) (word gsub 8 + 2) i)) (ByIndex gsub i) a b f (λ ins outs is. is.1) (λ ins outs is. (less, is))
