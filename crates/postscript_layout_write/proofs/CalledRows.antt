-- Calls of a small table, computed by hand.
use Rattle.std.proofs.Common.{◌≡◌, refl, sym, subst, inl, inr, ℕ, zero, suc, List, [], ◌∷◌, arith}
use Rattle.std.specs.Prelude.{◌⊎◌}
use Rattle.std.specs.List.{Contains}
use Rattle.std.proofs.lemmas.List.Elements.{All-cons, All-nil}
use Rattle.postscript_base.specs.Index.{number_at}
use Rattle.postscript_layout.specs.Substitutions.{ByIndex, Substitutes, SubstitutesGlyph, by_delta, by_glyph, by_ligature, by_list, by_several, in_reverse}
use Rattle.postscript_layout.specs.Texts.{IsStep}
use Rattle.postscript_layout_write.specs.Calls.{Calls, CallsAt}
use Rattle.postscript_layout_write.specs.Pairs.{lookup_at}
use Rattle.postscript_layout_write.specs.Reached.{AreWhole}
use Rattle.postscript_layout_write.specs.Texts.{MayBecome, called, substituted, unchanged}

-- Lookup 0 has one context (type 5, format 3), glyph 1 and then glyph 2, which calls lookup 1 at the first position. Lookup 1 makes glyph 6 of glyph 1.
abbrev table : List ℕ
table =
    0 ∷ 1 ∷ 0 ∷ 0 ∷ 0 ∷ 0 ∷ 0 ∷ 0 ∷ 0 ∷ 10 ∷ 0 ∷ 2 ∷ 0 ∷ 6 ∷ 0 ∷ 40 ∷ 0 ∷ 5 ∷ 0 ∷ 0 ∷ 0 ∷ 1 ∷ 0 ∷ 8 ∷
    0 ∷ 3 ∷ 0 ∷ 2 ∷ 0 ∷ 1 ∷ 0 ∷ 14 ∷ 0 ∷ 20 ∷ 0 ∷ 0 ∷ 0 ∷ 1 ∷ 0 ∷ 1 ∷ 0 ∷ 1 ∷ 0 ∷ 1 ∷ 0 ∷ 1 ∷ 0 ∷ 1 ∷ 0 ∷ 2 ∷
    0 ∷ 1 ∷ 0 ∷ 0 ∷ 0 ∷ 1 ∷ 0 ∷ 8 ∷ 0 ∷ 1 ∷ 0 ∷ 6 ∷ 0 ∷ 5 ∷ 0 ∷ 1 ∷ 0 ∷ 1 ∷ 0 ∷ 1 ∷ []

-- with both glyphs the context calls lookup 1
both_call : Calls table (1 ∷ 2 ∷ []) 0 1
unfolding number_at
both_call = record { there = omega arith; contextual = refl; j = 0; calls = (omega arith, (refl, (0, (omega arith, refl)))) }

-- without a glyph for its second position it calls nothing
one_calls_none : (m : ℕ) → Calls table (1 ∷ []) 0 m → ⊥
unfolding number_at
one_calls_none m calls = by calls.j calls.calls
  where
    by : (j : ℕ) → CallsAt table (1 ∷ []) (lookup_at table 0) j m → ⊥
    by zero at = (let never = at.1.0 in absurd (cc))
    by (suc j) at = (let less = at.0 in omega (arith, less))

only : (x i : ℕ) → Contains (x ∷ []) i → i ≡ x
only x i (zero, within, is) = sym is
only x i (suc k, within, is) = absurd (omega (arith, within))

-- a context substitutes nothing itself
no_substitution : (type subtable i glyph : ℕ) (ins outs : List ℕ) → type ≡ 5 → SubstitutesGlyph table type subtable i glyph ins outs → ⊥
no_substitution type subtable i glyph _ _ five (by_delta is format) = omega (arith, five, is)
no_substitution type subtable i glyph _ _ five (by_glyph is format less) = omega (arith, five, is)
no_substitution type subtable i glyph _ _ five (by_several is format less) = elim is [
  | inl two ↦ omega (arith, five, two)
  | inr three ↦ omega (arith, five, three)
]
no_substitution type subtable i glyph _ _ five (by_ligature k is format less below) = omega (arith, five, is)
no_substitution type subtable i glyph _ _ five (in_reverse is format less) = omega (arith, five, is)

none_made : (ins outs : List ℕ) → Substitutes table (0 ∷ []) ins outs → ⊥
unfolding number_at
none_made ins outs is =
    let first = subst (λ i. ByIndex table i ins outs) (only 0 is.0 is.1) is.2 in
    no_substitution 5 _ _ _ ins outs refl first.1.2.3

-- so lookup 0 leads nowhere from glyph 1
whole_for_one : AreWhole table (0 ∷ []) (1 ∷ [])
whole_for_one = record {
  made = λ ins outs is there. absurd (none_made ins outs is);
  called = λ i m there calls. absurd (one_calls_none m (subst (λ n. Calls table (1 ∷ []) n m) (only 0 i there) calls));
}

-- from both glyphs it leads to lookup 1
not_whole_for_both : AreWhole table (0 ∷ []) (1 ∷ 2 ∷ []) → ⊥
not_whole_for_both whole = (let same = only 0 1 (whole.called 0 1 (0, omega arith, refl) both_call) in omega (arith, same))

six_for_one : IsStep table (1 ∷ 0 ∷ []) (1 ∷ 2 ∷ []) (6 ∷ 2 ∷ [])
unfolding number_at
six_for_one = record {
  ins = 1 ∷ [];
  outs = 6 ∷ [];
  is = (1, (0, omega arith, refl), (omega arith, (0, omega arith, (0, 1, by_list 0 refl (omega arith), by_delta refl refl))));
  there = All-cons (Contains (1 ∷ 2 ∷ [])) 1 [] (0, omega arith, refl) (All-nil (Contains (1 ∷ 2 ∷ [])));
  from = from;
}
  where
    from : (glyph : ℕ) → Contains (6 ∷ 2 ∷ []) glyph → Contains (1 ∷ 2 ∷ []) glyph ⊎ Contains (6 ∷ []) glyph
    from glyph (zero, within, is) = inr (0, omega arith, is)
    from glyph (suc zero, within, is) = inl (1, omega arith, is)
    from glyph (suc (suc k), within, is) = absurd (omega (arith, within))

-- text of both glyphs becomes glyphs 6 and 2, by the lookup that the context called
text_of_both : MayBecome table (0 ∷ []) (1 ∷ 2 ∷ []) (1 ∷ 0 ∷ []) (1 ∷ 2 ∷ 6 ∷ 2 ∷ []) (6 ∷ 2 ∷ [])
text_of_both = substituted (1 ∷ 0 ∷ []) (1 ∷ 2 ∷ []) (1 ∷ 2 ∷ []) (6 ∷ 2 ∷ [])
    (called (0 ∷ []) (1 ∷ 2 ∷ []) (1 ∷ 2 ∷ []) 0 1 unchanged (0, omega arith, refl) both_call) six_for_one
