-- Where the glyphs that are chosen stand, and what the first one of a name becomes.
use Rattle.std.proofs.Common.{◌≡◌, refl, sym, ap, subst, ◌∙◌, inl, inr, ℕ, zero, suc, ◌+◌, ◌<◌, ◌≤◌, List, [], ◌∷◌, ◌++◌, length, get_or, add-one, arith, Bool, true, false}
use Rattle.std.specs.Prelude.{◌⊎◌, ◌↔◌, Option, Some, None, nat_lt, if◌then◌else◌}
use Rattle.std.proofs.lemmas.Bool.{ltb-true, ltb-false}
use Rattle.std.proofs.lemmas.List.{append-nil, get_or_append_left, get_or_push, length-append}
use Rattle.std.proofs.lemmas.List.FromFn.{get_or-map-range_with_len, length-map-range_with_len}
use Rattle.postscript_view.specs.Naming.{IsFirstNamed, Names}
use Rattle.postscript_view.specs.declared.char_set.CharSetView.{CharSetView}
use Rattle.postscript_write.specs.Drawings.{IsSourceAt}
use Rattle.postscript_write.specs.Glyphs.{Sources}
use Rattle.postscript_write.specs.Sources.{chosen, every, is_kept, keeping, kept_or_none}
use Rattle.postscript_write.proofs.Marks.{chosen_more}

pub nat_cases : (a b : ℕ) → (a < b) ⊎ (b ≤ a)
nat_cases a b = by (nat_lt a b) refl
  where
    by : (t : Bool) → nat_lt a b ≡ t → (a < b) ⊎ (b ≤ a)
    by true e = inl (ltb-true a b e)
    by false e = inr (ltb-false a b e)

-- Glyphs below so many, in ascending order, each of them one that is kept, and all that are kept.
pub record Rises (named : List ℕ) (sources : Sources) (glyphs : ℕ) : Type 0 where
  pub some : (i : ℕ) → i < length sources → (glyph : ℕ) × IsSourceAt sources i glyph
  pub below : (i glyph : ℕ) → IsSourceAt sources i glyph → glyph < glyphs
  pub rise : (i j a b : ℕ) → i < j → IsSourceAt sources i a → IsSourceAt sources j b → a < b
  pub all : (glyph : ℕ) → is_kept named glyph ≡ true → glyph < glyphs → (i : ℕ) × IsSourceAt sources i glyph
  pub own : (i glyph : ℕ) → IsSourceAt sources i glyph → is_kept named glyph ≡ true

stands-left : (s more : Sources) (i glyph : ℕ) → IsSourceAt s i glyph → IsSourceAt (s ++ more) i glyph
stands-left s more i glyph h =
    record { there = let less = h.there in omega (arith, less, length-append s more); is = get_or_append_left s more None i h.there ∙ h.is }

-- what stands in a list with one more: in the list, or at its end
stands-cases : (s : Sources) (one i glyph : ℕ) → IsSourceAt (s ++ Some one ∷ []) i glyph →
    IsSourceAt s i glyph ⊎ ((i ≡ length s) × (one ≡ glyph))
stands-cases s one i glyph h = by
  where
    last : i ≡ length s → one ≡ glyph
    last e = let both : Some one ≡ Some glyph = sym (get_or_push s (Some one) None i (sym e)) ∙ h.is in cc

    before : i < length s → IsSourceAt s i glyph
    before less = record { there = less; is = sym (get_or_append_left s (Some one ∷ []) None i less) ∙ h.is }

    by : IsSourceAt s i glyph ⊎ ((i ≡ length s) × (one ≡ glyph))
    by = elim (nat_cases i (length s)) [
      | inl less ↦ inl (before less)
      | inr far ↦ (let there = h.there in let e : i ≡ length s = omega (arith, there, far, length-append s (Some one ∷ [])) in
          inr (e, last e))
    ]

kept-one : (named : List ℕ) (s : Sources) (n : ℕ) → is_kept named n ≡ true → Rises named s n → Rises named (s ++ Some n ∷ []) (n + 1)
kept-one named s n e r = record {
  some = λ i less. elim (nat_cases i (length s)) [
    | inl before ↦ let one = r.some i before in (one.0, stands-left s (Some n ∷ []) i one.0 one.1)
    | inr far ↦ (n, here i (omega (arith, less, far, length-append s (Some n ∷ []))))
  ];
  below = λ i glyph h. elim (stands-cases s n i glyph h) [
    | inl old ↦ let less = r.below i glyph old in omega (arith, less)
    | inr new ↦ (let same = new.1 in omega (arith, same))
  ];
  rise = λ i j a b less x y. elim (stands-cases s n i a x) [
    | inl old ↦ elim (stands-cases s n j b y) [
      | inl also ↦ r.rise i j a b less old also
      | inr new ↦ (let below = r.below i a old in let same = new.1 in omega (arith, below, same))
    ]
    | inr last ↦ (let past = last.0 in let there = y.there in absurd (omega (arith, less, past, there, length-append s (Some n ∷ []))))
  ];
  all = λ glyph kept below. elim (nat_cases glyph n) [
    | inl less ↦ let at = r.all glyph kept less in (at.0, stands-left s (Some n ∷ []) at.0 glyph at.1)
    | inr far ↦ (let same : n ≡ glyph = omega (arith, below, far) in
        (length s, subst (λ g. IsSourceAt (s ++ Some n ∷ []) (length s) g) same (here (length s) refl)))
  ];
  own = λ i glyph h. elim (stands-cases s n i glyph h) [
    | inl old ↦ r.own i glyph old
    | inr new ↦ subst (λ g. is_kept named g ≡ true) new.1 e
  ];
}
  where
    here : (i : ℕ) → i ≡ length s → IsSourceAt (s ++ Some n ∷ []) i n
    here i e = record { there = omega (arith, e, length-append s (Some n ∷ [])); is = get_or_push s (Some n) None i (sym e) }

left-out : (named : List ℕ) (s : Sources) (n : ℕ) → is_kept named n ≡ false → Rises named s n → Rises named s (n + 1)
left-out named s n out r = record {
  some = r.some;
  below = λ i glyph h. let less = r.below i glyph h in omega (arith, less);
  rise = r.rise;
  all = λ glyph kept below. elim (nat_cases glyph n) [
    | inl less ↦ r.all glyph kept less
    | inr far ↦ (let same : n ≡ glyph = omega (arith, below, far) in let never : false ≡ true = sym out ∙ ap (is_kept named) same
        ∙ kept in absurd (cc))
  ];
  own = r.own;
}

one-step : (named : List ℕ) (s : Sources) (n : ℕ) (b : Bool) → is_kept named n ≡ b → Rises named s n →
    Rises named (s ++ (if b then Some n ∷ [] else [])) (n + 1)
one-step named s n true e r = kept-one named s n e r
one-step named s n false e r = subst (λ (xs : Sources). Rises named xs (n + 1)) (sym (append-nil s)) (left-out named s n e r)

none-rises : (named : List ℕ) → Rises named [] 0
none-rises named = record {
  some = λ i less. absurd (omega (arith, less));
  below = λ i glyph h. (let less = h.there in absurd (omega (arith, less)));
  rise = λ i j a b less x y. (let there = x.there in absurd (omega (arith, there)));
  all = λ glyph kept below. absurd (omega (arith, below));
  own = λ i glyph x. (let there = x.there in absurd (omega (arith, there)));
}

pub chosen-rises : (named : List ℕ) (n : ℕ) → Rises named (chosen named n) n
chosen-rises named zero = none-rises named
chosen-rises named (suc n) =
    let all : Rises named (chosen named (n + 1)) (n + 1) = subst (λ (xs : Sources). Rises named xs (n + 1)) (sym (chosen_more named n))
    (one-step named (chosen named n) n (is_kept named n) refl (chosen-rises named n)) in
    subst (λ m. Rises named (chosen named m) m) (add-one n) all

-- What two char sets say of glyphs that are taken over, and of the place of each in the new font.
pub record Takes (kept : ℕ → Type 0) (old_set new_set : CharSetView) (identifier n m : ℕ) (origin : ℕ → ℕ) : Type 0 where
  pub names : (i : ℕ) → i < m → Names old_set (origin i) identifier ↔ Names new_set i identifier
  pub rise : (i j : ℕ) → i < j → j < m → origin i < origin j
  pub below : (i : ℕ) → i < m → origin i < n
  pub place : (glyph : ℕ) → kept glyph → glyph < n → (i : ℕ) × (i < m) × (origin i ≡ glyph)

pub first-forth : (kept : ℕ → Type 0) (old_set new_set : CharSetView) (identifier n m : ℕ) (origin : ℕ → ℕ) (glyph i : ℕ) →
    Takes kept old_set new_set identifier n m origin → i < m → origin i ≡ glyph →
    IsFirstNamed old_set identifier n glyph → IsFirstNamed new_set identifier m i
first-forth kept old_set new_set identifier n m origin glyph i t less is first = record {
  there = less;
  names = (t.names i less).0 (subst (λ g. Names old_set g identifier) (sym is) first.names);
  none_before = λ other before named.
      let rises = t.rise other i before less in
      first.none_before (origin other) (subst (λ g. origin other < g) is rises) ((t.names other (omega (arith, before, less))).1 named);
}

-- Where the first glyph of a name is kept, the first one in the new font was the first one.
pub first-back : (kept : ℕ → Type 0) (old_set new_set : CharSetView) (identifier n m : ℕ) (origin : ℕ → ℕ) (i : ℕ) →
    Takes kept old_set new_set identifier n m origin →
    ((glyph : ℕ) → IsFirstNamed old_set identifier n glyph → kept glyph) → IsFirstNamed new_set identifier m i → IsFirstNamed old_set
    identifier n (origin i)
first-back kept old_set new_set identifier n m origin i t closed first = record {
  there = t.below i first.there;
  names = (t.names i first.there).1 first.names;
  none_before = λ other before named. none (other + 1) other (omega arith) before named;
}
  where
    none : (bound other : ℕ) → other < bound → other < origin i → Names old_set other identifier → ⊥
    none zero other less before named = absurd (omega (arith, less))
    none (suc bound) other less before named =
        let within = t.below i first.there in
        let is : IsFirstNamed old_set identifier n other = record {
          there = omega (arith, before, within);
          names = named;
          none_before = λ lower below again. none bound lower (omega (arith, below, less)) (omega (arith, below, before)) again;
        } in
        let at = t.place other (closed other is) (omega (arith, before, within)) in
        let there = at.1 in
        let same = at.2 in
        let past : i < at.0 → ⊥ = λ h. (let rises = t.rise i at.0 h there in omega (arith, rises, same, before)) in
        let equal : at.0 ≡ i → ⊥ = λ e. (let moved : origin at.0 ≡ origin i = ap origin e in omega (arith, moved, same, before)) in
        first.none_before at.0 (omega (arith, past, equal))
        ((t.names at.0 there).0 (subst (λ g. Names old_set g identifier) (sym same) named))

-- Where glyphs stand that are taken over: each place stands for a glyph of the old font, in ascending order.
pub record Placed (kept : ℕ → Type 0) (sources : Sources) (n : ℕ) (origin : ℕ → ℕ) : Type 0 where
  pub rise : (i j : ℕ) → i < j → j < length sources → origin i < origin j
  pub below : (i : ℕ) → i < length sources → origin i < n
  pub all : (glyph : ℕ) → kept glyph → glyph < n → (i : ℕ) × IsSourceAt sources i glyph × (origin i ≡ glyph)
  pub own : (i glyph : ℕ) → IsSourceAt sources i glyph → kept glyph

pub one-place : (kept : ℕ → Type 0) (sources : Sources) (n i j : ℕ) (origin : ℕ → ℕ) → Placed kept sources n origin → i < length sources →
    j < length sources → origin i ≡ origin j → i ≡ j
one-place kept sources n i j origin p x y same =
    let above : i < j → ⊥ = λ h. (let less = p.rise i j h y in omega (arith, less, same)) in
    let below : j < i → ⊥ = λ h. (let less = p.rise j i h x in omega (arith, less, same)) in
    omega (arith, above, below)

abbrev pub glyph_or : Option ℕ → ℕ
glyph_or None = 0
glyph_or (Some glyph) = glyph

pub chosen-placed : (closed : List ℕ) (n : ℕ) → Placed (λ g. is_kept closed g ≡ true)
    (chosen closed n) n (λ i. glyph_or (get_or (chosen closed n) i None))
chosen-placed closed n = record {
  rise = λ i j before there.
      let one = r.some i (omega (arith, before, there)) in
      let other = r.some j there in
      let less = r.rise i j one.0 other.0 before one.1 other.1 in
      subst (λ g. g < glyph_or (get_or (chosen closed n) j None)) (sym (ap glyph_or one.1.is))
      (subst (λ g. one.0 < g) (sym (ap glyph_or other.1.is)) less);
  below = λ i there. let one = r.some i there in subst (λ g. g < n) (sym (ap glyph_or one.1.is)) (r.below i one.0 one.1);
  all = λ glyph kept less. let one = r.all glyph kept less in (one.0, one.1, ap glyph_or one.1.is);
  own = r.own;
}
  where
    r : Rises closed (chosen closed n) n
    r = chosen-rises closed n

-- those that keep their numbers
pub keeping-many : (closed : List ℕ) (n : ℕ) → length (keeping closed n) ≡ n
keeping-many closed n = length-map-range_with_len (kept_or_none closed) 0 n

pub keeping-at : (closed : List ℕ) (n i : ℕ) → i < n → get_or (keeping closed n) i None ≡ kept_or_none closed i
keeping-at closed n i less = get_or-map-range_with_len (kept_or_none closed) 0 n i i None less (omega arith)

kept-some : (b : Bool) (i glyph : ℕ) → (if b then Some i else None) ≡ Some glyph → (b ≡ true) × (i ≡ glyph)
kept-some true i glyph is = (refl, cc)
kept-some false i glyph is = let never : None ≡ Some glyph = is in absurd (cc)

pub keeping-placed : (closed : List ℕ) (n : ℕ) → Placed (λ g. is_kept closed g ≡ true) (keeping closed n) n (λ i. i)
keeping-placed closed n = record {
  rise = λ i j before there. before;
  below = λ i there. subst (λ m. i < m) (keeping-many closed n) there;
  all = λ glyph kept less. (
    glyph,
    record {
      there =
          subst (λ m. glyph < m) (sym (keeping-many closed n)) less;
      is = keeping-at closed n glyph less ∙ ap (λ b. if b then Some glyph else None) kept;
    },
    refl,
  );
  own = λ i glyph h.
      let some = kept-some (is_kept closed i) i glyph
      (sym (keeping-at closed n i (subst (λ m. i < m) (keeping-many closed n) h.there)) ∙ h.is) in
      subst (λ g. is_kept closed g ≡ true) some.1 some.0;
}

-- every one in its place
pub every-many : (n : ℕ) → length (every n) ≡ n
every-many n = length-map-range_with_len Some 0 n

pub every-at : (n i : ℕ) → i < n → get_or (every n) i None ≡ Some i
every-at n i less = get_or-map-range_with_len Some 0 n i i None less (omega arith)

pub every-placed : (n : ℕ) → Placed (λ g. g < n) (every n) n (λ i. i)
every-placed n = record {
  rise = λ i j before there. before;
  below = λ i there. subst (λ m. i < m) (every-many n) there;
  all = λ glyph kept less. (glyph, record { there = subst (λ m. glyph < m) (sym (every-many n)) less; is = every-at n glyph less }, refl);
  own = λ i glyph h.
      let less : i < n = subst (λ m. i < m) (every-many n) h.there in
      let both : Some i ≡ Some glyph = sym (every-at n i less) ∙ h.is in
      let same : i ≡ glyph = cc in
      subst (λ g. g < n) same less;
}
