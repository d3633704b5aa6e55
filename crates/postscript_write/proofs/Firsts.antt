-- The first glyphs of ranges.
use Rattle.std.proofs.Common.{◌≡◌, refl, sym, ap, subst, ◌∙◌, ℕ, zero, suc, ◌+◌, ◌-◌, ◌<◌, ◌≤◌, List, [], ◌∷◌, ◌++◌, length, get_or, length-append, inl, inr, arith}
use Rattle.std.proofs.Math.ListN.{get_or-append}
use Rattle.std.proofs.Math.Seq.{get_or-append_seam}
use Rattle.std.proofs.lemmas.Bool.{cases_lt}
use Rattle.postscript_write.specs.Firsts.{AreFirsts, LiesInOne}

pub swap : (xs : List ℕ) (k m n : ℕ) → k < length xs → get_or xs k m ≡ get_or xs k n
swap [] k m n less = absurd (omega (arith, less))
swap (x ∷ xs) zero m n less = refl
swap (x ∷ xs) (suc k) m n less = swap xs k m n (omega (arith, less))

pub past : (xs : List ℕ) (k n : ℕ) → length xs ≤ k → get_or xs k n ≡ n
past [] k n far = refl
past (x ∷ xs) zero n far = absurd (omega (arith, far))
past (x ∷ xs) (suc k) n far = past xs k n (omega (arith, far))

-- behind more glyphs no range ends earlier
grows : (xs : List ℕ) (k n : ℕ) → get_or xs k n ≤ get_or xs k (n + 1)
grows [] k n = omega arith
grows (x ∷ xs) zero n = omega arith
grows (x ∷ xs) (suc k) n = grows xs k n

module _ (Goes : (first glyph : ℕ) → Type 0) where
  -- a glyph lies in the last range, if it goes with the first glyph of that range where the glyph before it does
  lies_too : (firsts : List ℕ) (n : ℕ) → AreFirsts Goes firsts n → 0 < n →
      ((r : ℕ) → r + 1 ≡ length firsts → Goes (get_or firsts r n) (n - 1) → Goes (get_or firsts r n) n) → LiesInOne Goes firsts (n + 1) n
  lies_too firsts n are some step =
      let before = are.each (n - 1) (omega (arith, some)) in
      let r : ℕ = before.range in
      let there = before.there in
      let from = before.from in
      let to = before.to in
      let one : get_or firsts r (n + 1) ≡ get_or firsts r n = swap firsts r (n + 1) n there in
      let last : r + 1 ≡ length firsts = elim (cases_lt (r + 1) (length firsts)) [
        | inl next ↦ (let below = are.below (r + 1) next in absurd (omega (arith, below, to, some)))
        | inr end ↦ omega (arith, end, there)
      ] in
      record {
        range = r;
        there = there;
        from = omega (arith, one, from, some);
        to = (let end = past firsts (r + 1) (n + 1) (omega (arith, last)) in omega (arith, end));
        goes = subst (λ f. Goes f n) (sym one) (step r last before.goes);
      }

  lies_still : (firsts : List ℕ) (n glyph : ℕ) → LiesInOne Goes firsts n glyph → LiesInOne Goes firsts (n + 1) glyph
  lies_still firsts n glyph lies =
      let r : ℕ = lies.range in
      let there = lies.there in
      let from = lies.from in
      let to = lies.to in
      let one : get_or firsts r (n + 1) ≡ get_or firsts r n = swap firsts r (n + 1) n there in
      record {
        range = r;
        there = there;
        from = omega (arith, one, from);
        to = omega (arith, to, grows firsts (r + 1) n);
        goes = subst (λ f. Goes f glyph) (sym one) lies.goes;
      }

  -- the last range goes on
  pub same_range : (firsts : List ℕ) (n : ℕ) → AreFirsts Goes firsts n → 0 < n →
      ((r : ℕ) → r + 1 ≡ length firsts → Goes (get_or firsts r n) (n - 1) → Goes (get_or firsts r n) n) → AreFirsts Goes firsts (n + 1)
  same_range firsts n are some step = record {
    few = let few = are.few in omega (arith, few);
    below = λ r less. let below = are.below r less in omega (arith, below, swap firsts r (n + 1) n less);
    rise = λ r less. let rise = are.rise r less in omega (arith, rise, swap firsts r (n + 1) n less, grows firsts (r + 1) n);
    each = λ glyph less. elim (cases_lt glyph n) [
      | inl before ↦ lies_still firsts n glyph (are.each glyph before)
      | inr last ↦ (let is : n ≡ glyph = omega (arith, last, less) in rw (← is) (lies_too firsts n are some step))
    ];
  }

  -- one more range begins
  more_at : (firsts : List ℕ) (r n : ℕ) → r ≤ length firsts → get_or (firsts ++ n ∷ []) r (n + 1) ≡ get_or firsts r n
  more_at firsts r n most = elim (cases_lt r (length firsts)) [
    | inl less ↦ get_or-append firsts (n ∷ []) (n + 1) r less ∙ swap firsts r (n + 1) n less
    | inr last ↦ (let is : r ≡ length firsts = omega (arith, last, most) in ap (λ k. get_or (firsts ++ n ∷ []) k (n + 1)) is
        ∙ get_or-append_seam firsts n [] (n + 1) ∙ sym (past firsts r n last))
  ]

  lies_before : (firsts : List ℕ) (n glyph : ℕ) → LiesInOne Goes firsts n glyph → LiesInOne Goes (firsts ++ n ∷ [])
      (n + 1) glyph
  lies_before firsts n glyph lies =
      let r : ℕ = lies.range in
      let there = lies.there in
      let from = lies.from in
      let to = lies.to in
      let one = more_at firsts r n (omega (arith, there)) in
      record {
        range = r;
        there = omega (arith, there, length-append firsts (n ∷ []));
        from = omega (arith, one, from);
        to = omega (arith, to, more_at firsts (r + 1) n (omega (arith, there)));
        goes = subst (λ f. Goes f glyph) (sym one) lies.goes;
      }

  lies_first : (firsts : List ℕ) (n : ℕ) → Goes n n → LiesInOne Goes (firsts ++ n ∷ []) (n + 1) n
  lies_first firsts n itself =
      let long = length-append firsts (n ∷ []) in
      let own = get_or-append_seam firsts n [] (n + 1) in
      record {
        range = length firsts;
        there = omega (arith, long);
        from = omega (arith, own);
        to = omega (arith, past (firsts ++ n ∷ []) (length firsts + 1) (n + 1) (omega (arith, long)));
        goes = subst (λ f. Goes f n) (sym own) itself;
      }

  pub new_range : (firsts : List ℕ) (n : ℕ) → Goes n n → AreFirsts Goes firsts n → AreFirsts Goes (firsts ++ n ∷ []) (n + 1)
  new_range firsts n itself are =
      let long : length (firsts ++ n ∷ []) ≡ length firsts + 1 = length-append firsts (n ∷ []) in
      let own = get_or-append_seam firsts n [] (n + 1) in
      record {
        few = let few = are.few in omega (arith, few, long);
        below = λ r less. elim (cases_lt r (length firsts)) [
          | inl before ↦ (let below = are.below r before in omega (arith, below, more_at firsts r n (omega (arith, before))))
          | inr last ↦ (let is : length firsts ≡ r = omega (arith, last, less, long) in rw (← is) (omega (arith, own)))
        ];
        rise = λ r less. elim (cases_lt r (length firsts)) [
          | inl before ↦ (let rise = are.rise r before in
              omega (arith, rise, more_at firsts r n (omega (arith, before)), more_at firsts (r + 1) n (omega (arith, before))))
          | inr last ↦ (let is : length firsts ≡ r = omega (arith, last, less, long) in
              rw (← is) (omega (arith, own, past (firsts ++ n ∷ []) (length firsts + 1) (n + 1) (omega (arith, long)))))
        ];
        each = λ glyph less. elim (cases_lt glyph n) [
          | inl before ↦ lies_before firsts n glyph (are.each glyph before)
          | inr last ↦ (let is : n ≡ glyph = omega (arith, last, less) in rw (← is) (lies_first firsts n itself))
        ];
      }

  -- the first glyphs rise
  rises : (firsts : List ℕ) (n a k : ℕ) → AreFirsts Goes firsts n → a + k ≤ length firsts → get_or firsts a n ≤ get_or firsts (a + k) n
  rises firsts n a zero are within =
      let same : get_or firsts (a + 0) n ≡ get_or firsts a n = ap (λ i. get_or firsts i n) (omega arith) in omega (arith, same)
  rises firsts n a (suc k) are within =
      let before = rises firsts n a k are (omega (arith, within)) in
      let step = are.rise (a + k) (omega (arith, within)) in
      let same : get_or firsts (a + suc k) n ≡ get_or firsts (a + k + 1) n = ap (λ i. get_or firsts i n) (omega arith) in
      omega (arith, before, step, same)

  -- the range before another one ends where that begins, or earlier
  ends_before : (firsts : List ℕ) (n a b : ℕ) → AreFirsts Goes firsts n → a < b → b ≤ length firsts →
      get_or firsts (a + 1) n ≤ get_or firsts b n
  ends_before firsts n a b are less within =
      let up = rises firsts n (a + 1) (b - (a + 1)) are (omega (arith, less, within)) in
      let same : get_or firsts (a + 1 + (b - (a + 1))) n ≡ get_or firsts b n = ap (λ i. get_or firsts i n) (omega (arith, less)) in
      omega (arith, up, same)

  -- a glyph lies in one range alone
  pub one_range : (firsts : List ℕ) (n glyph a b : ℕ) → AreFirsts Goes firsts n → a < length firsts → b < length firsts →
      get_or firsts a n ≤ glyph → glyph < get_or firsts (a + 1) n → get_or firsts b n ≤ glyph → glyph < get_or firsts (b + 1) n → a ≡ b
  one_range firsts n glyph a b are in_a in_b from_a to_a from_b to_b =
      let no : (x y : ℕ) → x < y → y ≤ length firsts → glyph < get_or firsts (x + 1) n → get_or firsts y n ≤ glyph → ⊥ =
      λ x y less within to from. let p = ends_before firsts n x y are less within in absurd (omega (arith, p, to, from)) in
      elim (cases_lt a b) [
        | inl less ↦ absurd (no a b less (omega (arith, in_b)) to_a from_b)
        | inr more ↦ elim (cases_lt b a) [
          | inl less ↦ absurd (no b a less (omega (arith, in_a)) to_b from_a)
          | inr equal ↦ omega (arith, more, equal)
        ]
      ]

  -- each range goes up to its last glyph
  pub to_its_end : (firsts : List ℕ) (n r : ℕ) → AreFirsts Goes firsts n → r < length firsts →
      Goes (get_or firsts r n) (get_or firsts (r + 1) n - 1)
  to_its_end firsts n r are there =
      let rise = are.rise r there in
      let most : get_or firsts (r + 1) n ≤ n = elim (cases_lt (r + 1) (length firsts)) [
        | inl next ↦ (let below = are.below (r + 1) next in omega (arith, below))
        | inr last ↦ (let end = past firsts (r + 1) n last in omega (arith, end))
      ] in
      let lies = are.each (get_or firsts (r + 1) n - 1) (omega (arith, rise, most)) in
      let same : lies.range ≡ r = one_range firsts n (get_or firsts (r + 1) n - 1) lies.range r are lies.there there lies.from lies.to
      (omega (arith, rise)) (omega (arith, rise)) in
      subst (λ k. Goes (get_or firsts k n) (get_or firsts (r + 1) n - 1)) same lies.goes

  -- the first range begins with the first glyph
  pub from_zero : (firsts : List ℕ) (n : ℕ) → AreFirsts Goes firsts n → get_or firsts 0 n ≡ 0
  from_zero firsts n are = elim (cases_lt 0 n) [
    | inl some ↦
        (let lies = are.each 0 some in
        let up = rises firsts n 0 lies.range are (let there = lies.there in omega (arith, there)) in
        let same : get_or firsts (0 + lies.range) n ≡ get_or firsts lies.range n = ap (λ i. get_or firsts i n) (omega arith) in
        let from = lies.from in omega (arith, up, same, from))
    | inr none ↦ (let few = are.few in let end = past firsts 0 n (omega (arith, few, none)) in omega (arith, end, none))
  ]
