-- A char set of a font's own names the same glyphs where its text stands at the end of other bytes.
use Rattle.std.proofs.Common.{◌≡◌, ◌↔◌, refl, false, sym, ap, subst, ◌∙◌, ◌⊎◌, inl, inr, ℕ, zero, suc, ◌+◌, ◌-◌, ◌*◌, ◌/◌, ◌≤◌, ◌<◌, List, [], ◌∷◌, ◌++◌, append-nil, length, take, drop, length-append, length-drop, Some, arith}
use Rattle.std.proofs.lemmas.List.{drop-append-le, drop-drop}
use Rattle.std.proofs.lemmas.Bool.{cases_lt}
use Rattle.std.proofs.Math.Nat.{le-div_iff_mul-le}
use Rattle.postscript_base.specs.Index.{number_at}
use Rattle.postscript_view.specs.CharSet.{covered, first_of, identifier_at, more_of, IsNamed}
use Rattle.postscript_view.specs.CharSets.{CharSetStandsAt}
use Rattle.postscript_view.specs.Naming.{NamesBehind}
use Rattle.postscript_view.specs.declared.char_set.Identifiers.{Identifiers}
use Rattle.postscript_view.specs.declared.char_set.Identifiers.TheVariants.{ISOAdobe, Expert, ExpertSubset, Listed, Ranges1, Ranges2}
use Rattle.postscript_view.proofs.Covering.{covered_more}
use Rattle.postscript_write.specs.Pieces.{is_listed}
use Rattle.postscript_write.specs.Texts.{TextStands}
use Rattle.postscript_write.specs.Whole.{CharSetEnds, RangesEnd}
use Rattle.postscript_write.proofs.Moved.{number_moves, slice_moves}
use Rattle.postscript_write.proofs.OneCharSet.{not_listed}
use Rattle.postscript_write.proofs.Standing.{stands_within}
use Rattle.postscript_write.proofs.TextsCut.{covered_cut}
use Rattle.postscript_write.proofs.TextsEnd.{number_there}

-- more ranges cover more
covered_mono : (ranges : List ℕ) (size k m : ℕ) → covered ranges size k ≤ covered ranges size (k + m)
covered_mono ranges size k zero = let e : k + 0 ≡ k = omega arith in omega (arith, ap (covered ranges size) e)
covered_mono ranges size k (suc m) =
    let before = covered_mono ranges size k m in
    let more = covered_more ranges size (k + m) in
    let e : k + suc m ≡ k + m + 1 = omega arith in
    omega (arith, before, more, ap (covered ranges size) e)

among : (size r n : ℕ) → r < n / (2 + size) → r * (2 + size) + (2 + size) ≤ n
among size r n less =
    let up : (r + 1) * (2 + size) ≤ n = (le-div_iff_mul-le {k = 2 + size} {x = r + 1} {y = n} (omega arith)).0 (omega (arith, less)) in
    omega (arith, up)

fits : (size r n : ℕ) → r * (2 + size) + (2 + size) ≤ n → r < n / (2 + size)
fits size r n most =
    let e : (r + 1) * (2 + size) ≡ r * (2 + size) + (2 + size) = omega arith in
    let up : r + 1 ≤ n / (2 + size) = (le-div_iff_mul-le {k = 2 + size} {x = r + 1} {y = n} (omega arith)).1 (omega (arith, most, e)) in
    omega (arith, up)

-- the ranges of a text stand in the front of others
module _ (text bytes : List ℕ) (size : ℕ) (s : TextStands text bytes 0) where
  more_same : (r : ℕ) → r * (2 + size) + (2 + size) ≤ length text → more_of bytes size r ≡ more_of text size r
  more_same r within = number_there text bytes 0 (r * (2 + size) + 2) size (r * (2 + size) + 2) s (omega (arith, within)) (omega arith)

  first_same : (r : ℕ) → r * (2 + size) + (2 + size) ≤ length text → first_of bytes size r ≡ first_of text size r
  first_same r within = number_there text bytes 0 (r * (2 + size)) 2 (r * (2 + size)) s (omega (arith, within)) (omega arith)

  -- a range of the text gives the same identifier in both
  of_text : (glyph identifier : ℕ) → IsNamed text size glyph identifier → length text ≤ length bytes → IsNamed bytes size glyph identifier
  of_text glyph identifier is longer =
      let r : ℕ = is.range in
      let there = is.there in
      let within = among size r (length text) there in
      let same = covered_cut text bytes size r s (omega (arith, within)) in
      let from = is.from in
      let to = is.to in
      let named = is.named in
      record {
        range = r;
        there = fits size r (length bytes) (omega (arith, within, longer));
        from = omega (arith, from, same);
        to = omega (arith, to, same, more_same r within);
        small = is.small;
        named = omega (arith, named, same, first_same r within);
      }

  -- and where those of the text cover the glyph, so does one of the bytes
  of_bytes : (last glyph identifier : ℕ) → length text ≡ last * (2 + size) → glyph < covered bytes size last →
      IsNamed bytes size glyph identifier → IsNamed text size glyph identifier
  of_bytes last glyph identifier long less is = named
    where
      r : ℕ
      r = is.range

      low : (r < last) ⊎ (last ≤ r) → r < last
      low (inl lower) = lower
      low (inr high) =
          let from = is.from in
          let up = covered_mono bytes size last (r - last) in
          let e : last + (r - last) ≡ r = omega (arith, high) in
          absurd (omega (arith, from, up, ap (covered bytes size) e, less))

      before : r < last
      before = low (cases_lt r last)

      within : r * (2 + size) + (2 + size) ≤ length text
      within =
          let m : ℕ = last - r - 1 in
          let e : last ≡ r + 1 + m = omega (arith, before) in
          let f : (r + 1 + m) * (2 + size) ≡ r * (2 + size) + (2 + size) + m * (2 + size) = omega arith in
          omega (arith, long, ap (λ n. n * (2 + size)) e, f)

      named : IsNamed text size glyph identifier
      named =
          let same = covered_cut text bytes size r s (omega (arith, within)) in
          let from = is.from in
          let to = is.to in
          let named = is.named in
          record {
            range = r;
            there = fits size r (length text) within;
            from = omega (arith, from, same);
            to = omega (arith, to, same, more_same r within);
            small = is.small;
            named = omega (arith, named, same, first_same r within);
          }

nothing_behind : (xs ys : List ℕ) → length xs ≡ length (xs ++ ys) → xs ++ ys ≡ xs
nothing_behind xs [] same = append-nil xs
nothing_behind xs (y ∷ ys) same = absurd (omega (arith, same, length-append xs (y ∷ ys)))

-- what ranges name stays, where the text of them is all
ranges_same : (text bytes : List ℕ) (size glyphs glyph identifier : ℕ) → TextStands text bytes 0 → RangesEnd bytes size glyphs (length text) →
    glyph < glyphs →
    IsNamed bytes size glyph identifier ↔ IsNamed text size glyph identifier
ranges_same text bytes size glyphs glyph identifier s ends less =
    (there ends.enough, λ is. of_text text bytes size s glyph identifier is longer)
  where
    longer : length text ≤ length bytes
    longer = let e = ap length s.there in omega (arith, e, length-append text s.behind)

    there : ((r : ℕ) × (length text ≡ r * (2 + size)) × (glyphs ≤ covered bytes size r)) ⊎ (length text ≡ length bytes) →
        IsNamed bytes size glyph identifier → IsNamed text size glyph identifier
    there (inl enough) is =
        let all = enough.2 in of_bytes text bytes size s enough.0 glyph identifier enough.1 (omega (arith, all, less)) is
    there (inr all) is = subst (λ xs. IsNamed xs size glyph identifier) (whole) is
      where
        whole : bytes ≡ text
        whole = s.there ∙ nothing_behind text s.behind (all ∙ ap length s.there)

-- Two charsets have the same text, and ranges end with the bytes: they give each glyph the same SID.
module _ (text a b : List ℕ) (p q glyphs : ℕ) (sa : TextStands text a p) (sb : TextStands text b q)
    (last : is_listed text ≡ false → drop q b ≡ text)
    (ends : CharSetEnds a glyphs p (p + length text)) where
  some : 1 ≤ length text
  some = by ends
    where
      by : CharSetEnds a glyphs p (p + length text) → 1 ≤ length text
      by (inl listed) = let e = listed.1 in omega (arith, e)
      by (inr ranges) = let e = ranges.6 in omega (arith, e)

  rest_is : 1 ≤ number_at a p 1 → drop (q + 1) b ≡ drop 1 text
  rest_is high =
      let same = number_there text a p 0 1 p sa some (omega arith) in
      sym (drop-drop 1 q b) ∙ ap (drop 1) (last (not_listed text some (omega (arith, high, same))))

  format : number_at b q 1 ≡ number_at a p 1
  format =
      let one : q ≡ q + 0 = omega arith in
      let other : p + 0 ≡ p = omega arith in
      ap (λ n. number_at b n 1) one ∙ number_moves text a b p q sa sb 0 1 (omega (arith, some)) ∙ ap (λ n. number_at a n 1) other

  behind : TextStands (drop 1 text) (drop (p + 1) a) 0
  behind = record {
    within = omega arith;
    behind = sa.behind;
    there = sym (drop-drop 1 p a) ∙ ap (drop 1) sa.there ∙ drop-append-le 1 text sa.behind (omega (arith, some));
  }

  -- ranges of this size
  of_ranges : (size glyph identifier : ℕ) → number_at a p 1 ≡ size → 1 ≤ size → glyph < glyphs - 1 →
      IsNamed (drop (p + 1) a) size glyph identifier ↔ IsNamed (drop (q + 1) b) size glyph identifier
  of_ranges size glyph identifier is least less = by ends
    where
      by : CharSetEnds a glyphs p (p + length text) →
          IsNamed (drop (p + 1) a) size glyph identifier ↔ IsNamed (drop (q + 1) b) size glyph identifier
      by (inl listed) = absurd (omega (arith, listed.0, is, least))
      by (inr ranges) =
          let same : ranges.0 ≡ size = sym ranges.2 ∙ is in
          let long : ranges.1 ≡ length (drop 1 text) = let e = ranges.6 in omega (arith, e, length-drop 1 text) in
          let own = subst (λ n. RangesEnd (drop (p + 1) a) size (glyphs - 1) n) long
          (subst (λ n. RangesEnd (drop (p + 1) a) n (glyphs - 1) ranges.1) same ranges.5) in
          subst (λ xs. IsNamed (drop (p + 1) a) size glyph identifier ↔ IsNamed xs size glyph identifier) (sym (rest_is (omega (arith, is, least))))
          (ranges_same (drop 1 text) (drop (p + 1) a) size (glyphs - 1) glyph identifier behind own less)

  -- identifiers of two bytes each
  listed_long : number_at a p 1 ≡ 0 → 1 + 2 * (glyphs - 1) ≤ length text
  listed_long is = by ends
    where
      by : CharSetEnds a glyphs p (p + length text) → 1 + 2 * (glyphs - 1) ≤ length text
      by (inl listed) = let e = listed.1 in omega (arith, e)
      by (inr ranges) = absurd (omega (arith, is, ranges.2, ranges.3))

  listed : number_at a p 1 ≡ 0 → take (2 * (glyphs - 1)) (drop (q + 1) b) ≡ take (2 * (glyphs - 1)) (drop (p + 1) a)
  listed is = slice_moves text a b p q sa sb 1 (2 * (glyphs - 1)) (listed_long is)

  room : q + length text ≤ length b
  room = stands_within text sb

  pub stands_again : (old : Identifiers) → CharSetStandsAt old a p glyphs → (new : Identifiers) × CharSetStandsAt new b q glyphs
  stands_again ISOAdobe is = absurd is
  stands_again Expert is = absurd is
  stands_again ExpertSubset is = absurd is
  stands_again (Listed xs) is = (Listed xs, (format ∙ is.0, omega (arith, listed_long is.0, room), is.2 ∙ sym (listed is.0)))
  stands_again (Ranges1 xs) is =
      (Ranges1 (record { ref_ptr = xs.ref_ptr; now = drop (q + 1) b }), (format ∙ is.0, omega (arith, some, room), refl))
  stands_again (Ranges2 xs) is =
      (Ranges2 (record { ref_ptr = xs.ref_ptr; now = drop (q + 1) b }), (format ∙ is.0, omega (arith, some, room), refl))

  pub names_same : (old new : Identifiers) (glyph identifier : ℕ) → CharSetStandsAt old a p glyphs → CharSetStandsAt new b q glyphs →
      glyph < glyphs - 1 → NamesBehind old glyph identifier ↔ NamesBehind new glyph identifier
  names_same ISOAdobe new glyph identifier is now less = absurd is
  names_same Expert new glyph identifier is now less = absurd is
  names_same ExpertSubset new glyph identifier is now less = absurd is
  names_same old ISOAdobe glyph identifier is now less = absurd now
  names_same old Expert glyph identifier is now less = absurd now
  names_same old ExpertSubset glyph identifier is now less = absurd now
  names_same (Listed xs) (Listed ys) glyph identifier is now less =
      let same : ys.now ≡ xs.now = now.2 ∙ listed is.0 ∙ sym is.2 in
      subst (λ zs. (identifier_at xs.now glyph ≡ Some identifier) ↔ (identifier_at zs glyph ≡ Some identifier)) (sym same) (λ h. h, λ h. h)
  names_same (Listed xs) (Ranges1 ys) glyph identifier is now less = absurd (omega (arith, is.0, now.0, format))
  names_same (Listed xs) (Ranges2 ys) glyph identifier is now less = absurd (omega (arith, is.0, now.0, format))
  names_same (Ranges1 xs) (Listed ys) glyph identifier is now less = absurd (omega (arith, is.0, now.0, format))
  names_same (Ranges1 xs) (Ranges2 ys) glyph identifier is now less = absurd (omega (arith, is.0, now.0, format))
  names_same (Ranges2 xs) (Listed ys) glyph identifier is now less = absurd (omega (arith, is.0, now.0, format))
  names_same (Ranges2 xs) (Ranges1 ys) glyph identifier is now less = absurd (omega (arith, is.0, now.0, format))
  names_same (Ranges1 xs) (Ranges1 ys) glyph identifier is now less =
      subst (λ zs. IsNamed zs 1 glyph identifier ↔ IsNamed ys.now 1 glyph identifier) (sym is.2)
      (subst (λ zs. IsNamed (drop (p + 1) a) 1 glyph identifier ↔ IsNamed zs 1 glyph identifier) (sym now.2)
      (of_ranges 1 glyph identifier is.0 (omega arith) less))
  names_same (Ranges2 xs) (Ranges2 ys) glyph identifier is now less =
      subst (λ zs. IsNamed zs 2 glyph identifier ↔ IsNamed ys.now 2 glyph identifier) (sym is.2)
      (subst (λ zs. IsNamed (drop (p + 1) a) 2 glyph identifier ↔ IsNamed zs 2 glyph identifier) (sym now.2)
      (of_ranges 2 glyph identifier is.0 (omega arith) less))
