-- A char set that whole fonts are read with takes no byte behind its text, so that it stands wherever the text stands.
use Rattle.std.proofs.Common.{◌≡◌, refl, sym, ap, subst, ◌∙◌, ◌⊎◌, inl, inr, ℕ, zero, suc, ◌+◌, ◌-◌, ◌*◌, ◌<◌, ◌≤◌, nat_lt, List, [], ◌∷◌, length, length-drop, take, drop, arith}
use Rattle.std.proofs.lemmas.Bool.{cases_lt}
use Rattle.std.proofs.lemmas.Bool.Decides.{nat_tests}
use Rattle.std.proofs.lemmas.List.{drop-drop}
use Rattle.std.proofs.lemmas.List.Sums.{sum_by-cons}
use Rattle.std.specs.Prelude.{sum_by}
use Rattle.postscript_base.specs.Index.{number_at}
use Rattle.postscript_base.specs.Numbers.{big_endian, number, slice}
use Rattle.postscript_base.specs.Tape.Outcome.{Got, Reading, after}
use Rattle.postscript_compact1.specs.CharSetAt.{CoversGlyphs, IsCharSet, ListsGlyphs, StandAt}
use Rattle.postscript_compact1.specs.CharSets.{glyphs_of_1, glyphs_of_2, range}
use Rattle.postscript_compact1.specs.CharSets.Formats.{Covered, Listed}
use Rattle.postscript_compact1.specs.declared.char_set.CharSet.{CharSet}
use Rattle.postscript_compact1.specs.declared.char_set.CharSet.TheVariants.{ISOAdobe, Expert, ExpertSubset, Format0, Format1, Format2}
use Rattle.postscript_compact1.proofs.Steps.{Done, Step, accepted}
use Rattle.postscript_view.specs.CharSet.{covered, more_of}
use Rattle.postscript_view.proofs.Covering.{covered_none}
use Rattle.postscript_view.proofs.Wider.{got_if}
use Rattle.postscript_write.specs.Texts.{TextStands}
use Rattle.postscript_write.specs.Whole.{CharSetEnds, RangesEnd}
use Rattle.postscript_write.proofs.Locality.{slice_is}
use Rattle.postscript_write.proofs.Moved.{number_moves}
use Rattle.postscript_write.proofs.Standing.{stands_within}

-- a number that is read, and one that can be
pub number_got : (n : ℕ) (bytes : List ℕ) (place value next : ℕ) → 0 < n → number n bytes place ≡ Got value next →
    (place + n ≤ length bytes) × (value ≡ number_at bytes place n) × (next ≡ place + n)
unfolding number slice number_at
number_got n bytes place value next some e =
    let h = got_if (nat_lt (length bytes - place) n) (take n (drop place bytes)) (place + n) value next e in
    let enough = h.0 in
    (grind (arith, nat_tests), h.1, h.2)

pub number_is : (n : ℕ) (bytes : List ℕ) (place : ℕ) → place + n ≤ length bytes →
    number n bytes place ≡ Got (number_at bytes place n) (place + n)
unfolding number number_at
number_is n bytes place within = ap (λ o. after o (λ xs next. Got (big_endian xs) next)) (slice_is n bytes place within)

-- a number behind a place
pub number_behind : (bytes : List ℕ) (p q n : ℕ) → number_at (drop p bytes) q n ≡ number_at bytes (p + q) n
unfolding number_at
number_behind bytes p q n = ap (λ xs. big_endian (take n xs)) (drop-drop q p bytes)

-- identifiers can be read where there are bytes enough
identifiers_stand : (bytes : List ℕ) (place count : ℕ) → place + 2 * count ≤ length bytes →
    (identifiers : List ℕ) × (next : ℕ) × StandAt (number 2) bytes place identifiers next × (length identifiers ≡ count)
identifiers_stand bytes place zero within = ([], place, refl, refl)
identifiers_stand bytes place (suc count) within =
    let one = number_is 2 bytes place (omega (arith, within)) in
    let rest = identifiers_stand bytes (place + 2) count (omega (arith, within)) in
    (number_at bytes place 2 ∷ rest.0, rest.1, (place + 2, one, rest.2), ap suc rest.3)

-- behind a byte 0 stands a char set of format 0, whatever the identifiers are
pub strict_listed : (out : List ℕ) (to glyphs : ℕ) → number_at out to 1 ≡ 0 → 1 ≤ glyphs → to + 1 + 2 * (glyphs - 1) ≤ length out →
    (set : CharSet) × (next : ℕ) × IsCharSet out to glyphs set next
strict_listed out to glyphs format some within =
    let all = identifiers_stand out (to + 1) (glyphs - 1) within in
    let set : Listed = record { format = 0; glyphs = all.0 } in
    let stands : ListsGlyphs out to glyphs set all.1 = record {
      format = refl;
      behind = to + 1;
      byte = number_is 1 out to (omega (arith, within)) ∙ ap (λ n. Got n (to + 1)) format;
      identifiers = all.2;
      each = omega (arith, all.3, some);
    } in
    (Format0 set, all.1, stands)

-- ranges of numbers of two bytes and of so many
module _ {A : Type 0} (make : ℕ → ℕ → A) (size : ℕ) (some : 0 < size) where
  range_got : (bytes : List ℕ) (place : ℕ) (value : A) (next : ℕ) → range make size bytes place ≡ Got value next →
      (place + 2 + size ≤ length bytes) × (value ≡ make (number_at bytes place 2) (number_at bytes (place + 2) size)) ×
      (next ≡ place + 2 + size)
  unfolding range
  range_got bytes place value next e =
      let s = accepted (Step (number 2) (λ first. Step (number size) (λ left. Done (make first left)))) bytes place value next e in
      let first = number_got 2 bytes place s.0 s.1 (omega arith) s.2 in
      let left = number_got size bytes s.1 s.3.0 s.3.1 some s.3.2 in
      let is = s.3.3.0 in
      let behind = s.3.3.1 in (
        omega (arith, left.0, first.2),
        sym is ∙ ap (λ n. make n s.3.0) first.1
            ∙ ap (λ n. make (number_at bytes place 2) n) (left.1 ∙ ap (λ n. number_at bytes n size) first.2),
        omega (arith, behind, left.2, first.2),
      )

  pub range_is : (bytes : List ℕ) (place : ℕ) → place + 2 + size ≤ length bytes →
      range make size bytes place ≡ Got (make (number_at bytes place 2) (number_at bytes (place + 2) size)) (place + 2 + size)
  unfolding range
  range_is bytes place within =
      ap (λ o. after o (λ first at. after (number size bytes at) (λ left next. Got (make first left) next)))
      (number_is 2 bytes place (omega (arith, within)))
      ∙ ap (λ o. after o (λ left next. Got (make (number_at bytes place 2) left) next)) (number_is size bytes (place + 2) within)

  ranges_within : (bytes : List ℕ) (place : ℕ) (ranges : List A) (next : ℕ) → place ≤ length bytes →
      StandAt (range make size) bytes place ranges next → place + length ranges * (2 + size) ≤ length bytes
  ranges_within bytes place [] next within h = omega (arith, within)
  ranges_within bytes place (x ∷ xs) next within h =
      let got = range_got bytes place x h.0 h.1 in
      let rest = ranges_within bytes h.0 xs next (omega (arith, got.0, got.2)) h.2 in
      omega (arith, rest, got.2)

-- the glyphs of the first range, and those of the ranges behind it
pub covered_first : (ranges : List ℕ) (size r : ℕ) →
    covered ranges size (suc r) ≡ more_of ranges size 0 + 1 + covered (drop (2 + size) ranges) size r
unfolding covered
covered_first ranges size zero = omega arith
covered_first ranges size (suc r) =
    let before = covered_first ranges size r in
    let at : 2 + size + (r * (2 + size) + 2) ≡ suc r * (2 + size) + 2 = omega arith in
    let last : more_of (drop (2 + size) ranges) size r ≡ more_of ranges size (suc r) =
    number_behind ranges (2 + size) (r * (2 + size) + 2) size ∙ ap (λ n. number_at ranges n size) at in
    omega (arith, before, last)

-- ranges that stand for all glyphs but the first take no byte behind those that are needed
module _ {A : Type 0} (make : ℕ → ℕ → A) (size : ℕ) (some : 0 < size) (glyphs_of : A → ℕ)
    (counts : (first left : ℕ) → glyphs_of (make first left) ≡ left + 1) where
  fewer : (bytes : List ℕ) (place : ℕ) (ranges : List A) (next : ℕ) → StandAt (range make size) bytes place ranges next →
      (r : ℕ) → r < length ranges → covered (drop place bytes) size r < sum_by glyphs_of ranges
  fewer bytes place [] next h r less = absurd (omega (arith, less))
  fewer bytes place (x ∷ xs) next h zero less =
      let got = range_got make size some bytes place x h.0 h.1 in
      let own = ap glyphs_of got.1 ∙ counts (number_at bytes place 2) (number_at bytes (place + 2) size) in
      omega (arith, sum_by-cons glyphs_of x xs, own, covered_none (drop place bytes) size)
  fewer bytes place (x ∷ xs) next h (suc r) less =
      let got = range_got make size some bytes place x h.0 h.1 in
      let own = ap glyphs_of got.1 ∙ counts (number_at bytes place 2) (number_at bytes (place + 2) size) in
      let rest = fewer bytes h.0 xs next h.2 r (omega (arith, less)) in
      let behind : place + (2 + size) ≡ h.0 = omega (arith, got.2) in
      let there : drop (2 + size) (drop place bytes) ≡ drop h.0 bytes = drop-drop (2 + size) place bytes ∙ ap (λ n. drop n bytes) behind in
      let at : place + (0 * (2 + size) + 2) ≡ place + 2 = omega arith in
      let more : more_of (drop place bytes) size 0 ≡ number_at bytes (place + 2) size =
      number_behind bytes place (0 * (2 + size) + 2) size ∙ ap (λ n. number_at bytes n size) at in
      let all = covered_first (drop place bytes) size r in
      omega (arith, sum_by-cons glyphs_of x xs, own, rest, all, more, ap (λ xs. covered xs size r) there)

  no_further : (bytes : List ℕ) (place glyphs len : ℕ) (ranges : List A) (next : ℕ) → place ≤ length bytes →
      StandAt (range make size) bytes place ranges next → 1 + sum_by glyphs_of ranges ≡ glyphs →
      RangesEnd (drop place bytes) size (glyphs - 1) len → length ranges * (2 + size) ≤ len
  no_further bytes place glyphs len ranges next within h each ends = by ends.enough
    where
      enough : (r : ℕ) → len ≡ r * (2 + size) → glyphs - 1 ≤ covered (drop place bytes) size r →
          (r < length ranges) ⊎ (length ranges ≤ r) → length ranges * (2 + size) ≤ len
      enough r long all (inl less) = absurd (omega (arith, all, each, fewer bytes place ranges next h r less))
      enough r long all (inr most) =
          let more : ℕ = r - length ranges in
          let split : r ≡ length ranges + more = omega (arith, most) in
          let both : (length ranges + more) * (2 + size) ≡ length ranges * (2 + size) + more * (2 + size) = omega arith in
          omega (arith, long, ap (λ n. n * (2 + size)) split, both)

      by : ((r : ℕ) × (len ≡ r * (2 + size)) × (glyphs - 1 ≤ covered (drop place bytes) size r)) ⊎ (len ≡ length (drop place bytes)) →
          length ranges * (2 + size) ≤ len
      by (inl (r, long, all)) = enough r long all (cases_lt r (length ranges))
      by (inr long) = omega (arith, long, length-drop place bytes, ranges_within make size some bytes place ranges next within h)

-- a text stands in two lists of bytes
module _ (text a b : List ℕ) (p q : ℕ) (sa : TextStands text a p) (sb : TextStands text b q) where
  room : q + length text ≤ length b
  room = stands_within text sb

  -- what is read in the text, of so many bytes, is read there again
  abbrev Goes : {A : Type 0} → Reading A → ℕ → Type 0
  Goes {A} one width = (k : ℕ) (value : A) (next : ℕ) → one a (p + k) ≡ Got value next → k + width ≤ length text →
      (next ≡ p + (k + width)) × (one b (q + k) ≡ Got value (q + (k + width)))

  number_goes : (n : ℕ) → 0 < n → Goes (number n) n
  number_goes n some k value next e within =
      let got = number_got n a (p + k) value next some e in
      let at : q + k + n ≡ q + (k + n) = omega arith in (
        omega (arith, got.2),
        number_is n b (q + k) (omega (arith, room, within))
            ∙ ap (λ v. Got v (q + k + n)) (number_moves text a b p q sa sb k n within ∙ sym got.1)
            ∙ ap (λ m. Got value m) at,
      )

  range_goes : {A : Type 0} (make : ℕ → ℕ → A) (size : ℕ) → 0 < size → Goes (range make size) (2 + size)
  range_goes make size some k value next e within =
      let got = range_got make size some a (p + k) value next e in
      let one : q + k + 2 ≡ q + (k + 2) = omega arith in
      let other : p + (k + 2) ≡ p + k + 2 = omega arith in
      let first : number_at b (q + k) 2 ≡ number_at a (p + k) 2 = number_moves text a b p q sa sb k 2 (omega (arith, within)) in
      let left : number_at b (q + k + 2) size ≡ number_at a (p + k + 2) size =
      ap (λ n. number_at b n size) one ∙ number_moves text a b p q sa sb (k + 2) size (omega (arith, within))
      ∙ ap (λ n. number_at a n size) other in
      let at : q + k + 2 + size ≡ q + (k + (2 + size)) = omega arith in (
        omega (arith, got.2),
        range_is make size some b (q + k) (omega (arith, room, within))
            ∙ ap (λ n. Got (make n (number_at b (q + k + 2) size)) (q + k + 2 + size)) first
            ∙ ap (λ n. Got (make (number_at a (p + k) 2) n) (q + k + 2 + size)) left
            ∙ ap (λ v. Got v (q + k + 2 + size)) (sym got.1)
            ∙ ap (λ m. Got value m) at,
      )

  all_go : {A : Type 0} (one : Reading A) (width : ℕ) → Goes one width → (k : ℕ) (values : List A) (next : ℕ) →
      StandAt one a (p + k) values next →
      k + length values * width ≤ length text → (behind : ℕ) × StandAt one b (q + k) values behind
  all_go one width goes k [] next h within = (q + k, refl)
  all_go one width goes k (x ∷ xs) next h within =
      let here = goes k x h.0 h.1 (omega (arith, within)) in
      let rest = all_go one width goes (k + width) xs next (subst (λ m. StandAt one a m xs next) here.0 h.2) (omega (arith, within)) in
      (rest.0, (q + (k + width), here.1, rest.1))

  -- the byte of the format
  format_goes : (format behind : ℕ) → number 1 a p ≡ Got format behind → 1 ≤ length text → number 1 b q ≡ Got format (q + 1)
  format_goes format behind e within =
      let one : p ≡ p + 0 = omega arith in
      let other : q + 0 ≡ q = omega arith in
      let again = number_goes 1 (omega arith) 0 format behind (subst (λ n. number 1 a n ≡ Got format behind) one e) within in
      subst (λ n. number 1 b n ≡ Got format (q + 1)) other again.1

  module _ (glyphs : ℕ) (ends : CharSetEnds a glyphs p (p + length text)) where
    listed_again : (set : Listed) (next : ℕ) → ListsGlyphs a p glyphs set next → (behind : ℕ) × ListsGlyphs b q glyphs set behind
    listed_again set next h = (
      all.0,
      record {
        format =
            h.format;
        behind = q + 1;
        byte = format_goes 0 h.behind h.byte (omega (arith, long));
        identifiers = all.1;
        each = each;
      },
    )
      where
        first : (p + 1 ≤ length a) × (0 ≡ number_at a p 1) × (h.behind ≡ p + 1)
        first = number_got 1 a p 0 h.behind (omega arith) h.byte

        each : 1 + length set.glyphs ≡ glyphs
        each = h.each

        by : CharSetEnds a glyphs p (p + length text) → 1 + length set.glyphs * 2 ≤ length text
        by (inl (format, is)) = omega (arith, is, each)
        by (inr (size, len, format, least, most, ranges, is)) = absurd (omega (arith, first.1, format, least))

        long : 1 + length set.glyphs * 2 ≤ length text
        long = by ends

        all : (behind : ℕ) × StandAt (number 2) b (q + 1) set.glyphs behind
        all =
            all_go (number 2) 2 (number_goes 2 (omega arith)) 1 set.glyphs next
            (subst (λ n. StandAt (number 2) a n set.glyphs next) first.2 h.identifiers) long

    -- The format of ranges is how many bytes tell how many more glyphs they cover.
    module _ {A : Type 0} (make : ℕ → ℕ → A) (size : ℕ) (some : 0 < size) (glyphs_of : A → ℕ)
        (counts : (first left : ℕ) → glyphs_of (make first left) ≡ left + 1) where
      covers_again : (set : Covered A) (next : ℕ) → CoversGlyphs size glyphs_of (range make size) a p glyphs set next →
          (behind : ℕ) × CoversGlyphs size glyphs_of (range make size) b q glyphs set behind
      covers_again set next h = (
        all.0,
        record {
          same =
              h.same;
          behind = q + 1;
          byte = format_goes size h.behind h.byte (omega (arith, long));
          ranges = all.1;
          each = h.each;
        },
      )
        where
          first : (p + 1 ≤ length a) × (size ≡ number_at a p 1) × (h.behind ≡ p + 1)
          first = number_got 1 a p size h.behind (omega arith) h.byte

          stand : StandAt (range make size) a (p + 1) set.ranges next
          stand = subst (λ n. StandAt (range make size) a n set.ranges next) first.2 h.ranges

          by : CharSetEnds a glyphs p (p + length text) → 1 + length set.ranges * (2 + size) ≤ length text
          by (inl (format, is)) = absurd (omega (arith, first.1, format, some))
          by (inr (other, len, format, least, most, ranges, is)) =
              let same : other ≡ size = omega (arith, first.1, format) in
              let end = subst (λ n. RangesEnd (drop (p + 1) a) n (glyphs - 1) len) same ranges in
              let few = no_further make size some glyphs_of counts a (p + 1) glyphs len set.ranges next first.0 stand h.each end in
              omega (arith, few, is)

          long : 1 + length set.ranges * (2 + size) ≤ length text
          long = by ends

          all : (behind : ℕ) × StandAt (range make size) b (q + 1) set.ranges behind
          all = all_go (range make size) (2 + size) (range_goes make size some) 1 set.ranges next stand long

pub strict_moved : (bytes out text : List ℕ) (place to glyphs next : ℕ) (set : CharSet) → TextStands text bytes place →
    CharSetEnds bytes glyphs place (place + length text) → TextStands text out to → IsCharSet bytes place glyphs set next →
    (behind : ℕ) × IsCharSet out to glyphs set behind
strict_moved bytes out text place to glyphs next ISOAdobe from ends there is = absurd is
strict_moved bytes out text place to glyphs next Expert from ends there is = absurd is
strict_moved bytes out text place to glyphs next ExpertSubset from ends there is = absurd is
strict_moved bytes out text place to glyphs next (Format0 set) from ends there is =
    listed_again text bytes out place to from there glyphs ends set next is
strict_moved bytes out text place to glyphs next (Format1 set) from ends there is =
    covers_again text bytes out place to from there glyphs ends (λ first left. record { first = first; left = left }) 1
    (omega arith) glyphs_of_1
    (λ first left. refl) set next is
strict_moved bytes out text place to glyphs next (Format2 set) from ends there is =
    covers_again text bytes out place to from there glyphs ends (λ first left. record { first = first; left = left }) 2
    (omega arith) glyphs_of_2
    (λ first left. refl) set next is
