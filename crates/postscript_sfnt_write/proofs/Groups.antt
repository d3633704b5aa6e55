-- What groups of characters say.
use Rattle.std.proofs.Common.{◌≡◌, refl, sym, ap, subst, inl, inr, ℕ, zero, suc, ◌+◌, ◌≤◌, ◌<◌, ◌==◌, Bool, true, false, List, [], ◌∷◌, ◌++◌, length, drop, get_or, length-append, arith}
use Rattle.std.specs.Prelude.{◌⊎◌, Some, if◌then◌else◌}
use Rattle.std.proofs.lemmas.Bool.Decides.{nat_tests}
use Rattle.std.proofs.lemmas.List.{at_drop_more, at_drop_all}
use Rattle.postscript_sfnt_write.specs.Grouping.{IsGroup, end, goes_on, group_of, group_text, grouped, groups, groups_text, longer, row_number, row_text}
use Rattle.postscript_sfnt_write.specs.Numbers.{uint16}
use Rattle.postscript_sfnt_write.specs.declared.mapping.Row.{Row}
use Rattle.postscript_sfnt_write.specs.Mappings.{CharsRise, IsMapping}
use Rattle.postscript_sfnt_write.specs.declared.mapping.Group.{Group}
use Rattle.postscript_sfnt_write.specs.declared.mapping.Mapping.{Mapping}

-- what a loop still goes over
abbrev pub no_mapping : Mapping
no_mapping = record { char = 0; glyph = 0 }

abbrev pub no_group : Group
no_group = record { start = 0; end = 0; glyph = 0 }

pub grouped_done : (g : Group) (ms : List Mapping) (i : ℕ) → length ms ≤ i → grouped g (drop i ms) ≡ g ∷ []
unfolding grouped
grouped_done g ms i h = at_drop_all (grouped g) ms i h

pub rest_more : (g : Group) (ms : List Mapping) (i : ℕ) → i < length ms →
    grouped g (drop i ms) ≡ grouped g (get_or ms i no_mapping ∷ drop (i + 1) ms)
rest_more g ms i h = at_drop_more (grouped g) ms i no_mapping h

pub groups_more : (gs : List Group) (i : ℕ) → i < length gs →
    groups_text (drop i gs) ≡ group_text (get_or gs i no_group) ++ groups_text (drop (i + 1) gs)
unfolding groups_text
groups_more gs i h = at_drop_more groups_text gs i no_group h

pub groups_done : (gs : List Group) (i : ℕ) → length gs ≤ i → groups_text (drop i gs) ≡ []
unfolding groups_text
groups_done gs i h = at_drop_all groups_text gs i h

pub row_more : (row : Row) (gs : List Group) (i : ℕ) → i < length gs →
    row_text row (drop i gs) ≡ uint16 (row_number row (get_or gs i no_group)) ++ row_text row (drop (i + 1) gs)
unfolding row_text
row_more row gs i h = at_drop_more (row_text row) gs i no_group h

pub row_done : (row : Row) (gs : List Group) (i : ℕ) → length gs ≤ i → row_text row (drop i gs) ≡ []
unfolding row_text
row_done row gs i h = at_drop_all (row_text row) gs i h

pub mapping_is : (ms : List Mapping) (i : ℕ) (m d : Mapping) → IsMapping ms i m → get_or ms i d ≡ m
mapping_is [] i m d e = absurd (cc)
mapping_is (u ∷ us) zero m d e = cc
mapping_is (u ∷ us) (suc i) m d e = mapping_is us i m d e

pub mapping_below : (ms : List Mapping) (i : ℕ) (m : Mapping) → IsMapping ms i m → i < length ms
mapping_below [] i m e = absurd (cc)
mapping_below (u ∷ us) zero m e = omega arith
mapping_below (u ∷ us) (suc i) m e = let less = mapping_below us i m e in omega (arith, less)

pub group_is : (gs : List Group) (i : ℕ) (g d : Group) → IsGroup gs i g → get_or gs i d ≡ g
group_is [] i g d e = absurd (cc)
group_is (u ∷ us) zero g d e = cc
group_is (u ∷ us) (suc i) g d e = group_is us i g d e

pub group_below : (gs : List Group) (i : ℕ) (g : Group) → IsGroup gs i g → i < length gs
group_below [] i g e = absurd (cc)
group_below (u ∷ us) zero g e = omega arith
group_below (u ∷ us) (suc i) g e = let less = group_below us i g e in omega (arith, less)

pub group_at : (gs : List Group) (i : ℕ) → i < length gs → (g : Group) × IsGroup gs i g
group_at [] i h = absurd (omega arith)
group_at (g ∷ gs) zero h = (g, refl)
group_at (g ∷ gs) (suc i) h = group_at gs i (omega arith)

same_mapping : (u m : Mapping) → Some u ≡ Some m → u ≡ m
same_mapping u m e = cc

same_group : (u g : Group) → Some u ≡ Some g → u ≡ g
same_group u g e = cc

-- a group gives a character this glyph
pub record Gives (g : Group) (char glyph : ℕ) : Type 0 where
  pub from : g.start ≤ char
  pub to : char ≤ g.end
  pub is : glyph + g.start ≡ g.glyph + char

-- one of the groups does
pub record OneGives (gs : List Group) (char glyph : ℕ) : Type 0 where
  pub i : ℕ
  pub group : Group
  pub there : IsGroup gs i group
  pub gives : Gives group char glyph

later : (g : Group) (gs : List Group) (char glyph : ℕ) → OneGives gs char glyph → OneGives (g ∷ gs) char glyph
later g gs char glyph one = record { i = suc one.i; group = one.group; there = one.there; gives = one.gives }

-- the test
pub record GoesOn (g : Group) (m : Mapping) : Type 0 where
  pub next : m.char ≡ g.end + 1
  pub glyph : m.glyph + g.start ≡ g.glyph + m.char

pub goes : (g : Group) (m : Mapping) → goes_on g m ≡ true → GoesOn g m
goes g m e = record { next = grind (arith, nat_tests); glyph = grind (arith, nat_tests) }

longer-gives : (g : Group) (m : Mapping) (char glyph : ℕ) → goes_on g m ≡ true → Gives g char glyph → Gives (longer g m.char) char glyph
longer-gives g m char glyph e gives =
    let on = (goes g m e).next in let to = gives.to in record { from = gives.from; to = omega (arith, on, to); is = gives.is }

-- the two cases of one more character
pub cases : (g : Group) (m : Mapping) (ms : List Mapping) (P : List Group → Type 0) → (goes_on g m ≡ true → P (grouped (longer g m.char) ms)) →
    (goes_on g m ≡ false → P (g ∷ grouped (group_of m) ms)) → P (grouped g (m ∷ ms))
unfolding grouped
cases g m ms P on off = by (goes_on g m) refl
  where
    by : (b : Bool) → goes_on g m ≡ b → P (if goes_on g m then grouped (longer g m.char) ms else g ∷ grouped (group_of m) ms)
    by true e = subst (λ b. P (if b then grouped (longer g m.char) ms else g ∷ grouped (group_of m) ms)) (sym e) (on e)
    by false e = subst (λ b. P (if b then grouped (longer g m.char) ms else g ∷ grouped (group_of m) ms)) (sym e) (off e)

pub first_gives : (g : Group) (ms : List Mapping) (char glyph : ℕ) → Gives g char glyph → OneGives (grouped g ms) char glyph
unfolding grouped
first_gives g [] char glyph gives = record { i = 0; group = g; there = refl; gives = gives }
first_gives g (m ∷ ms) char glyph gives = cases g m ms (λ gs. OneGives gs char glyph)
    (λ e. first_gives (longer g m.char) ms char glyph (longer-gives g m char glyph e gives))
    (λ e. record { i = 0; group = g; there = refl; gives = gives })

pub own_gives : (m : Mapping) → Gives (group_of m) m.char m.glyph
own_gives m = record { from = omega arith; to = omega arith; is = refl }

longer_own : (g : Group) (m : Mapping) → g.start ≤ g.end → goes_on g m ≡ true → Gives (longer g m.char) m.char m.glyph
longer_own g m whole e =
    let next = (goes g m e).next in record { from = omega (arith, next, whole); to = omega arith; is = (goes g m e).glyph }

longer_whole : (g : Group) (m : Mapping) → g.start ≤ g.end → goes_on g m ≡ true → g.start ≤ m.char
longer_whole g m whole e = let next = (goes g m e).next in omega (arith, next, whole)

pub each_gives : (g : Group) (ms : List Mapping) (i : ℕ) (m : Mapping) → g.start ≤ g.end → IsMapping ms i m →
    OneGives (grouped g ms) m.char m.glyph
each_gives g [] i m whole e = absurd (cc)
each_gives g (u ∷ us) zero m whole e =
    subst (λ (x : Mapping). OneGives (grouped g (u ∷ us)) x.char x.glyph) (same_mapping u m e)
    (cases g u us (λ gs. OneGives gs u.char u.glyph)
    (λ f. first_gives (longer g u.char) us u.char u.glyph (longer_own g u whole f))
    (λ f. later g (grouped (group_of u) us) u.char u.glyph (first_gives (group_of u) us u.char u.glyph (own_gives u))))
each_gives g (u ∷ us) (suc i) m whole e =
    let same : u.char ≤ u.char = omega arith in
    cases g u us (λ gs. OneGives gs m.char m.glyph)
    (λ f. each_gives (longer g u.char) us i m (longer_whole g u whole f) e)
    (λ f. later g (grouped (group_of u) us) m.char m.glyph (each_gives (group_of u) us i m same e))

-- a mapping has the character and the glyph
pub record HasMapping (ms : List Mapping) (char glyph : ℕ) : Type 0 where
  pub i : ℕ
  pub mapping : Mapping
  pub there : IsMapping ms i mapping
  pub char_is : mapping.char ≡ char
  pub glyph_is : mapping.glyph ≡ glyph

behind : (m : Mapping) (ms : List Mapping) (char glyph : ℕ) → HasMapping ms char glyph → HasMapping (m ∷ ms) char glyph
behind m ms char glyph h = record { i = suc h.i; mapping = h.mapping; there = h.there; char_is = h.char_is; glyph_is = h.glyph_is }

-- what the longer group gives, the group or the character that it goes on with gives
shorter : (g : Group) (m : Mapping) (ms : List Mapping) (char glyph : ℕ) → goes_on g m ≡ true → Gives (longer g m.char) char glyph →
    Gives g char glyph ⊎ HasMapping (m ∷ ms) char glyph
shorter g m ms char glyph e gives = by (char == m.char) refl
  where
    by : (b : Bool) → (char == m.char) ≡ b → Gives g char glyph ⊎ HasMapping (m ∷ ms) char glyph
    by true f =
        let same : char ≡ m.char = grind (arith, nat_tests) in
        let own = (goes g m e).glyph in
        let is = gives.is in
        inr (record { i = 0; mapping = m; there = refl; char_is = sym same; glyph_is = omega (arith, own, is, same) })
    by false f =
        let other : char ≡ m.char → ⊥ = λ h. absurd (grind (arith, nat_tests)) in
        let next = (goes g m e).next in
        let to = gives.to in
        inl (record { from = gives.from; to = omega (arith, next, to, other); is = gives.is })

own_else : (g : Group) (m : Mapping) (ms : List Mapping) (char glyph : ℕ) → Gives (group_of m) char glyph →
    Gives g char glyph ⊎ HasMapping (m ∷ ms) char glyph
own_else g m ms char glyph here =
    let from = here.from in
    let to = here.to in
    let is = here.is in
    inr (record { i = 0; mapping = m; there = refl; char_is = omega (arith, from, to); glyph_is = omega (arith, from, to, is) })

-- in the first of groups, or in a later one
first_or : (g h : Group) (gs : List Group) (i : ℕ) (P : Type 0) → IsGroup (g ∷ gs) i h → (g ≡ h → P) →
    ((k : ℕ) → i ≡ suc k → IsGroup gs k h → P) → P
first_or g h gs zero P e first rest = first (same_group g h e)
first_or g h gs (suc i) P e first rest = rest i refl e

pub none_else : (g : Group) (ms : List Mapping) (i : ℕ) (h : Group) (char glyph : ℕ) → Gives h char glyph → IsGroup (grouped g ms) i h →
    Gives g char glyph ⊎ HasMapping ms char glyph
unfolding grouped
none_else g [] zero h char glyph gives e = inl (subst (λ (x : Group). Gives x char glyph) (sym (same_group g h e)) gives)
none_else g [] (suc i) h char glyph gives e = absurd (cc)
none_else g (m ∷ ms) i h char glyph gives e = cases g m ms (λ gs. IsGroup gs i h → Gives g char glyph ⊎ HasMapping (m ∷ ms) char glyph)
    (λ f there. elim (none_else (longer g m.char) ms i h char glyph gives there) [
      | inl own ↦ shorter g m ms char glyph f own
      | inr other ↦ inr (behind m ms char glyph other)
    ])
    (λ f there. first_or g h (grouped (group_of m) ms) i (Gives g char glyph ⊎ HasMapping (m ∷ ms) char glyph) there
    (λ same. inl (subst (λ (x : Group). Gives x char glyph) (sym same) gives))
    (λ k is later. elim (none_else (group_of m) ms k h char glyph gives later) [
      | inl own ↦ own_else g m ms char glyph own
      | inr other ↦ inr (behind m ms char glyph other)
    ]))
    e

-- Groups rise.
pub record IsBehind (start : ℕ) (h : Group) : Type 0 where
  pub whole : h.start ≤ h.end
  pub from : start ≤ h.start

abbrev Follow : Group → List Mapping → Type 0
Follow g ms = (k : ℕ) (m : Mapping) → IsMapping ms k m → g.end < m.char

rest_rise : (m : Mapping) (ms : List Mapping) → CharsRise (m ∷ ms) → CharsRise ms
rest_rise m ms rise i j a b less x y = rise (suc i) (suc j) a b (omega arith) x y

rest_follow : (m : Mapping) (ms : List Mapping) → CharsRise (m ∷ ms) → (k : ℕ) (n : Mapping) → IsMapping ms k n → m.char < n.char
rest_follow m ms rise k n e = rise 0 (suc k) m n (omega arith) refl e

pub all_behind : (g : Group) (ms : List Mapping) (i : ℕ) (h : Group) → g.start ≤ g.end → Follow g ms → CharsRise ms →
    IsGroup (grouped g ms) i h → IsBehind g.start h
unfolding grouped
all_behind g [] zero h whole follow rise e =
    subst (λ (x : Group). IsBehind g.start x) (same_group g h e) (record { whole = whole; from = omega arith })
all_behind g [] (suc i) h whole follow rise e = absurd (cc)
all_behind g (m ∷ ms) i h whole follow rise e =
    let far : g.end < m.char = follow 0 m refl in
    let same : m.char ≤ m.char = omega arith in
    let here : IsBehind g.start g = record { whole = whole; from = omega arith } in
    cases g m ms (λ gs. IsGroup gs i h → IsBehind g.start h)
    (λ f. all_behind (longer g m.char) ms i h (longer_whole g m whole f) (rest_follow m ms rise) (rest_rise m ms rise))
    (λ f there. first_or g h (grouped (group_of m) ms) i (IsBehind g.start h) there
    (λ is. subst (λ (x : Group). IsBehind g.start x) is here)
    (λ k at later.
    let it = all_behind (group_of m) ms k h same (rest_follow m ms rise) (rest_rise m ms rise) later in
    let from = it.from in
    record { whole = it.whole; from = omega (arith, from, far, whole) }))
    e

pub all_apart : (g : Group) (ms : List Mapping) (i j : ℕ) (a b : Group) → g.start ≤ g.end → Follow g ms → CharsRise ms → i < j →
    IsGroup (grouped g ms) i a → IsGroup (grouped g ms) j b → a.end < b.start
unfolding grouped
all_apart g [] i zero a b whole follow rise less x y = absurd (omega arith)
all_apart g [] i (suc j) a b whole follow rise less x y = absurd (cc)
all_apart g (m ∷ ms) i zero a b whole follow rise less x y = absurd (omega arith)
all_apart g (m ∷ ms) i (suc j) a b whole follow rise less x y =
    let far : g.end < m.char = follow 0 m refl in
    let same : m.char ≤ m.char = omega arith in
    cases g m ms (λ gs. IsGroup gs i a → IsGroup gs (suc j) b → a.end < b.start)
    (λ f. all_apart (longer g m.char) ms i (suc j) a b (longer_whole g m whole f) (rest_follow m ms rise) (rest_rise m ms rise) less)
    (λ f p q. first_or g a (grouped (group_of m) ms) i (a.end < b.start) p
    (λ is.
    let it = all_behind (group_of m) ms j b same (rest_follow m ms rise) (rest_rise m ms rise) q in
    let from = it.from in
    let end : g.end ≡ a.end = ap (λ (z : Group). z.end) is in
    omega (arith, from, far, end))
    (λ k at later. all_apart (group_of m) ms k j a b same (rest_follow m ms rise) (rest_rise m ms rise) (omega (arith, less, at)) later q))
    x y

-- all groups of characters that rise
pub record Say (gs : List Group) (ms : List Mapping) : Type 0 where
  pub all : (i : ℕ) (m : Mapping) → IsMapping ms i m → OneGives gs m.char m.glyph
  pub none : (i : ℕ) (g : Group) (char glyph : ℕ) → IsGroup gs i g → Gives g char glyph → HasMapping ms char glyph
  pub whole : (i : ℕ) (g : Group) → IsGroup gs i g → g.start ≤ g.end
  pub apart : (i j : ℕ) (a b : Group) → i < j → IsGroup gs i a → IsGroup gs j b → a.end < b.start

pub say : (ms : List Mapping) → CharsRise ms → Say (groups ms) ms
unfolding groups
say [] rise = record {
  all = λ i m e. absurd (cc);
  none = λ i g char glyph e gives. absurd (cc);
  whole = λ i g e. absurd (cc);
  apart = λ i j a b less x y. absurd (cc);
}
say (m ∷ ms) rise = record {
  all = each;
  none = λ i g char glyph e gives. only char glyph (none_else (group_of m) ms i g char glyph gives e);
  whole = λ i g e. (all_behind (group_of m) ms i g (omega arith) (rest_follow m ms rise) (rest_rise m ms rise) e).whole;
  apart = λ i j a b less x y. all_apart (group_of m) ms i j a b (omega arith) (rest_follow m ms rise) (rest_rise m ms rise) less x y;
}
  where
    each : (i : ℕ) (n : Mapping) → IsMapping (m ∷ ms) i n → OneGives (grouped (group_of m) ms) n.char n.glyph
    each zero n e =
        subst (λ (x : Mapping). OneGives (grouped (group_of m) ms) x.char x.glyph) (same_mapping m n e)
        (first_gives (group_of m) ms m.char m.glyph (own_gives m))
    each (suc i) n e = each_gives (group_of m) ms i n (omega arith) e

    only : (char glyph : ℕ) → Gives (group_of m) char glyph ⊎ HasMapping ms char glyph → HasMapping (m ∷ ms) char glyph
    only char glyph (inl here) =
        let from = here.from in
        let to = here.to in
        let is = here.is in
        record { i = 0; mapping = m; there = refl; char_is = omega (arith, from, to); glyph_is = omega (arith, from, to, is) }
    only char glyph (inr other) = behind m ms char glyph other

-- there are no more groups than characters
pub few : (g : Group) (ms : List Mapping) → length (grouped g ms) ≤ 1 + length ms
unfolding grouped
few g [] = omega arith
few g (m ∷ ms) = cases g m ms (λ gs. length gs ≤ 1 + length (m ∷ ms))
    (λ f. let less = few (longer g m.char) ms in omega (arith, less))
    (λ f. let less = few (group_of m) ms in omega (arith, less))

pub no_more : (ms : List Mapping) → length (groups ms) ≤ length ms
unfolding groups
no_more [] = omega arith
no_more (m ∷ ms) = let less = few (group_of m) ms in omega (arith, less)

grouped_some : (g : Group) (ms : List Mapping) → 0 < length (grouped g ms)
unfolding grouped
grouped_some g [] = omega arith
grouped_some g (m ∷ ms) = cases g m ms (λ gs. 0 < length gs) (λ f. grouped_some (longer g m.char) ms) (λ f. omega arith)

pub some_groups : (ms : List Mapping) → 0 < length (groups (ms ++ end ∷ []))
unfolding groups
some_groups [] = grouped_some (group_of end) []
some_groups (m ∷ ms) = grouped_some (group_of m) (ms ++ end ∷ [])

pub few_segments : (ms : List Mapping) → length (groups (ms ++ end ∷ [])) ≤ length ms + 1
few_segments ms = let less = no_more (ms ++ end ∷ []) in let e = length-append ms (end ∷ []) in omega (arith, less, e)
