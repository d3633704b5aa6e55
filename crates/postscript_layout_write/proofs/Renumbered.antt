-- New numbers of glyphs, and the rules of kept glyphs.
use Rattle.std.proofs.Common.{◌≡◌, refl, sym, ap, subst, ◌∙◌, ℕ, ◌+◌, ◌<◌, ◌==◌, List, [], ◌∷◌, ◌++◌, length, get_or, drop, arith, Bool, true, false}
use Rattle.std.specs.Prelude.{Option, None, Some, nat_eq, if◌then◌else◌}
use Rattle.std.specs.List.{All}
use Rattle.std.proofs.lemmas.List.{append_assoc, at_drop_more}
use Rattle.std.proofs.lemmas.List.Elements.{All-cons, All-nil, filter_map-append}
use Rattle.postscript_layout_write.specs.Renumbering.{joined, kept_rules, new_number, renumbered}
use Rattle.postscript_layout_write.proofs.Firsts.{Found, first-cases, none_found, some_found}

-- numbers before those of other glyphs
abbrev pub with_front : List ℕ → Option (List ℕ) → Option (List ℕ)
with_front front None = None
with_front front (Some numbers) = Some (front ++ numbers)

pub front-more : (front : List ℕ) (number : ℕ) (rest : Option (List ℕ)) → with_front front (joined (Some number) rest) ≡ with_front (front ++ number ∷ []) rest
front-more front number None = refl
front-more front number (Some numbers) = ap (λ xs. Some xs) (sym (append_assoc front (number ∷ []) numbers))

pub renumbered-more : (kept glyphs : List ℕ) (i : ℕ) (front : List ℕ) (number : ℕ) → i < length glyphs →
    renumbered kept glyphs ≡ with_front front (renumbered kept (drop i glyphs)) → new_number kept (get_or glyphs i 0) ≡ Some number →
    renumbered kept glyphs ≡ with_front (front ++ number ∷ []) (renumbered kept (drop (i + 1) glyphs))
renumbered-more kept glyphs i front number less before here =
    before ∙ ap (with_front front) (at_drop_more (renumbered kept) glyphs i 0 less)
    ∙ ap (λ n. with_front front (joined n (renumbered kept (drop (i + 1) glyphs)))) here
    ∙ front-more front number (renumbered kept (drop (i + 1) glyphs))

pub renumbered-none : (kept glyphs : List ℕ) (i : ℕ) (front : List ℕ) → i < length glyphs →
    renumbered kept glyphs ≡ with_front front (renumbered kept (drop i glyphs)) → new_number kept (get_or glyphs i 0) ≡ None →
    renumbered kept glyphs ≡ None
renumbered-none kept glyphs i front less before here =
    before ∙ ap (with_front front) (at_drop_more (renumbered kept) glyphs i 0 less)
    ∙ ap (λ n. with_front front (joined n (renumbered kept (drop (i + 1) glyphs)))) here

-- a new number is below the number of kept glyphs
same-number : (a b k n : ℕ) → (if a == b then Some k else None) ≡ Some n → k ≡ n
same-number a b k n is = by (nat_eq a b) is
  where
    by : (t : Bool) → (if t then Some k else None) ≡ Some n → k ≡ n
    by true h = cc
    by false h = absurd (cc)

pub number-small : (kept : List ℕ) (glyph number : ℕ) → new_number kept glyph ≡ Some number → number < length kept
number-small kept glyph number is = by (new_number kept glyph) (first-cases (λ k. if get_or kept k 0 == glyph then Some k else None) (length kept)) is
  where
    by : (x : Option ℕ) → Found (λ k. if get_or kept k 0 == glyph then Some k else None) (length kept) x → x ≡ Some number → number < length kept
    by _ (none_found none) e = absurd (cc)
    by _ (some_found i x less at) e =
        (let eq = same-number (get_or kept i 0) glyph i x at in let last : x ≡ number = cc in omega (arith, less, eq, last))

small-joined : (kept glyphs new : List ℕ) (g : ℕ) (n : Option ℕ) (r : Option (List ℕ)) → length kept < 65536 → new_number kept g ≡ n →
    ((ns : List ℕ) → r ≡ Some ns → (length ns ≡ length glyphs) × All (λ glyph. glyph < 65536) ns) → joined n r ≡ Some new →
    (length new ≡ length (g ∷ glyphs)) × All (λ glyph. glyph < 65536) new
small-joined kept glyphs new g None r few a rest e = absurd (cc)
small-joined kept glyphs new g (Some n) None few a rest e = absurd (cc)
small-joined kept glyphs new g (Some n) (Some ns) few a rest e =
    let same : n ∷ ns ≡ new = cc in
    let more = rest ns refl in
    let low = number-small kept g n a in
    let long = more.0 in
    subst (λ (xs : List ℕ). (length xs ≡ length (g ∷ glyphs)) × All (λ glyph. glyph < 65536) xs) same
    (omega (arith, long), All-cons (λ glyph. glyph < 65536) n ns (omega (arith, low, few)) more.1)

pub all-small : (kept glyphs new : List ℕ) → length kept < 65536 → renumbered kept glyphs ≡ Some new →
    (length new ≡ length glyphs) × All (λ glyph. glyph < 65536) new
all-small kept [] new few is = (let same : [] ≡ new = cc in
    subst (λ (xs : List ℕ). (length xs ≡ 0) × All (λ glyph. glyph < 65536) xs) same (refl, All-nil (λ glyph. glyph < 65536)))
all-small kept (g ∷ gs) new few is = small-joined kept gs new g (new_number kept g) (renumbered kept gs) few refl (λ ns e. all-small kept gs ns few e) is

pub kept-append : (kept : List ℕ) (a b : List (List ℕ)) → kept_rules kept (a ++ b) ≡ kept_rules kept a ++ kept_rules kept b
kept-append kept a b = filter_map-append (renumbered kept) a b
