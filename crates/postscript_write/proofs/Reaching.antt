-- Glyphs that are reached one after another.
use Rattle.std.proofs.Common.{◌≡◌, refl, sym, ap, subst, ◌∙◌, inl, inr, ℕ, zero, suc, ◌+◌, ◌<◌, ◌≤◌, List, [], ◌∷◌, ◌++◌, append_assoc, length, get_or, arith, Bool, true, false, slice_set}
use Rattle.std.specs.Prelude.{◌⊎◌, ◌↔◌, ◌==◌, ◌≢◌, OnOk, Result, Ok, Err}
use Rattle.std.specs.List.{Contains}
use Rattle.std.proofs.lemmas.Bool.{eqb-true, eq-eqb}
use Rattle.std.proofs.lemmas.List.{append-nil, get_or-set_same, get_or-set_other, get_or_append_left, get_or_default, get_or_past, length-append}
use Rattle.std.proofs.lemmas.List.Quantifiers.{all_pairs_push}
use Rattle.std.proofs.lemmas.List.Elements.{Contains-append_left, Contains-append_right, Contains-append_cases, Contains-get_or, Contains-push, Contains-push_cases}
use Rattle.postscript_drawing.specs.Components.{glyphs_of}
use Rattle.postscript_view.specs.declared.font.FontView.{FontView}
use Rattle.postscript_write.specs.Closure.{AreMarkedAs, AreReached, Grow, unmarked_in}
use Rattle.postscript_write.specs.Components.{AreComponentsOf, IsComponentOf, IsReached, is_named, is_drawn_with}
use Rattle.postscript_write.specs.Components.{IsUntold}
use Rattle.postscript_write.specs.Costs.{AreDistinct}
use Rattle.postscript_write.specs.Sources.{AreThere, is_kept}
use Rattle.postscript_write.specs.Steps.{IsNotChosen}
use Rattle.postscript_write.specs.declared.error.Error.{Error}
use Rattle.postscript_write.specs.declared.error.Error.TheVariants.{Refused, Glyph, SeveralFonts, MissingGlyph, MissingPart, MissingName, LongGlyph, NoGlyphs, TooLarge, TooLong}
use Rattle.postscript_write.proofs.Accented.{component-there, or-left, or-right, or-split}
use Rattle.postscript_write.proofs.Marks.{apart, set_more}
use Rattle.postscript_write.proofs.Places.{nat_cases}

-- what is kept of a list: what it holds, and .notdef
in-list : (xs : List ℕ) (k glyph : ℕ) → k < length xs → get_or xs k glyph ≡ glyph → is_kept xs glyph ≡ true
in-list [] k glyph less same = absurd (omega (arith, less))
in-list (x ∷ xs) zero glyph less same = or-left (x == glyph) (is_kept xs glyph) (eq-eqb x glyph same)
in-list (x ∷ xs) (suc k) glyph less same = or-right (x == glyph) (is_kept xs glyph) (in-list xs k glyph (omega (arith, less)) same)

pub kept-in : (xs : List ℕ) (glyph : ℕ) → Contains xs glyph → is_kept xs glyph ≡ true
kept-in xs glyph h = in-list xs h.0 glyph h.1 h.2

pub kept-notdef : (xs : List ℕ) → is_kept xs 0 ≡ true
kept-notdef [] = refl
kept-notdef (x ∷ xs) = or-right (x == 0) (is_kept xs 0) (kept-notdef xs)

pub kept-cases : (xs : List ℕ) (glyph : ℕ) → is_kept xs glyph ≡ true → Contains xs glyph ⊎ (glyph ≡ 0)
kept-cases [] glyph h = inr (eqb-true glyph 0 h)
kept-cases (x ∷ xs) glyph h = elim (or-split (x == glyph) (is_kept xs glyph) h) [
  | inl a ↦ inl (0, omega arith, eqb-true x glyph a)
  | inr b ↦ elim (kept-cases xs glyph b) [
    | inl c ↦ inl (Contains-append_right (x ∷ []) xs glyph c)
    | inr d ↦ inr d
  ]
]

only : (one glyph : ℕ) → Contains (one ∷ []) glyph → one ≡ glyph
only one glyph h = elim (Contains-push_cases [] one glyph h) [
  | inl a ↦ (let less = a.1 in absurd (omega (arith, less)))
  | inr same ↦ same
]

-- a mark more
unmarked-set : (marks : List Bool) (glyph : ℕ) → glyph < length marks → get_or marks glyph false ≡ false →
    unmarked_in (slice_set marks glyph true) + 1 ≡ unmarked_in marks
unmarked-set [] glyph less off = absurd (omega (arith, less))
unmarked-set (true ∷ marks) zero less off = let never : true ≡ false = off in absurd (cc)
unmarked-set (false ∷ marks) zero less off = refl
unmarked-set (true ∷ marks) (suc glyph) less off = unmarked-set marks glyph (omega (arith, less)) off
unmarked-set (false ∷ marks) (suc glyph) less off = ap (λ n. n + 1) (unmarked-set marks glyph (omega (arith, less)) off)

still-set : (marks : List Bool) (i glyph : ℕ) (b : Bool) → (i == glyph) ≡ b → i < length marks → get_or marks glyph false ≡ true →
    get_or (slice_set marks i true) glyph false ≡ true
still-set marks i glyph true e less set =
    ap (λ k. get_or (slice_set marks i true) k false) (sym (eqb-true i glyph e)) ∙ get_or-set_same marks i true false less
still-set marks i glyph false e less set = get_or-set_other marks i glyph true false (apart i glyph e) ∙ set

pub grow-none : (marks : List Bool) (glyphs : List ℕ) → AreMarkedAs marks glyphs → Grow marks glyphs [] marks glyphs
grow-none marks glyphs marked = record {
  many = refl;
  marked = marked;
  more = [];
  front = sym (append-nil glyphs);
  all = λ glyph. (
    λ h. inl h,
    λ h. elim h [
      | inl a ↦ a
      | inr b ↦ (let less = b.1 in absurd (omega (arith, less)))
    ],
  );
  spent = refl;
  distinct = λ h. h;
}

pub grow-marked : (marks : List Bool) (glyphs : List ℕ) (one : ℕ) → get_or marks one false ≡ true → AreMarkedAs marks glyphs →
    Grow marks glyphs (one ∷ []) marks glyphs
grow-marked marks glyphs one set marked = record {
  many = refl;
  marked = marked;
  more = [];
  front = sym (append-nil glyphs);
  all = λ glyph. (
    λ h. inl h,
    λ h. elim h [
      | inl a ↦ a
      | inr b ↦ subst (λ g. Contains glyphs g) (only one glyph b) ((marked one).0 set)
    ],
  );
  spent = refl;
  distinct = λ h. h;
}

pub grow-one : (marks : List Bool) (glyphs : List ℕ) (one : ℕ) → one < length marks → get_or marks one false ≡ false →
    length (slice_set marks one true) ≡ length marks → AreMarkedAs marks glyphs →
    Grow marks glyphs (one ∷ []) (slice_set marks one true) (glyphs ++ one ∷ [])
grow-one marks glyphs one less off many marked = record {
  many = many;
  marked = λ glyph. (
    λ set. elim (set_more marks one glyph (one == glyph) refl set) [
      | inl same ↦ subst (λ g. Contains (glyphs ++ one ∷ []) g) same (Contains-push glyphs one)
      | inr old ↦ Contains-append_left glyphs (one ∷ []) glyph ((marked glyph).0 old)
    ],
    λ has. elim (Contains-push_cases glyphs one glyph has) [
      | inl old ↦ still-set marks one glyph (one == glyph) refl less ((marked glyph).1 old)
      | inr same ↦ ap (λ k. get_or (slice_set marks one true) k false) (sym same) ∙ get_or-set_same marks one true false less
    ],
  );
  more = one ∷ [];
  front = refl;
  all = λ glyph. (
    λ h. Contains-append_cases glyphs (one ∷ []) glyph h,
    λ h. elim h [
      | inl a ↦ Contains-append_left glyphs (one ∷ []) glyph a
      | inr b ↦ Contains-append_right glyphs (one ∷ []) glyph b
    ],
  );
  spent = (let set = unmarked-set marks one less off in omega (arith, set, length-append glyphs (one ∷ [])));
  distinct = λ before. all_pairs_push (λ (x y : ℕ). x ≢ y) glyphs one before (λ k d there same.
      let set = (marked one).1 (k, there, get_or_default glyphs k one d there ∙ same) in
      let never : true ≡ false = sym set ∙ off in absurd (cc));
}

pub grow-then : (a b c : List Bool) (xs ys zs added more : List ℕ) → Grow a xs added b ys → Grow b ys more c zs →
    Grow a xs (added ++ more) c zs
grow-then a b c xs ys zs added more x y = record {
  many = y.many ∙ x.many;
  marked = y.marked;
  more = x.more ++ y.more;
  front = y.front ∙ ap (λ s. s ++ y.more) x.front ∙ append_assoc xs x.more y.more;
  all = λ glyph. (
    λ h. elim ((y.all glyph).0 h) [
      | inl old ↦ elim ((x.all glyph).0 old) [
        | inl first ↦ inl first
        | inr second ↦ inr (Contains-append_left added more glyph second)
      ]
      | inr new ↦ inr (Contains-append_right added more glyph new)
    ],
    λ h. elim h [
      | inl first ↦ (y.all glyph).1 (inl ((x.all glyph).1 (inl first)))
      | inr others ↦ elim (Contains-append_cases added more glyph others) [
        | inl second ↦ (y.all glyph).1 (inl ((x.all glyph).1 (inr second)))
        | inr new ↦ (y.all glyph).1 (inr new)
      ]
    ],
  );
  spent = y.spent ∙ x.spent;
  distinct = λ before. y.distinct (x.distinct before);
}

-- the named glyphs and .notdef, from an empty list on
pub grow-named : (a b c : List Bool) (xs ys zs named : List ℕ) → xs ≡ [] → Grow a xs named b ys → Grow b ys (0 ∷ []) c zs →
    Grow a [] (named ++ 0 ∷ []) c zs
grow-named a b c xs ys zs named none first last =
    grow-then a b c [] ys zs named (0 ∷ []) (subst (λ (xs : List ℕ). Grow a xs named b ys) none first) last

pub none-distinct : AreDistinct []
none-distinct i j d lt within = absurd (omega (arith, within))

-- Glyphs that are followed so far: to each one before this place its components were added.
pub record Follows (font : FontView) (start : List ℕ) (marks : List Bool) (glyphs : List ℕ) (next : ℕ) : Type 0 where
  pub many : length marks ≡ glyphs_of font
  pub marked : AreMarkedAs marks glyphs
  pub holds : (glyph : ℕ) → Contains start glyph → Contains glyphs glyph
  pub least : (glyph : ℕ) → Contains glyphs glyph → IsReached font start glyph
  pub done : (k one : ℕ) → k < next → IsComponentOf font (get_or glyphs k 0) one → Contains glyphs one

pub follows-none : (font : FontView) (marks : List Bool) (glyphs : List ℕ) → length marks ≡ glyphs_of font → AreMarkedAs marks glyphs →
    Follows font glyphs marks glyphs 0
follows-none font marks glyphs many marked = record {
  many = many;
  marked = marked;
  holds = λ glyph h. h;
  least = λ glyph h. is_named glyph (kept-in glyphs glyph h);
  done = λ k one less. absurd (omega (arith, less));
}

pub follows-more : (font : FontView) (start : List ℕ) (marks more : List Bool) (glyphs others added : List ℕ) (next : ℕ) →
    Follows font start marks glyphs next → next < length glyphs →
    AreComponentsOf font (get_or glyphs next 0) added → Grow marks glyphs added more others → Follows font start more others (next + 1)
follows-more font start marks more glyphs others added next f less are g = record {
  many = g.many ∙ f.many;
  marked = g.marked;
  holds = λ glyph h. (g.all glyph).1 (inl (f.holds glyph h));
  least = λ glyph h. elim ((g.all glyph).0 h) [
    | inl old ↦ f.least glyph old
    | inr new ↦ is_drawn_with (get_or glyphs next 0) glyph (f.least (get_or glyphs next 0) (Contains-get_or glyphs next 0 less))
        ((are glyph).0 new)
  ];
  done = λ k one before is. elim (nat_cases k next) [
    | inl old ↦ (g.all one).1 (inl (f.done k one old (subst (λ from. IsComponentOf font from one) (still k (omega (arith, old, less))) is)))
    | inr far ↦ (let same : k ≡ next = omega (arith, before, far) in
        (g.all one).1 (inr ((are one).1
        (subst (λ j. IsComponentOf font (get_or glyphs j 0) one) same
        (subst (λ from. IsComponentOf font from one) (still k (omega (arith, before, less))) is)))))
  ];
}
  where
    still : (k : ℕ) → k < length glyphs → get_or others k 0 ≡ get_or glyphs k 0
    still k within = ap (λ xs. get_or xs k 0) g.front ∙ get_or_append_left glyphs g.more 0 k within

-- Where all are followed, these are the glyphs that are reached.
pub follows-all : (font : FontView) (start : List ℕ) (marks : List Bool) (glyphs : List ℕ) (next : ℕ) →
    Follows font start marks glyphs next → length glyphs ≤ next → Contains start 0 → AreReached font start glyphs
follows-all font start marks glyphs next f past notdef glyph = (f.least glyph, reached glyph)
  where
    reached : (g : ℕ) → IsReached font start g → Contains glyphs g
    reached _ (is_named g h) = f.holds g (elim (kept-cases start g h) [
      | inl has ↦ has
      | inr none ↦ subst (λ g. Contains start g) (sym none) notdef
    ])
    reached _ (is_drawn_with from g r is) =
        let has = reached from r in
        let less = has.1 in
        let same : get_or glyphs has.0 0 ≡ from = get_or_default glyphs has.0 0 from has.1 ∙ has.2 in
        f.done has.0 g (omega (arith, less, past)) (subst (λ one. IsComponentOf font one g) (sym same) is)

pub marked-there : (marks : List Bool) (glyphs : List ℕ) (n : ℕ) → length marks ≡ n → AreMarkedAs marks glyphs → AreThere glyphs n
marked-there marks glyphs n many marked k less =
    let set : get_or marks (get_or glyphs k 0) false ≡ true = (marked (get_or glyphs k 0)).1 (Contains-get_or glyphs k 0 less) in
    let past : n ≤ get_or glyphs k
    0 → ⊥ = λ far. (let off : get_or marks (get_or glyphs k 0) false ≡ false = get_or_past marks (get_or glyphs k 0) false
    (omega (arith, many, far)) in let never : true ≡ false = sym set ∙ off in absurd (cc)) in
    omega (arith, past)

-- what is reached from others is reached from those that these hold
reached-from : (font : FontView) (start named : List ℕ) → ((glyph : ℕ) → is_kept start glyph ≡ true → is_kept named glyph ≡ true) →
    (glyph : ℕ) → IsReached font start glyph → IsReached font named glyph
reached-from font start named holds _ (is_named glyph h) = is_named glyph (holds glyph h)
reached-from font start named holds _ (is_drawn_with from glyph r is) =
    is_drawn_with from glyph (reached-from font start named holds from r) is

-- What is reached from the named ones and .notdef is what is reached from the named ones.
pub reached-same : (font : FontView) (a b : List Bool) (start named : List ℕ) → Grow a [] (named ++ 0 ∷ []) b start → (glyph : ℕ) →
    IsReached font start glyph ↔ IsReached font named glyph
reached-same font a b start named grown glyph = (reached-from font start named starts glyph, reached-from font named start begins glyph)
  where
    starts : (g : ℕ) → is_kept start g ≡ true → is_kept named g ≡ true
    starts g h = elim (kept-cases start g h) [
      | inl has ↦ elim ((grown.all g).0 has) [
        | inl never ↦ (let less = never.1 in absurd (omega (arith, less)))
        | inr one ↦ elim (Contains-push_cases named 0 g one) [
          | inl is ↦ kept-in named g is
          | inr none ↦ subst (λ g. is_kept named g ≡ true) none (kept-notdef named)
        ]
      ]
      | inr none ↦ subst (λ g. is_kept named g ≡ true) (sym none) (kept-notdef named)
    ]

    begins : (g : ℕ) → is_kept named g ≡ true → is_kept start g ≡ true
    begins g h = elim (kept-cases named g h) [
      | inl has ↦ kept-in start g ((grown.all g).1 (inr (Contains-append_left named (0 ∷ []) g has)))
      | inr none ↦ subst (λ g. is_kept start g ≡ true) (sym none) (kept-notdef start)
    ]

-- the glyphs of the list are the ones that are reached
pub contains-of : (font : FontView) (a b : List Bool) (start named closed : List ℕ) → Grow a [] (named ++ 0 ∷ []) b start →
    AreReached font start closed → (glyph : ℕ) → Contains closed glyph ↔ IsReached font named glyph
contains-of font a b start named closed grown reached glyph =
    let same = reached-same font a b start named grown glyph in
    (λ has. same.0 ((reached glyph).0 has), λ is. (reached glyph).1 (same.1 is))

pub closed-of : (font : FontView) (a b : List Bool) (start named closed : List ℕ) → Grow a [] (named ++ 0 ∷ []) b start →
    AreReached font start closed →
    (glyph : ℕ) → (is_kept closed glyph ≡ true) ↔ IsReached font named glyph
closed-of font a b start named closed grown reached glyph =
    let all = contains-of font a b start named closed grown reached in (
      λ kept. elim (kept-cases closed glyph kept) [
        | inl has ↦ (all glyph).0 has
        | inr none ↦ subst (λ g. IsReached font named g) (sym none) (is_named 0 (kept-notdef named))
      ],
      λ is. kept-in closed glyph ((all glyph).1 is),
    )

-- the components of a glyph are there
pub untold-of : (font : FontView) (from : ℕ) (added : List ℕ) (e : Error) → AreComponentsOf font from added →
    IsNotChosen added (glyphs_of font) e → IsUntold font e
untold-of font from added (Refused cause) are h = λ n. absurd (n h)
untold-of font from added (MissingGlyph glyph) are h =
    let has = (are glyph).0 (h.place, h.there, get_or_default added h.place glyph 0 h.there ∙ h.is) in
    let less = component-there font from glyph has in
    let far = h.past in
    absurd (omega (arith, less, far))
untold-of font from added (Glyph glyph cause) are h = absurd h
untold-of font from added SeveralFonts are h = absurd h
untold-of font from added (MissingPart glyph) are h = absurd h
untold-of font from added (LongGlyph glyph) are h = absurd h
untold-of font from added (MissingName glyph) are h = absurd h
untold-of font from added NoGlyphs are h = absurd h
untold-of font from added TooLarge are h = absurd h
untold-of font from added TooLong are h = absurd h

pub on_ok : {E : Type 0} {P Q : Type 0} (r : Result (Unit {0}) E) → (P → Q) → OnOk r P → OnOk r Q
on_ok (Ok done) f h = f h
on_ok (Err e) f h = tt
