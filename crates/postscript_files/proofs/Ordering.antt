-- The order of the glyphs of a subset does not depend on the list of named glyphs that the code makes.
use Rattle.std.proofs.Common.{◌≡◌, refl, sym, ap, ◌∙◌, subst, inl, inr, ℕ, zero, suc, ◌+◌, ◌<◌, List, [], ◌∷◌, ◌++◌, Bool, true, false, get_or, arith, add-one}
use Rattle.std.specs.Prelude.{◌==◌, ◌||◌, ◌⊎◌, ◌↔◌, length, map, if◌then◌else◌, Result, Ok, Err, IfOk, Vec}
use Rattle.std.specs.List.{Contains, range_with_len}
use Rattle.std.specs.declared.alloc.Global.{Global}
use Rattle.std.proofs.lemmas.Bool.{cases_eq, cases_lt, eqb-true}
use Rattle.std.proofs.lemmas.List.FromFn.{length-range_with_len}
use Rattle.std.proofs.lemmas.List.Elements.{Contains-append_cases, Contains-append_left, Contains-append_right}
use Rattle.postscript_drawing.specs.Components.{glyphs_of as glyphs_in}
use Rattle.postscript_sfnt.specs.declared.character_map.CharacterMap.{CharacterMap}
use Rattle.postscript_sfnt_write.specs.declared.mapping.Mapping.{Mapping}
use Rattle.postscript_view.specs.Value.{view_shown}
use Rattle.postscript_view.specs.declared.font.FontView.{FontView}
use Rattle.postscript_write.specs.Components.{AreKept, IsOpened, IsReached, is_drawn_with, is_named}
use Rattle.postscript_write.specs.Drawings.{AreLikeKept, Likeness}
use Rattle.postscript_write.specs.Sources.{choice_by, is_kept, kept_of}
use Rattle.postscript_write.proofs.Drawings.{many-of}
use Rattle.postscript_write.proofs.Marks.{kept_more}
use Rattle.postscript_files.specs.Choices.{AreKeptPairs, IsKept, glyph_of, glyphs_of, named_of}
use Rattle.postscript_files.specs.Origins.{AreAllNamed, AreFew, AreOrigins, AreOriginsOf, HasGlyphs, IsOrigin}
use Rattle.postscript_files.specs.Renumbered.{ArePlaced, AreSpread}
use Rattle.postscript_files.specs.Sequences.{IsFirstIndex, IsNewNumber}
use Rattle.postscript_files.specs.declared.choice.Choice.{Choice}
use Rattle.postscript_files.specs.declared.error.Error.{Error}
use Rattle.postscript_files.specs.declared.face.Face.{Face}
use Rattle.postscript_files.proofs.Charting.{glyph-named, named-for}
use Rattle.postscript_files.proofs.Few.{kept-low}
use Rattle.postscript_files.proofs.Origins.{contains-kept, named-kept, own-number, source-there, zero-kept}
use Rattle.postscript_files.proofs.Same.{cut-like, one-closed, same-kept}
use Rattle.postscript_files.proofs.Spreading.{own-indices}

-- a chosen glyph, or that of a kept character, is named
for-named : (choice : Choice) (charmap : CharacterMap) (pairs : List Mapping) → AreKeptPairs choice charmap pairs → (glyph : ℕ) →
    Contains (glyphs_of choice) glyph ⊎ ((char : ℕ) × IsKept choice charmap char glyph) → Contains (named_of (glyphs_of choice) pairs) glyph
for-named choice charmap pairs kept glyph h = elim h [
  | inl chosen ↦ Contains-append_left (glyphs_of choice) (map glyph_of pairs) glyph chosen
  | inr of_char ↦
      let at = kept.all of_char.0 glyph of_char.1 in
      subst (λ g. Contains (named_of (glyphs_of choice) pairs) g) at.4 (glyph-named (glyphs_of choice) pairs at.0 at.1 at.2)
]

all-named : (choice : Choice) (face : Face) (pairs : List Mapping) (named : List ℕ) → AreKeptPairs choice face.map pairs →
    named ≡ named_of (glyphs_of choice) pairs → AreAllNamed choice face named
all-named choice face pairs named kept is = subst (AreAllNamed choice face) (sym is) (λ glyph. (
  named-for choice face.map pairs kept glyph,
  for-named choice face.map pairs kept glyph,
))

pub if-all-named : (r : Result (Vec ℕ Global) Error) (choice : Choice) (face : Face) (pairs all : List Mapping) →
    AreKeptPairs choice face.map pairs → all ≡ pairs → IfOk r (λ named. named.items ≡ named_of (glyphs_of choice) all) →
    IfOk r (λ named. AreAllNamed choice face named.items)
if-all-named (Ok named) choice face pairs all kept same is =
    all-named choice face pairs named.items kept (is ∙ ap (named_of (glyphs_of choice)) same)
if-all-named (Err e) choice face pairs all kept same is = tt

-- a kept glyph is .notdef or a named one
kept-named : (named : List ℕ) (glyph : ℕ) → is_kept named glyph ≡ true → (glyph ≡ 0) ⊎ Contains named glyph
kept-named [] glyph h = inl (eqb-true glyph 0 h)
kept-named (one ∷ named) glyph h = elim (cases_eq one glyph) [
  | inl same ↦ inr (0, omega arith, same)
  | inr other ↦ elim (kept-named named glyph (rest (one == glyph) (is_kept named glyph) (λ e. other (eqb-true one glyph e)) h)) [
    | inl none ↦ inl none
    | inr there ↦ inr (suc there.0, let w = there.1 in omega (arith, w), there.2)
  ]
]
  where
    rest : (a b : Bool) → (a ≡ true → ⊥) → (a || b) ≡ true → b ≡ true
    rest true b other h = absurd (other refl)
    rest false b other h = h

kept-moved : (xs ys : List ℕ) → ((glyph : ℕ) → Contains xs glyph → Contains ys glyph) → (glyph : ℕ) → is_kept xs glyph ≡ true →
    is_kept ys glyph ≡ true
kept-moved xs ys all glyph h = elim (kept-named xs glyph h) [
  | inl none ↦ ap (is_kept ys) none ∙ zero-kept ys
  | inr there ↦ named-kept ys glyph (all glyph there)
]

reached-by : (font : FontView) (xs ys : List ℕ) → ((glyph : ℕ) → Contains xs glyph → Contains ys glyph) → (glyph : ℕ) →
    IsReached font xs glyph → IsReached font ys glyph
reached-by font xs ys all _ (is_named glyph h) = is_named glyph (kept-moved xs ys all glyph h)
reached-by font xs ys all _ (is_drawn_with from glyph r c) = is_drawn_with from glyph (reached-by font xs ys all from r) c

-- the kept glyphs depend only on which glyphs are named
are-kept-by : (cff xs ys kept : List ℕ) → ((glyph : ℕ) → Contains xs glyph → Contains ys glyph) →
    ((glyph : ℕ) → Contains ys glyph → Contains xs glyph) → AreKept xs cff kept → AreKept ys cff kept
are-kept-by cff xs ys kept there back h = record {
  closed = h.closed;
  are = record {
    font = h.are.font;
    opened = h.are.opened;
    all = λ glyph. (
      λ k. reached-by h.are.font xs ys there glyph ((h.are.all glyph).0 k),
      λ r. (h.are.all glyph).1 (reached-by h.are.font ys xs back glyph r),
    );
  };
  all = h.all;
}

-- kept glyphs are those of each list of the kept characters
pub kept-for : (choice : Choice) (charmap : CharacterMap) (ps qs : List Mapping) (cff kept : List ℕ) → AreKeptPairs choice charmap ps →
    AreKeptPairs choice charmap qs → AreKept (named_of (glyphs_of choice) ps) cff kept → AreKept (named_of (glyphs_of choice) qs) cff kept
kept-for choice charmap ps qs cff kept a b h =
    are-kept-by cff (named_of (glyphs_of choice) ps) (named_of (glyphs_of choice) qs) kept
    (λ glyph h. for-named choice charmap qs b glyph (named-for choice charmap ps a glyph h))
    (λ glyph h. for-named choice charmap ps a glyph (named-for choice charmap qs b glyph h)) h

origins-for : (choice : Choice) (charmap : CharacterMap) (ps qs : List Mapping) (cff origins : List ℕ) (retain : Bool) →
    AreKeptPairs choice charmap ps → AreKeptPairs choice charmap qs → AreOrigins retain (named_of (glyphs_of choice) ps) cff origins →
    AreOrigins retain (named_of (glyphs_of choice) qs) cff origins
origins-for choice charmap ps qs cff origins true a b h = h
origins-for choice charmap ps qs cff origins false a b h = kept-for choice charmap ps qs cff origins a b h

-- there is one list of origins
pub one-order : (retain : Bool) (named cff xs ys : List ℕ) → AreOrigins retain named cff xs → AreOrigins retain named cff ys → xs ≡ ys
one-order true named cff xs ys a b =
    a.2 ∙ ap (range_with_len 0) (many-of cff a.0 (view_shown b.0) a.1 b.1.laid) ∙ sym b.2
one-order false named cff xs ys a b =
    a.all ∙ ap (kept_of a.closed) (many-of cff a.are.font (view_shown b.are.font) a.are.opened b.are.opened.laid)
    ∙ same-kept a.closed b.closed (one-closed cff named a.closed b.closed a.are b.are) (glyphs_in b.are.font) ∙ sym b.all

-- a glyph is placed at its new number
pub new-numbers : (retain : Bool) (named cff origins kept placed : List ℕ) → AreOrigins retain named cff origins → AreKept named cff kept →
    ArePlaced retain kept (length origins) placed → (glyph number : ℕ) →
    IsFirstIndex placed glyph number ↔ IsNewNumber retain kept glyph number
new-numbers true named cff origins kept placed are of_kept at =
    let e : length origins ≡ glyphs_in of_kept.are.font =
    ap length are.2 ∙ length-range_with_len 0 (glyphs_in are.0)
    ∙ many-of cff are.0 (view_shown of_kept.are.font) are.1 of_kept.are.opened.laid in
    own-indices kept placed (length origins) at
    (λ glyph h. let low = kept-low of_kept.closed (glyphs_in of_kept.are.font) glyph
    (subst (λ (xs : List ℕ). Contains xs glyph) of_kept.all h) in
    omega (arith, low, e))
    (λ some. subst (λ (xs : List ℕ). Contains xs 0) (sym of_kept.all)
    (contains-kept of_kept.closed (glyphs_in of_kept.are.font) 0 (omega (arith, some, e)) (zero-kept of_kept.closed)))
new-numbers false named cff origins kept placed are of_kept at = λ glyph number.
    subst (λ (xs : List ℕ). IsFirstIndex placed glyph number ↔ IsFirstIndex xs glyph number) at (λ h. h, λ h. h)

-- placed glyphs are few
pub few-placed : (retain : Bool) (named cff origins kept placed : List ℕ) → AreOrigins retain named cff origins → AreKept named cff kept →
    ArePlaced retain kept (length origins) placed → AreFew origins → AreFew placed
few-placed true named cff origins kept placed are of_kept at few =
    let m = at.many in
    let n = few.0 in (
      omega (arith, m, n),
      λ k less. elim (cases_lt 0 (get_or placed k 0)) [
        | inl some ↦ (let own = (at.only k some).0 in omega (arith, own, m, n, less))
        | inr zeros ↦ omega (arith, zeros)
      ],
    )
few-placed false named cff origins kept placed are of_kept at few =
    subst AreFew (one-order false named cff origins kept are of_kept ∙ sym at) few

-- as many glyphs are placed as there are new ones
pub placed-many : (retain : Bool) (named cff origins kept placed : List ℕ) → AreOrigins retain named cff origins → AreKept named cff kept →
    ArePlaced retain kept (length origins) placed → length placed ≡ length origins
placed-many true named cff origins kept placed are of_kept at = at.many
placed-many false named cff origins kept placed are of_kept at = ap length (at ∙ one-order false named cff kept origins of_kept are)

-- a kept glyph is placed at its new number
pub placed-at : (retain : Bool) (named cff origins kept placed : List ℕ) → AreOrigins retain named cff origins → AreKept named cff kept →
    ArePlaced retain kept (length origins) placed → (i glyph : ℕ) → Contains kept glyph → IsOrigin origins i glyph → IsOrigin placed i glyph
placed-at true named cff origins kept placed are of_kept at i glyph there h =
    let same : i ≡ glyph = own-number named cff origins i glyph are h in
    let m = at.many in
    let t = h.there in
    record {
      there = omega (arith, m, t);
      is = ap (λ n. get_or placed n 0) same ∙ at.each glyph (omega (arith, same, t)) there;
    }
placed-at false named cff origins kept placed are of_kept at i glyph there h =
    subst (λ (xs : List ℕ). IsOrigin xs i glyph) (one-order false named cff origins kept are of_kept ∙ sym at) h

-- .notdef is placed at the numbers of other glyphs
pub placed-empty : (kept placed : List ℕ) (count i : ℕ) → AreSpread kept count placed → i < count → (Contains kept i → ⊥) → IsOrigin placed i 0
placed-empty kept placed count i at less other =
    let m = at.many in
    record {
      there = omega (arith, m, less);
      is = elim (cases_lt 0 (get_or placed i 0)) [
        | inl some ↦ absurd (other (at.only i some).1)
        | inr zeros ↦ omega (arith, zeros)
      ];
    }

pub one-origins : (choice : Choice) (charmap : CharacterMap) (ps qs : List Mapping) (cff xs ys : List ℕ) → AreKeptPairs choice charmap ps →
    AreKeptPairs choice charmap qs → AreOrigins choice.retain_gids (named_of (glyphs_of choice) ps) cff xs →
    AreOrigins choice.retain_gids (named_of (glyphs_of choice) qs) cff ys → xs ≡ ys
one-origins choice charmap ps qs cff xs ys a b of-xs of-ys =
    one-order choice.retain_gids (named_of (glyphs_of choice) qs) cff xs ys
    (origins-for choice charmap ps qs cff xs choice.retain_gids a b of-xs) of-ys

last-at : (i n glyph : ℕ) → i < 1 → get_or (n ∷ []) i glyph ≡ glyph → n ≡ glyph
last-at zero n glyph within is = is
last-at (suc i) n glyph within is = absurd (omega (arith, within))

last-in : (b : Bool) (closed : List ℕ) (n glyph : ℕ) → is_kept closed n ≡ b → Contains (if b then n ∷ [] else []) glyph →
    is_kept closed glyph ≡ true
last-in true closed n glyph is h = ap (is_kept closed) (sym (last-at h.0 n glyph h.1 h.2)) ∙ is
last-in false closed n glyph is h = absurd (let w = h.1 in omega (arith, w))

kept-in : (closed : List ℕ) (n glyph : ℕ) → Contains (kept_of closed n) glyph → is_kept closed glyph ≡ true
kept-in closed zero glyph h = absurd (let w = h.1 in omega (arith, w))
kept-in closed (suc n) glyph h =
    let more : Contains (kept_of closed (n + 1)) glyph = subst (λ m. Contains (kept_of closed m) glyph) (sym (add-one n)) h in
    let parts : Contains (kept_of closed n ++ (if is_kept closed n then n ∷ [] else [])) glyph =
    subst (λ (xs : List ℕ). Contains xs glyph) (kept_more closed n) more in
    elim (Contains-append_cases (kept_of closed n) (if is_kept closed n then n ∷ [] else []) glyph parts) [
      | inl before ↦ kept-in closed n glyph before
      | inr last ↦ last-in (is_kept closed n) closed n glyph refl last
    ]

-- the new glyph of a kept glyph is like it
pub kept-like : (IsLike : Likeness) (retain : Bool) (named cff flat origins kept : List ℕ) → AreOrigins retain named cff origins →
    AreLikeKept IsLike (choice_by retain) named cff flat → AreKept named cff kept → (i glyph : ℕ) → Contains kept glyph →
    IsOrigin origins i glyph → (was is : FontView) → IsOpened cff was → IsOpened flat is → IsLike was is glyph i
kept-like IsLike false named cff flat origins kept are like all i glyph there origin was is opened new =
    cut-like IsLike named cff flat origins are like i glyph origin was is opened new
kept-like IsLike true named cff flat origins kept are like all i glyph there origin was is opened new =
    let closed : is_kept all.closed glyph ≡ true =
    kept-in all.closed (glyphs_in all.are.font) glyph (subst (λ (xs : List ℕ). Contains xs glyph) all.all there) in
    like.2 was is glyph i opened new
    (source-there named cff flat origins like.0 was i glyph are opened
    (sym (one-closed cff named all.closed like.0 all.are like.1 glyph) ∙ closed) origin)

kept-alike : (a b : Choice) (charmap : CharacterMap) (char glyph : ℕ) → b.chars.now ≡ a.chars.now → b.glyphs.now ≡ a.glyphs.now →
    IsKept a charmap char glyph → IsKept b charmap char glyph
kept-alike a b charmap char glyph chars glyphs h = record {
  has = h.has;
  asked = elim h.asked [
    | inl asked ↦ inl (subst (λ (xs : List ℕ). Contains xs char) (sym chars) asked)
    | inr asked ↦ inr (subst (λ (xs : List ℕ). Contains xs glyph) (sym glyphs) asked)
  ];
}

pairs-alike : (a b : Choice) (charmap : CharacterMap) (pairs : List Mapping) → b.chars.now ≡ a.chars.now → b.glyphs.now ≡ a.glyphs.now →
    AreKeptPairs a charmap pairs → AreKeptPairs b charmap pairs
pairs-alike a b charmap pairs chars glyphs h = record {
  rise = h.rise;
  each = λ i pair is. kept-alike a b charmap pair.char pair.glyph chars glyphs (h.each i pair is);
  all = λ char glyph kept. h.all char glyph (kept-alike b a charmap char glyph (sym chars) (sym glyphs) kept);
}

-- the origins do not depend on the tables of a choice
pub origins-alike : (a b : Choice) (face : Face) (origins : List ℕ) → b.chars.now ≡ a.chars.now → b.glyphs.now ≡ a.glyphs.now →
    b.unmapped.now ≡ a.unmapped.now → b.retain_gids ≡ a.retain_gids → AreOriginsOf a face origins → AreOriginsOf b face origins
origins-alike a b face origins chars glyphs unmapped retain h =
    let same : glyphs_of b ≡ glyphs_of a =
    ap (λ xs. xs ++ b.unmapped.now) glyphs ∙ ap (λ ys. a.glyphs.now ++ ys) unmapped in (
      h.0,
      pairs-alike a b face.map h.0 chars glyphs h.1,
      subst (λ (r : Bool). AreOrigins r (named_of (glyphs_of b) h.0) face.cff.now origins) (sym retain)
          (subst (λ (xs : List ℕ). AreOrigins a.retain_gids (named_of xs h.0) face.cff.now origins) (sym same) h.2),
    )

-- a further glyph that the face has is the origin of a new one
pub unmapped-there : (choice : Choice) (face : Face) (origins : List ℕ) (count : ℕ) → choice.retain_gids ≡ false → HasGlyphs face count →
    AreOriginsOf choice face origins → (glyph : ℕ) → Contains choice.unmapped.now glyph → glyph < count → Contains origins glyph
unmapped-there choice face origins count anew counted h glyph there less =
    let k : AreKept (named_of (glyphs_of choice) h.0) face.cff.now origins =
    subst (λ (r : Bool). AreOrigins r (named_of (glyphs_of choice) h.0) face.cff.now origins) anew h.2 in
    let same = many-of face.cff.now k.are.font (view_shown counted.0) k.are.opened counted.1.laid in
    let many = counted.2 in
    let within : glyph < glyphs_in k.are.font = omega (arith, same, many, less) in
    let named : Contains (named_of (glyphs_of choice) h.0) glyph =
    Contains-append_left (glyphs_of choice) (map glyph_of h.0) glyph
    (Contains-append_right choice.glyphs.now choice.unmapped.now glyph there) in
    let kept : is_kept k.closed glyph ≡ true =
    (k.are.all glyph).1 (is_named glyph (named-kept (named_of (glyphs_of choice) h.0) glyph named)) in
    subst (λ (xs : List ℕ). Contains xs glyph) (sym k.all) (contains-kept k.closed (glyphs_in k.are.font) glyph within kept)
