-- Glyphs that substitutions make.
use Rattle.std.proofs.Common.{◌≡◌, sym, ap, ◌∙◌, subst, inl, inr, ℕ, zero, suc, ◌<◌, List, [], ◌∷◌, ◌++◌, Bool, true, false, length, get_or, arith}
use Rattle.std.specs.Prelude.{if◌then◌else◌, nat_lt}
use Rattle.std.specs.List.{All, Contains}
use Rattle.std.proofs.lemmas.Bool.{lt-ltb}
use Rattle.std.proofs.lemmas.List.Elements.{All-contains, All-weaker, Contains-append_left, Contains-append_right}
use Rattle.postscript_layout.proofs.Stays.{stays as steps-stay}
use Rattle.postscript_layout_write.specs.Texts.{MayBecome}
use Rattle.postscript_layout_write.proofs.Calling.{stays}
use Rattle.postscript_files.specs.Origins.{AreAllNamed, AreOriginsOf}
use Rattle.postscript_files.specs.Choices.{glyphs_of}
use Rattle.postscript_files.specs.Subsets.{HasSame, IsSame, IsSubsetFile, KeepsNumber}
use Rattle.postscript_files.specs.declared.choice.Choice.{Choice}
use Rattle.postscript_files.specs.declared.face.Face.{Face}
use Rattle.postscript_files.proofs.Ordering.{unmapped-there}
use Rattle.postscript_subset.specs.Closing.{IsClosingError, IsOfText, below, with_notdef}
use Rattle.postscript_subset.specs.Refusals.{IsWide}
use Rattle.postscript_subset.specs.Subsets.{IsBy, TextStaysIn, TextStaysSame}
use Rattle.postscript_subset.specs.declared.error.Error.{Error}
use Rattle.postscript_subset.specs.declared.features.Features.{Features}

first-in : (b : Bool) (one glyph : ℕ) (rest : List ℕ) → b ≡ true → one ≡ glyph → Contains (if b then one ∷ rest else rest) glyph
first-in true one glyph rest is same = (0, omega arith, same)
first-in false one glyph rest is same = absurd (cc)

later-in : (b : Bool) (one glyph : ℕ) (rest : List ℕ) → Contains rest glyph → Contains (if b then one ∷ rest else rest) glyph
later-in true one glyph rest h = (suc h.0, let w = h.1 in omega (arith, w), h.2)
later-in false one glyph rest h = h

-- a glyph of the list that is below the number
below-at : (count : ℕ) (glyphs : List ℕ) (i glyph : ℕ) → i < length glyphs → get_or glyphs i glyph ≡ glyph → glyph < count →
    Contains (below count glyphs) glyph
below-at count [] i glyph within is less = absurd (omega (arith, within))
below-at count (one ∷ glyphs) zero glyph within is less =
    first-in (nat_lt one count) one glyph (below count glyphs) (ap (λ g. nat_lt g count) is ∙ lt-ltb glyph count less) is
below-at count (one ∷ glyphs) (suc i) glyph within is less =
    later-in (nat_lt one count) one glyph (below count glyphs) (below-at count glyphs i glyph (omega (arith, within)) is less)

below-there : (count : ℕ) (glyphs : List ℕ) (glyph : ℕ) → Contains glyphs glyph → glyph < count → Contains (below count glyphs) glyph
below-there count glyphs glyph h less = below-at count glyphs h.0 glyph h.1 h.2 less

named-there : (named : List ℕ) (glyph : ℕ) → Contains named glyph → Contains (with_notdef named) glyph
named-there [] glyph h = absurd (let w = h.1 in omega (arith, w))
named-there (one ∷ named) glyph h = Contains-append_left (one ∷ named) (0 ∷ []) glyph h

text-there : (choice : Choice) (old : Face) (named varied : List ℕ) → AreAllNamed choice old named → (glyph : ℕ) →
    IsOfText choice old varied glyph → Contains (named ++ varied) glyph
text-there choice old named varied are glyph h = elim h [
  | inl is ↦ Contains-append_left named varied glyph ((are glyph).1 is)
  | inr of_sequence ↦ Contains-append_right named varied glyph of_sequence
]

-- a text stays among the further glyphs of the choice
further : (choice : Choice) (features : Features) (old : Face) (tables : List (ℕ × List ℕ)) (by : Choice)
    (is : IsBy choice features old tables by) (first used had last : List ℕ) → All (IsOfText choice old is.made.are.varied) first →
    MayBecome is.made.gsub is.made.are.chosen first used had last → (glyph : ℕ) → Contains last glyph → glyph < is.made.count → Contains by.unmapped.now glyph
further choice features old tables by is first used had last named comes glyph there less =
    let closed : All (Contains is.made.closed) first = All-weaker (IsOfText choice old is.made.are.varied) (Contains is.made.closed)
    (λ g h. All-contains (Contains is.made.closed) (with_notdef (is.made.are.named ++ is.made.are.varied)) g is.made.are.reached.given_there
    (named-there (is.made.are.named ++ is.made.are.varied) g
    (text-there choice old is.made.are.named is.made.are.varied is.made.are.are g h))) first named in
    let stay : All (Contains is.made.closed) last = stays steps-stay is.made.gsub is.made.lookups is.made.closed is.made.are.chosen first used had last
    is.made.are.reached.whole is.made.are.reached.chosen_there closed comes in
    let here : Contains is.made.closed glyph = All-contains (Contains is.made.closed) last glyph stay there in
    let made : Contains is.further glyph =
    subst (λ (xs : List ℕ). Contains xs glyph) (sym is.made.kept) (below-there is.made.count is.made.closed glyph here less) in
    subst (λ (xs : List ℕ). Contains xs glyph) (sym is.widened.unmapped) (Contains-append_right choice.unmapped.now is.further glyph made)

same-number : (by : Choice) (old new : Face) (glyph i : ℕ) → by.retain_gids ≡ true → HasSame by old new glyph i → IsSame old new glyph glyph
same-number by old new glyph i retain h =
    let number : i ≡ glyph = subst (λ (r : Bool). KeepsNumber r glyph i) retain h.1 in
    subst (λ n. IsSame old new glyph n) number h.0

-- a text stays among glyphs that are the same in the new face
pub text-stays-same : (choice : Choice) (features : Features) (old : Face) (tables : List (ℕ × List ℕ)) (by : Choice) (file : List ℕ)
    (is : IsBy choice features old tables by) → by.retain_gids ≡ true → IsSubsetFile by old file →
    TextStaysSame choice old is.made.count is.made.are.varied is.made.gsub is.made.are.chosen file
text-stays-same choice features old tables by file is retain cut first used had last named comes glyph there less new read =
    let chosen : Contains (glyphs_of by) glyph =
    Contains-append_right by.glyphs.now by.unmapped.now glyph (further choice features old tables by is first used had last named comes glyph there less) in
    let h = (cut.is new read).glyphs glyph chosen in
    same-number by old new glyph h.0 retain h.1

-- a text stays among the new glyphs
pub text-stays : (choice : Choice) (features : Features) (old : Face) (tables : List (ℕ × List ℕ)) (by : Choice) (origins : List ℕ)
    (is : IsBy choice features old tables by) → by.retain_gids ≡ false → AreOriginsOf by old origins →
    TextStaysIn choice old is.made.count is.made.are.varied is.made.gsub is.made.are.chosen origins
text-stays choice features old tables by origins is anew are first used had last named comes glyph there less =
    unmapped-there by old origins is.made.count anew is.made.counted are glyph
    (further choice features old tables by is first used had last named comes glyph there less) less

-- a glyph above 65,535 is a named one
pub wide-named : (e : Error) (choice : Choice) (face : Face) (left : ℕ) (named glyphs : List ℕ) → AreAllNamed choice face named →
    glyphs ≡ named → IsWide glyphs e → IsClosingError choice face left e
wide-named e choice face left named glyphs are same h = elim h [
  | inl memory ↦ inl (inl memory)
  | inr large ↦ inr (
    large.0,
    large.1,
    (are large.0).0 (subst (λ (xs : List ℕ). Contains xs large.0) same large.2),
    large.3,
  )
]
