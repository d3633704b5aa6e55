-- Glyphs are counted in two bytes, and characters of Unicode are few.
use Rattle.std.proofs.Common.{◌≡◌, sym, ap, ◌∙◌, subst, inl, inr, ℕ, zero, suc, ◌+◌, ◌<◌, ◌≤◌, List, [], ◌∷◌, Bool, true, false, length, take, drop, get_or, arith, add-one, length-append, length-drop}
use Rattle.std.specs.Prelude.{Result, Ok, Err, IfOk, Vec, if◌then◌else◌}
use Rattle.std.specs.declared.alloc.Global.{Global}
use Rattle.std.specs.List.{Contains}
use Rattle.std.proofs.lemmas.List.{length-take-le}
use Rattle.std.proofs.lemmas.List.Elements.{Contains-append_cases, Contains-get_or}
use Rattle.std.proofs.lemmas.List.FromFn.{get_or-range_with_len, length-map-range_with_len, length-range_with_len}
use Rattle.std.proofs.lemmas.Option.{slice_get-get_or}
use Rattle.postscript_base.proofs.NumbersAt.{of_two}
use Rattle.postscript_base.specs.Index.{IsOpened, count_at, item_at, items_at, number_at, size_at}
use Rattle.postscript_drawing.specs.Components.{glyphs_of}
use Rattle.postscript_sfnt.specs.declared.character_map.CharacterMap.{CharacterMap}
use Rattle.postscript_sfnt_write.specs.declared.mapping.Mapping.{Mapping}
use Rattle.postscript_view.specs.declared.font.FontView.{FontView}
use Rattle.postscript_write.specs.Components.{AreKept, IsOpened as IsOpenedFont}
use Rattle.postscript_write.specs.Sources.{is_kept, kept_of}
use Rattle.postscript_write.proofs.Marks.{kept_more}
use Rattle.postscript_files.specs.Choices.{AreKeptPairs}
use Rattle.postscript_files.specs.Made.{AreBytes}
use Rattle.postscript_files.specs.Origins.{AreFew, AreOrigins}
use Rattle.postscript_files.specs.declared.choice.Choice.{Choice}
use Rattle.postscript_files.specs.declared.error.Error.{Error}

pub two-small : (bytes : List ℕ) (place : ℕ) → AreBytes bytes → place + 2 ≤ length bytes → number_at bytes place 2 < 65536
two-small bytes place are room =
    let e = of_two bytes place room in
    let a = are place in
    let b = are (place + 1) in
    omega (arith, e, a, b)

many-items : (bytes : List ℕ) (start size count : ℕ) → length (items_at bytes start size count) ≡ count
unfolding items_at
many-items bytes start size count = length-map-range_with_len (item_at bytes start size count) 0 count

-- the items of an INDEX are counted in two bytes
few-items : (bytes : List ℕ) (place next : ℕ) (items : List (List ℕ)) → AreBytes bytes → IsOpened bytes place items next →
    length items < 65536
few-items bytes place next items are (inl empty) = let n = ap length empty.no_items in omega (arith, n)
few-items bytes place next items are (inr spread) =
    let n = ap length spread.slices ∙ many-items bytes (place + 3) (size_at bytes place) (count_at bytes place) in
    let room = spread.laid.offsets in
    let low = two-small bytes place are (omega (arith, room)) in
    omega (arith, n, low)

few-glyphs : (bytes : List ℕ) (font : FontView) → AreBytes bytes → IsOpenedFont bytes font → glyphs_of font < 65536
few-glyphs bytes font are opened =
    let named = opened.laid.char_strings.named in
    few-items bytes named.0 named.2.0 _ are named.2.2

last-few : (b : Bool) (n : ℕ) → length (if b then n ∷ [] else []) ≤ 1
last-few true n = omega arith
last-few false n = omega arith

kept-few : (closed : List ℕ) (n : ℕ) → length (kept_of closed n) ≤ n
kept-few closed zero = omega arith
kept-few closed (suc n) = subst (λ m. length (kept_of closed m) ≤ m) (add-one n)
    (let e = ap length (kept_more closed n) ∙ length-append (kept_of closed n) (if is_kept closed n then n ∷ [] else []) in
    let last = last-few (is_kept closed n) n in
    let rest = kept-few closed n in
    omega (arith, e, last, rest))

last-low : (b : Bool) (n glyph : ℕ) → Contains (if b then n ∷ [] else []) glyph → glyph < n + 1
last-low true n glyph (zero, less, is) = omega (arith, is)
last-low true n glyph (suc i, less, is) = absurd (omega (arith, less))
last-low false n glyph (i, less, is) = absurd (omega (arith, less))

pub kept-low : (closed : List ℕ) (n glyph : ℕ) → Contains (kept_of closed n) glyph → glyph < n
kept-low closed zero glyph (i, less, is) = absurd (omega (arith, less))
kept-low closed (suc n) glyph h =
    let there : Contains (kept_of closed (n + 1)) glyph = subst (λ m. Contains (kept_of closed m) glyph) (sym (add-one n)) h in
    elim (Contains-append_cases (kept_of closed n) (if is_kept closed n then n ∷ [] else []) glyph
    (subst (λ (xs : List ℕ). Contains xs glyph) (kept_more closed n) there)) [
      | inl before ↦ let less = kept-low closed n glyph before in omega (arith, less)
      | inr last ↦ let less = last-low (is_kept closed n) n glyph last in omega (arith, less)
    ]

few-kept : (named bytes origins : List ℕ) → AreBytes bytes → AreKept named bytes origins → AreFew origins
few-kept named bytes origins are kept =
    let font = kept.are.font in
    let n = few-glyphs bytes font are kept.are.opened in
    let many = ap length kept.all in
    let few = kept-few kept.closed (glyphs_of font) in (
      omega (arith, n, many, few),
      λ k less. let low = kept-low kept.closed (glyphs_of font) (get_or origins k 0)
          (subst (λ (xs : List ℕ). Contains xs (get_or origins k 0)) kept.all (Contains-get_or origins k 0 less)) in
          omega (arith, low, n),
    )

few-origins : (retain : Bool) (named cff origins : List ℕ) → AreBytes cff → AreOrigins retain named cff origins → AreFew origins
few-origins true named cff origins bytes are =
    let n = few-glyphs cff are.0 bytes are.1 in
    let many = ap length are.2 ∙ length-range_with_len 0 (glyphs_of are.0) in (
      omega (arith, n, many),
      λ k less. let e = ap (λ (xs : List ℕ). get_or xs k 0) are.2 ∙ get_or-range_with_len 0 (glyphs_of are.0) k 0 (omega (arith, many, less)) in
          omega (arith, e, less, many, n),
    )
few-origins false named cff origins bytes are = few-kept named cff origins bytes are

pub if-few : (r : Result (Vec ℕ Global) Error) (retain : Bool) (named cff : List ℕ) → AreBytes cff →
    IfOk r (λ origins. AreOrigins retain named cff origins.items) → IfOk r (λ origins. AreFew origins.items)
if-few (Ok origins) retain named cff bytes are = few-origins retain named cff origins.items bytes are
if-few (Err e) retain named cff bytes are = tt

-- characters in ascending order are not below their indices
char-above : (choice : Choice) (map : CharacterMap) (pairs : List Mapping) (d : Mapping) → AreKeptPairs choice map pairs → (i : ℕ) →
    i < length pairs → i ≤ (get_or pairs i d).char
char-above choice map pairs d kept zero less = omega arith
char-above choice map pairs d kept (suc i) less =
    let before = char-above choice map pairs d kept i (omega (arith, less)) in
    let rise = kept.rise i (suc i) (get_or pairs i d) (get_or pairs (suc i) d) (omega arith)
    (slice_get-get_or pairs i d (omega (arith, less))) (slice_get-get_or pairs (suc i) d less) in
    omega (arith, before, rise)

pub few-pairs : (choice : Choice) (map : CharacterMap) (pairs : List Mapping) → AreKeptPairs choice map pairs → length pairs ≤ 1114112
few-pairs choice map [] kept = omega arith
few-pairs choice map (pair ∷ pairs) kept =
    let last = length pairs in
    let above = char-above choice map (pair ∷ pairs) pair kept last (omega arith) in
    let is = kept.each last (get_or (pair ∷ pairs) last pair) (slice_get-get_or (pair ∷ pairs) last pair (omega arith)) in
    let low = is.has.unicode in
    omega (arith, above, low)

-- a table of 32 bytes after its version
pub post_size : (new was : List ℕ) → 32 ≤ length was → drop 4 new ≡ drop 4 (take 32 was) → length new ≡ 32
post_size new was long same =
    let a = length-drop 4 new in
    let b = length-drop 4 (take 32 was) in
    let c = length-take-le 32 was long in
    let e = ap length same in
    omega (arith, a, b, c, e)
