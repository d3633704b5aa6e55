-- Runs of glyphs within a limit.
use Rattle.std.proofs.Common.{add-one, ◌≡◌, refl, sym, ap, subst, ◌∙◌, inl, inr, ℕ, ◌+◌, ◌-◌, ◌<◌, ◌≤◌, List, [], ◌∷◌, ◌++◌, length, get_or, Option, Some, None, arith}
use Rattle.std.specs.Prelude.{◌⊎◌, ◌↔◌, IfErr, OnOk, Result, Ok, Err, take, drop}
use Rattle.std.specs.List.{Contains}
use Rattle.std.proofs.Math.Seq.{take-suc}
use Rattle.std.proofs.lemmas.List.{append-nil, get_or-take, length-take, take-append-drop, take-append-le, take_all}
use Rattle.std.proofs.lemmas.List.Elements.{Contains-append_left, Contains-get_or}
use Rattle.postscript_type2.specs.Program.Limit.{LimitIsCost, cost}
use Rattle.postscript_type2.specs.Program.Runs.{Phrase, Run, fault_of}
use Rattle.postscript_view.specs.Advances.{HasRun}
use Rattle.postscript_view.specs.Fitting.{GlyphCosts, GlyphLeaves, all_paid, ends, is_refused, no_glyph, not_there, refusal_paid}
use Rattle.postscript_view.specs.Glyphs.{HasGlyph}
use Rattle.postscript_view.specs.declared.font.FontView.{FontView}
use Rattle.postscript_view.specs.declared.private_dict.PrivateDict.{PrivateDict}
use Rattle.postscript_view.proofs.Limiting.{used-up}
use Rattle.postscript_write.specs.Components.{IsOpened, IsReached, IsUntold}
use Rattle.postscript_write.specs.Costs.{AreDistinct, FailsWith, KeepsWithin, Stops, StopsIn, GlyphsCost, ShareLimit, none_cost, none_share, one_more_costs, one_more_shares}
use Rattle.postscript_write.specs.Refusals.{NeedsNoName}
use Rattle.postscript_write.specs.Stepping.{AllShare, IsPaid, Leaves, Share, StopsAt, StopsRun}
use Rattle.postscript_write.specs.Steps.{IsNotClosed}
use Rattle.postscript_write.specs.declared.error.Error.{Error}
use Rattle.postscript_write.specs.declared.error.Error.TheVariants.{Refused, Glyph, SeveralFonts, MissingGlyph, MissingPart, MissingName, LongGlyph, NoGlyphs, TooLarge, TooLong}

-- why the run of a glyph stops is why its font is not searched
pub stops-at : (font : FontView) (glyph limit : ℕ) (part : PrivateDict) (run : Run) (e : Error) → LimitIsCost → HasRun font glyph part run →
    StopsRun run glyph limit e → StopsAt font glyph (Some limit) e
stops-at font glyph limit part run TooLong law has (rest, spends) =
    let all = law limit run.trace 0 rest spends in
    used-up font glyph part run limit has (fault_of run.end) refl all.0 rest all.1 all.2
stops-at font glyph limit part run (Glyph number cause) law has stops = (stops.0, (part, run, has, stops.1))
stops-at font glyph limit part run (Refused cause) law has stops = stops
stops-at font glyph limit part run SeveralFonts law has stops = absurd stops
stops-at font glyph limit part run (MissingGlyph number) law has stops = absurd stops
stops-at font glyph limit part run (MissingPart number) law has stops = absurd stops
stops-at font glyph limit part run (MissingName number) law has stops = absurd stops
stops-at font glyph limit part run (LongGlyph number) law has stops = absurd stops
stops-at font glyph limit part run NoGlyphs law has stops = absurd stops
stops-at font glyph limit part run TooLarge law has stops = absurd stops

-- the cost of a glyph is what it takes of a limit
glyph-costs : (font : FontView) (limit glyph left : ℕ) → LimitIsCost → GlyphLeaves font limit glyph left →
    (units : ℕ) × GlyphCosts font glyph units × (left ≡ limit - units)
glyph-costs font limit glyph _ law (not_there none) = (0, no_glyph none, omega arith)
glyph-costs font limit glyph _ law (all_paid part run has is left spends) =
    let all = law limit run.trace left [] spends in
    let same : run.trace ≡ all.0 = all.1 ∙ append-nil all.0 in
    (cost run.trace, ends part run has is, subst (λ (xs : List Phrase). left ≡ limit - cost xs) (sym same) all.2)
glyph-costs font limit glyph _ law (refusal_paid part run has is left rest spends last) =
    let all = law limit run.trace left rest spends in
    let ran = all.2 in
    (_, is_refused part run has is all.0 rest all.1 last, omega (arith, ran))

-- and glyphs that share one
pub glyphs-cost : (font : FontView) (limit : ℕ) (glyphs : List ℕ) (left : ℕ) → LimitIsCost → ShareLimit font limit glyphs left →
    (total : ℕ) × GlyphsCost font glyphs total × (left ≡ limit - total)
glyphs-cost font limit _ _ law none_share = (0, none_cost, omega arith)
glyphs-cost font limit _ _ law (one_more_shares glyphs glyph before left shares leaves) =
    let first = glyphs-cost font limit glyphs before law shares in
    let one = glyph-costs font before glyph left law leaves in
    let a = first.2 in
    let b = one.2 in
    (first.0 + one.0, one_more_costs glyphs glyph first.0 one.0 first.1 one.1, omega (arith, a, b))

-- the first glyphs of a list
take-distinct : (n : ℕ) (glyphs : List ℕ) → n ≤ length glyphs → AreDistinct glyphs → AreDistinct (take n glyphs)
take-distinct n glyphs within h i j d lt there =
    let less : j < n = omega (arith, there, length-take n glyphs) in
    let first : get_or (take n glyphs) i d ≡ get_or glyphs i d = get_or-take n glyphs i d (omega (arith, lt, less)) in
    let second : get_or (take n glyphs) j d ≡ get_or glyphs j d = get_or-take n glyphs j d less in
    rw (first, second) (h i j d lt (omega (arith, less, within)))

take-contains : (n : ℕ) (glyphs : List ℕ) (glyph : ℕ) → Contains (take n glyphs) glyph → Contains glyphs glyph
take-contains n glyphs glyph has =
    subst (λ xs. Contains xs glyph) (take-append-drop n glyphs) (Contains-append_left (take n glyphs) (drop n glyphs) glyph has)

-- what the glyphs of a list leave of a limit, up to a place
pub shared-none : (font : FontView) (limit : Option ℕ) → Share font limit [] limit
shared-none font None = tt
shared-none font (Some limit) = none_share

one-more : (font : FontView) (limit before left : Option ℕ) (glyphs : List ℕ) (glyph : ℕ) → Share font limit glyphs before →
    Leaves font before glyph left → Share font limit (glyphs ++ glyph ∷ []) left
one-more font None None None glyphs glyph shares leaves = tt
one-more font (Some limit) (Some before) (Some left) glyphs glyph shares leaves = one_more_shares glyphs glyph before left shares leaves
one-more font None None (Some left) glyphs glyph shares leaves = absurd leaves
one-more font None (Some before) left glyphs glyph shares leaves = absurd shares
one-more font (Some limit) None left glyphs glyph shares leaves = absurd shares
one-more font (Some limit) (Some before) None glyphs glyph shares leaves = absurd leaves

pub shared-more : (font : FontView) (limit before left : Option ℕ) (glyphs more others : List ℕ) (next : ℕ) → next < length glyphs →
    others ≡ glyphs ++ more → Share font limit (take next glyphs) before → Leaves font before (get_or glyphs next 0) left →
    Share font limit (take (next + 1) others) left
shared-more font limit before left glyphs more others next less front shares leaves =
    let first : take (next + 1) others ≡ take (next + 1) glyphs =
    ap (take (next + 1)) front ∙ take-append-le (next + 1) glyphs more (omega (arith, less)) in
    let second : take (next + 1) glyphs ≡ take next glyphs ++ get_or glyphs next 0 ∷ [] = ap (λ m. take m glyphs) (add-one next) ∙ take-suc glyphs next 0 less in
    subst (λ xs. Share font limit xs left) (sym (first ∙ second))
    (one-more font limit before left (take next glyphs) (get_or glyphs next 0) shares leaves)

pub shared-all : (font : FontView) (limit left : Option ℕ) (glyphs : List ℕ) (next : ℕ) → length glyphs ≤ next →
    Share font limit (take next glyphs) left → Share font limit glyphs left
shared-all font limit left glyphs next past shares = subst (λ xs. Share font limit xs left) (take_all next glyphs past) shares

-- why the search stops at a place of the list
pub stops-so : (font : FontView) (start glyphs : List ℕ) (next : ℕ) (limit left : Option ℕ) (e : Error) → LimitIsCost →
    next < length glyphs → AreDistinct glyphs → ((glyph : ℕ) → Contains glyphs glyph → IsReached font start glyph) →
    Share font limit (take next glyphs) left → StopsAt font (get_or glyphs next 0) left e → IsUntold font e ⊎ Stops font start limit e
stops-so font start glyphs next (Some limit) (Some left) TooLong law less distinct least shares (units, costs, much) =
    let front = glyphs-cost font limit (take next glyphs) left law shares in
    let is = front.2 in
    let more : take (next + 1) glyphs ≡ take next glyphs ++ get_or glyphs next 0 ∷ [] = ap (λ m. take m glyphs) (add-one next) ∙ take-suc glyphs next 0 less in
    inr (record {
      glyphs = take (next + 1) glyphs;
      distinct = take-distinct (next + 1) glyphs (omega (arith, less)) distinct;
      reached = λ glyph has. least glyph (take-contains (next + 1) glyphs glyph has);
      total = front.0 + units;
      cost = subst (λ xs. GlyphsCost font xs (front.0 + units)) (sym more)
          (one_more_costs (take next glyphs) (get_or glyphs next 0) front.0 units front.1 costs);
      much = omega (arith, is, much);
    })
stops-so font start glyphs next (Some limit) (Some left) (Glyph number cause) law less distinct least shares stops =
    inr (
      subst (IsReached font start) (sym stops.0) (least (get_or glyphs next 0) (Contains-get_or glyphs next 0 less)),
      subst (λ n. FailsWith font n cause) (sym stops.0) stops.1,
    )
stops-so font start glyphs next limit left (Refused cause) law less distinct least shares stops = inl (λ other. absurd (other stops))
stops-so font start glyphs next limit left SeveralFonts law less distinct least shares stops = absurd stops
stops-so font start glyphs next limit left (MissingGlyph number) law less distinct least shares stops = absurd stops
stops-so font start glyphs next limit left (MissingPart number) law less distinct least shares stops = absurd stops
stops-so font start glyphs next limit left (MissingName number) law less distinct least shares stops = absurd stops
stops-so font start glyphs next limit left (LongGlyph number) law less distinct least shares stops = absurd stops
stops-so font start glyphs next limit left NoGlyphs law less distinct least shares stops = absurd stops
stops-so font start glyphs next limit left TooLarge law less distinct least shares stops = absurd stops
stops-so font start glyphs next None left TooLong law less distinct least shares stops = absurd (never left shares stops)
  where
    never : (left : Option ℕ) → Share font None (take next glyphs) left → StopsAt font (get_or glyphs next 0) left TooLong → ⊥
    never None shares stops = stops
    never (Some left) shares stops = shares
stops-so font start glyphs next None left (Glyph number cause) law less distinct least shares stops = absurd (never left shares stops)
  where
    never : (left : Option ℕ) → Share font None (take next glyphs) left → StopsAt font (get_or glyphs next 0) left (Glyph number cause) → ⊥
    never None shares stops = stops
    never (Some left) shares stops = shares
stops-so font start glyphs next (Some limit) None TooLong law less distinct least shares stops = absurd stops
stops-so font start glyphs next (Some limit) None (Glyph number cause) law less distinct least shares stops = absurd stops

pub stops-here : (font : FontView) (start glyphs : List ℕ) (next glyph : ℕ) (limit left : Option ℕ) (e : Error) → LimitIsCost →
    next < length glyphs → glyph ≡ get_or glyphs next 0 → AreDistinct glyphs →
    ((one : ℕ) → Contains glyphs one → IsReached font start one) →
    Share font limit (take next glyphs) left → IsUntold font e ⊎ StopsAt font glyph left e → IsUntold font e ⊎ Stops font start limit e
stops-here font start glyphs next glyph limit left e law less is distinct least shares (inl untold) = inl untold
stops-here font start glyphs next glyph limit left e law less is distinct least shares (inr stops) =
    stops-so font start glyphs next limit left e law less distinct least shares (subst (λ g. StopsAt font g left e) is stops)

-- the same glyphs are reached from others
pub stops-from : (font : FontView) (start named : List ℕ) (limit : Option ℕ) (e : Error) →
    ((glyph : ℕ) → IsReached font start glyph → IsReached font named glyph) → Stops font start limit e → Stops font named limit e
stops-from font start named (Some limit) TooLong reached stops = record {
  glyphs = stops.glyphs;
  distinct = stops.distinct;
  reached = λ glyph has. reached glyph (stops.reached glyph has);
  total = stops.total;
  cost = stops.cost;
  much = stops.much;
}
stops-from font start named (Some limit) (Glyph number cause) reached stops = (reached number stops.0, stops.1)
stops-from font start named (Some limit) (Refused cause) reached stops = stops
stops-from font start named (Some limit) SeveralFonts reached stops = stops
stops-from font start named (Some limit) (MissingGlyph number) reached stops = stops
stops-from font start named (Some limit) (MissingPart number) reached stops = stops
stops-from font start named (Some limit) (MissingName number) reached stops = stops
stops-from font start named (Some limit) (LongGlyph number) reached stops = stops
stops-from font start named (Some limit) NoGlyphs reached stops = stops
stops-from font start named (Some limit) TooLarge reached stops = stops
stops-from font start named None e reached stops = stops

untold-closed : (font : FontView) (named : List ℕ) (e : Error) → IsUntold font e → IsNotClosed font named e
untold-closed font named (Refused cause) h = h
untold-closed font named (Glyph glyph cause) h = absurd h
untold-closed font named SeveralFonts h = absurd h
untold-closed font named (MissingGlyph glyph) h = absurd h
untold-closed font named (MissingPart glyph) h = absurd h
untold-closed font named (LongGlyph glyph) h = absurd h
untold-closed font named (MissingName glyph) h = absurd h
untold-closed font named NoGlyphs h = absurd h
untold-closed font named TooLarge h = absurd h
untold-closed font named TooLong h = absurd h

-- why the glyphs that are reached are not found
pub not-searched : (font : FontView) (start named : List ℕ) (limit : Option ℕ) (e : Error) →
    ((glyph : ℕ) → IsReached font start glyph → IsReached font named glyph) → IsUntold font e ⊎ Stops font start limit e →
    IsNotClosed font named e ⊎ Stops font named limit e
not-searched font start named limit e reached (inl untold) = inl (untold-closed font named e untold)
not-searched font start named limit e reached (inr stops) = inr (stops-from font start named limit e reached stops)

pub all-share : (font : FontView) (named closed : List ℕ) (limit left : Option ℕ) → AreDistinct closed →
    ((glyph : ℕ) → Contains closed glyph ↔ IsReached font named glyph) → Share font limit closed left → AllShare font named limit
all-share font named closed None left distinct all shares = tt
all-share font named closed (Some limit) None distinct all shares = absurd shares
all-share font named closed (Some limit) (Some left) distinct all shares = record {
  order = closed;
  distinct = distinct;
  all = all;
  left = left;
  shared = shares;
}

pub keeps-within : (limit : Option ℕ) (font : FontView) (bytes named : List ℕ) → IsOpened bytes font → AllShare font named limit →
    KeepsWithin limit named bytes
keeps-within None font bytes named opened shares = tt
keeps-within (Some limit) font bytes named opened shares = (font, opened, shares)

-- without a limit nothing stops
pub not-stopped : (P : Type 0) (bytes named : List ℕ) (e : Error) → P ⊎ StopsIn bytes named None e → P
not-stopped P bytes named e (inl refused) = refused
not-stopped P bytes named e (inr stops) = absurd stops.2

-- a glyph without a run takes nothing of a limit
pub leaves-all : (font : FontView) (glyph : ℕ) (limit : Option ℕ) → ((code : List ℕ) (part : PrivateDict) → HasGlyph font glyph code part → ⊥) →
    Leaves font limit glyph limit
leaves-all font glyph None none = tt
leaves-all font glyph (Some limit) none = not_there none

-- what a run leaves of a limit, and why it stops
pub leaves-if : {A : Type 0} (r : Result A Error) (font : FontView) (glyph limit left : ℕ) (part : PrivateDict) (run : Run) →
    HasRun font glyph part run → OnOk r (IsPaid run limit left) → OnOk r (GlyphLeaves font limit glyph left)
leaves-if (Ok a) font glyph limit left part run has paid = all_paid part run has paid.0 left paid.1
leaves-if (Err e) font glyph limit left part run has paid = tt

pub stops-if : {A : Type 0} (r : Result A Error) (font : FontView) (glyph limit : ℕ) (part : PrivateDict) (run : Run) → LimitIsCost →
    HasRun font glyph part run → IfErr r (λ e. StopsRun run glyph limit e) → IfErr r (λ e. StopsAt font glyph (Some limit) e)
stops-if (Ok a) font glyph limit part run law has stops = tt
stops-if (Err e) font glyph limit part run law has stops = stops-at font glyph limit part run e law has stops

-- a search never fails for want of a name
pub search-unnamed : (font : FontView) (named : List ℕ) (limit : Option ℕ) (e : Error) → IsNotClosed font named e ⊎ Stops font named limit e →
    NeedsNoName e
search-unnamed font named (Some limit) (MissingName glyph) h = elim h [ inl closed ↦ closed | inr stops ↦ stops ]
search-unnamed font named None (MissingName glyph) h = elim h [ inl closed ↦ closed | inr stops ↦ stops ]
search-unnamed font named limit (Refused cause) h = tt
search-unnamed font named limit (Glyph glyph cause) h = tt
search-unnamed font named limit SeveralFonts h = tt
search-unnamed font named limit (MissingGlyph glyph) h = tt
search-unnamed font named limit (MissingPart glyph) h = tt
search-unnamed font named limit (LongGlyph glyph) h = tt
search-unnamed font named limit NoGlyphs h = tt
search-unnamed font named limit TooLarge h = tt
search-unnamed font named limit TooLong h = tt
