-- Rounds of a closure, and the limit that they need.
use Rattle.std.proofs.Common.{◌≡◌, sym, subst, get_or, Bool, inl, inr, ℕ, zero, suc, ◌+◌, ◌*◌, ◌<◌, ◌≤◌, List, arith, true, false}
use Rattle.std.proofs.lemmas.Nat.{mul-le}
use Rattle.std.specs.List.{All, Contains}
use Rattle.std.proofs.lemmas.List.Elements.{All-contains, All-weaker}
use Rattle.postscript_layout.specs.Closure.{IsClosed}
use Rattle.postscript_layout.specs.Costs.{round_cost}
use Rattle.postscript_layout.specs.Rounds.{After, IsTooLow, Suffices}
use Rattle.postscript_layout.specs.Steps.{Follows, HoldsMore, IsHeld}
use Rattle.postscript_layout.specs.Substitutions.{Substitutes}
use Rattle.postscript_layout.specs.declared.glyph_set.GlyphSet.{GlyphSet}
use Rattle.postscript_layout.proofs.Following.{nat_cases}
use Rattle.postscript_layout.proofs.Listing.{Reaches}

-- The glyphs and the limit after some rounds, each of which but the last has grown.
pub record Rounds (gsub lookups : List ℕ) (first now : GlyphSet) (limit left : ℕ) : Type 0 where
  pub rounds : ℕ
  pub there : (glyph : ℕ) → After gsub lookups (IsHeld first) rounds glyph → IsHeld now glyph
  pub few : (glyphs : List ℕ) (n : ℕ) → IsClosed gsub lookups glyphs → ((glyph : ℕ) → IsHeld first glyph → Contains glyphs glyph) →
      All (After gsub lookups (IsHeld first) n) glyphs → rounds ≤ n
  pub within : limit ≤ left + rounds * round_cost gsub lookups

pub rounds-none : (gsub lookups : List ℕ) (a : GlyphSet) (limit : ℕ) → Rounds gsub lookups a a limit limit
rounds-none gsub lookups a limit = record {
  rounds = 0;
  there = λ glyph h. h;
  few = λ glyphs n closed has reached. omega arith;
  within = omega arith;
}

pub rounds-as : (gsub lookups : List ℕ) (a b c : GlyphSet) (limit left : ℕ) → Rounds gsub lookups a b limit left → c.marks.items ≡ b.marks.items →
    Rounds gsub lookups a c limit left
rounds-as gsub lookups a b c limit left r same = record {
  rounds = r.rounds;
  there = λ glyph h. subst (λ (marks : List Bool). get_or marks glyph false ≡ true) (sym same) (r.there glyph h);
  few = r.few;
  within = r.within;
}

-- one round more
reached-more : (gsub lookups : List ℕ) (a b d : GlyphSet) (n glyph : ℕ) → ((g : ℕ) → After gsub lookups (IsHeld a) n g → IsHeld b g) →
    Follows (Substitutes gsub lookups) b d → After gsub lookups (IsHeld a) (suc n) glyph → IsHeld d glyph
reached-more gsub lookups a b d n glyph there f after = elim after [
  | inl before ↦ f.grows glyph (there glyph before)
  | inr came ↦ All-contains (IsHeld d) came.1 glyph
      (f.done came.0 came.1 came.2 (All-weaker (After gsub lookups (IsHeld a) n) (IsHeld b) there came.0 came.3)) came.4
]

pub rounds-more : (gsub lookups : List ℕ) (a b d : GlyphSet) (limit left rest : ℕ) → Rounds gsub lookups a b limit left → Reaches gsub lookups a d →
    b.grown ≡ false → Follows (Substitutes gsub lookups) b d → d.grown ≡ true → left ≤ rest + round_cost gsub lookups →
    Rounds gsub lookups a d limit rest
rounds-more gsub lookups a b d limit left rest r reaches off f on paid = record {
  rounds = suc r.rounds;
  there = λ glyph after. reached-more gsub lookups a b d r.rounds glyph r.there f after;
  few = λ glyphs n closed has reached. few glyphs n closed has reached;
  within = (let w = r.within in omega (arith, w, paid));
}
  where
    few : (glyphs : List ℕ) (n : ℕ) → IsClosed gsub lookups glyphs → ((glyph : ℕ) → IsHeld a glyph → Contains glyphs glyph) →
        All (After gsub lookups (IsHeld a) n) glyphs → suc r.rounds ≤ n
    few glyphs n closed has reached = elim (nat_cases r.rounds n) [
      | inl less ↦ omega (arith, less)
      | inr far ↦ (let most = r.few glyphs n closed has reached in let same : n ≡ r.rounds = omega (arith, far, most) in
          let none : d.grown ≡ false = f.stays (λ glyph h. r.there glyph
          (subst (λ k. After gsub lookups (IsHeld a) k glyph) same
          (All-contains (After gsub lookups (IsHeld a) n) glyphs glyph reached (reaches.least glyphs closed has glyph h)))) off in
          let never : true ≡ false = cc in absurd (cc))
    ]

-- the limit was short in the next round
more-rounds : (r n cost : ℕ) → r ≤ n → (r + 1) * cost ≤ (n + 1) * cost
more-rounds r n cost less = mul-le (r + 1) cost (n + 1) cost (omega (arith, less)) (omega arith)

pub too-low : (gsub lookups : List ℕ) (a b : GlyphSet) (limit left : ℕ) → Rounds gsub lookups a b limit left → left < round_cost gsub lookups → IsTooLow gsub lookups a limit
too-low gsub lookups a b limit left r short = λ glyphs n closed has reached.
    (let more = more-rounds r.rounds n (round_cost gsub lookups) (r.few glyphs n closed has reached) in
    let w = r.within in omega (arith, more, w, short))

-- the glyphs after a number of rounds, of more glyphs
after-weaker : (gsub lookups : List ℕ) (P Q : ℕ → Type 0) → ((glyph : ℕ) → P glyph → Q glyph) → (n glyph : ℕ) → After gsub lookups P n glyph → After gsub lookups Q n glyph
after-weaker gsub lookups P Q to zero glyph is = to glyph is
after-weaker gsub lookups P Q to (suc n) glyph is = elim is [
  | inl before ↦ inl (after-weaker gsub lookups P Q to n glyph before)
  | inr came ↦ inr (came.0, came.1, came.2, All-weaker (After gsub lookups P n) (After gsub lookups Q n) (after-weaker gsub lookups P Q to n) came.0 came.3, came.4)
]

pub not-low : (gsub lookups given : List ℕ) (none some : GlyphSet) (limit : ℕ) → ((glyph : ℕ) → IsHeld none glyph → ⊥) → HoldsMore none given some →
    IsTooLow gsub lookups some limit → Suffices gsub lookups given limit → ⊥
not-low gsub lookups given none some limit empty more low enough =
    let complete = enough.complete in
    let pays = enough.pays in
    let less = low complete.glyphs enough.rounds complete.closure.closed
    (λ glyph h. elim (more.only glyph h) [
      | inl old ↦ absurd (empty glyph old)
      | inr one ↦ All-contains (Contains complete.glyphs) given glyph complete.closure.holds one
    ])
    (All-weaker (After gsub lookups (Contains given) enough.rounds) (After gsub lookups (IsHeld some) enough.rounds)
    (after-weaker gsub lookups (Contains given) (IsHeld some) (λ glyph h. All-contains (IsHeld some) given glyph more.there h) enough.rounds)
    complete.glyphs complete.reached) in
    omega (arith, pays, less)
