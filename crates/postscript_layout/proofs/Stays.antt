-- Texts with glyphs of a closed list.
use Rattle.std.proofs.Common.{inl, inr, ℕ, List}
use Rattle.std.specs.List.{All, Contains}
use Rattle.std.proofs.lemmas.List.Elements.{All-contains, All-contains_itself, All-weaker}
use Rattle.postscript_layout.specs.Closure.{IsClosed}
use Rattle.postscript_layout.specs.Texts.{ComesTo, no_step, step_more, IsStep}

one-step : (gsub lookups glyphs before after : List ℕ) → IsClosed gsub lookups glyphs → All (Contains glyphs) before → IsStep gsub lookups before after →
    All (Contains glyphs) after
one-step gsub lookups glyphs before after closed held step =
    All-weaker (Contains after) (Contains glyphs) (λ glyph h. elim (step.from glyph h) [
      | inl was ↦ All-contains (Contains glyphs) before glyph held was
      | inr came ↦ All-contains (Contains glyphs) step.outs glyph
          (closed step.ins step.outs step.is
          (All-weaker (Contains before) (Contains glyphs) (λ g k. All-contains (Contains glyphs) before g held k) step.ins step.there)) came
    ]) after (All-contains_itself after)

pub stays : (gsub lookups glyphs first last : List ℕ) → IsClosed gsub lookups glyphs → All (Contains glyphs) first → ComesTo gsub lookups first last →
    All (Contains glyphs) last
stays gsub lookups glyphs first _ closed held no_step = held
stays gsub lookups glyphs first _ closed held (step_more before after comes step) =
    one-step gsub lookups glyphs before after closed (stays gsub lookups glyphs first before closed held comes) step
