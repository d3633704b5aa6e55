use Rattle.std.proofs.Common.{arith, sym, subst, List, ℕ, ◌+◌, ◌*◌, [], ◌∷◌}
use Rattle.postscript_layout.specs.Numbers.{word, words}
use Rattle.postscript_layout.specs.Steps.{HoldsMore}
use Rattle.postscript_layout.proofs.Following.{holds-none, holds-then, words-more}
use Rattle.postscript_layout.proofs.Costs.{if-err, short-by}
use Rattle.postscript_layout.proofs.glyph_set.GlyphSet.hold_words.Goals as goal

pub loop-k-init : goal.loop-k-init
loop-k-init c = record { holds = holds-none c.args.self.now; spent = omega arith; within = omega arith }

pub loop-k-preserved : goal.loop-k-preserved
loop-k-preserved c =
    let table = c.args.table.now in
    let offset = c.args.offset in
    let k = c.loop-k.k in
    record {
      holds = subst (λ (xs : List ℕ). HoldsMore c.args.self.now xs c.hold.new.self) (sym (words-more table offset k))
          (holds-then c.args.self.now c.loop-k.self c.hold.new.self (words table offset k) (word table (offset + k * 2) ∷ []) c.loop-k.invariant.holds
          (subst (λ w. HoldsMore c.loop-k.self (w ∷ []) c.hold.new.self) c.word-glyph.ensures.exact c.hold.ensures));
      spent = omega (arith, c.pay.ensures.spends, c.loop-k.invariant.spent);
      within = omega (arith, c.in_ok-pay.ensures.paid, c.loop-k.invariant.within);
    }

pub returns-in_err-pay-clause-why : goal.returns-in_err-pay-clause-why
returns-in_err-pay-clause-why c =
    if-err c.from_residual.result c.in_err-pay.field-0.0 _ c.from_residual.ensures.1
    (short-by 1 c.args.count c.args.limit.now c.loop-k.limit c.pay.new.limit _ (omega (arith, c.loop-k.invariant.within, c.loop-k-test.true))
    c.in_err-pay.ensures.why)

pub returns-clause-within : goal.returns-clause-within
returns-clause-within c = omega (arith, c.loop-k.invariant.within, c.loop-k.auto.k-end)
