use Rattle.std.proofs.Common.{arith, ◌≡◌, ◌∙◌, sym, subst, List, ℕ, ◌+◌, ◌*◌, true, false}
use Rattle.std.specs.List.{All}
use Rattle.std.proofs.lemmas.List.Elements.{All-nil, All-push}
use Rattle.postscript_layout.specs.Numbers.{word, words}
use Rattle.postscript_layout.specs.Steps.{IsHeld}
use Rattle.postscript_layout.proofs.Following.{words-at, words-more}
use Rattle.postscript_layout.proofs.Costs.{if-err, short-by}
use Rattle.postscript_layout.proofs.glyph_set.GlyphSet.holds_words.Goals as goal

pub loop-k-init : goal.loop-k-init
loop-k-init c = record { all = All-nil (IsHeld c.args.self.now); spent = omega arith; within = omega arith }

pub loop-k-preserved : goal.loop-k-preserved
loop-k-preserved c =
    let set = c.args.self.now in
    let table = c.args.table.now in
    let offset = c.args.offset in
    let k = c.loop-k.k in
    record {
      all = subst (λ (xs : List ℕ). All (IsHeld set) xs) (sym (words-more table offset k))
          (All-push (IsHeld set) (words table offset k) (word table (offset + k * 2)) c.loop-k.invariant.all
          (subst (λ w. IsHeld set w) c.word-glyph.ensures.exact (sym c.holds.ensures ∙ c.if-not-holds.false)));
      spent = omega (arith, c.pay.ensures.spends, c.loop-k.invariant.spent);
      within = omega (arith, c.in_ok-pay.ensures.paid, c.loop-k.invariant.within);
    }

pub returns-then-not-holds-clause-no : goal.returns-then-not-holds-clause-no
returns-then-not-holds-clause-no c _ all =
    let set = c.args.self.now in
    let off : c.holds.result ≡ false = c.if-not-holds.true in
    let held : IsHeld set c.word-glyph.result = subst (λ w. IsHeld set w) (sym c.word-glyph.ensures.exact)
    (words-at (IsHeld set) c.args.table.now c.args.offset c.args.count c.loop-k.k c.loop-k-test.true all) in
    let never : true ≡ false = sym held ∙ sym c.holds.ensures ∙ off in absurd (cc)

pub returns-in_err-pay-clause-why : goal.returns-in_err-pay-clause-why
returns-in_err-pay-clause-why c =
    if-err c.from_residual.result c.in_err-pay.field-0.0 _ c.from_residual.ensures.1
    (short-by 1 c.args.count c.args.limit.now c.loop-k.limit c.pay.new.limit _ (omega (arith, c.loop-k.invariant.within, c.loop-k-test.true))
    c.in_err-pay.ensures.why)

pub returns-clause-within : goal.returns-clause-within
returns-clause-within c = omega (arith, c.loop-k.invariant.within, c.loop-k.auto.k-end)

pub returns-then-not-holds-clause-within : goal.returns-then-not-holds-clause-within
returns-then-not-holds-clause-within c = omega (arith, c.in_ok-pay.ensures.paid, c.loop-k.invariant.within, c.loop-k-test.true)
