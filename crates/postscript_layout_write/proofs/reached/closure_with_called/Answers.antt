use Rattle.std.proofs.Common.{◌≡◌, sym, subst, List, ℕ, arith}
use Rattle.std.specs.List.{Contains}
use Rattle.std.proofs.lemmas.Bool.{eqb-true}
use Rattle.std.proofs.lemmas.List.Elements.{All-contains_itself, All-weaker}
use Rattle.postscript_layout.specs.Closure.{IsClosure}
use Rattle.postscript_layout_write.specs.Reaching.{AreFollowed}
use Rattle.postscript_layout_write.proofs.Calling.{all-reached, begins-all, begins-equal, least-first, least-more}
use Rattle.postscript_layout_write.proofs.reached.closure_with_called.Goals as goal

pub loop-is_done-init : goal.loop-is_done-init
loop-is_done-init c =
    let chosen = c.args.lookups.now in
    let found = c.add_all.new.self.lookups.items in
    record {
      chosen = All-weaker (Contains chosen) (Contains found) c.in_ok-add_all.ensures.added.there chosen (All-contains_itself chosen);
      least = least-first c.args.gsub.now chosen c.args.glyphs.now c.in_ok-found.found.lookups.items found c.in_ok-found.ensures.none c.in_ok-add_all.ensures.added;
      done = λ is. absurd (cc);
      spent = omega (arith, c.add_all.ensures.spends);
    }

pub loop-is_done-preserved : goal.loop-is_done-preserved
loop-is_done-preserved c =
    let gsub = c.args.gsub.now in
    let chosen = c.args.lookups.now in
    let given = c.args.glyphs.now in
    let old = c.loop-is_done.found.lookups.items in
    let new = c.follow_all.new.self.lookups.items in
    let closed = c.in_ok-closed.closed.items in
    let inv = c.loop-is_done.invariant in
    let closure : IsClosure gsub old given closed =
    subst (λ (xs : List ℕ). IsClosure gsub xs given closed) c.deref.ensures.value c.in_ok-closed.ensures.closed in
    let followed : AreFollowed gsub closed old new =
    subst (λ (xs : List ℕ). AreFollowed gsub xs old new) c.deref-in-loop-is_done.ensures.value c.in_ok-follow_all.ensures.followed in
    record {
      chosen = begins-all chosen old new followed.begins inv.chosen;
      least = least-more gsub chosen given old new closed inv.least closure followed;
      done = λ is.
          let many : c.len.result ≡ c.len-count.result = eqb-true c.len.result c.len-count.result is in
          let same : new ≡ old = begins-equal old new followed.begins (omega (arith, many, c.len.ensures, c.len-count.ensures)) in
          (subst (λ (xs : List ℕ). IsClosure gsub xs given closed) (sym same) closure, followed.called, c.in_ok-closed.ensures.rises);
      spent = omega (arith, c.pay.ensures.spends, c.closed_over.ensures.spends, c.follow_all.ensures.spends, inv.spent);
    }

pub returns-clause-reached : goal.returns-clause-reached
returns-clause-reached c =
    let inv = c.loop-is_done.invariant in
    let done = inv.done c.loop-is_done-test.false in
    all-reached c.args.gsub.now c.args.lookups.now c.args.glyphs.now c.loop-is_done.found.lookups.items c.loop-is_done.closed.items inv.chosen inv.least
    done.0 done.1

pub returns-clause-once : goal.returns-clause-once
returns-clause-once c = c.loop-is_done.found.once

pub returns-clause-rises : goal.returns-clause-rises
returns-clause-rises c = (c.loop-is_done.invariant.done c.loop-is_done-test.false).2
