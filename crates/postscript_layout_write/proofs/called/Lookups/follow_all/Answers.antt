use Rattle.std.proofs.Common.{◌≡◌, ◌<◌, ◌≤◌, ◌∙◌, subst, get_or, length, arith, rules}
use Rattle.postscript_layout_write.specs.Calls.{Calls}
use Rattle.postscript_layout_write.specs.Reaching.{AddsOnly}
use Rattle.postscript_layout_write.proofs.Reading.{any-default}
use Rattle.postscript_layout_write.proofs.Reaching.{followed-all, followed-more, followed-none}
use Rattle.postscript_layout_write.proofs.called.Lookups.follow_all.Goals as goal

pub loop-k-init : goal.loop-k-init
loop-k-init c = record {
  followed = followed-none c.args.source.now.gsub.now c.args.source.now.kept.now c.args.self.now.lookups.items;
  spent = omega arith;
}

pub loop-k-preserved : goal.loop-k-preserved
loop-k-preserved c =
    let gsub = c.args.source.now.gsub.now in
    let kept = c.args.source.now.kept.now in
    let old = c.loop-k.self.lookups.items in
    let k = c.loop-k.k in
    let less : k < length old = search rules in
    let at : c.index.result.now ≡ get_or old k 0 = c.index.ensures ∙ any-default old k _ 0 less in
    record {
      followed = followed-more gsub kept c.args.self.now.lookups.items k old _ less
          (subst (λ i. AddsOnly (Calls gsub kept i) old c.follow.new.self.lookups.items) at c.in_ok-follow.ensures.added) c.loop-k.invariant.followed;
      spent = omega (arith, c.pay.ensures.spends, c.follow.ensures.spends, c.loop-k.invariant.spent);
    }

pub returns-clause-followed : goal.returns-clause-followed
returns-clause-followed c =
    let past : length c.loop-k.self.lookups.items ≤ c.loop-k.k = omega arith in
    followed-all c.args.source.now.gsub.now c.args.source.now.kept.now c.args.self.now.lookups.items c.loop-k.k _ past c.loop-k.invariant.followed
