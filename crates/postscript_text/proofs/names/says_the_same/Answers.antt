use Rattle.std.proofs.Common.{◌∙◌, sym, subst, ap, arith}
use Rattle.postscript_sfnt.specs.NameChars.{name_left}
use Rattle.postscript_sfnt.specs.declared.names.Name.{Name}
use Rattle.postscript_text.specs.Repetitions.{HasCharacters, end}
use Rattle.postscript_text.proofs.Repeating.{at-end, differ, goes-on, next-other, next-same}
use Rattle.postscript_text.proofs.names.says_the_same.Goals as goal

pub loop-char-init : goal.loop-char-init
loop-char-init c = (
  λ chars h. subst (λ (text : Name). HasCharacters text chars) (ap name_left c.into_iter-char-iterator.ensures.into_iter_gives ∙ c.chars-char-items.ensures) h,
  λ chars h. subst (λ (text : Name). HasCharacters text chars) c.chars-others.ensures h,
  tt,
  tt,
)

pub loop-char-preserved : goal.loop-char-preserved
loop-char-preserved c =
    let so_far = c.loop-char.invariant in
    let other = c.next-in-loop-char in
    let some = (c.in-Some.ensures.goes.on tt).2 in (
      goes-on _ _ _ _ _ so_far.0 (omega arith, c.in-Some.ensures.steps),
      goes-on _ _ _ _ _ so_far.1
          (next-same c.loop-char.others other.new.self other.result _ other.ensures.steps (other.ensures.goes.on tt)
          (sym c.ne.ensures ∙ c.if-ne.false)),
      tt,
      tt,
    )

pub returns-then-ne : goal.returns-then-ne
returns-then-ne c =
    let so_far = c.loop-char.invariant in
    let next = c.next-in-loop-char in
    let some = (c.in-Some.ensures.goes.on tt).2 in
    let other = next-other c.loop-char.others next.new.self next.result c.in-Some.char next.ensures.steps (next.ensures.goes.on tt)
    (sym c.ne.ensures ∙ c.if-ne.true) in
    differ _ _ _ _ _ _ _ _ so_far.0 (omega arith, c.in-Some.ensures.steps) so_far.1 other.1 other.2

pub returns : goal.returns
returns c =
    let so_far = c.loop-char.invariant in
    at-end _ _ _ c.loop-char.others c.next-2.new.self _ c.next-2.result _ so_far.0 (end _ c.in-None.ensures.steps.0) so_far.1
    c.next-2.ensures.steps (c.next-2.ensures.goes.on tt) c.is_none.ensures
