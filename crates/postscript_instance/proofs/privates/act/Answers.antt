use Rattle.std.proofs.Common.{◌∙◌, sym}
use Rattle.postscript_instance.specs.Encoded.{shown}
use Rattle.postscript_instance.proofs.Hinting.{blends-so, chooses-so, hints-so, skips-so, not-so, with-items, with-numbers}
use Rattle.postscript_instance.proofs.Rests.{is-true}
use Rattle.postscript_instance.proofs.privates.act.Goals as goal

pub returns-then-is_operator-clause-acts : goal.returns-then-is_operator-clause-acts
returns-then-is_operator-clause-acts c =
    blends-so c.args.tables.now c.args.bytes.now c.args.operator.now (shown c.args.state.now) c.scalars_of.result.now
    c.blend.new.numbers.items c.args.state.now.out.items (c.is_operator.ensures.0 (is-true _ c.if-is_operator.true)) c.scalars_of.ensures
    c.in_ok-blend.ensures.blended

pub returns-then-is_operator-2-clause-acts : goal.returns-then-is_operator-2-clause-acts
returns-then-is_operator-2-clause-acts c =
    chooses-so c.args.tables.now c.args.bytes.now c.args.operator.now (shown c.args.state.now) c.chosen_data-state.result
    c.truncate.new.self.items c.args.state.now.out.items (c.is_operator-2.ensures.0 (is-true _ c.if-is_operator-2.true))
    (with-items c.args.state.now.index _ _ _ c.deref.ensures.value c.chosen_data-state.ensures) c.truncate.ensures.items

pub returns-then-is_hint-clause-acts : goal.returns-then-is_hint-clause-acts
returns-then-is_hint-clause-acts c =
    hints-so c.args.tables.now c.args.bytes.now c.args.operator.now (shown c.args.state.now) c.truncate-then-is_hint.new.self.items
    c.args.state.now.out.items c.put_hint.new.out.items (sym c.is_hint.ensures ∙ c.if-is_hint.true) c.truncate-then-is_hint.ensures.items
    (with-numbers c.args.bytes.now c.args.operator.now _ _ _ _ c.deref-then-is_hint.ensures.value c.in_ok-put_hint.ensures.more)

pub returns-clause-acts : goal.returns-clause-acts
returns-clause-acts c =
    skips-so c.args.tables.now c.args.bytes.now c.args.operator.now (shown c.args.state.now) c.truncate-2.new.self.items
    c.args.state.now.out.items (not-so _ c.if-is_operator.false c.is_operator.ensures.1) (not-so _ c.if-is_operator-2.false c.is_operator-2.ensures.1)
    (sym c.is_hint.ensures ∙ c.if-is_hint.false) c.truncate-2.ensures.items
