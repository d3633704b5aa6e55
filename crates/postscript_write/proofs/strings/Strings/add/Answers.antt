use Rattle.std.proofs.Common.{◌≡◌, ◌∙◌, refl, ◌-◌, ◌<◌, ◌+◌, [], None, get_or, length, rules, arith}
use Rattle.std.proofs.lemmas.List.{get_or_default}
use Rattle.postscript_base.specs.Index.Lent.{items_of}
use Rattle.postscript_type2.specs.Program.Routines.{texts}
use Rattle.postscript_write.proofs.NewStrings.{one_written}
use Rattle.postscript_write.proofs.strings.Strings.add.Goals as goal

pub returns-clause-renumbered : goal.returns-clause-renumbered
returns-clause-renumbered c =
    let own = items_of c.args.own.now in
    let strings = c.args.self.now in
    let k = c.args.identifier - 391 in
    let many = c.requires.many in
    let less : k < length own = omega (arith, many, c.if-identifier-len.false, c.len.ensures) in
    let none : get_or strings.renumbered.items k None ≡ None = search rules in
    let text : c.item.result.now ≡ get_or own k [] = c.item.ensures ∙ get_or_default own k c.item.result.now [] less in
    rw (c.in_ok-push.ensures.texts, c.in_ok-push.ensures.renumbered)
    (one_written own (texts strings.texts.items) strings.renumbered.items k
    (391 + length (texts strings.texts.items)) c.item.result.now less none text refl c.requires)
