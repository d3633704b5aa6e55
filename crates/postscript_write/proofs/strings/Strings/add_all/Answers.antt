use Rattle.std.proofs.Common.{◌≡◌, ◌∙◌, sym, get_or, rules}
use Rattle.postscript_write.proofs.NewStrings.{none_added, one_added}
use Rattle.postscript_write.proofs.strings.Strings.add_all.Goals as goal

pub loop-i-init : goal.loop-i-init
loop-i-init c = record { written = c.requires; added = none_added c.args.self.now.renumbered.items c.args.identifiers.now }

pub loop-i-preserved : goal.loop-i-preserved
loop-i-preserved c =
    let before = c.loop-i.invariant.written in
    let now = c.in_ok-add.ensures.renumbered in
    let is : c.from.result ≡ get_or c.args.identifiers.now c.loop-i.i 0 = search rules in
    record {
      written = now;
      added =
          one_added c.args.self.now.renumbered.items c.loop-i.self.renumbered.items c.add.new.self.renumbered.items c.args.identifiers.now
          c.loop-i.i c.from.result
          (now.many ∙ sym before.many) is c.in_ok-add.ensures.named c.in_ok-add.ensures.kept c.in_ok-add.ensures.only
          c.loop-i.invariant.added;
    }
