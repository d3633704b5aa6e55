use Rattle.std.proofs.Common.{◌≡◌, ◌∙◌, sym}
use Rattle.std.specs.List.{filter_map}
use Rattle.postscript_write.specs.Parts.{naming}
use Rattle.postscript_write.specs.Strings.{identifier_in}
use Rattle.postscript_write.proofs.NewStrings.{both_added}
use Rattle.postscript_write.proofs.strings.Strings.collect.Goals as goal

pub returns-clause-named : goal.returns-clause-named
returns-clause-named c =
    let map = c.args.font.now.dictionary in
    let is : c.deref.result.now ≡ filter_map (identifier_in map) naming = c.deref.ensures.value ∙ c.in_ok-named.ensures.named in
    both_added map c.args.identifiers.now c.deref.result.now c.in_ok-strings.strings.renumbered.items c.add_all.new.self.renumbered.items
    c.add_all-2.new.self.renumbered.items is
    (c.in_ok-add_all-2.ensures.renumbered.many ∙ sym c.in_ok-add_all.ensures.renumbered.many) c.in_ok-strings.ensures.none
    c.in_ok-add_all.ensures.added c.in_ok-add_all-2.ensures.added
