use Rattle.std.proofs.Common.{◌≡◌, None, length, rules}
use Rattle.std.proofs.Math.ListN.{replicate}
use Rattle.postscript_base.specs.Index.Lent.{items_of}
use Rattle.postscript_write.proofs.NewStrings.{none_has, none_written}
use Rattle.postscript_write.proofs.strings.Strings.none.Goals as goal

pub returns-clause-renumbered : goal.returns-clause-renumbered
returns-clause-renumbered c =
    let is : c.in_ok-vec.field-0.items ≡ replicate (length (items_of c.args.own.now)) None = search rules in
    rw c.new.ensures.items (none_written (items_of c.args.own.now) c.in_ok-vec.field-0.items is)

pub returns-clause-none : goal.returns-clause-none
returns-clause-none c = λ number.
    let is : c.in_ok-vec.field-0.items ≡ replicate (length (items_of c.args.own.now)) None = search rules in
    none_has c.in_ok-vec.field-0.items (length (items_of c.args.own.now)) number is
