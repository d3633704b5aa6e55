use Rattle.std.proofs.Common.{refl}
use Rattle.postscript_c.specs.ShortNames.{name_tag}
use Rattle.postscript_c.proofs.short_names.given_with.Goals as goal

pub returns-clause-one : goal.returns-clause-one
returns-clause-one c =
    (record { tag = name_tag; bytes = c.args.bytes }, rw c.new-given.ensures.items at c.in_ok-push.ensures.items, refl, refl)
