use Rattle.std.proofs.Common.{◌∙◌, [], refl, arith}
use Rattle.postscript_sfnt_write.proofs.Segments.{kept_low, left_low}
use Rattle.postscript_sfnt_write.proofs.mapping.low_segments.Goals as goal

pub returns-then-len-le-SEGMENTS-clause-exact : goal.returns-then-len-le-SEGMENTS-clause-exact
returns-then-len-le-SEGMENTS-clause-exact c =
    (kept_low c.args.mappings.now _ _ (c.deref.ensures.value ∙ c.in_ok-below.ensures) c.in_ok-low.ensures.exact
    (omega arith) c.in_ok-low.ensures.fit).0

pub returns-then-len-le-SEGMENTS-clause-fit : goal.returns-then-len-le-SEGMENTS-clause-fit
returns-then-len-le-SEGMENTS-clause-fit c =
    (kept_low c.args.mappings.now _ _ (c.deref.ensures.value ∙ c.in_ok-below.ensures) c.in_ok-low.ensures.exact
    (omega arith) c.in_ok-low.ensures.fit).1

pub returns-clause-exact : goal.returns-clause-exact
returns-clause-exact c =
    (left_low c.args.mappings.now _ [] _ _ (c.deref.ensures.value ∙ c.in_ok-below.ensures) c.in_ok-low.ensures.exact
    (omega arith) refl c.in_ok-last.ensures.exact c.in_ok-last.ensures.fit).0

pub returns-clause-fit : goal.returns-clause-fit
returns-clause-fit c =
    (left_low c.args.mappings.now _ [] _ _ (c.deref.ensures.value ∙ c.in_ok-below.ensures) c.in_ok-low.ensures.exact
    (omega arith) refl c.in_ok-last.ensures.exact c.in_ok-last.ensures.fit).1
