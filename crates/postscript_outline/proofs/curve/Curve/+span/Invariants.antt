use Rattle.postscript_outline.proofs.curve.Curve.+span.Given as goal

abbrev pub decreases-span : goal.decreases-span
decreases-span l = l.halvings
