use Rattle.std.proofs.Common.{sym, subst, List}
use Rattle.postscript_sfnt_write.specs.declared.file.Table.{Table}
use Rattle.postscript_files.specs.Others.{AreOthers, Has}
use Rattle.postscript_files.proofs.Others.{has-last, has-more, others-more, stays-so}
use Rattle.postscript_files.proofs.flat.put_other.Goals as goal

pub returns-in_ok-push-clause-others : goal.returns-in_ok-push-clause-others
returns-in_ok-push-clause-others c =
    let none : Has c.args.tables.now.items c.args.tag → ⊥ =
    λ h. let p = c.if-not-has.ensures.1 (subst (λ (xs : List Table). Has xs c.args.tag) (sym c.as_slice.ensures.value) h) in absurd (cc) in
    let u : Table = record { tag = c.args.tag; bytes = c.in-Some.bytes } in
    subst (λ (xs : List Table). AreOthers c.args.file.now c.args.font.now xs) (sym c.in_ok-push.ensures.items)
    (others-more c.args.file.now c.args.font.now c.args.tables.now.items (record { tag = c.args.tag; bytes = c.in-Some.bytes }) c.requires
    (stays-so c.args.file.now c.args.font.now c.args.tables.now.items c.args.tag c.requires c.if-tag-ne-DSIG.true none) c.in-Some.ensures none)

pub returns-in_ok-push-clause-kept : goal.returns-in_ok-push-clause-kept
returns-in_ok-push-clause-kept c = λ t h.
    subst (λ (xs : List Table). Has xs t) (sym c.in_ok-push.ensures.items)
    (has-more c.args.tables.now.items (record { tag = c.args.tag; bytes = c.in-Some.bytes }) t h)

pub returns-in_ok-push-clause-there : goal.returns-in_ok-push-clause-there
returns-in_ok-push-clause-there c = λ other table is.
    subst (λ (xs : List Table). Has xs c.args.tag) (sym c.in_ok-push.ensures.items)
    (has-last c.args.tables.now.items (record { tag = c.args.tag; bytes = c.in-Some.bytes }))
