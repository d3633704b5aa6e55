use Rattle.std.proofs.Common.{◌∙◌, ◌+◌, ap, subst, sym, List, arith}
use Rattle.postscript_instance_file.specs.Names.{AreKept, kept, left_out, none}
use Rattle.postscript_instance_file.proofs.Naming.{same-kept}
use Rattle.postscript_text.specs.declared.names.Record.{Record}
use Rattle.postscript_instance_file.proofs.records.put_old.Goals as goal
use Rattle.postscript_instance_file.proofs.records.put_old.Goals.{in-Some+then-stays+in_ok-push, in-Some+else-stays, in_default}

pub loop-i-init : goal.loop-i-init
loop-i-init c = subst (λ (xs : List Record). AreKept c.args.face.now.axes c.args.table.now 0 xs) (sym c.requires) none

pub loop-i-preserved : goal.loop-i-preserved
loop-i-preserved c =
    let axes = c.args.face.now.axes in
    let table = c.args.table.now in
    let i = c.loop-i.i in
    let old = c.loop-i.records.items in
    elim c.match-record_at.branch [
      | in-Some+then-stays+in_ok-push w ↦
          let more = kept i old w.in-Some.record c.loop-i.invariant w.in-Some.ensures (w.stays.ensures.0 w.if-stays.true) in
          subst (λ (xs : List Record). AreKept axes table (i + 1) xs) (sym (ap (λ v. v.items) w.records-is ∙ w.in_ok-push.ensures.items)) more
      | in-Some+else-stays w ↦
          let same = left_out i old c.loop-i.invariant (λ one is keeps.
          let yes = w.stays.ensures.1 (same-kept axes table i one w.in-Some.record is w.in-Some.ensures keeps) in
          let off = w.if-stays.false in
          absurd (cc)) in
          subst (λ (xs : List Record). AreKept axes table (i + 1) xs) (sym (ap (λ v. v.items) w.records-is)) same
      | in_default w ↦
          let same = left_out i old c.loop-i.invariant (λ one is keeps.
          let short = w.in_default.ensures in
          let within = is.within in
          absurd (omega (arith, short, within))) in
          subst (λ (xs : List Record). AreKept axes table (i + 1) xs) (sym (ap (λ v. v.items) w.records-is)) same
    ]
