use Rattle.std.proofs.Common.{◌≡◌, ◌++◌, ◌∷◌, [], ◌+◌, Bool, List, ℕ, inr, sym, subst, arith}
use Rattle.std.proofs.lemmas.Bool.{MatchBool-at_false, MatchBool-at_true, iff_false}
use Rattle.postscript_text.specs.NameTables.{AreChosen, Holds, IsLeftOut, chosen, left_out, no_record, not_chosen, repeated, truncated, word_at}
use Rattle.postscript_text.specs.declared.names.NameTable.{NameTable}
use Rattle.postscript_text.specs.declared.names.Record.{Record}
use Rattle.postscript_text.proofs.Naming.{none-of, some-of}
use Rattle.postscript_text.proofs.names.trimmed.Goals as goal
use Rattle.postscript_text.proofs.names.trimmed.Goals.{else-is_kept-via-else-is_kept, else-is_kept-via-then-is_kept+else-not-is_told_twice, in-Some+else-is_kept, in-Some+then-is_kept+then-not-is_told_twice+in_ok-put, in_default-record_at}

pub loop-i-init : goal.loop-i-init
loop-i-init c = ([], no_record, c.new-kept.ensures)

-- the records so far, of which one is left out
stays : (table : List ℕ) (licence : Bool) (i : ℕ) (old new : NameTable) →
    ((records : List Record) × AreChosen table licence i records × Holds old records) → new ≡ old → IsLeftOut table licence i →
    (records : List Record) × AreChosen table licence (i + 1) records × Holds new records
stays table licence i old new so_far same cause =
    (so_far.0, left_out i so_far.0 so_far.1 cause, subst (λ (t : NameTable). Holds t so_far.0) (sym same) so_far.2)

pub loop-i-preserved : goal.loop-i-preserved
loop-i-preserved c =
    let so_far = c.loop-i.invariant in
    let i = c.loop-i.i in
    let stay = stays c.args.table.now c.args.licence i c.loop-i.kept c.match-record_at.kept so_far in
    elim c.match-record_at.branch [
      | in-Some+then-is_kept+then-not-is_told_twice+in_ok-put w ↦
          let entry = w.in-Some.record in
          let own = MatchBool-at_false _ _ w.if-not-is_told_twice.true w.is_told_twice.ensures in (
            so_far.0 ++ entry ∷ [],
            chosen i so_far.0 entry so_far.1 w.in-Some.ensures (w.is_kept.ensures.0 w.if-is_kept.true) own,
            subst (λ (kept : NameTable). Holds kept (so_far.0 ++ entry ∷ [])) (sym w.kept-is) (w.in_ok-put.ensures so_far.0 so_far.2),
          )
      | in-Some+else-is_kept w ↦
          let entry = w.in-Some.record in
          stay w.kept-is (elim w.else-is_kept.branch [
            | else-is_kept-via-then-is_kept+else-not-is_told_twice v ↦
                repeated entry w.in-Some.ensures (MatchBool-at_true _ _ v.if-not-is_told_twice.false v.is_told_twice.ensures)
            | else-is_kept-via-else-is_kept v ↦ not_chosen entry w.in-Some.ensures (iff_false w.is_kept.ensures v.if-is_kept.false)
          ])
      | in_default-record_at w ↦ stay w.kept-is (truncated w.in_default-record_at.ensures)
    ]

pub returns-clause-has : goal.returns-clause-has
returns-clause-has c =
    let so_far = c.loop-i.invariant in
    let all : c.loop-i.i ≡ word_at c.args.table.now 2 = omega (arith, c.word-count.ensures.value) in
    some-of c.table.result _ _ _
    (λ made is. (so_far.0, subst (λ (count : ℕ). AreChosen c.args.table.now c.args.licence count so_far.0) all so_far.1, is))
    (c.table.ensures so_far.0 so_far.2)

pub returns-clause-none : goal.returns-clause-none
returns-clause-none c =
    let so_far = c.loop-i.invariant in
    let all : c.loop-i.i ≡ word_at c.args.table.now 2 = omega (arith, c.word-count.ensures.value) in
    none-of c.table.result _ _ _
    (λ long. inr (inr (so_far.0, subst (λ (count : ℕ). AreChosen c.args.table.now c.args.licence count so_far.0) all so_far.1, long)))
    (c.table.ensures so_far.0 so_far.2)
