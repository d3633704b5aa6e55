use Rattle.std.proofs.Common.{◌+◌, ◌<◌, ◌≤◌, ◌++◌, ◌∙◌, ap, sym, subst, drop, length, List, arith}
use Rattle.std.specs.List.{All}
use Rattle.std.proofs.lemmas.List.{append_assoc, append-nil, take_all}
use Rattle.postscript_layout_write.specs.Text.{EntryFits, entries_text, no_entry}
use Rattle.postscript_layout_write.specs.declared.entries.Entry.{Entry}
use Rattle.postscript_layout_write.proofs.Writing.{all-more, entries-text-more, entries-text-done}
use Rattle.postscript_layout_write.proofs.subtables.put_set.Goals as goal

pub loop-entry-preserved : goal.loop-entry-preserved
loop-entry-preserved c =
    let es = c.args.entries.now in
    let i = c.loop-entry.entry-index in
    let less : i < length es = omega arith in
    record {
      text = ap (λ xs. xs ++ entries_text c.args.form (drop (i + 1) es)) c.in_ok-put_entry.ensures.text
          ∙ append_assoc c.loop-entry.out.items _ _
          ∙ ap (λ xs. c.loop-entry.out.items ++ xs) (sym (entries-text-more c.args.form es i no_entry less))
          ∙ c.loop-entry.invariant.text;
      fit = all-more (EntryFits c.args.form) es i no_entry less c.loop-entry.invariant.fit c.in_ok-put_entry.ensures.fits;
    }

pub returns-clause-text : goal.returns-clause-text
returns-clause-text c =
    let past : length c.args.entries.now ≤ c.loop-entry.entry-index = omega arith in
    sym (append-nil c.loop-entry.out.items)
    ∙ ap (λ xs. c.loop-entry.out.items ++ xs) (sym (entries-text-done c.args.form c.args.entries.now c.loop-entry.entry-index past))
    ∙ c.loop-entry.invariant.text

pub returns-clause-fit : goal.returns-clause-fit
returns-clause-fit c =
    let past : length c.args.entries.now ≤ c.loop-entry.entry-index = omega arith in
    subst (λ (xs : List Entry). All (EntryFits c.args.form) xs) (take_all c.loop-entry.entry-index c.args.entries.now past) c.loop-entry.invariant.fit
