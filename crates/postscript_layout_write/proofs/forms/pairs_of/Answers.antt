use Rattle.std.proofs.Common.{ap, sym, subst, arith, List, length, ◌<◌}
use Rattle.std.specs.List.{All}
use Rattle.postscript_layout_write.specs.ClassPairs.{AreRowsIfOpen}
use Rattle.postscript_layout_write.specs.Entries.{AreEntries, form_of}
use Rattle.postscript_layout_write.specs.Forms.{AddsForms, AreForms}
use Rattle.postscript_layout_write.specs.Scopes.{new_pair}
use Rattle.postscript_layout_write.specs.declared.entries.Entry.{Entry}
use Rattle.postscript_layout_write.proofs.ClassCollecting.{rows-more}
use Rattle.postscript_layout_write.proofs.Collecting.{completed, first-far, forms-more}
use Rattle.postscript_layout_write.proofs.forms.pairs_of.Goals as goal

pub loop-k-preserved : goal.loop-k-preserved
loop-k-preserved c = record {
  forms = forms-more c.args.scope c.args.gpos.now c.args.kept.now c.args.lookup c.loop-k.k c.in_ok-entries.entries.items c.loop-k.forms c.add.new.self (omega arith) c.requires.few
      c.in_ok-entries.ensures.exact
      (subst (λ (xs : List Entry). AddsForms c.loop-k.k xs c.loop-k.forms c.add.new.self) c.deref.ensures.value c.in_ok-add.ensures.done)
      c.loop-k.invariant.forms;
  rows = rows-more c.args.scope c.args.gpos.now c.args.kept.now c.args.lookup c.loop-k.k c.in_ok-entries.entries.items c.loop-k.rows c.add_first.new.rows (omega arith)
      c.in_ok-entries.ensures.exact c.in_ok-add_first.ensures.open
      (λ is-open g are. c.in_ok-add_first.ensures.added is-open g (subst (λ (xs : List Entry). AreEntries g c.loop-k.rows.width xs) (sym c.deref-in-loop-k.ensures.value) are)) c.loop-k.invariant.rows;
  spent = omega (arith, c.pay.ensures.spends, c.entries_of.ensures.spends, c.loop-k.invariant.spent);
}

pub returns-clause-listed : goal.returns-clause-listed
returns-clause-listed c =
    let f = new_pair c.args.scope c.args.gpos.now c.args.kept.now c.args.lookup in
    completed f (length c.args.kept.now) c.loop-k.forms c.complete.new.self
    (λ x y far. ap form_of (first-far c.args.scope c.args.gpos.now c.args.kept.now c.args.lookup x y far)) c.in_ok-complete.ensures.done
    (subst (λ n. AreForms f n c.loop-k.forms) {x = c.loop-k.k} {y = length c.args.kept.now} (omega arith) c.loop-k.invariant.forms)

pub returns-clause-rows : goal.returns-clause-rows
returns-clause-rows c =
    subst (λ n. AreRowsIfOpen (new_pair c.args.scope c.args.gpos.now c.args.kept.now c.args.lookup) (length c.args.kept.now) n c.loop-k.rows)
    {x = c.loop-k.k} {y = length c.args.kept.now} (omega arith) c.loop-k.invariant.rows

pub add_first-requires : goal.add_first-requires
add_first-requires c = λ is-open. subst (λ (xs : List Entry). All (λ e. e.second < c.loop-k.rows.width) xs) (sym c.deref-in-loop-k.ensures.value)
    (λ k d less. (let small = (c.in_ok-entries.ensures.exact.right k d less).0 in let wide = (c.loop-k.invariant.rows is-open).0 in omega (arith, small, wide)))
