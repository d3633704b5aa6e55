use Rattle.std.proofs.Common.{◌≡◌, ◌+◌, ◌∙◌, sym, subst, arith, ℕ, List}
use Rattle.std.specs.Prelude.{slice_index}
use Rattle.postscript_layout_write.specs.Attaching.{AddsLigature, AreLigatures, HasLigature, ligature_at}
use Rattle.postscript_layout_write.specs.declared.subtables.Sets.{Sets}
use Rattle.postscript_layout_write.proofs.LigatureRows.{ligatures-less, ligatures-more}
use Rattle.postscript_layout_write.proofs.ligatures.ligatures_of.Goals.{in-Some+in_ok-text+in_ok-add, in_default}
use Rattle.postscript_layout_write.proofs.ligatures.ligatures_of.Goals as goal

pub loop-k-preserved : goal.loop-k-preserved
loop-k-preserved c =
    let gpos = c.args.gpos.now in
    let subtable = c.args.subtable in
    let kept = c.args.kept.now in
    let k = c.loop-k.k in
    let old = c.loop-k.ligatures in
    let found : c.in_ok-found.found ≡ ligature_at gpos subtable (slice_index kept k) = c.in_ok-found.ensures.exact in
    record {
      are = elim c.match-found.branch [
        | in-Some+in_ok-text+in_ok-add w ↦ subst (λ (sets : Sets). AreLigatures gpos subtable kept (k + 1) sets.firsts.items sets.offsets.items sets.bytes.items) (sym w.ligatures-is)
            (ligatures-more gpos subtable kept k w.in-Some.ligature w.in_ok-text.text.items old.firsts.items old.offsets.items old.bytes.items
            w.add.new.ligatures.firsts.items w.add.new.ligatures.offsets.items w.add.new.ligatures.bytes.items c.loop-k.invariant.are
            (sym found ∙ w.in-Some.is)
            (subst (λ n. HasLigature gpos w.in-Some.ligature n w.in_ok-text.text.items 0) c.requires.classes w.in_ok-text.ensures.text)
            (subst (λ (xs : List ℕ). AddsLigature k xs old.firsts.items old.offsets.items old.bytes.items w.add.new.ligatures.firsts.items
            w.add.new.ligatures.offsets.items w.add.new.ligatures.bytes.items) w.deref.ensures.value w.in_ok-add.ensures.done))
        | in_default w ↦ subst (λ (sets : Sets). AreLigatures gpos subtable kept (k + 1) sets.firsts.items sets.offsets.items sets.bytes.items) (sym w.ligatures-is)
            (ligatures-less gpos subtable kept k old.firsts.items old.offsets.items old.bytes.items c.loop-k.invariant.are (sym found ∙ w.in_default.is))
      ];
      spent = (let spends = c.ligature_of.ensures.spends in elim c.match-found.branch [
        | in-Some+in_ok-text+in_ok-add w ↦ (let more = w.text_of.ensures.spends in let is = w.limit-is in omega (arith, c.pay.ensures.spends, spends, more, is, c.loop-k.invariant.spent))
        | in_default w ↦ (let is = w.limit-is in omega (arith, c.pay.ensures.spends, spends, is, c.loop-k.invariant.spent))
      ]);
    }
