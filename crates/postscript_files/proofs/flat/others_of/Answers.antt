use Rattle.std.proofs.Common.{◌≡◌, ◌≤◌, ◌∙◌, refl, sym, ap, subst, inr, arith, drop, length, List, [], ◌∷◌, ◌++◌}
use Rattle.std.specs.List.{sum_by}
use Rattle.postscript_sfnt_write.specs.declared.file.Table.{Table}
use Rattle.postscript_files.specs.Others.{AreOthers}
use Rattle.postscript_files.proofs.Others.{have-more, others-first}
use Rattle.postscript_files.proofs.flat.others_of.Goals as goal

pub put_others-requires : goal.put_others-requires
put_others-requires c =
    let u : Table = record { tag = 0x43464620; bytes = c.args.font } in
    let e : c.push.new.self.items ≡ u ∷ [] = c.in_ok-push.ensures.items ∙ ap (λ (xs : List Table). xs ++ u ∷ []) c.new-tables.ensures.items in
    subst (λ (xs : List Table). AreOthers c.args.face.now c.args.font.now xs) (sym e)
    (others-first c.args.face.now c.args.font.now (record { tag = 0x43464620; bytes = c.args.font }) refl refl)

pub returns-then-size-most-clause-refused : goal.returns-then-size-most-clause-refused
returns-then-size-most-clause-refused c =
    let sum : c.size.result ≤ sum_by (λ (t : Table). length t.bytes.now) (drop 1 c.put_others.new.tables.items) =
    subst (λ (xs : List Table). c.size.result ≤ sum_by (λ (t : Table). length t.bytes.now) (drop 1 xs)) c.deref.ensures.value c.size.ensures in
    inr (
      refl,
      have-more c.args.face.now c.args.font.now c.put_others.new.tables.items c.args.most c.size.result c.in_ok-put_others.ensures.others
          c.in_ok-put_others.ensures.listed sum (omega (arith, c.if-size-most.true)),
    )
