use Rattle.std.proofs.Common.{◌≡◌, ◌∙◌, ◌+◌, ◌*◌, ◌++◌, ◌∷◌, [], ap, sym, subst, arith}
use Rattle.postscript_layout.specs.Numbers.{word}
use Rattle.postscript_layout_write.specs.Features.{KeepsScript}
use Rattle.postscript_layout_write.specs.Records.{records_text}
use Rattle.postscript_layout_write.proofs.LanguageReading.{IsDefault, is_none, is_some, script-read}
use Rattle.postscript_layout_write.proofs.RecordReading.{puts-text}
use Rattle.postscript_layout_write.proofs.languages.put_script.Goals.{then-word-eq0, else-word-eq0}
use Rattle.postscript_layout_write.proofs.languages.put_script.Goals as goal

pub returns-clause-done : goal.returns-clause-done
returns-clause-done c =
    let table = c.args.table.now in
    let kept = c.args.kept.now in
    let script = c.args.script in
    let records = c.in_ok-records.records in
    let count : c.word-count.result ≡ word table (script + 2) = c.word-count.ensures.exact in
    let base = 4 + word table (script + 2) * 6 in
    let default = c.if-word-eq0.default in
    let is : IsDefault table script base default = elim c.if-word-eq0.branch [
      | then-word-eq0 w ↦ subst (IsDefault table script base) (sym w.default-is) (is_none (sym c.word.ensures.exact ∙ w.if-word-eq0.true))
      | else-word-eq0 w ↦ subst (IsDefault table script base) (let same = w.default-is in omega (arith, same, count))
          (is_some (λ none. w.if-word-eq0.false (c.word.ensures.exact ∙ none)))
    ] in
    puts-text (KeepsScript kept table script) c.args.out.now.items c.put_records.new.out.items
    (records_text (default ∷ word table (script + 2) ∷ []) records.numbers.items records.tables.bytes.items)
    (c.in_ok-put_records.ensures ∙ ap (λ n. c.args.out.now.items ++ records_text (default ∷ n ∷ []) records.numbers.items records.tables.bytes.items) count)
    (script-read kept table script default records.numbers.items records.tables.bytes.items is (omega (arith, count)) c.in_ok-records.ensures.default
    c.in_ok-records.ensures.records)
