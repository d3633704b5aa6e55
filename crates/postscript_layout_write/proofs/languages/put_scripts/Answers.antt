use Rattle.std.proofs.Common.{◌≡◌, ◌∙◌, ◌<◌, ◌++◌, ◌∷◌, [], ap, subst}
use Rattle.postscript_layout.specs.Numbers.{word}
use Rattle.postscript_layout_write.specs.Features.{KeepsScripts}
use Rattle.postscript_layout_write.specs.Records.{records_text}
use Rattle.postscript_layout_write.proofs.LanguageReading.{scripts-read}
use Rattle.postscript_layout_write.proofs.RecordReading.{puts-text}
use Rattle.postscript_layout_write.proofs.languages.put_scripts.Goals as goal

pub returns-clause-done : goal.returns-clause-done
returns-clause-done c =
    let table = c.args.table.now in
    let kept = c.args.kept.now in
    let list = word table 4 in
    let records = c.in_ok-records.records in
    let count : c.word-count.result ≡ word table list = c.word-count.ensures.exact ∙ ap (word table) c.word.ensures.exact in
    puts-text (KeepsScripts kept table list) c.args.out.now.items c.put_records.new.out.items
    (records_text (word table list ∷ []) records.numbers.items records.tables.bytes.items)
    (c.in_ok-put_records.ensures ∙ ap (λ n. c.args.out.now.items ++ records_text (n ∷ []) records.numbers.items records.tables.bytes.items) count)
    (scripts-read kept table list records.numbers.items records.tables.bytes.items (subst (λ n. n < 65536) count c.word-count.ensures.small) c.in_ok-records.ensures.records)
