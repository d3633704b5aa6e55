use Rattle.std.proofs.Common.{◌∷◌, [], length}
use Rattle.postscript_layout.specs.Numbers.{word}
use Rattle.postscript_layout_write.specs.Features.{KeepsFeatures}
use Rattle.postscript_layout_write.specs.Records.{records_text}
use Rattle.postscript_layout_write.proofs.FeatureReading.{features-read}
use Rattle.postscript_layout_write.proofs.RecordReading.{puts-text}
use Rattle.postscript_layout_write.proofs.features.put_features.Goals as goal

pub returns-clause-done : goal.returns-clause-done
returns-clause-done c =
    let table = c.args.table.now in
    let kept = c.args.kept.now in
    let records = c.in_ok-records.records in
    puts-text (KeepsFeatures kept table (word table 6)) c.args.out.now.items c.put_records.new.out.items
    (records_text (length kept ∷ []) records.numbers.items records.tables.bytes.items) c.in_ok-put_records.ensures
    (features-read kept table (word table 6) records.numbers.items records.tables.bytes.items c.requires.few c.in_ok-records.ensures.records)
