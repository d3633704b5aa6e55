use Rattle.std.proofs.Common.{◌∙◌, ap, sym, ◌+◌, ◌%◌, ◌^◌, take}
use Rattle.std.proofs.lemmas.List.{take_rest}
use Rattle.postscript_sfnt_write.specs.Checksum.{checksum}
use Rattle.postscript_sfnt_write.proofs.Sums.{recorded_sum}
use Rattle.postscript_sfnt_write.proofs.file.table_checksum.Goals as goal

pub returns-then-adjusts : goal.returns-then-adjusts
returns-then-adjusts c =
    let bytes = c.args.table.now.bytes.now in
    ap (λ n. (n + c.checksum-then-adjusts.result) % 2 ^ 32) c.checksum.ensures
    ∙ ap (λ n. (checksum (take 8 bytes) + n) % 2 ^ 32) (c.checksum-then-adjusts.ensures ∙ ap checksum (take_rest bytes 12))
    ∙ recorded_sum c.args.table.now (sym c.adjusts.ensures ∙ c.if-adjusts.true)
