use Rattle.std.proofs.Common.{◌≡◌, ℕ, ◌<◌, ◌++◌, ◌+◌, ◌*◌, ◌%◌, ◌^◌, length, drop}
use Rattle.postscript_sfnt_write.specs.Layout.{records_text, checksums}
use Rattle.postscript_sfnt_write.specs.Tables.{IsGiven, rooms, size_of}
use Rattle.postscript_sfnt_write.specs.declared.file.Table.{Table}
use Rattle.postscript_sfnt_write.proofs.file.put_records.Given as goal

-- what is still to be written completes the records, and what is still to be added the sum
abbrev pub invariant-loop-table : goal.invariant-loop-table
invariant-loop-table l =
    (l.out.items ++ records_text l.place (drop l.table-index l.tables) ≡ l.fn.out.items ++ records_text
    (12 + length l.tables * 16) l.tables)
    × ((l.sum + checksums (drop l.table-index l.tables)) % 2 ^ 32 ≡ checksums l.tables % 2 ^ 32)
    × (l.place + rooms (drop l.table-index l.tables) ≡ size_of l.tables)
    × ((k : ℕ) (t : Table) → k < l.table-index → IsGiven l.tables k t → t.tag < 2 ^ 32)
