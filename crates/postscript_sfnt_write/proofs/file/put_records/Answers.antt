use Rattle.std.proofs.Common.{◌≡◌, ◌∙◌, ap, sym, ◌+◌, ◌%◌, ◌^◌, ◌<◌, ◌≤◌, ◌++◌, length, drop, get_or, arith}
use Rattle.std.proofs.Math.Nat.{mod-add-mod}
use Rattle.std.proofs.lemmas.List.{append_assoc, append-nil}
use Rattle.postscript_sfnt_write.specs.Layout.{record_text, records_text, checksums}
use Rattle.postscript_sfnt_write.specs.Tables.{room_of}
use Rattle.postscript_sfnt_write.proofs.Rests.{empty, given_is, records_more, records_done, rooms_more, sums_more, sums_done}
use Rattle.postscript_sfnt_write.proofs.Placing.{given_below}
use Rattle.postscript_sfnt_write.proofs.file.put_records.Goals as goal

pub put_record-requires : goal.put_record-requires
put_record-requires c =
    let e = rooms_more c.args.tables.now c.loop-table.table-index (omega arith) in
    let was = c.loop-table.invariant.2 in
    let fits = c.requires.fits in
    omega (arith, e, was, fits)

pub room_of-requires : goal.room_of-requires
room_of-requires c =
    let e = rooms_more c.args.tables.now c.loop-table.table-index (omega arith) in
    let was = c.loop-table.invariant.2 in
    let fits = c.requires.fits in
    omega (arith, e, was, fits)

pub loop-table-preserved : goal.loop-table-preserved
loop-table-preserved c =
    let less : c.loop-table.table-index < length c.args.tables.now = omega arith in
    let rest = drop (c.loop-table.table-index + 1) c.args.tables.now in
    let room : c.room_of.result ≡ room_of (length (get_or c.args.tables.now c.loop-table.table-index empty).bytes.now) = omega arith in
    let more = sums_more c.args.tables.now c.loop-table.table-index less in
    let s = c.loop-table.sum in
    let one = c.in_ok-sum.field-0 in
    let told = c.in_ok-sum.ensures.sum in
    let e = rooms_more c.args.tables.now c.loop-table.table-index less in
    let was = c.loop-table.invariant.2 in (
      ap (λ xs. xs ++ records_text (c.loop-table.place + c.room_of.result) rest) c.in_ok-sum.ensures.text
          ∙ append_assoc c.loop-table.out.items _ _
          ∙ ap (λ n. c.loop-table.out.items ++ (record_text c.loop-table.place
          (get_or c.args.tables.now c.loop-table.table-index empty) ++ records_text (c.loop-table.place + n) rest)) room
          ∙ ap (λ xs. c.loop-table.out.items ++ xs) (sym (records_more c.loop-table.place c.args.tables.now c.loop-table.table-index less))
          ∙ c.loop-table.invariant.0,
      mod-add-mod (s + one) (2 ^ 32) (checksums rest)
          ∙ ap (λ n. n % 2 ^ 32) (let eq : s + one + checksums rest ≡ s + checksums (drop c.loop-table.table-index c.args.tables.now) = omega
          (arith, told, more) in eq) ∙ c.loop-table.invariant.1,
      omega (arith, e, was, room),
      λ k t within given. grind
          (arith, c.loop-table.invariant.3 k t, given_is c.args.tables.now k t empty given, c.in_ok-sum.ensures.tagged),
    )

pub returns-clause-text : goal.returns-clause-text
returns-clause-text c =
    let past : length c.args.tables.now ≤ c.loop-table.table-index = omega arith in
    sym (append-nil c.loop-table.out.items)
    ∙ ap (λ xs. c.loop-table.out.items ++ xs) (sym (records_done c.loop-table.place c.args.tables.now c.loop-table.table-index past))
    ∙ c.loop-table.invariant.0

pub returns-clause-sum : goal.returns-clause-sum
returns-clause-sum c =
    let past : length c.args.tables.now ≤ c.loop-table.table-index = omega arith in
    let none = sums_done c.args.tables.now c.loop-table.table-index past in
    let was = c.loop-table.invariant.1 in
    omega (arith, none, was)

pub returns-clause-tagged : goal.returns-clause-tagged
returns-clause-tagged c = λ i t given.
    let less = given_below c.args.tables.now i t given in
    c.loop-table.invariant.3 i t (omega (arith, less)) given
