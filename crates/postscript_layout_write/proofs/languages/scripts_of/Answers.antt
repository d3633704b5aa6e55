use Rattle.std.proofs.Common.{◌≡◌, ◌∙◌, ◌+◌, ◌*◌, ap, subst, arith}
use Rattle.postscript_layout.specs.Numbers.{long, word}
use Rattle.postscript_layout_write.specs.Features.{KeepsScript}
use Rattle.postscript_layout_write.specs.Records.{Puts}
use Rattle.postscript_layout_write.specs.ScriptLists.{named}
use Rattle.postscript_layout_write.proofs.RecordReading.{records-more}
use Rattle.postscript_layout_write.proofs.languages.scripts_of.Goals as goal

pub loop-i-preserved : goal.loop-i-preserved
loop-i-preserved c =
    let table = c.args.table.now in
    let kept = c.args.kept.now in
    let i = c.loop-i.i in
    let list = word table 4 in
    let old = c.loop-i.records in
    let new = c.add.new.self in
    let text = c.put_script.new.out.items in
    let at : c.word-list.result ≡ list = c.word-list.ensures.exact in
    let count : c.word-count.result ≡ word table list = c.word-count.ensures.exact ∙ ap (word table) at in
    record {
      records = records-more (λ k. long table (list + 2 + k * 6)) (λ k. KeepsScript kept table (named table list (list + 2) k))
          (2 + word table list * 6) i old.numbers.items old.tables.bytes.items new.numbers.items new.tables.bytes.items c.long-tag.result
          (2 + c.word-count.result * 6) c.deref.result.now text c.new-text.result.items c.loop-i.invariant.records
          (c.long-tag.ensures.exact ∙ ap (λ n. long table (n + 2 + i * 6)) at) c.long-tag.ensures.small (omega (arith, count)) c.deref.ensures.value
          c.new-text.ensures.items
          (subst (λ k. Puts (KeepsScript kept table k) c.new-text.result.items text) (c.table_at-script.ensures.exact ∙ ap (λ n. named table n (n + 2) i) at)
          c.in_ok-put_script.ensures.done) c.in_ok-add.ensures.added;
      spent = omega (arith, c.pay.ensures.spends, c.put_script.ensures.spends, c.loop-i.invariant.spent);
    }
