use Rattle.std.proofs.Common.{◌≡◌, ◌∙◌, ◌+◌, ◌*◌, ap, subst, get_or, length, refl, arith}
use Rattle.postscript_layout.specs.Numbers.{long, word}
use Rattle.postscript_layout_write.specs.Features.{KeepsFeature}
use Rattle.postscript_layout_write.specs.Records.{Puts}
use Rattle.postscript_layout_write.specs.ScriptLists.{named}
use Rattle.postscript_layout_write.proofs.RecordReading.{records-more}
use Rattle.postscript_layout_write.proofs.features.features_of.Goals as goal

pub loop-j-preserved : goal.loop-j-preserved
loop-j-preserved c =
    let table = c.args.table.now in
    let kept = c.args.kept.now in
    let j = c.loop-j.j in
    let i = get_or kept j 0 in
    let list = word table 6 in
    let old = c.loop-j.records in
    let new = c.add.new.self in
    let text = c.put_feature.new.out.items in
    let before = c.new-text.result.items in
    let at : c.word-list.result ≡ list = c.word-list.ensures.exact in
    let tag : c.long-tag.result ≡ long table (list + 2 + i * 6) = c.long-tag.ensures.exact ∙ ap (λ n. long table (n + 2 + i * 6)) at in
    record {
      records = records-more (λ k. long table (list + 2 + get_or kept k 0 * 6))
          (λ k. KeepsFeature table (long table (list + 2 + get_or kept k 0 * 6)) (named table list (list + 2) (get_or kept k 0)))
          (2 + length kept * 6) j old.numbers.items old.tables.bytes.items new.numbers.items new.tables.bytes.items c.long-tag.result
          (2 + length kept * 6) c.deref.result.now text before c.loop-j.invariant.records tag c.long-tag.ensures.small refl c.deref.ensures.value
          c.new-text.ensures.items
          (subst (λ n. Puts (KeepsFeature table n (named table list (list + 2) i)) before text) tag
          (subst (λ k. Puts (KeepsFeature table c.long-tag.result k) before text) (c.table_at-feature.ensures.exact ∙ ap (λ n. named table n (n + 2) i) at)
          c.in_ok-put_feature.ensures.done)) c.in_ok-add.ensures.added;
      spent = omega (arith, c.pay.ensures.spends, c.put_feature.ensures.spends, c.loop-j.invariant.spent);
    }
