use Rattle.std.proofs.Common.{◌≡◌, ◌+◌, ◌*◌, ℕ, List, inl, inr, sym, subst, arith}
use Rattle.postscript_layout.specs.Numbers.{long, word}
use Rattle.postscript_layout_write.specs.Features.{KeepsLanguage}
use Rattle.postscript_layout_write.specs.Records.{Puts, Stands}
use Rattle.postscript_layout_write.specs.ScriptLists.{named}
use Rattle.postscript_layout_write.proofs.RecordReading.{records-more, stands-on}
use Rattle.postscript_layout_write.proofs.languages.languages_of.Goals as goal

pub loop-j-preserved : goal.loop-j-preserved
loop-j-preserved c =
    let table = c.args.table.now in
    let kept = c.args.kept.now in
    let script = c.args.script in
    let j = c.loop-j.j in
    let old = c.loop-j.records in
    let new = c.add.new.self in
    let text = c.put_language.new.out.items in
    let added = c.in_ok-add.ensures.added in
    let count : c.word-count.result ≡ word table (script + 2) = c.word-count.ensures.exact in
    record {
      default = elim c.loop-j.invariant.default [
        | inl none ↦ inl none
        | inr stands ↦ inr (subst (λ (xs : List ℕ). Stands (KeepsLanguage kept table (script + word table script)) xs 0) (sym added.placed.bytes)
            (stands-on added.placed.more stands))
      ];
      records = records-more (λ k. long table (script + 4 + k * 6)) (λ k. KeepsLanguage kept table (named table script (script + 4) k))
          (4 + word table (script + 2) * 6) j old.numbers.items old.tables.bytes.items new.numbers.items new.tables.bytes.items c.long-tag.result
          (4 + c.word-count.result * 6) c.deref-in-loop-j.result.now text c.new-text.result.items c.loop-j.invariant.records c.long-tag.ensures.exact
          c.long-tag.ensures.small (omega (arith, count)) c.deref-in-loop-j.ensures.value c.new-text.ensures.items
          (subst (λ k. Puts (KeepsLanguage kept table k) c.new-text.result.items text) c.table_at-language.ensures.exact c.in_ok-put_language.ensures.done) added;
      spent = omega (arith, c.pay.ensures.spends, c.put_language.ensures.spends, c.loop-j.invariant.spent);
    }
