use Rattle.std.proofs.Common.{◌+◌, ◌∷◌, ◌∙◌, [], subst, ℕ, List}
use Rattle.postscript_layout.specs.Numbers.{word}
use Rattle.postscript_layout_write.specs.Contexts.{sets_at}
use Rattle.postscript_layout_write.specs.Coverages.{IsPart}
use Rattle.postscript_layout_write.proofs.ContextCollecting.{begins-trans, coverages-on, part-of}
use Rattle.postscript_layout_write.proofs.Reversing.{substitutes-small}
use Rattle.postscript_layout_write.proofs.reverses.made_of.Goals as goal

pub returns-clause-exact : goal.returns-clause-exact
returns-clause-exact c =
    let gsub = c.args.source.now.gsub.now in
    let kept = c.args.source.now.kept.now in
    let s = c.args.subtable in
    let final = c.part_of-2.new.tables.bytes.items in
    let last = c.in_ok-after.ensures.more in
    let first = c.in_ok-before.ensures.part in
    record {
      before = subst (λ n. IsPart (sets_at gsub kept s (s + 6) n) c.in_ok-before.before final) c.word.ensures.exact
          (record { have = coverages-on _ _ _ _ last first.have; some = first.some });
      input = subst (λ (xs : List ℕ). IsPart (xs ∷ []) c.add.new.self final) (c.deref.ensures.value ∙ c.in_ok-found.ensures.glyphs)
          (part-of _ _ _ _ _ final c.new-input.ensures.offsets c.new-input.ensures.some c.in_ok-add.ensures.added (begins-trans _ _ _ c.in_ok-before.ensures.more last));
      after = subst (λ a. IsPart (sets_at gsub kept s (a + 2) (word gsub a)) c.in_ok-after.after final) c.ahead_at-ahead.ensures.exact
          (subst (λ n. IsPart (sets_at gsub kept s (c.ahead_at-ahead.result + 2) n) c.in_ok-after.after final) c.word-2.ensures.exact c.in_ok-after.ensures.part);
      actions = c.in_ok-found.ensures.others;
      small = substitutes-small gsub kept s c.requires.few;
    }
