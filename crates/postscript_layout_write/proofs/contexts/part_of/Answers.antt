use Rattle.std.proofs.Common.{◌≡◌, ◌+◌, ◌*◌, ◌∙◌, ◌∷◌, [], ap, sym, subst, ℕ, List, arith}
use Rattle.postscript_layout.specs.Numbers.{word}
use Rattle.postscript_layout_write.specs.Contexts.{sets_at}
use Rattle.postscript_layout_write.specs.Coverages.{AddsSets, IsPart}
use Rattle.postscript_layout_write.specs.Sequences.{covered_of}
use Rattle.postscript_layout_write.proofs.ContextCollecting.{begins-same, begins-trans, part-none, sets-more}
use Rattle.postscript_layout_write.proofs.contexts.part_of.Goals as goal

pub loop-p-init : goal.loop-p-init
loop-p-init c = record {
  part = part-none _ _ c.new-part.ensures.offsets c.new-part.ensures.some;
  more = begins-same _;
  spent = omega arith;
}

pub loop-p-preserved : goal.loop-p-preserved
loop-p-preserved c =
    let gsub = c.args.source.now.gsub.now in
    let kept = c.args.source.now.kept.now in
    let p = c.loop-p.p in
    let before : List (List ℕ) = sets_at gsub kept c.args.subtable c.args.array p in
    let set : List ℕ = covered_of gsub kept (c.args.subtable + word gsub (c.args.array + p * 2)) in
    let glyphs : c.in_ok-glyphs.glyphs.items ≡ set =
    c.in_ok-glyphs.ensures.exact ∙ ap (λ n. covered_of gsub kept (c.args.subtable + n)) c.word.ensures.exact in
    let new = c.add.new.self in
    let tables = c.add.new.tables.bytes.items in
    let added : AddsSets (set ∷ []) c.loop-p.part c.loop-p.tables.bytes.items new tables =
    subst (λ (xs : List ℕ). AddsSets (xs ∷ []) c.loop-p.part c.loop-p.tables.bytes.items new tables) (c.deref.ensures.value ∙ glyphs) c.in_ok-add.ensures.added in
    record {
      part = subst (λ (xs : List (List ℕ)). IsPart xs new tables) (sym (sets-more gsub kept c.args.subtable c.args.array p))
          (added.have before c.loop-p.invariant.part);
      more = begins-trans _ _ _ c.loop-p.invariant.more added.more;
      spent = omega (arith, c.covered_of.ensures.spends, c.loop-p.invariant.spent);
    }
