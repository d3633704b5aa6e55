use Rattle.std.proofs.Common.{◌∙◌, ◌++◌, ◌∷◌, [], ap, subst, ℕ, List, arith, Option}
use Rattle.postscript_layout_write.specs.Flags.{set_of}
use Rattle.postscript_layout_write.specs.Marks.{typed_at}
use Rattle.postscript_layout_write.specs.Scopes.{mark_set_text}
use Rattle.postscript_layout_write.specs.Sets.{Places}
use Rattle.postscript_layout_write.specs.Typed.{AddsPart}
use Rattle.postscript_layout_write.proofs.TypedWriting.{parts-more, parts-none}
use Rattle.postscript_layout_write.proofs.typed.parts_of.Goals as goal

pub loop-j-init : goal.loop-j-init
loop-j-init c = record {
  parts = parts-none c.args.gpos.now c.args.lookup c.args.kind c.args.flag c.args.kept.now c.new-parts.result.offsets.items c.put_set.new.out.items c.new-parts.ensures.offsets
      (c.in_ok-put_set.ensures.text ∙ ap (λ (xs : List ℕ). xs ++ mark_set_text c.args.flag (set_of c.args.gpos.now c.args.lookup)) c.new-parts.ensures.bytes)
      c.in_ok-put_set.ensures.small;
  spent = omega arith;
}

pub loop-j-preserved : goal.loop-j-preserved
loop-j-preserved c =
    let gpos = c.args.gpos.now in
    let kept = c.args.kept.now in
    let kind = c.args.kind in
    let j = c.loop-j.j in
    let old = c.loop-j.parts in
    let text = c.add_part.new.out.items in
    record {
      parts = parts-more gpos c.args.lookup kind c.args.flag kept j c.in_ok-offset.offset text old.offsets.items old.bytes.items c.push.new.self.items c.place.new.self.bytes.items
          c.loop-j.invariant.parts
          (subst (λ (xs : List ℕ). AddsPart kind gpos (typed_at gpos c.args.lookup kind j) kept xs text) c.new-text.ensures.items
          (subst (λ (s : Option ℕ). AddsPart kind gpos s kept c.new-text.result.items text) c.subtable_at-subtable.ensures.exact c.in_ok-add_part.ensures.done))
          (subst (λ (xs : List ℕ). Places xs old.bytes.items c.place.new.self.bytes.items c.in_ok-offset.offset) c.deref.ensures.value c.in_ok-offset.ensures.placed)
          (c.in_ok-push.ensures.items ∙ ap (λ xs. xs ++ c.in_ok-offset.offset ∷ []) c.in_ok-offset.ensures.offsets);
      spent = omega (arith, c.pay.ensures.spends, c.add_part.ensures.spends, c.loop-j.invariant.spent);
    }
