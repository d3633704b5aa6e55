use Rattle.std.proofs.Common.{◌≡◌, ◌+◌, ◌*◌, ◌∙◌, ◌∷◌, [], ap, sym, subst, ℕ, List, arith}
use Rattle.std.proofs.lemmas.List.FromFn.{map-range_with_len_more}
use Rattle.postscript_layout.specs.Numbers.{word}
use Rattle.postscript_layout_write.specs.Coverages.{AddsSets}
use Rattle.postscript_layout_write.specs.Labels.{having, having_at}
use Rattle.postscript_layout_write.proofs.ContextCollecting.{adds-both, adds-none}
use Rattle.postscript_layout_write.proofs.contexts.Part.add_labelled.Goals as goal

pub loop-p-init : goal.loop-p-init
loop-p-init c = record { added = adds-none c.args.self.now c.args.tables.now.bytes.items; spent = omega arith }

pub loop-p-preserved : goal.loop-p-preserved
loop-p-preserved c =
    let gsub = c.args.gsub.now in
    let labels = c.args.labels.now in
    let p = c.loop-p.p in
    let set : List ℕ = having labels (word gsub (c.args.array + p * 2)) in
    let glyphs : c.in_ok-glyphs.glyphs.items ≡ set = c.in_ok-glyphs.ensures.exact ∙ ap (having labels) c.word-number.ensures.exact in
    let old = c.loop-p.tables.bytes.items in
    let new = c.add.new.tables.bytes.items in
    let added : AddsSets (set ∷ []) c.loop-p.self old c.add.new.self new =
    subst (λ (xs : List ℕ). AddsSets (xs ∷ []) c.loop-p.self old c.add.new.self new) (c.deref.ensures.value ∙ glyphs) c.in_ok-add.ensures.added in
    let more = map-range_with_len_more (λ (q : ℕ). having labels (word gsub (c.args.array + q * 2))) 0 p p (omega arith) in
    record {
      added = subst (λ (xs : List (List ℕ)). AddsSets xs c.args.self.now c.args.tables.now.bytes.items c.add.new.self new) (sym more)
          (adds-both (having_at gsub labels c.args.array p) (set ∷ []) _ _ _ _ _ _ c.loop-p.invariant.added added);
      spent = omega (arith, c.pay.ensures.spends, c.with_label.ensures.spends, c.loop-p.invariant.spent);
    }

pub returns-clause-added : goal.returns-clause-added
returns-clause-added c =
    let all : c.loop-p.p ≡ c.args.count = omega arith in
    subst (λ n. AddsSets (having_at c.args.gsub.now c.args.labels.now c.args.array n) c.args.self.now c.args.tables.now.bytes.items c.loop-p.self c.loop-p.tables.bytes.items)
    all c.loop-p.invariant.added
