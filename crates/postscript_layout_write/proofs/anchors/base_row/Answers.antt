use Rattle.std.proofs.Common.{◌≡◌, ◌<◌, ◌∙◌, ap, sym, subst, arith, ℕ, None, Some, Bool, true, get_or, if◌then◌else◌}
use Rattle.std.specs.Prelude.{nat_lt}
use Rattle.std.proofs.lemmas.Bool.{lt-ltb}
use Rattle.postscript_layout.specs.Numbers.{word}
use Rattle.postscript_layout_write.specs.Attaching.{IsRow, base_row, no_cell}
use Rattle.postscript_layout_write.specs.Marks.{anchor_in}
use Rattle.postscript_layout_write.proofs.anchors.base_row.Goals as goal

pub returns-clause-exact : goal.returns-clause-exact
returns-clause-exact c =
    let gpos = c.args.gpos.now in
    let array = c.args.array in
    let classes = c.args.classes in
    let i = c.args.i in
    let items = c.loop-class.row.items in
    let all : c.loop-class.class ≡ classes = omega arith in
    let within : nat_lt i (word gpos array) ≡ true = lt-ltb i (word gpos array) (subst (λ (n : ℕ). i < n) c.word.ensures.exact c.if-i-word.false) in
    record {
      row = subst (λ (b : Bool). IsRow classes (base_row (if b then Some (λ class. anchor_in gpos array classes i class) else None)) items 0) (sym within)
          (λ j less. ap (λ n. get_or items n no_cell) (omega arith) ∙ c.loop-class.invariant.each j (omega (arith, all, less)));
      long = c.loop-class.invariant.many ∙ all;
    }
