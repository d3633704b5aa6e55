use Rattle.std.proofs.Common.{◌≡◌, ◌∙◌, ◌++◌, ◌≤◌, sym, ap, subst, List, ℕ, length}
use Rattle.postscript_base.specs.Compact1.Dictionary.{Dictionary}
use Rattle.postscript_base.specs.Compact1.DictionaryLaw.{IsDictionary}
use Rattle.postscript_write.specs.Once.{IsMoved, TellsRosFirst}
use Rattle.postscript_write.proofs.RosFirst.{both_within, moved, tells_ros_first}
use Rattle.postscript_write.proofs.dictionaries.ros_first.Goals as goal

pub returns-clause-moved : goal.returns-clause-moved
returns-clause-moved c = λ old is.
    let out = c.extend_from_slice.new.self.items in
    let joined : out ≡ c.in_ok-out.out.items ++ c.in_ok-rest.rest.items =
    c.in_ok-extend_from_slice.ensures.items ∙ ap (λ (xs : List ℕ). c.in_ok-out.out.items ++ xs) c.deref.ensures.value in
    subst (λ (bs : List ℕ). (new : Dictionary) × IsDictionary bs 0 new × IsMoved c.args.left_out.now old new) (sym joined)
    (moved c.args.text.now c.in_ok-out.out.items c.in_ok-rest.rest.items c.args.left_out.now old c.in_ok-out.ensures.left
    c.in_ok-rest.ensures.left c.requires is)

pub returns-clause-order : goal.returns-clause-order
returns-clause-order c =
    let out = c.extend_from_slice.new.self.items in
    let joined : out ≡ c.in_ok-out.out.items ++ c.in_ok-rest.rest.items =
    c.in_ok-extend_from_slice.ensures.items ∙ ap (λ (xs : List ℕ). c.in_ok-out.out.items ++ xs) c.deref.ensures.value in
    subst TellsRosFirst (sym joined)
    (tells_ros_first c.args.text.now c.in_ok-out.out.items c.in_ok-rest.rest.items c.args.left_out.now c.in_ok-out.ensures.left
    c.in_ok-rest.ensures.left c.requires)

pub returns-clause-within : goal.returns-clause-within
returns-clause-within c =
    let out = c.extend_from_slice.new.self.items in
    let joined : out ≡ c.in_ok-out.out.items ++ c.in_ok-rest.rest.items =
    c.in_ok-extend_from_slice.ensures.items ∙ ap (λ (xs : List ℕ). c.in_ok-out.out.items ++ xs) c.deref.ensures.value in
    subst (λ (bs : List ℕ). length bs ≤ length c.args.text.now) (sym joined)
    (both_within c.args.text.now c.in_ok-out.out.items c.in_ok-rest.rest.items c.args.left_out.now c.requires c.in_ok-out.ensures.text
    c.in_ok-rest.ensures.text)
