use Rattle.std.proofs.Common.{◌∙◌, sym, subst, ℕ, List, length, map, arith}
use Rattle.std.specs.List.{Contains}
use Rattle.std.specs.Prelude.{All}
use Rattle.postscript_base.specs.declared.compact1.operator.Operator.TheVariants.{ROS}
use Rattle.std.proofs.lemmas.Result.{IfOk-weaker, err_from_is_err_and}
use Rattle.postscript_base.specs.Compact1.DictionaryLaw.{IsDictionary}
use Rattle.postscript_view.specs.Value.{view_shown}
use Rattle.postscript_write.specs.Dictionaries.{IsHeld, IsPlaced}
use Rattle.postscript_write.specs.DictionarySizes.{HasSize}
use Rattle.postscript_write.specs.Once.{TellsRosFirst}
use Rattle.postscript_write.specs.Renumbered.{all_renamed}
use Rattle.postscript_write.specs.declared.dictionaries.Place.{Place}
use Rattle.postscript_write.proofs.Distinct.{ros_not_renamed}
use Rattle.postscript_write.proofs.Making.{if_err}
use Rattle.postscript_write.proofs.Without.{sized_within}
use Rattle.postscript_write.proofs.layout.dictionary_with.Goals as goal

pub returns-clause-renamed : goal.returns-clause-renamed
returns-clause-renamed c =
    let font = c.args.font.now in
    IfOk-weaker c.with_places.result _ _ (λ out placed are.
    let kept = c.in_ok-kept.ensures.unnamed (c.in_ok-first.ensures.is (view_shown font).tables are) in
    let new = placed kept.0 (subst (λ (text : List ℕ). IsDictionary text 0 kept.0) (sym c.deref.ensures.value) kept.1) in (
      new.0,
      new.1,
      record {
        kept =
            kept.0;
        unnamed = kept.2;
        placed = subst (λ places. IsPlaced kept.0 places new.0) (c.deref-2.ensures.value ∙ c.in_ok-places.ensures.places) new.2;
      },
    )) c.with_places.ensures.placed

pub returns-clause-refused : goal.returns-clause-refused
returns-clause-refused c =
    let font = c.args.font.now in
    if_err c.with_places.result (λ e never other least are held.
    let kept = c.in_ok-kept.ensures.unnamed (c.in_ok-first.ensures.is (view_shown font).tables are) in
    never other (subst (All IsHeld) (sym (c.deref-2.ensures.value ∙ c.in_ok-places.ensures.places)) held) kept.0
    (subst (λ (text : List ℕ). IsDictionary text 0 kept.0) (sym c.deref.ensures.value) kept.1)) c.with_places.ensures.refused

pub returns-in_err-kept-clause-refused : goal.returns-in_err-kept-clause-refused
returns-in_err-kept-clause-refused c =
    let error = err_from_is_err_and c.from_residual-in_err-kept.result c.from_residual-in_err-kept.ensures.1 in
    let font = c.args.font.now in
    rw (error.1, error.2) (λ other least are held. c.in_err-kept.ensures.refused other font.dictionary
    (c.in_ok-first.ensures.is (view_shown font).tables are))

pub returns-clause-sized : goal.returns-clause-sized
returns-clause-sized c =
    let font = c.args.font.now in
    let places = c.deref-2.ensures.value ∙ c.in_ok-places.ensures.places in
    let first = c.in_ok-first.ensures.within in
    let kept = c.in_ok-kept.ensures.within in
    let text : List ℕ = c.in_ok-kept.kept.items in
    IfOk-weaker c.with_places.result _ _ (λ out size.
    let own : HasSize text c.deref-2.result.now (length out.items) = subst
    (λ (text : List ℕ). HasSize text c.deref-2.result.now (length out.items)) c.deref.ensures.value size in
    let sized = sized_within text (all_renamed c.args.strings.now font.dictionary) (length out.items)
    (subst (λ (ps : List Place). HasSize text ps (length out.items)) places own) in
    omega (arith, sized, first, kept)) c.with_places.ensures.sized

pub returns-clause-order : goal.returns-clause-order
returns-clause-order c =
    let font = c.args.font.now in
    let places = c.deref-2.ensures.value ∙ c.in_ok-places.ensures.places in
    IfOk-weaker c.with_places.result _ _ (λ out keeps.
    keeps.ros (subst (λ (ps : List Place). Contains (map (λ place. place.operator) ps) ROS → ⊥) (sym places)
    (ros_not_renamed c.args.strings.now font.dictionary))
    (subst TellsRosFirst (sym c.deref.ensures.value) c.in_ok-kept.ensures.order)) c.with_places.ensures.order
