use Rattle.std.proofs.Common.{◌∙◌, subst, List, map}
use Rattle.std.proofs.lemmas.Result.{err_from_is_err_and}
use Rattle.postscript_base.specs.declared.compact1.operator.Operator.{Operator}
use Rattle.postscript_write.specs.LeftOut.{IsLeftText, IsWithout}
use Rattle.postscript_write.proofs.Making.{if_err, if_ok}
use Rattle.postscript_write.proofs.Once.{keeps_order}
use Rattle.postscript_write.proofs.Placing.{placed}
use Rattle.postscript_write.proofs.dictionaries.with_places.Goals as goal

pub returns-in_err-rest-clause-refused : goal.returns-in_err-rest-clause-refused
returns-in_err-rest-clause-refused c =
    let error = err_from_is_err_and c.from_residual-in_err-rest.result c.from_residual-in_err-rest.ensures.1 in
    rw (error.1, error.2) (λ other held. c.in_err-rest.ensures.refused other)

pub returns-clause-placed : goal.returns-clause-placed
returns-clause-placed c =
    let text = c.args.text.now in
    let rest = c.in_ok-rest.rest.items in
    let left : IsWithout text (map (λ place. place.operator) c.args.places.now) rest =
    subst (λ (os : List Operator). IsWithout text os rest)
    (c.deref.ensures.value ∙ c.in_ok-operators.ensures.are) c.in_ok-rest.ensures.left in
    if_ok c.followed_by.result
    (λ out more old is. placed text rest out.items c.args.places.now old left (more left.1 left.6) is) c.followed_by.ensures.more

pub returns-clause-order : goal.returns-clause-order
returns-clause-order c =
    let text = c.args.text.now in
    let rest = c.in_ok-rest.rest.items in
    let left : IsWithout text (map (λ place. place.operator) c.args.places.now) rest =
    subst (λ (os : List Operator). IsWithout text os rest)
    (c.deref.ensures.value ∙ c.in_ok-operators.ensures.are) c.in_ok-rest.ensures.left in
    if_ok c.followed_by.result
    (λ out more. keeps_order text rest out.items c.args.places.now left (more left.1 left.6)) c.followed_by.ensures.more

pub returns-clause-sized : goal.returns-clause-sized
returns-clause-sized c =
    let text = c.args.text.now in
    let rest = c.in_ok-rest.rest.items in
    let left : IsLeftText text (map (λ place. place.operator) c.args.places.now) 0 rest =
    subst (λ (os : List Operator). IsLeftText text os 0 rest)
    (c.deref.ensures.value ∙ c.in_ok-operators.ensures.are) c.in_ok-rest.ensures.text in
    if_ok c.followed_by.result (λ out size. (rest, left, size)) c.followed_by.ensures.sized

pub returns-clause-refused : goal.returns-clause-refused
returns-clause-refused c = if_err c.followed_by.result (λ e never other held old is. never other held) c.followed_by.ensures.refused
