use Rattle.std.proofs.Common.{sym, subst, ℤ, List, Option, Some}
use Rattle.postscript_c.specs.Varied.{IsPlaceAt, IsPlaceIn}
use Rattle.postscript_c.proofs.Varying.{if-ok}
use Rattle.postscript_c.proofs.varied.place_at.Goals as goal
use Rattle.postscript_variable_font.specs.declared.place.Place.{Place}
use Rattle.postscript_variation.specs.declared.store.Store.{Store}

pub returns-in-Some-clause-found : goal.returns-in-Some-clause-found
returns-in-Some-clause-found c =
    let limit = c.args.limit in
    let coordinates = c.in-Ok.coordinates.items in
    let In : Place → Type 0 = λ place. IsPlaceIn limit (Some c.in-Some.store) c.deref.result.now place in
    let At : Place → Type 0 = λ place. IsPlaceAt limit c.args.file.now c.args.font.now c.args.values.now place in
    let kept : (place : Place) → In place → At place = λ place is. record {
      coordinates = coordinates;
      are = c.in-Ok.ensures.found;
      is = subst (λ (store : Option Store). IsPlaceIn limit store coordinates place) (sym c.in-Some.is)
          (subst (λ (numbers : List ℤ). IsPlaceIn limit (Some c.in-Some.store) numbers place) c.deref.ensures.value is);
    } in
    if-ok In At c.place_in.result kept c.place_in.ensures.found
