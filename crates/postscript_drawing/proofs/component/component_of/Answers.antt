use Rattle.std.proofs.Common.{refl, rules}
use Rattle.postscript_drawing.specs.Components.{HasNoComponent}
use Rattle.postscript_drawing.specs.declared.error.Error.{Error}
use Rattle.postscript_drawing.specs.declared.error.Error.TheVariants.{Font}
use Rattle.postscript_drawing.proofs.Owns.{passed-on}
use Rattle.postscript_drawing.proofs.component.component_of.Goals as goal

pub returns-in_err-set-clause-why : goal.returns-in_err-set-clause-why
returns-in_err-set-clause-why c =
    let font = c.args.font.now in
    let e = c.in_err-set.field-0.0 in
    let P : Error → Type 0 = λ e. HasNoComponent e font c.args.code in
    passed-on c.from_residual.result (Font e) P c.from_residual.ensures.1
    (record { none = c.in_err-set.ensures.none; why = c.in_err-set.ensures.why })

pub returns-in-None-clause-why : goal.returns-in-None-clause-why
returns-in-None-clause-why c = (
  refl,
  record {
    set = c.in_ok-set.set;
    is_set = c.in_ok-set.ensures.found;
    none = rw (c.standard_identifier.ensures, c.len.ensures) at c.in-None.ensures.none;
  },
)

pub returns-in-Some-clause-found : goal.returns-in-Some-clause-found
returns-in-Some-clause-found c = record {
  not_keyed = search rules;
  set = c.in_ok-set.set;
  is_set = c.in_ok-set.ensures.found;
  first = rw (c.standard_identifier.ensures, c.len.ensures) at c.in-Some.ensures.found;
}
