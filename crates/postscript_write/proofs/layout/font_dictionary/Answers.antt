use Rattle.std.proofs.Common.{length, rules, ◌≡◌, ◌≢◌, ◌∙◌, sym, ap, subst, List, ℕ, [], ◌∷◌, Some, arith}
use Rattle.std.specs.Prelude.{All, IfErr, IfOk, OnOk}
use Rattle.postscript_base.specs.Compact1.Dictionary.{Dictionary}
use Rattle.postscript_base.specs.Compact1.DictionaryLaw.{IsDictionary}
use Rattle.postscript_base.specs.declared.compact1.operator.Operator.TheVariants as operators
use Rattle.postscript_base.specs.declared.error.Error.TheVariants as errors
use Rattle.postscript_write.specs.Dictionaries.{IsHeld, IsPlaced}
use Rattle.postscript_write.specs.DictionarySizes.{HasSize}
use Rattle.postscript_write.specs.Privates.{place_of_private}
use Rattle.postscript_write.specs.declared.dictionaries.Place.{Place}
use Rattle.postscript_write.proofs.Making.{if_ok}
use Rattle.postscript_write.proofs.layout.font_dictionary.Goals as goal

abbrev Placed : List ℕ → List Place → List ℕ → Type 0
Placed text places out =
    (old : Dictionary) → IsDictionary text 0 old → (new : Dictionary) × IsDictionary out 0 new × IsPlaced old places new

abbrev Held : List ℕ → List Place → Type 0
Held text places = All IsHeld places → (old : Dictionary) → IsDictionary text 0 old → ⊥

one : (size offset : ℕ) → List Place
one size offset = record { operator = operators.Private; size = Some size; offset = offset } ∷ []

pub returns-in-Some-clause-placed : goal.returns-in-Some-clause-placed
unfolding one
returns-in-Some-clause-placed c =
    let long : c.len.result ≡ length c.in-Some.private.text.items = search rules in
    let same = ap (λ n. one n c.args.offset) long ∙ ap (λ p. place_of_private p c.args.offset) (sym c.in-Some.is) in
    subst (λ places. IfOk c.with_places.result (λ out. Placed c.args.text.now places out.items)) same c.with_places.ensures.placed

pub returns-in-Some-clause-refused : goal.returns-in-Some-clause-refused
unfolding one
returns-in-Some-clause-refused c =
    let long : c.len.result ≡ length c.in-Some.private.text.items = search rules in
    let same = ap (λ n. one n c.args.offset) long ∙ ap (λ p. place_of_private p c.args.offset) (sym c.in-Some.is) in
    subst (λ places. IfErr c.with_places.result (λ e. e ≢ errors.Memory → Held c.args.text.now places)) same c.with_places.ensures.refused

pub returns-in-None-clause-placed : goal.returns-in-None-clause-placed
returns-in-None-clause-placed c =
    subst (λ places. IfOk c.with_places-in-None.result (λ out. Placed c.args.text.now places out.items))
    (ap (λ p. place_of_private p c.args.offset) (sym c.in-None.is)) c.with_places-in-None.ensures.placed

pub returns-in-None-clause-refused : goal.returns-in-None-clause-refused
returns-in-None-clause-refused c =
    subst (λ places. IfErr c.with_places-in-None.result (λ e. e ≢ errors.Memory → Held c.args.text.now places))
    (ap (λ p. place_of_private p c.args.offset) (sym c.in-None.is)) c.with_places-in-None.ensures.refused

pub returns-in-Some-clause-sized : goal.returns-in-Some-clause-sized
unfolding one
returns-in-Some-clause-sized c =
    let long : c.len.result ≡ length c.in-Some.private.text.items = search rules in
    let same = ap (λ n. one n 0) long ∙ ap (λ p. place_of_private p 0) (sym c.in-Some.is) in
    subst (λ places. IfOk c.with_places.result (λ out. HasSize c.args.text.now places (length out.items))) same c.with_places.ensures.sized

pub returns-in-None-clause-sized : goal.returns-in-None-clause-sized
returns-in-None-clause-sized c =
    subst (λ places. IfOk c.with_places-in-None.result (λ out. HasSize c.args.text.now places (length out.items)))
    (ap (λ p. place_of_private p 0) (sym c.in-None.is)) c.with_places-in-None.ensures.sized

pub returns-in-Some-clause-held : goal.returns-in-Some-clause-held
unfolding one
returns-in-Some-clause-held c =
    let long : c.len.result ≡ length c.in-Some.private.text.items = search rules in
    let same = ap (λ n. one n c.args.offset) long ∙ ap (λ p. place_of_private p c.args.offset) (sym c.in-Some.is) in
    subst (λ places. OnOk c.with_places.result (All IsHeld places)) same c.with_places.ensures.held

pub returns-in-None-clause-held : goal.returns-in-None-clause-held
returns-in-None-clause-held c =
    subst (λ places. OnOk c.with_places-in-None.result (All IsHeld places))
    (ap (λ p. place_of_private p c.args.offset) (sym c.in-None.is)) c.with_places-in-None.ensures.held

pub returns-in-Some-clause-once : goal.returns-in-Some-clause-once
returns-in-Some-clause-once c =
    if_ok c.with_places.result (λ out keeps. keeps.once (λ has. let none = has.1 in absurd (omega (arith, none)), tt)) c.with_places.ensures.order

pub returns-in-None-clause-once : goal.returns-in-None-clause-once
returns-in-None-clause-once c = if_ok c.with_places-in-None.result (λ out keeps. keeps.once tt) c.with_places-in-None.ensures.order
