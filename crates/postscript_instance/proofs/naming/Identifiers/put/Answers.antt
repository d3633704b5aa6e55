use Rattle.std.proofs.Common.{◌≡◌, ◌∙◌, ◌++◌, ◌∷◌, [], ap, subst, sym, inr, Some, arith}
use Rattle.std.proofs.lemmas.List.{length-map, map-append}
use Rattle.postscript_type2.specs.Program.Routines.{texts}
use Rattle.postscript_instance.specs.Whole as whole
use Rattle.postscript_instance.specs.Whole.{AreCustom}
use Rattle.postscript_instance.proofs.Called.{custom-there, one-more, standard-string, string-grown}
use Rattle.postscript_instance.proofs.naming.Identifiers.put.Goals as goal

pub returns-in-Some-clause-more : goal.returns-in-Some-clause-more
returns-in-Some-clause-more c = λ names bor is all.
    whole.standard names (texts c.args.self.now.strings.items) bor c.in-Some.number all (c.in-Some.ensures.some ∙ ap Some (sym is))

pub returns-in-Some-clause-identified : goal.returns-in-Some-clause-identified
returns-in-Some-clause-identified c = λ names bor is are.
    let strings = texts c.args.self.now.strings.items in
    let low = c.in-Some.ensures.low in
    one-more names bor strings strings c.args.self.now.numbers.items c.push.new.self.items c.in-Some.number are (λ k x h. h)
    c.in_ok-push.ensures.items (standard-string strings c.in-Some.number bor.now low (c.in-Some.ensures.some ∙ ap Some (sym is)))
    (omega (arith, low))

pub returns-clause-more : goal.returns-clause-more
returns-clause-more c = λ names bor is all.
    let old = texts c.args.self.now.strings.items in
    let items : texts c.push-2.new.self.items ≡ old ++ c.args.name.now ∷ [] =
    ap texts c.in_ok-push-2.ensures.items ∙ map-append (λ v. v.items) c.args.self.now.strings.items (c.in_ok-from_slice.field-0 ∷ [])
    ∙ ap (λ t. old ++ t ∷ []) c.in_ok-from_slice.ensures.items in
    subst (λ name. AreCustom (names ++ bor ∷ []) (old ++ name ∷ []) → AreCustom (names ++ bor ∷ []) (texts c.push-2.new.self.items)) (sym is)
    (subst (AreCustom (names ++ bor ∷ [])) (sym items))
    (whole.custom names old bor all (λ sid h s. c.in_default.ensures.none sid h (s ∙ ap Some is)))

pub returns-clause-identified : goal.returns-clause-identified
returns-clause-identified c = λ names bor is are.
    let old = texts c.args.self.now.strings.items in
    let many = length-map c.args.self.now.strings.items (λ v. v.items) in
    let few = c.requires in
    let items : texts c.push-2.new.self.items ≡ old ++ bor.now ∷ [] =
    ap texts c.in_ok-push-2.ensures.items ∙ map-append (λ v. v.items) c.args.self.now.strings.items (c.in_ok-from_slice.field-0 ∷ [])
    ∙ ap (λ t. old ++ t ∷ []) (c.in_ok-from_slice.ensures.items ∙ sym is) in
    one-more names bor old (texts c.push-2.new.self.items) c.args.self.now.numbers.items c.push-3.new.self.items _ are
    (string-grown old (texts c.push-2.new.self.items) bor.now items) c.in_ok-push-3.ensures.items
    (custom-there old (texts c.push-2.new.self.items) _ bor.now items (omega (arith, many))) (omega (arith, few))

pub returns-clause-size : goal.returns-clause-size
returns-clause-size c =
    let old = texts c.args.self.now.strings.items in
    inr (ap texts c.in_ok-push-2.ensures.items ∙ map-append (λ v. v.items) c.args.self.now.strings.items (c.in_ok-from_slice.field-0 ∷ [])
    ∙ ap (λ t. old ++ t ∷ []) c.in_ok-from_slice.ensures.items)
