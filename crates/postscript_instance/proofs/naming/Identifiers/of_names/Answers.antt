use Rattle.std.proofs.Common.{◌≡◌, ◌∙◌, ◌++◌, ◌∷◌, [], ◌+◌, ap, subst, sym, refl, take, length, add-one, arith, get_or, Bor, List, ℕ}
use Rattle.std.specs.List.{concat}
use Rattle.std.proofs.Math.Seq.{take-suc, take-length}
use Rattle.std.proofs.lemmas.List.{length-map}
use Rattle.postscript_type2.specs.Program.Routines.{texts}
use Rattle.postscript_instance.specs.Encoded.{AreIdentified}
use Rattle.postscript_instance.specs.Rooms.{names_size}
use Rattle.postscript_instance.specs.Whole as whole
use Rattle.postscript_instance.specs.Whole.{AreCustom}
use Rattle.postscript_instance.proofs.Called.{grown-few, grown-small, names-push, none-yet}
use Rattle.postscript_instance.proofs.naming.Identifiers.of_names.Goals as goal

pub loop-i-init : goal.loop-i-init
loop-i-init c =
    let empty : texts c.new-2.result.items ≡ [] = ap texts c.new-2.ensures.items in
    record {
      custom = subst (AreCustom []) (sym empty) whole.nothing;
      identified = none-yet (texts c.new-2.result.items) c.new.result.items c.new.ensures.items;
      few = omega (arith, ap length c.new-2.ensures.items);
      small = omega (arith, ap (λ xs. length (concat xs)) empty);
    }

pub loop-i-preserved : goal.loop-i-preserved
loop-i-preserved c =
    let names = c.args.names.now in
    let i = c.loop-i.i in
    let old = c.loop-i.identifiers.strings.items in
    let new = c.put.new.self.strings.items in
    let name : Bor (List ℕ) = get_or names i (record { ref_ptr = (0, 0); now = [] }) in
    let more : take (i + 1) names ≡ take i names ++ name ∷ [] =
    ap (λ n. take n names) (add-one i) ∙ take-suc names i (record { ref_ptr = (0, 0); now = [] }) c.loop-i-test.true in
    let before = c.loop-i.invariant in
    let size = c.in_ok-put.ensures.size in
    let few = before.few in
    let small = before.small in
    record {
      custom = subst (λ all. AreCustom all (texts new)) (sym more) (c.in_ok-put.ensures.more (take i names) name refl before.custom);
      identified = subst (λ all. AreIdentified all (texts new) c.put.new.self.numbers.items) (sym more)
          (c.in_ok-put.ensures.identified (take i names) name refl before.identified);
      few = omega (arith, few, grown-few (texts old) (texts new) name.now size, length-map old (λ v. v.items), length-map new (λ v. v.items));
      small = omega (arith, small, grown-small (texts old) (texts new) name.now size, ap names_size more, names-push (take i names) name);
    }

all-names : (names : List (Bor (List ℕ))) (i : ℕ) → i ≡ length names → take i names ≡ names
all-names names i is = ap (λ n. take n names) is ∙ take-length names

pub returns-clause-are : goal.returns-clause-are
returns-clause-are c =
    let names = c.args.names.now in
    subst (λ all. AreCustom all (texts c.loop-i.identifiers.strings.items)) (all-names names c.loop-i.i (omega arith)) c.loop-i.invariant.custom

pub returns-clause-identified : goal.returns-clause-identified
returns-clause-identified c =
    let names = c.args.names.now in
    subst (λ all. AreIdentified all (texts c.loop-i.identifiers.strings.items) c.loop-i.identifiers.numbers.items)
    (all-names names c.loop-i.i (omega arith)) c.loop-i.invariant.identified

pub returns-clause-small : goal.returns-clause-small
returns-clause-small c =
    let names = c.args.names.now in
    let small = c.loop-i.invariant.small in
    omega (arith, small, ap names_size (all-names names c.loop-i.i (omega arith)))
