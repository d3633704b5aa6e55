-- What is said in whole units can be said again as Type 2, and is what was said, rounded.
use Rattle.std.proofs.Common.{◌≡◌, refl, ap, sym, subst, ◌∙◌, ℕ, zero, suc, ◌+◌, ◌*◌, ℤ, pos, ◌+ℤ◌, ◌-ℤ◌, true, false, take, drop, IsTrue, List, [], ◌∷◌, ◌++◌, length, length-append, map, Option, Some, None, Result, Ok, Err, IfErr, arith}
use Rattle.std.specs.Prelude.{IsErrAnd}
use Rattle.std.proofs.lemmas.Int.{ints}
use Rattle.postscript_drawing.specs.Operators.{strokes}
use Rattle.postscript_drawing.specs.Using.{used}
use Rattle.postscript_outline.specs.declared.point.Point.{Point}
use Rattle.postscript_type2.specs.declared.operation.Operator.{Operator}
use Rattle.postscript_type2.specs.declared.operation.Operator.TheVariants.{HStem, VStem, VMoveTo, RLineTo, HLineTo, VLineTo, RRCurveTo, HStemHM, HintMask, CntrMask, RMoveTo, HMoveTo, VStemHM, RCurveLine, RLineCurve, VVCurveTo, HHCurveTo, VHCurveTo, HVCurveTo, HFlex, Flex, HFlex1, Flex1}
use Rattle.postscript_type2.specs.Operation.Kinds.{kind}
use Rattle.postscript_type2.specs.Operation.Lengths.{groups}
use Rattle.postscript_type2.specs.Program.StackRules.{IsHeld}
use Rattle.postscript_variable.specs.declared.charstring.Charstring.{Charstring}
use Rattle.postscript_variable.specs.Sayings.{Phrase}
use Rattle.postscript_variable.specs.Told.{Says}
use Rattle.postscript_instance.specs.declared.error.Error.{Error}
use Rattle.postscript_instance.specs.declared.error.Error.TheVariants as errors
use Rattle.postscript_instance.specs.Axes.{steps_of, behind_steps, AreSteps, IsNear, LeadsTooFar}
use Rattle.postscript_instance.specs.Axes as axes
use Rattle.postscript_instance.specs.Far as outs
use Rattle.postscript_instance.specs.Far.{IsWithin, LeadsOut, NotRounded}
use Rattle.postscript_instance.specs.Cuts as cuts
use Rattle.postscript_instance.specs.Private.{rounded_edges, in_units, all_in_units, AreNear, AreHeldOrCut, IsFar, IsUnwritten, IsWritten}
use Rattle.postscript_instance.specs.Cuts.{is_cut, first_operator, first_count, AreCut}
use Rattle.postscript_instance.specs.Refusals.{IsHint, HasMore, here, later, LacksMove}
use Rattle.postscript_instance.specs.Rounded.{edges_from, edges_of, rounded_operator, origin, AreWhole, AreInUnits, IsRounded, AreRounded, IsRoundedOf}
use Rattle.postscript_instance.specs.Nearest.{nearest, behind, IsInRange}
use Rattle.postscript_instance.specs.Statics.{bears_width, BearsWidth}
use Rattle.postscript_instance.specs.Texts.{width_numbers, numbers_of}
use Rattle.postscript_instance.proofs.Cutting.{cut-sayable, cut-in-pieces, cut-fits, cut-bears, hints-more}
use Rattle.postscript_instance.proofs.Nearest.{at-origin}
use Rattle.postscript_instance.proofs.Runs.{says-so}
use Rattle.postscript_instance.proofs.Sayable.{SayableAs, AreSayable, none, more, sayable}
use Rattle.postscript_instance.proofs.Units.{in-units, is-way-whole, range-behind, steps-whole}

edges-length : (from : ℤ) (xs : List ℤ) → length (rounded_edges from xs) ≡ length xs
edges-length from [] = refl
edges-length from (x ∷ xs) = let rest = edges-length (from +ℤ x) xs in omega (arith, rest)

-- one operator, with its operands
abbrev one : Operator → (stems operands : List ℤ) → (mask : List ℕ) → Phrase
one op stems operands mask = record { operator = op; stems = stems; operands = operands; mask = mask }

-- as many edges as there were
twice : (xs : List ℤ) (stems next : ℕ) → (n : ℕ) × (length xs ≡ n * 2) × (next ≡ stems + n) →
    (n : ℕ) × (length (rounded_edges (pos 0) xs) ≡ n * 2) × (next ≡ stems + n)
twice xs stems next h = (h.0, edges-length (pos 0) xs ∙ h.1, h.2)

one-sayable : (op : Operator) (ss xs : List ℤ) (mask : List ℕ) (p : Point) (stems next : ℕ) →
    SayableAs (kind op) stems (one op ss xs mask) next →
    SayableAs (kind (rounded_operator op)) stems (in_units p (one op ss xs mask)) next
one-sayable HStem ss xs mask p stems next h = (
  ap (rounded_edges (pos 0)) h.0,
  h.1,
  subst (λ n. IsTrue (groups 2 n)) (sym (edges-length (pos 0) xs)) h.2,
  h.3,
  twice xs stems next h.4,
)
one-sayable VStem ss xs mask p stems next h = (
  ap (rounded_edges (pos 0)) h.0,
  h.1,
  subst (λ n. IsTrue (groups 2 n)) (sym (edges-length (pos 0) xs)) h.2,
  h.3,
  twice xs stems next h.4,
)
one-sayable HStemHM ss xs mask p stems next h = (
  ap (rounded_edges (pos 0)) h.0,
  h.1,
  subst (λ n. IsTrue (groups 2 n)) (sym (edges-length (pos 0) xs)) h.2,
  h.3,
  twice xs stems next h.4,
)
one-sayable VStemHM ss xs mask p stems next h = (
  ap (rounded_edges (pos 0)) h.0,
  h.1,
  subst (λ n. IsTrue (groups 2 n)) (sym (edges-length (pos 0) xs)) h.2,
  h.3,
  twice xs stems next h.4,
)
one-sayable HintMask ss xs mask p stems next h = (ap (rounded_edges (pos 0)) h.0, h.1, h.2, twice ss stems next h.3)
one-sayable CntrMask ss xs mask p stems next h = (ap (rounded_edges (pos 0)) h.0, h.1, h.2, twice ss stems next h.3)
one-sayable RMoveTo ss xs mask p stems next h = (ap (rounded_edges (pos 0)) h.0, h.1, (in-units RMoveTo p xs h.2).takes, h.3)
one-sayable HMoveTo ss xs mask p stems next h = (ap (rounded_edges (pos 0)) h.0, h.1, (in-units HMoveTo p xs h.2).takes, h.3)
one-sayable VMoveTo ss xs mask p stems next h = (ap (rounded_edges (pos 0)) h.0, h.1, (in-units VMoveTo p xs h.2).takes, h.3)
one-sayable RLineTo ss xs mask p stems next h = (ap (rounded_edges (pos 0)) h.0, h.1, (in-units RLineTo p xs h.2).takes, h.3)
one-sayable HLineTo ss xs mask p stems next h = (ap (rounded_edges (pos 0)) h.0, h.1, (in-units HLineTo p xs h.2).takes, h.3)
one-sayable VLineTo ss xs mask p stems next h = (ap (rounded_edges (pos 0)) h.0, h.1, (in-units VLineTo p xs h.2).takes, h.3)
one-sayable RRCurveTo ss xs mask p stems next h = (ap (rounded_edges (pos 0)) h.0, h.1, (in-units RRCurveTo p xs h.2).takes, h.3)
one-sayable RCurveLine ss xs mask p stems next h = (ap (rounded_edges (pos 0)) h.0, h.1, (in-units RCurveLine p xs h.2).takes, h.3)
one-sayable RLineCurve ss xs mask p stems next h = (ap (rounded_edges (pos 0)) h.0, h.1, (in-units RLineCurve p xs h.2).takes, h.3)
one-sayable VVCurveTo ss xs mask p stems next h = (ap (rounded_edges (pos 0)) h.0, h.1, (in-units VVCurveTo p xs h.2).takes, h.3)
one-sayable HHCurveTo ss xs mask p stems next h = (ap (rounded_edges (pos 0)) h.0, h.1, (in-units HHCurveTo p xs h.2).takes, h.3)
one-sayable VHCurveTo ss xs mask p stems next h = (ap (rounded_edges (pos 0)) h.0, h.1, (in-units VHCurveTo p xs h.2).takes, h.3)
one-sayable HVCurveTo ss xs mask p stems next h = (ap (rounded_edges (pos 0)) h.0, h.1, (in-units HVCurveTo p xs h.2).takes, h.3)
one-sayable HFlex ss xs mask p stems next h = (ap (rounded_edges (pos 0)) h.0, h.1, (in-units HFlex p xs h.2).takes, h.3)
one-sayable Flex ss xs mask p stems next h = (ap (rounded_edges (pos 0)) h.0, h.1, (in-units Flex p xs h.2).takes, h.3)
one-sayable HFlex1 ss xs mask p stems next h = (ap (rounded_edges (pos 0)) h.0, h.1, (in-units HFlex1 p xs h.2).takes, h.3)
one-sayable Flex1 ss xs mask p stems next h = (ap (rounded_edges (pos 0)) h.0, h.1, (in-units Flex1 p xs h.2).takes, h.3)
one-sayable op ss xs mask p stems next h = absurd h

pub all-sayable : {says : List Phrase} (p : Point) (stems after : ℕ) → AreSayable stems says after →
    AreSayable stems (all_in_units p says) after
all-sayable p stems after (none _) = none stems
all-sayable p stems after (more _ next _ x xs is rest) =
    more stems next after (in_units p x) (all_in_units (behind_steps p (steps_of x.operator x.operands)) xs)
    (one-sayable x.operator x.stems x.operands x.mask p stems next is)
    (all-sayable (behind_steps p (steps_of x.operator x.operands)) next after rest)

-- the edges are at the nearest whole units
edges-from : (at : ℤ) (ds : List ℤ) → edges_from (nearest at) (rounded_edges at ds) ≡ map nearest (edges_from at ds)
edges-from at [] = refl
edges-from at (d ∷ ds) =
    let there = back-again (nearest at) (nearest (at +ℤ d)) in
    ap (λ z. z ∷ edges_from z (rounded_edges (at +ℤ d) ds)) there ∙ ap (λ zs. nearest (at +ℤ d) ∷ zs) (edges-from (at +ℤ d) ds)
  where
    back-again : (a b : ℤ) → a +ℤ (b -ℤ a) ≡ b
    back-again a b = omega (arith, ints)

edges-near : (ds : List ℤ) → edges_of (rounded_edges (pos 0) ds) ≡ map nearest (edges_of ds)
edges-near ds = ap (λ z. edges_from z (rounded_edges (pos 0) ds)) (sym at-origin) ∙ edges-from (pos 0) ds

-- each is what was said, rounded, and the pen stands where it stood
record Goes (p : Point) (x : Phrase) : Type 0 where
  rounded : IsRounded p x (in_units p x)
  place : behind_steps p (steps_of x.operator x.operands) ≡ behind p (strokes x.operator x.operands)

one-goes : (op : Operator) (ss xs : List ℤ) (mask : List ℕ) (p : Point) (stems next : ℕ) →
    SayableAs (kind op) stems (one op ss xs mask) next → IsInRange p → AreSteps p (steps_of op xs) →
    Goes p (one op ss xs mask)
one-goes HStem ss xs mask p stems next h at_p near =
    record {
      rounded =
          record {
            operator = refl;
            drawn = refl;
            in_range = at_p;
            depth = λ flex. absurd (cc);
            edges = λ hint. edges-near xs;
            stems = edges-near ss;
            mask = refl;
          };
      place = refl;
    }
one-goes VStem ss xs mask p stems next h at_p near =
    record {
      rounded =
          record {
            operator = refl;
            drawn = refl;
            in_range = at_p;
            depth = λ flex. absurd (cc);
            edges = λ hint. edges-near xs;
            stems = edges-near ss;
            mask = refl;
          };
      place = refl;
    }
one-goes HStemHM ss xs mask p stems next h at_p near =
    record {
      rounded =
          record {
            operator = refl;
            drawn = refl;
            in_range = at_p;
            depth = λ flex. absurd (cc);
            edges = λ hint. edges-near xs;
            stems = edges-near ss;
            mask = refl;
          };
      place = refl;
    }
one-goes VStemHM ss xs mask p stems next h at_p near =
    record {
      rounded =
          record {
            operator = refl;
            drawn = refl;
            in_range = at_p;
            depth = λ flex. absurd (cc);
            edges = λ hint. edges-near xs;
            stems = edges-near ss;
            mask = refl;
          };
      place = refl;
    }
one-goes HintMask ss xs mask p stems next h at_p near =
    record {
      rounded =
          record {
            operator = refl;
            drawn = refl;
            in_range = at_p;
            depth = λ flex. absurd (cc);
            edges = λ hint. edges-near xs;
            stems = edges-near ss;
            mask = refl;
          };
      place = refl;
    }
one-goes CntrMask ss xs mask p stems next h at_p near =
    record {
      rounded =
          record {
            operator = refl;
            drawn = refl;
            in_range = at_p;
            depth = λ flex. absurd (cc);
            edges = λ hint. edges-near xs;
            stems = edges-near ss;
            mask = refl;
          };
      place = refl;
    }
one-goes RMoveTo ss xs mask p stems next h at_p near =
    let units = in-units RMoveTo p xs h.2 in
    let is = units.agrees in
    record {
      rounded =
          record {
            operator = refl;
            drawn = is.same;
            in_range = is.range at_p near;
            depth = units.depth;
            edges = λ hint. absurd hint;
            stems = edges-near ss;
            mask = refl;
          };
      place = is.behind;
    }
one-goes HMoveTo ss xs mask p stems next h at_p near =
    let units = in-units HMoveTo p xs h.2 in
    let is = units.agrees in
    record {
      rounded =
          record {
            operator = refl;
            drawn = is.same;
            in_range = is.range at_p near;
            depth = units.depth;
            edges = λ hint. absurd hint;
            stems = edges-near ss;
            mask = refl;
          };
      place = is.behind;
    }
one-goes VMoveTo ss xs mask p stems next h at_p near =
    let units = in-units VMoveTo p xs h.2 in
    let is = units.agrees in
    record {
      rounded =
          record {
            operator = refl;
            drawn = is.same;
            in_range = is.range at_p near;
            depth = units.depth;
            edges = λ hint. absurd hint;
            stems = edges-near ss;
            mask = refl;
          };
      place = is.behind;
    }
one-goes RLineTo ss xs mask p stems next h at_p near =
    let units = in-units RLineTo p xs h.2 in
    let is = units.agrees in
    record {
      rounded =
          record {
            operator = refl;
            drawn = is.same;
            in_range = is.range at_p near;
            depth = units.depth;
            edges = λ hint. absurd hint;
            stems = edges-near ss;
            mask = refl;
          };
      place = is.behind;
    }
one-goes HLineTo ss xs mask p stems next h at_p near =
    let units = in-units HLineTo p xs h.2 in
    let is = units.agrees in
    record {
      rounded =
          record {
            operator = refl;
            drawn = is.same;
            in_range = is.range at_p near;
            depth = units.depth;
            edges = λ hint. absurd hint;
            stems = edges-near ss;
            mask = refl;
          };
      place = is.behind;
    }
one-goes VLineTo ss xs mask p stems next h at_p near =
    let units = in-units VLineTo p xs h.2 in
    let is = units.agrees in
    record {
      rounded =
          record {
            operator = refl;
            drawn = is.same;
            in_range = is.range at_p near;
            depth = units.depth;
            edges = λ hint. absurd hint;
            stems = edges-near ss;
            mask = refl;
          };
      place = is.behind;
    }
one-goes RRCurveTo ss xs mask p stems next h at_p near =
    let units = in-units RRCurveTo p xs h.2 in
    let is = units.agrees in
    record {
      rounded =
          record {
            operator = refl;
            drawn = is.same;
            in_range = is.range at_p near;
            depth = units.depth;
            edges = λ hint. absurd hint;
            stems = edges-near ss;
            mask = refl;
          };
      place = is.behind;
    }
one-goes RCurveLine ss xs mask p stems next h at_p near =
    let units = in-units RCurveLine p xs h.2 in
    let is = units.agrees in
    record {
      rounded =
          record {
            operator = refl;
            drawn = is.same;
            in_range = is.range at_p near;
            depth = units.depth;
            edges = λ hint. absurd hint;
            stems = edges-near ss;
            mask = refl;
          };
      place = is.behind;
    }
one-goes RLineCurve ss xs mask p stems next h at_p near =
    let units = in-units RLineCurve p xs h.2 in
    let is = units.agrees in
    record {
      rounded =
          record {
            operator = refl;
            drawn = is.same;
            in_range = is.range at_p near;
            depth = units.depth;
            edges = λ hint. absurd hint;
            stems = edges-near ss;
            mask = refl;
          };
      place = is.behind;
    }
one-goes VVCurveTo ss xs mask p stems next h at_p near =
    let units = in-units VVCurveTo p xs h.2 in
    let is = units.agrees in
    record {
      rounded =
          record {
            operator = refl;
            drawn = is.same;
            in_range = is.range at_p near;
            depth = units.depth;
            edges = λ hint. absurd hint;
            stems = edges-near ss;
            mask = refl;
          };
      place = is.behind;
    }
one-goes HHCurveTo ss xs mask p stems next h at_p near =
    let units = in-units HHCurveTo p xs h.2 in
    let is = units.agrees in
    record {
      rounded =
          record {
            operator = refl;
            drawn = is.same;
            in_range = is.range at_p near;
            depth = units.depth;
            edges = λ hint. absurd hint;
            stems = edges-near ss;
            mask = refl;
          };
      place = is.behind;
    }
one-goes VHCurveTo ss xs mask p stems next h at_p near =
    let units = in-units VHCurveTo p xs h.2 in
    let is = units.agrees in
    record {
      rounded =
          record {
            operator = refl;
            drawn = is.same;
            in_range = is.range at_p near;
            depth = units.depth;
            edges = λ hint. absurd hint;
            stems = edges-near ss;
            mask = refl;
          };
      place = is.behind;
    }
one-goes HVCurveTo ss xs mask p stems next h at_p near =
    let units = in-units HVCurveTo p xs h.2 in
    let is = units.agrees in
    record {
      rounded =
          record {
            operator = refl;
            drawn = is.same;
            in_range = is.range at_p near;
            depth = units.depth;
            edges = λ hint. absurd hint;
            stems = edges-near ss;
            mask = refl;
          };
      place = is.behind;
    }
one-goes HFlex ss xs mask p stems next h at_p near =
    let units = in-units HFlex p xs h.2 in
    let is = units.agrees in
    record {
      rounded =
          record {
            operator = refl;
            drawn = is.same;
            in_range = is.range at_p near;
            depth = units.depth;
            edges = λ hint. absurd hint;
            stems = edges-near ss;
            mask = refl;
          };
      place = is.behind;
    }
one-goes Flex ss xs mask p stems next h at_p near =
    let units = in-units Flex p xs h.2 in
    let is = units.agrees in
    record {
      rounded =
          record {
            operator = refl;
            drawn = is.same;
            in_range = is.range at_p near;
            depth = units.depth;
            edges = λ hint. absurd hint;
            stems = edges-near ss;
            mask = refl;
          };
      place = is.behind;
    }
one-goes HFlex1 ss xs mask p stems next h at_p near =
    let units = in-units HFlex1 p xs h.2 in
    let is = units.agrees in
    record {
      rounded =
          record {
            operator = refl;
            drawn = is.same;
            in_range = is.range at_p near;
            depth = units.depth;
            edges = λ hint. absurd hint;
            stems = edges-near ss;
            mask = refl;
          };
      place = is.behind;
    }
one-goes Flex1 ss xs mask p stems next h at_p near =
    let units = in-units Flex1 p xs h.2 in
    let is = units.agrees in
    record {
      rounded =
          record {
            operator = refl;
            drawn = is.same;
            in_range = is.range at_p near;
            depth = units.depth;
            edges = λ hint. absurd hint;
            stems = edges-near ss;
            mask = refl;
          };
      place = is.behind;
    }
one-goes op ss xs mask p stems next h at_p near = absurd h

pub all-rounded : {says : List Phrase} (p : Point) (stems after : ℕ) → AreSayable stems says after → IsInRange p → AreNear p says →
    AreRounded p says (all_in_units p says)
all-rounded p stems after (none _) at_p near = tt
all-rounded p stems after (more _ next _ x xs is rest) at_p near =
    let goes = one-goes x.operator x.stems x.operands x.mask p stems next is at_p near.0.steps in
    let there = range-behind p (strokes x.operator x.operands) goes.rounded.in_range in
    let q = behind_steps p (steps_of x.operator x.operands) in (
      goes.rounded,
      subst (λ z. AreRounded z xs (all_in_units q xs)) goes.place
          (all-rounded q next after rest (subst IsInRange (sym goes.place) there) near.1),
    )

pub origin-in-range : IsInRange origin
origin-in-range = (subst IsHeld (sym at-origin) zero, subst IsHeld (sym at-origin) zero)
  where
    zero : IsHeld (pos 0)
    zero = record { low = omega (arith, ints); high = omega (arith, ints) }

-- all numbers are whole
edges-whole : (from : ℤ) (xs : List ℤ) → AreWhole (rounded_edges from xs)
edges-whole from [] = tt
edges-whole from (x ∷ xs) = (is-way-whole from x, edges-whole (from +ℤ x) xs)

one-whole : (op : Operator) (ss xs : List ℤ) (mask : List ℕ) (p : Point) (stems next : ℕ) →
    SayableAs (kind op) stems (one op ss xs mask) next →
    AreWhole (used (rounded_operator op) (in_units p (one op ss xs mask)).operands)
one-whole HStem ss xs mask p stems next h = edges-whole (pos 0) xs
one-whole VStem ss xs mask p stems next h = edges-whole (pos 0) xs
one-whole HStemHM ss xs mask p stems next h = edges-whole (pos 0) xs
one-whole VStemHM ss xs mask p stems next h = edges-whole (pos 0) xs
one-whole HintMask ss xs mask p stems next h = edges-whole (pos 0) xs
one-whole CntrMask ss xs mask p stems next h = edges-whole (pos 0) xs
one-whole RMoveTo ss xs mask p stems next h = subst AreWhole (sym (in-units RMoveTo p xs h.2).uses) (steps-whole p (steps_of RMoveTo xs))
one-whole HMoveTo ss xs mask p stems next h = subst AreWhole (sym (in-units HMoveTo p xs h.2).uses) (steps-whole p (steps_of HMoveTo xs))
one-whole VMoveTo ss xs mask p stems next h = subst AreWhole (sym (in-units VMoveTo p xs h.2).uses) (steps-whole p (steps_of VMoveTo xs))
one-whole RLineTo ss xs mask p stems next h = subst AreWhole (sym (in-units RLineTo p xs h.2).uses) (steps-whole p (steps_of RLineTo xs))
one-whole HLineTo ss xs mask p stems next h = subst AreWhole (sym (in-units HLineTo p xs h.2).uses) (steps-whole p (steps_of HLineTo xs))
one-whole VLineTo ss xs mask p stems next h = subst AreWhole (sym (in-units VLineTo p xs h.2).uses) (steps-whole p (steps_of VLineTo xs))
one-whole RRCurveTo ss xs mask p stems next h =
    subst AreWhole (sym (in-units RRCurveTo p xs h.2).uses) (steps-whole p (steps_of RRCurveTo xs))
one-whole RCurveLine ss xs mask p stems next h =
    subst AreWhole (sym (in-units RCurveLine p xs h.2).uses) (steps-whole p (steps_of RCurveLine xs))
one-whole RLineCurve ss xs mask p stems next h =
    subst AreWhole (sym (in-units RLineCurve p xs h.2).uses) (steps-whole p (steps_of RLineCurve xs))
one-whole VVCurveTo ss xs mask p stems next h =
    subst AreWhole (sym (in-units VVCurveTo p xs h.2).uses) (steps-whole p (steps_of VVCurveTo xs))
one-whole HHCurveTo ss xs mask p stems next h =
    subst AreWhole (sym (in-units HHCurveTo p xs h.2).uses) (steps-whole p (steps_of HHCurveTo xs))
one-whole VHCurveTo ss xs mask p stems next h =
    subst AreWhole (sym (in-units VHCurveTo p xs h.2).uses) (steps-whole p (steps_of VHCurveTo xs))
one-whole HVCurveTo ss xs mask p stems next h =
    subst AreWhole (sym (in-units HVCurveTo p xs h.2).uses) (steps-whole p (steps_of HVCurveTo xs))
one-whole HFlex ss xs mask p stems next h = subst AreWhole (sym (in-units HFlex p xs h.2).uses) (steps-whole p (steps_of HFlex xs))
one-whole Flex ss xs mask p stems next h = subst AreWhole (sym (in-units Flex p xs h.2).uses) (steps-whole p (steps_of Flex xs))
one-whole HFlex1 ss xs mask p stems next h = subst AreWhole (sym (in-units HFlex1 p xs h.2).uses) (steps-whole p (steps_of HFlex1 xs))
one-whole Flex1 ss xs mask p stems next h = subst AreWhole (sym (in-units Flex1 p xs h.2).uses) (steps-whole p (steps_of Flex1 xs))
one-whole op ss xs mask p stems next h = absurd h

all-whole : {says : List Phrase} (p : Point) (stems after : ℕ) → AreSayable stems says after → AreInUnits (all_in_units p says)
all-whole p stems after (none _) = tt
all-whole p stems after (more _ next _ x xs is rest) = (
  edges-whole (pos 0) x.stems,
  one-whole x.operator x.stems x.operands x.mask p stems next is,
  all-whole (behind_steps p (steps_of x.operator x.operands)) next after rest,
)

-- and so they are in pieces
take-whole : (n : ℕ) (xs : List ℤ) → AreWhole xs → AreWhole (take n xs)
take-whole zero xs are = tt
take-whole (suc n) [] are = tt
take-whole (suc n) (x ∷ xs) are = (are.0, take-whole n xs are.1)

drop-whole : (n : ℕ) (xs : List ℤ) → AreWhole xs → AreWhole (drop n xs)
drop-whole zero xs are = are
drop-whole (suc n) [] are = tt
drop-whole (suc n) (x ∷ xs) are = drop-whole n xs are.1

uses-all : (op : Operator) (xs : List ℤ) → is_cut op ≡ true → (used op xs ≡ xs) × (used (first_operator op) xs ≡ xs)
uses-all RLineTo xs is = (refl, refl)
uses-all HLineTo xs is = (refl, refl)
uses-all VLineTo xs is = (refl, refl)
uses-all RRCurveTo xs is = (refl, refl)
uses-all RCurveLine xs is = (refl, refl)
uses-all RLineCurve xs is = (refl, refl)
uses-all VVCurveTo xs is = (refl, refl)
uses-all HHCurveTo xs is = (refl, refl)
uses-all VHCurveTo xs is = (refl, refl)
uses-all HVCurveTo xs is = (refl, refl)
uses-all op xs is = absurd (cc)

cut-whole : {says written : List Phrase} → AreCut says written → AreInUnits says → AreInUnits written
cut-whole cuts.none are = tt
cut-whole (cuts.whole x xs written is cut) are = (are.0, are.1, cut-whole cut are.2)
cut-whole (cuts.piece x xs written long cut) are =
    let n = first_count x.operator (length x.operands) in
    let all = subst AreWhole (uses-all x.operator x.operands long.0).0 are.1 in
    let front = subst AreWhole (sym (uses-all x.operator (take n x.operands) long.0).1) (take-whole n x.operands all) in
    let rest = subst AreWhole (sym (uses-all x.operator (drop n x.operands) long.0).0) (drop-whole n x.operands all) in
    (are.0, front, cut-whole cut (tt, rest, are.2))

-- a charstring in whole units
pub rounded-of : (charstring : Charstring) (width : Option ℤ) (code : List ℕ) (says whole : List Phrase) → Says charstring says →
    whole ≡ all_in_units origin says → AreNear origin says →
    IsWritten width whole [] code → AreHeldOrCut width whole → BearsWidth width whole → IsRoundedOf charstring width code
rounded-of charstring width code says whole said same near is held bears =
    let after = said.last.stems in
    let first : AreSayable 0 says after = subst (λ ys. AreSayable 0 ys after) (sym said.all) (sayable said.run) in
    let all : AreSayable 0 whole after = subst (λ ys. AreSayable 0 ys after) (sym same) (all-sayable origin 0 after first) in
    let again = cut-sayable is.cut 0 after all in
    let begins = cut-bears width is.cut bears in record {
      says = says;
      said = said;
      near = whole;
      rounded = subst (AreRounded origin says) (sym same) (all-rounded origin 0 after first origin-in-range near);
      written = is.written;
      in_pieces = cut-in-pieces is.cut 0 after all;
      units = cut-whole is.cut (subst AreInUnits (sym same) (all-whole origin 0 after first));
      does = λ lists. says-so lists is.written after width code is.text again is.held begins;
      fits = cut-fits is.cut 0 after width all held bears;
      bears = begins;
    }

-- and why there is none
hint-before : (op : Operator) → IsHint (kind (rounded_operator op)) → IsHint (kind op)
hint-before HFlex h = absurd h
hint-before HFlex1 h = absurd h
hint-before Flex1 h = absurd h
hint-before op h = h

same-count : (width : Option ℤ) (ss xs : List ℤ) →
    length (width_numbers width ++ (rounded_edges (pos 0) ss ++ rounded_edges (pos 0) xs)) ≡ length (width_numbers width ++ (ss ++ xs))
same-count width ss xs =
    let these = edges-length (pos 0) ss in
    let those = edges-length (pos 0) xs in
    let a = length-append (width_numbers width) (rounded_edges (pos 0) ss ++ rounded_edges (pos 0) xs) in
    let b = length-append (rounded_edges (pos 0) ss) (rounded_edges (pos 0) xs) in
    let c = length-append (width_numbers width) (ss ++ xs) in
    let d = length-append ss xs in
    omega (arith, these, those, a, b, c, d)

hint-count : (op : Operator) (ss xs : List ℤ) (mask : List ℕ) (p : Point) (width : Option ℤ) → IsHint (kind op) →
    length (numbers_of width (in_units p (one op ss xs mask))) ≡ length (numbers_of width (one op ss xs mask))
hint-count HStem ss xs mask p width h = same-count width ss xs
hint-count VStem ss xs mask p width h = same-count width ss xs
hint-count HStemHM ss xs mask p width h = same-count width ss xs
hint-count VStemHM ss xs mask p width h = same-count width ss xs
hint-count HintMask ss xs mask p width h = same-count width ss xs
hint-count CntrMask ss xs mask p width h = same-count width ss xs
hint-count op ss xs mask p width h = absurd h

no-more : (width : Option ℤ) → HasMore width [] → ⊥
no-more width h = elim h [ ]

more-before : (width : Option ℤ) (p : Point) (says : List Phrase) → HasMore width (all_in_units p says) → HasMore width says
more-before width p [] h = absurd (no-more width h)
more-before width p (x ∷ xs) (here _ _ _ is many) =
    let hint = hint-before x.operator is in
    let count = hint-count x.operator x.stems x.operands x.mask p width hint in
    here width x xs hint (omega (arith, count, many))
more-before width p (x ∷ xs) (later _ _ _ rest) =
    later width x xs (more-before None (behind_steps p (steps_of x.operator x.operands)) xs rest)

bears-before : (op : Operator) → bears_width (rounded_operator op) ≡ false → bears_width op ≡ false
bears-before HFlex h = refl
bears-before HFlex1 h = refl
bears-before Flex1 h = refl
bears-before op h = h

lacks-before : (width : Option ℤ) (p : Point) (says : List Phrase) → LacksMove width (all_in_units p says) → LacksMove width says
lacks-before None p says h = absurd h
lacks-before (Some w) p [] h = absurd h
lacks-before (Some w) p (x ∷ xs) h = bears-before x.operator h

unwritten : (charstring : Charstring) (width : Option ℤ) (says : List Phrase) (e : Error) → Says charstring says →
    IsUnwritten width (all_in_units origin says) e → NotRounded charstring width e
unwritten charstring width says (errors.Font e) said is = subst (λ cause. NotRounded charstring width (errors.Font cause)) (sym is) tt
unwritten charstring width says errors.TooManyOperands said is =
    let after = said.last.stems in
    let first : AreSayable 0 says after = subst (λ ys. AreSayable 0 ys after) (sym said.all) (sayable said.run) in
    (says, said, more-before width origin says (hints-more is 0 after (all-sayable origin 0 after first)))
unwritten charstring width says errors.NoMove said is = (says, said, lacks-before width origin says is)
unwritten charstring width says e said is = absurd is

-- what leads too far along axes leads out
near-along : (op : Operator) (ss xs : List ℤ) (mask : List ℕ) (p : Point) (stems next : ℕ) →
    SayableAs (kind op) stems (one op ss xs mask) next → IsWithin p (one op ss xs mask) →
    IsNear p (one op ss xs mask)
near-along HStem ss xs mask p stems next h within = record { steps = tt; edges = λ hint. within.edges tt; stems = within.stems }
near-along VStem ss xs mask p stems next h within = record { steps = tt; edges = λ hint. within.edges tt; stems = within.stems }
near-along HStemHM ss xs mask p stems next h within = record { steps = tt; edges = λ hint. within.edges tt; stems = within.stems }
near-along VStemHM ss xs mask p stems next h within = record { steps = tt; edges = λ hint. within.edges tt; stems = within.stems }
near-along HintMask ss xs mask p stems next h within = record { steps = tt; edges = λ hint. within.edges tt; stems = within.stems }
near-along CntrMask ss xs mask p stems next h within = record { steps = tt; edges = λ hint. within.edges tt; stems = within.stems }
near-along RMoveTo ss xs mask p stems next h within =
    record { steps = (in-units RMoveTo p xs h.2).agrees.ways within.ways; edges = λ hint. absurd (cc); stems = within.stems }
near-along HMoveTo ss xs mask p stems next h within =
    record { steps = (in-units HMoveTo p xs h.2).agrees.ways within.ways; edges = λ hint. absurd (cc); stems = within.stems }
near-along VMoveTo ss xs mask p stems next h within =
    record { steps = (in-units VMoveTo p xs h.2).agrees.ways within.ways; edges = λ hint. absurd (cc); stems = within.stems }
near-along RLineTo ss xs mask p stems next h within =
    record { steps = (in-units RLineTo p xs h.2).agrees.ways within.ways; edges = λ hint. absurd (cc); stems = within.stems }
near-along HLineTo ss xs mask p stems next h within =
    record { steps = (in-units HLineTo p xs h.2).agrees.ways within.ways; edges = λ hint. absurd (cc); stems = within.stems }
near-along VLineTo ss xs mask p stems next h within =
    record { steps = (in-units VLineTo p xs h.2).agrees.ways within.ways; edges = λ hint. absurd (cc); stems = within.stems }
near-along RRCurveTo ss xs mask p stems next h within =
    record { steps = (in-units RRCurveTo p xs h.2).agrees.ways within.ways; edges = λ hint. absurd (cc); stems = within.stems }
near-along RCurveLine ss xs mask p stems next h within =
    record { steps = (in-units RCurveLine p xs h.2).agrees.ways within.ways; edges = λ hint. absurd (cc); stems = within.stems }
near-along RLineCurve ss xs mask p stems next h within =
    record { steps = (in-units RLineCurve p xs h.2).agrees.ways within.ways; edges = λ hint. absurd (cc); stems = within.stems }
near-along VVCurveTo ss xs mask p stems next h within =
    record { steps = (in-units VVCurveTo p xs h.2).agrees.ways within.ways; edges = λ hint. absurd (cc); stems = within.stems }
near-along HHCurveTo ss xs mask p stems next h within =
    record { steps = (in-units HHCurveTo p xs h.2).agrees.ways within.ways; edges = λ hint. absurd (cc); stems = within.stems }
near-along VHCurveTo ss xs mask p stems next h within =
    record { steps = (in-units VHCurveTo p xs h.2).agrees.ways within.ways; edges = λ hint. absurd (cc); stems = within.stems }
near-along HVCurveTo ss xs mask p stems next h within =
    record { steps = (in-units HVCurveTo p xs h.2).agrees.ways within.ways; edges = λ hint. absurd (cc); stems = within.stems }
near-along HFlex ss xs mask p stems next h within =
    record { steps = (in-units HFlex p xs h.2).agrees.ways within.ways; edges = λ hint. absurd (cc); stems = within.stems }
near-along Flex ss xs mask p stems next h within =
    record { steps = (in-units Flex p xs h.2).agrees.ways within.ways; edges = λ hint. absurd (cc); stems = within.stems }
near-along HFlex1 ss xs mask p stems next h within =
    record { steps = (in-units HFlex1 p xs h.2).agrees.ways within.ways; edges = λ hint. absurd (cc); stems = within.stems }
near-along Flex1 ss xs mask p stems next h within =
    record { steps = (in-units Flex1 p xs h.2).agrees.ways within.ways; edges = λ hint. absurd (cc); stems = within.stems }
near-along op ss xs mask p stems next h within = absurd h

place-of : (op : Operator) (ss xs : List ℤ) (mask : List ℕ) (p : Point) (stems next : ℕ) →
    SayableAs (kind op) stems (one op ss xs mask) next →
    behind_steps p (steps_of op xs) ≡ behind p (strokes op xs)
place-of HStem ss xs mask p stems next h = refl
place-of VStem ss xs mask p stems next h = refl
place-of HStemHM ss xs mask p stems next h = refl
place-of VStemHM ss xs mask p stems next h = refl
place-of HintMask ss xs mask p stems next h = refl
place-of CntrMask ss xs mask p stems next h = refl
place-of RMoveTo ss xs mask p stems next h = (in-units RMoveTo p xs h.2).agrees.behind
place-of HMoveTo ss xs mask p stems next h = (in-units HMoveTo p xs h.2).agrees.behind
place-of VMoveTo ss xs mask p stems next h = (in-units VMoveTo p xs h.2).agrees.behind
place-of RLineTo ss xs mask p stems next h = (in-units RLineTo p xs h.2).agrees.behind
place-of HLineTo ss xs mask p stems next h = (in-units HLineTo p xs h.2).agrees.behind
place-of VLineTo ss xs mask p stems next h = (in-units VLineTo p xs h.2).agrees.behind
place-of RRCurveTo ss xs mask p stems next h = (in-units RRCurveTo p xs h.2).agrees.behind
place-of RCurveLine ss xs mask p stems next h = (in-units RCurveLine p xs h.2).agrees.behind
place-of RLineCurve ss xs mask p stems next h = (in-units RLineCurve p xs h.2).agrees.behind
place-of VVCurveTo ss xs mask p stems next h = (in-units VVCurveTo p xs h.2).agrees.behind
place-of HHCurveTo ss xs mask p stems next h = (in-units HHCurveTo p xs h.2).agrees.behind
place-of VHCurveTo ss xs mask p stems next h = (in-units VHCurveTo p xs h.2).agrees.behind
place-of HVCurveTo ss xs mask p stems next h = (in-units HVCurveTo p xs h.2).agrees.behind
place-of HFlex ss xs mask p stems next h = (in-units HFlex p xs h.2).agrees.behind
place-of Flex ss xs mask p stems next h = (in-units Flex p xs h.2).agrees.behind
place-of HFlex1 ss xs mask p stems next h = (in-units HFlex1 p xs h.2).agrees.behind
place-of Flex1 ss xs mask p stems next h = (in-units Flex1 p xs h.2).agrees.behind
place-of op ss xs mask p stems next h = absurd h

leads-out : {says : List Phrase} (p : Point) (stems after : ℕ) → AreSayable stems says after → LeadsTooFar p says → LeadsOut p says
leads-out p stems after (none _) leads = absurd (nothing-leads p leads)
  where
    nothing-leads : (p : Point) → LeadsTooFar p [] → ⊥
    nothing-leads p h = elim h [ ]
leads-out p stems after (more _ next _ x xs is rest) (axes.here _ _ _ far) =
    outs.here p x xs (λ within. far (near-along x.operator x.stems x.operands x.mask p stems next is within))
leads-out p stems after (more _ next _ x xs is rest) (axes.later _ _ _ leads) =
    outs.later p x xs (subst (λ z. LeadsOut z xs) (place-of x.operator x.stems x.operands x.mask p stems next is)
    (leads-out (behind_steps p (steps_of x.operator x.operands)) next after rest leads))

too-far : (charstring : Charstring) (width : Option ℤ) (says : List Phrase) (e : Error) → Says charstring says →
    IsFar (LeadsTooFar origin says) e → NotRounded charstring width e
too-far charstring width says (errors.Font e) said is = subst (λ cause. NotRounded charstring width (errors.Font cause)) (sym is) tt
too-far charstring width says errors.TooFar said is =
    let after = said.last.stems in
    (says, said, leads-out origin 0 after (subst (λ ys. AreSayable 0 ys after) (sym said.all) (sayable said.run)) is)
too-far charstring width says e said is = absurd is

pub unwritten-on : {A : Type 0} (charstring : Charstring) (width : Option ℤ) (says : List Phrase) (r : Result A Error) (e : Error) →
    IsErrAnd r (λ x. x ≡ e) → Says charstring says →
    IsUnwritten width (all_in_units origin says) e → IfErr r (λ x. NotRounded charstring width x)
unwritten-on charstring width says (Ok x) e same said is = absurd same
unwritten-on charstring width says (Err x) e same said is =
    subst (NotRounded charstring width) (sym same) (unwritten charstring width says e said is)

pub too-far-on : {A : Type 0} (charstring : Charstring) (width : Option ℤ) (says : List Phrase) (r : Result A Error) (e : Error) →
    IsErrAnd r (λ x. x ≡ e) → Says charstring says →
    IsFar (LeadsTooFar origin says) e → IfErr r (λ x. NotRounded charstring width x)
too-far-on charstring width says (Ok x) e same said is = absurd same
too-far-on charstring width says (Err x) e same said is =
    subst (NotRounded charstring width) (sym same) (too-far charstring width says e said is)
