-- All that is said in whole units, one more at a time.
use Rattle.std.proofs.Common.{◌≡◌, refl, ap, sym, subst, ◌∙◌, List, [], ◌∷◌, ◌++◌, map, append_assoc, append-nil}
use Rattle.postscript_outline.specs.declared.point.Point.{Point}
use Rattle.postscript_variable.specs.declared.sayings.Saying.{Saying}
use Rattle.postscript_variable.specs.Sayings.{Phrase}
use Rattle.postscript_variable.specs.Told.{said_of}
use Rattle.postscript_instance.specs.declared.error.Error.{Error}
use Rattle.postscript_instance.specs.declared.error.Error.TheVariants as errors
use Rattle.postscript_instance.specs.Axes.{steps_of, behind_steps, IsNear, LeadsTooFar, here, later}
use Rattle.postscript_instance.specs.Private.{in_units, all_in_units, AreNear, IsFar}
use Rattle.postscript_instance.specs.Rounded.{origin}

pub record SoFar (says rest done : List Phrase) (p : Point) : Type 0 where
  pub text : done ++ all_in_units p rest ≡ all_in_units origin says
  pub near : AreNear p rest → AreNear origin says
  pub far : LeadsTooFar p rest → LeadsTooFar origin says

pub begin : (says : List Phrase) → SoFar says says [] origin
begin says = record { text = refl; near = λ h. h; far = λ h. h }

pub one-more : (says rest rest' done done' : List Phrase) (p q : Point) (x y : Phrase) → rest ≡ x ∷ rest' → y ≡ in_units p x →
    q ≡ behind_steps p (steps_of x.operator x.operands) → IsNear p x →
    done' ≡ done ++ y ∷ [] → SoFar says rest done p → SoFar says rest' done' q
one-more says rest rest' done done' p q x y hr hy hq is hd so =
    let r = behind_steps p (steps_of x.operator x.operands) in record {
      text = ap (λ z. done' ++ all_in_units z rest') hq ∙ ap (λ zs. zs ++ all_in_units r rest') hd
          ∙ append_assoc done (y ∷ []) (all_in_units r rest') ∙ ap (λ z. done ++ z ∷ all_in_units r rest') hy
          ∙ ap (λ zs. done ++ all_in_units p zs) (sym hr) ∙ so.text;
      near = λ h. so.near (subst (AreNear p) (sym hr) (is, subst (λ z. AreNear z rest') hq h));
      far = λ h. so.far (subst (LeadsTooFar p) (sym hr) (later p x rest' (subst (λ z. LeadsTooFar z rest') hq h)));
    }

pub ends : (says rest done : List Phrase) (p : Point) → rest ≡ [] → SoFar says rest done p →
    (done ≡ all_in_units origin says) × AreNear origin says
ends says rest done p hr so =
    (sym (append-nil done) ∙ ap (λ zs. done ++ all_in_units p zs) (sym hr) ∙ so.text, so.near (subst (AreNear p) (sym hr) tt))

pub far-here : (says rest rest' done : List Phrase) (p : Point) (x : Phrase) (e : Error) → rest ≡ x ∷ rest' → SoFar says rest done p →
    IsFar (¬ IsNear p x) e → IsFar (LeadsTooFar origin says) e
far-here says rest rest' done p x (errors.Font e) hr so far = far
far-here says rest rest' done p x errors.TooFar hr so far = so.far (subst (LeadsTooFar p) (sym hr) (here p x rest' far))
far-here says rest rest' done p x e hr so far = absurd far

pub mapped-one : (xs : List Saying) (x : Saying) → map said_of (xs ++ x ∷ []) ≡ map said_of xs ++ said_of x ∷ []
mapped-one [] x = refl
mapped-one (y ∷ ys) x = ap (λ zs. said_of y ∷ zs) (mapped-one ys x)
