-- Sessions, look by look.
use Rattle.std.proofs.Common.{◌≡◌, ◌≢◌, arith, ℕ, List, [], ◌∷◌, ◌++◌, Option, Some, None, sym, ap, ◌∙◌, append_assoc, append-nil, refl, subst, inl, inr}
use Rattle.std.specs.List.{flat_map, FoldsTo}
use Rattle.std.specs.Io.KnownBytes.{Consumes, Keeps}
use Rattle.std.proofs.lemmas.Grind.{flat_map-append}
use Rattle.std.proofs.lemmas.List.Elements.{All-append}
use Rattle.psfont_session.specs.Session.{Talk, fresh, LineToldWithin, Heard, Answered, AnsweredLine, SessionWithin, IsFree}
use Rattle.psfont_session.specs.Loaded.{Loaded}
use Rattle.psfont_session.specs.Look.{Turn, Gains, Ends, Looked, Far, Goes}

-- what is consumed one after the other
pub then : (u v w : Option (List ℕ)) (a b : List ℕ) → Consumes u v a → Consumes v w b → Consumes u w (a ++ b)
then None v w a b x y = tt
then (Some xs) None w a b x y = absurd x
then (Some xs) (Some ys) None a b x y = absurd y
then (Some xs) (Some ys) (Some zs) a b x y = x ∙ ap (λ (t : List ℕ). a ++ t) y ∙ sym (append_assoc a b zs)

pub keeps : (u v w : Option (List ℕ)) → Keeps u v → Keeps v w → Keeps u w
keeps None v w x y = tt
keeps (Some xs) None w x y = absurd x
keeps (Some xs) (Some ys) None x y = absurd y
keeps (Some xs) (Some ys) (Some zs) x y = y ∙ x

pub same : (u : Option (List ℕ)) → Keeps u u
same None = tt
same (Some xs) = refl

pub nothing : (u : Option (List ℕ)) → Consumes u u []
nothing None = tt
nothing (Some xs) = refl

-- one item more
folds : {P A : Type 0} (R : P → A → P → Type 0) (p q r : P) (xs : List A) (x : A) → FoldsTo R p xs q → R q x r →
    FoldsTo R p (xs ++ x ∷ []) r
folds R p q r [] x same step = (r, subst (λ t. R t x r) (sym same) step, refl)
folds R p q r (y ∷ ys) x (j, step, rest) last = (j, step, folds R j q r ys x rest last)

gained : (limit : Option ℕ) (left written : Option (List ℕ)) (old new : Turn) → Far limit left written old → Gains old new →
    Far limit left written new
gained limit left written old new far g = record {
  input = far.input ++ g.bytes;
  spent = then left old.left new.left _ _ far.spent g.spent;
  talk = far.talk;
  heard = record {
    lines = far.heard.lines;
    spelled =
        ap (λ t. t ++ g.bytes) far.heard.spelled ∙ append_assoc (flat_map (λ line. line ++ 10 ∷ []) far.heard.lines) old.open_line g.bytes
        ∙ ap (λ t. flat_map (λ line. line ++ 10 ∷ []) far.heard.lines ++ t) (sym g.line);
    free = subst IsFree (sym g.line) (All-append (λ byte. byte ≢ 10) old.open_line g.bytes far.heard.free g.free);
    answered = far.heard.answered;
  };
  loaded = far.loaded ∙ sym g.loaded;
  kept = keeps _ _ _ far.kept g.kept;
}

ended : (limit : Option ℕ) (left written : Option (List ℕ)) (old new : Turn) → Far limit left written old → Ends limit old new →
    Far limit left written new
ended limit left written old new far e =
    let line : List ℕ = old.open_line ++ e.bytes in
    let whole = λ (line : List ℕ). line ++ 10 ∷ [] in
    let next : Talk = record { loaded = new.loaded; written = e.written } in
    let told : Answered limit far.talk e.text
    next = (old.written, far.kept, subst (λ t. LineToldWithin limit e.text t old.written new.loaded e.written) (sym far.loaded) e.told) in
    record {
      input = far.input ++ (e.bytes ++ 10 ∷ []);
      spent = then left old.left new.left _ _ far.spent e.spent;
      talk = next;
      heard = record {
        lines = far.heard.lines ++ line ∷ [];
        spelled = ap (λ t. t ++ (e.bytes ++ 10 ∷ [])) far.heard.spelled
            ∙ append_assoc (flat_map whole far.heard.lines) old.open_line (e.bytes ++ 10 ∷ [])
            ∙ ap (λ t. flat_map whole far.heard.lines ++ t)
            (sym (append_assoc old.open_line e.bytes (10 ∷ [])) ∙ sym (append-nil (line ++ 10 ∷ [])))
            ∙ sym (flat_map-append whole far.heard.lines (line ∷ []))
            ∙ sym (append-nil _)
            ∙ ap (λ t. flat_map whole (far.heard.lines ++ line ∷ []) ++ t) (sym e.line);
        free = subst IsFree (sym e.line) (λ k d below. omega (arith, below));
        answered = folds (AnsweredLine limit) _ _ _ far.heard.lines line far.heard.answered
            (e.text, All-append (λ byte. byte ≢ 10) old.open_line e.bytes far.heard.free e.free, e.is_text, told);
      };
      loaded = refl;
      kept = e.kept;
    }

-- a look takes a session farther
pub looked : (limit : Option ℕ) (left written : Option (List ℕ)) (old new : Turn) → Far limit left written old → Looked limit old new →
    Far limit left written new
looked limit left written old new far (inl g) = gained limit left written old new far g
looked limit left written old new far (inr e) = ended limit left written old new far e

-- nothing is heard yet
pub begun : (limit : Option ℕ) (left written : Option (List ℕ)) →
    Far limit left written (record
    { left = left; written = written; loaded = record { code = []; global = []; local = [] }; open_line = [] })
begun limit left written = record {
  input = [];
  spent = nothing left;
  talk = fresh written;
  heard = record { lines = []; spelled = refl; free = λ k d below. omega (arith, below); answered = refl };
  loaded = refl;
  kept = same written;
}

-- the open line is answered at last
pub over : (limit : Option ℕ) (left written : Option (List ℕ)) (now : Turn) (loaded : Loaded) (after : Option (List ℕ)) →
    Far limit left written now →
    LineToldWithin limit now.open_line now.loaded now.written loaded after → (input : List ℕ) × Consumes left now.left
    input × SessionWithin limit input written after
over limit left written now loaded after far told = (
  far.input,
  far.spent,
  (
    now.open_line,
    far.talk,
    record { loaded = loaded; written = after },
    far.heard,
    (now.written, far.kept, subst (λ t. LineToldWithin limit now.open_line t now.written loaded after) (sym far.loaded) told),
    same after,
  ),
)

-- a look more
pub goes_on : (limit : Option ℕ) (old now new : Turn) → Goes limit old now → Looked limit now new → Goes limit old new
goes_on limit old now new goes look = λ left written far. looked limit left written now new (goes left written far) look

-- and the writer is flushed at last
pub flushed : (limit : Option ℕ) (left now written after last : Option (List ℕ)) →
    (input : List ℕ) × Consumes left now input × SessionWithin limit input written after → Keeps after last →
    (input : List ℕ) × Consumes left now input × SessionWithin limit input written last
flushed limit left now written after last (input, spent, (line, talk, end, heard, told, kept)) flush =
    (input, spent, (line, talk, end, heard, told, keeps _ _ _ kept flush))
