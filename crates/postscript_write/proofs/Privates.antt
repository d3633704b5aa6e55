-- Private dictionaries of parts.
use Rattle.std.proofs.Common.{◌≡◌, ◌⊎◌, sym, ap, subst, ◌∙◌, inl, inr, ℕ, zero, suc, ◌+◌, ◌≤◌, ◌==◌, nat_lt, if◌then◌else◌, [], ◌∷◌, List, length, length-take, length-drop, take, drop, slice_get, Option, Some, None, Bool, true, false, arith}
use Rattle.std.specs.Option.{is_none, unwrap_or}
use Rattle.postscript_base.specs.Compact1.Defaults.{look, first_two_of}
use Rattle.postscript_base.specs.Compact1.Dictionary.{Dictionary, dictionary_of}
use Rattle.postscript_base.specs.Compact1.DictionaryLaw.{IsDictionary}
use Rattle.postscript_base.specs.Tape.Outcome.{Got, RefusedAs, end}
use Rattle.postscript_base.specs.declared.compact1.operator.Operator.TheVariants as operators
use Rattle.postscript_base.specs.declared.error.Error.{Error}
use Rattle.postscript_compact1.specs.FontSet.Parts.{HasPrivate}
use Rattle.postscript_compact1.specs.FontSet.Operands.{bounds}
use Rattle.postscript_compact1.proofs.OperandLaws.{bounds_has, bounds_is}
use Rattle.postscript_view.specs.Layout.{AreParts, ArePartsOf, HasLocals, IsPart}
use Rattle.postscript_view.specs.Layout.AreParts.{OfFont, OfFontDictionaries}
use Rattle.postscript_view.specs.Layout.HasLocals.{WithBoth, WithoutSubrs, WithoutPrivate}
use Rattle.postscript_view.specs.Order.{slice_at}
use Rattle.postscript_view.specs.Contents.{PrivateDict}
use Rattle.postscript_view.specs.Sizes.{size_in, size_named}
use Rattle.postscript_view.proofs.Wider.{slice_is}

-- a part has a private dictionary that its dictionary names, or none is named
abbrev pub IsNamed : List ℕ → (map local : Dictionary) → Type 0
IsNamed bytes map local = ((first_two_of (look map operators.Private) ≡ None) × (local ≡ dictionary_of []))
    ⊎ ((offset : ℕ) × HasPrivate bytes 0 map offset local)

pub named : (bytes : List ℕ) (map local : Dictionary) (subroutines : List (List ℕ)) → HasLocals bytes map local subroutines →
    IsNamed bytes map local
named bytes map local subroutines (WithBoth offset private stand) = inr (offset, private)
named bytes map local subroutines (WithoutSubrs offset private lacking is) = inr (offset, private)
named bytes map local subroutines (WithoutPrivate lacking empty is) = inl (lacking, empty)

pub own : (bytes : List ℕ) (map : Dictionary) (font : Option Dictionary) (part : PrivateDict) → IsPart bytes map font part →
    is_none (first_two_of (look map operators.Private)) ≡ false →
    (offset : ℕ) × HasPrivate bytes 0 map offset part.dictionary
own bytes map font part is some = elim (named bytes map part.dictionary part.subroutines is.0) [
  | inl lacking ↦ (let never : true ≡ false = sym (ap is_none lacking.0) ∙ some in absurd (cc))
  | inr has ↦ has
]

pub no_bounds : (bytes : List ℕ) (map local : Dictionary) (offset : ℕ) (e : Error) → HasPrivate bytes 0 map offset local →
    RefusedAs e (bounds 0 map bytes 0) → ⊥
no_bounds bytes map local offset e h refused = subst (RefusedAs e) (bounds_is 0 map h.0 offset bytes 0 h.2 h.3) refused

one_value : {A : Type 0} (x y : A) → Got x 0 ≡ Got y 0 → x ≡ y
one_value x y e = cc

pub sized : (bytes : List ℕ) (map local : Dictionary) (offset size o there : ℕ) (h : HasPrivate bytes 0 map offset local) →
    bounds 0 map bytes 0 ≡ Got (size, o, there) 0 → (size ≡ h.0) × (there ≡ 0 + offset)
sized bytes map local offset size o there h e =
    let is : ℕ × ℕ × ℕ = (size, o, there) in
    let was : ℕ × ℕ × ℕ = (h.0, offset, 0 + offset) in
    let same = one_value is was (sym e ∙ bounds_is 0 map h.0 offset bytes 0 h.2 h.3) in
    (ap (λ b. b.0) same, ap (λ b. b.2) same)

pub no_source : (bytes : List ℕ) (map local : Dictionary) (offset size o there : ℕ) (e : Error) → HasPrivate bytes 0 map offset local →
    bounds 0 map bytes 0 ≡ Got (size, o, there) 0 →
    RefusedAs e (slice_at there size bytes 0) → ⊥
no_source bytes map local offset size o there e h are refused =
    let same = sized bytes map local offset size o there h are in
    subst (RefusedAs e) (slice_is h.0 (0 + offset) h.1 bytes 0 h.4)
    (subst (λ n. RefusedAs e (slice_at (0 + offset) n bytes 0)) same.0 (subst (λ p. RefusedAs e (slice_at p size bytes 0)) same.1 refused))

pub source_is : (bytes : List ℕ) (map local : Dictionary) (offset size o there : ℕ) (source : List ℕ) →
    HasPrivate bytes 0 map offset local → bounds 0 map bytes 0 ≡ Got (size, o, there) 0 →
    slice_at there size bytes 0 ≡ Got source 0 → IsDictionary source 0 local
source_is bytes map local offset size o there source h are e =
    let same = sized bytes map local offset size o there h are in
    let at : slice_at (0 + offset) h.0 bytes 0 ≡ Got source 0 = subst (λ n. slice_at (0 + offset) n bytes 0 ≡ Got source 0) same.0
    (subst (λ p. slice_at p size bytes 0 ≡ Got source 0) same.1 e) in
    let is = one_value h.1 source (sym (slice_is h.0 (0 + offset) h.1 bytes 0 h.4) ∙ at) in
    subst (λ (bs : List ℕ). IsDictionary bs 0 local) is h.5

-- each part has what its dictionary names
each_of : (bytes : List ℕ) (items : List (List ℕ)) (parts : List PrivateDict) (other : Dictionary) (i : ℕ) (part : PrivateDict) →
    ArePartsOf bytes items parts → slice_get parts i ≡ Some part → IsPart bytes (unwrap_or part.font other) part.font part
each_of bytes [] [] other i part are at = let never : None ≡ Some part = at in absurd (cc)
each_of bytes [] (x ∷ parts) other i part are at = absurd are
each_of bytes (item ∷ items) [] other i part are at = absurd are
each_of bytes (item ∷ items) (x ∷ parts) other zero part are at =
    let is : x ≡ part = cc in
    let named : x.font ≡ Some are.0 = are.2.1 in
    subst (λ (p : PrivateDict). IsPart bytes (unwrap_or p.font other) p.font p) is
    (subst (λ f. IsPart bytes (unwrap_or f other) f x) (sym named) (are.2.0, named))
each_of bytes (item ∷ items) (x ∷ parts) other (suc i) part are at = each_of bytes items parts other i part are.3 at

pub each_part : (bytes : List ℕ) (map : Dictionary) (parts : List PrivateDict) (i : ℕ) (part : PrivateDict) → AreParts bytes map parts →
    slice_get parts i ≡ Some part → IsPart bytes (unwrap_or part.font map) part.font part
each_part bytes map parts i part (OfFont own plain is one) at = by i (subst (λ (ps : List PrivateDict). slice_get ps i ≡ Some part) one at)
  where
    by : (i : ℕ) → slice_get (own ∷ []) i ≡ Some part → IsPart bytes (unwrap_or part.font map) part.font part
    by zero at =
        let same : own ≡ part = cc in
        let none : own.font ≡ None = is.1 in
        subst (λ (p : PrivateDict). IsPart bytes (unwrap_or p.font map) p.font p) same
        (subst (λ f. IsPart bytes (unwrap_or f map) f own) (sym none) (is.0, none))
    by (suc i) at = let never : None ≡ Some part = at in absurd (cc)
each_part bytes map parts i part (OfFontDictionaries items keyed named are) at = each_of bytes items parts map i part are at

-- a private dictionary has the size that is named, and no more bytes than the font
pub size_is : (bytes : List ℕ) (map : Dictionary) (size o there : ℕ) → bounds 0 map bytes 0 ≡ Got (size, o, there) 0 →
    size ≡ size_named (first_two_of (look map operators.Private))
size_is bytes map size o there e =
    let has = bounds_has 0 map (size, o, there) bytes 0 0 e in
    let two = has.0 in
    sym (ap size_named two.2 ∙ ap size_in two.3)

pub source_within : (bytes source : List ℕ) (there size : ℕ) → slice_at there size bytes 0 ≡ Got source 0 →
    (length source ≤ size) × (length source ≤ length bytes)
unfolding slice_at
source_within bytes source there size is = by (size == 0) (nat_lt (length bytes) (there + size)) is
  where
    by : (none cut : Bool) → (if none then Got [] 0 else if cut then end else Got (take size (drop there bytes)) 0) ≡ Got source 0 →
        (length source ≤ size) × (length source ≤ length bytes)
    by true cut e = let same = one_value [] source e in let long = ap length same in (omega (arith, long), omega (arith, long))
    by false true e = absurd (cc)
    by false false e =
        let same = one_value (take size (drop there bytes)) source e in
        let long = ap length same in (
          omega (arith, long, length-take size (drop there bytes)),
          omega (arith, long, length-take size (drop there bytes), length-drop there bytes),
        )
