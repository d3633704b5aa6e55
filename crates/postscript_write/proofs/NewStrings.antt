-- Strings that are written under new identifiers.
use Rattle.std.proofs.Common.{◌≡◌, ◌⊎◌, refl, sym, ap, subst, take, true, ◌∙◌, ℕ, zero, suc, ◌+◌, ◌<◌, ◌≤◌, List, [], ◌∷◌, ◌++◌, length, length-append, get_or, Option, Some, None, inl, inr, arith}
use Rattle.std.proofs.Math.ListN.{get_or-append, replicate, set}
use Rattle.std.proofs.Math.Seq.{get_or-append_seam}
use Rattle.std.proofs.lemmas.Bool.{cases_eq, cases_lt}
use Rattle.std.proofs.lemmas.List.{get_or-set_other, get_or-set_same, length-set}
use Rattle.std.proofs.lemmas.List.Sums.{sum_by-append, sum_by-cons}
use Rattle.std.proofs.lemmas.List.{append-nil, take_more}
use Rattle.std.proofs.lemmas.List.Elements.{filter_map-append}
use Rattle.std.specs.List.{cons_option, filter_map}
use Rattle.std.specs.Option.{is_some}
use Rattle.postscript_base.specs.Compact1.Dictionary.{Dictionary}
use Rattle.postscript_write.specs.Parts.{naming}
use Rattle.postscript_write.specs.Strings.{identifier_in}
use Rattle.postscript_write.specs.NewStrings.{AreAdded, AreNamed, AreRenumbered, HasNew, left_of}
use Rattle.postscript_write.specs.Sizes.{bytes_in}

all_left : (old : List (List ℕ)) → left_of (replicate (length old) None) old ≡ old
unfolding left_of
all_left [] = refl
all_left (string ∷ old) = ap (λ rest. string ∷ rest) (all_left old)

abbrev nothing : Option ℕ
nothing = None

none_new : (n number : ℕ) → get_or (replicate n nothing) number None ≡ None
none_new zero number = refl
none_new (suc n) zero = refl
none_new (suc n) (suc number) = none_new n number

length_none : (n : ℕ) → length (replicate n nothing) ≡ n
length_none zero = refl
length_none (suc n) = ap suc (length_none n)

-- no string is written yet
pub none_written : (old : List (List ℕ)) (renumbered : List (Option ℕ)) → renumbered ≡ replicate (length old) None →
    AreRenumbered old [] renumbered
none_written old renumbered is =
    let none : (number : ℕ) → get_or renumbered number None ≡ None = λ number. ap (λ rs. get_or rs number None) is
    ∙ none_new (length old) number in
    let left : left_of renumbered old ≡ old = ap (λ rs. left_of rs old) is ∙ all_left old in
    record {
      many = ap length is ∙ length_none (length old);
      each = λ number new some. let never : None ≡ Some new = sym (none number) ∙ some in absurd (cc);
      own = λ place less. absurd (omega (arith, less));
      counted = omega (arith, ap length left);
      sized = omega (arith, ap bytes_in left);
    }

-- one string less is left
one_less : (renumbered : List (Option ℕ)) (old : List (List ℕ)) (k new : ℕ) → k < length renumbered → k < length old →
    get_or renumbered k None ≡ None →
    (length (left_of (set renumbered k (Some new)) old) + 1 ≡ length (left_of renumbered old))
    × (bytes_in (left_of (set renumbered k (Some new)) old) + length (get_or old k []) ≡ bytes_in (left_of renumbered old))
unfolding left_of
one_less [] old k new less there none = absurd (omega (arith, less))
one_less (r ∷ rs) [] k new less there none = absurd (omega (arith, there))
one_less (None ∷ rs) (string ∷ old) zero new less there none =
    (omega arith, omega (arith, sum_by-cons length string (left_of rs old)))
one_less (Some n ∷ rs) (string ∷ old) zero new less there none = absurd (cc)
one_less (None ∷ rs) (string ∷ old) (suc k) new less there none =
    let rest = one_less rs old k new (omega (arith, less)) (omega (arith, there)) none in
    let a = rest.0 in
    let b = rest.1 in (
      omega (arith, a),
      omega (arith, b, sum_by-cons length string (left_of rs old), sum_by-cons length string (left_of (set rs k (Some new)) old)),
    )
one_less (Some n ∷ rs) (string ∷ old) (suc k) new less there none = one_less rs old k new (omega (arith, less)) (omega (arith, there)) none

-- one string more is written
pub one_written : (old texts : List (List ℕ)) (renumbered : List (Option ℕ)) (k new : ℕ) (text : List ℕ) → k < length old →
    get_or renumbered k None ≡ None → text ≡ get_or old k [] → new ≡ 391 + length texts →
    AreRenumbered old texts renumbered → AreRenumbered old (texts ++ text ∷ []) (set renumbered k (Some new))
one_written old texts renumbered k new text less none is named are =
    let many = are.many in
    let there : k < length renumbered = omega (arith, less, many) in
    let long : length (texts ++ text ∷ []) ≡ length texts + 1 = length-append texts (text ∷ []) in
    let fewer = one_less renumbered old k new there less none in
    let counted = are.counted in
    let sized = are.sized in
    let a = fewer.0 in
    let b = fewer.1 in
    let same : get_or (set renumbered k (Some new)) k None ≡ Some new = get_or-set_same renumbered k (Some new) None there in
    record {
      many = length-set renumbered k (Some new) ∙ many;
      each = λ number other some. elim (cases_eq number k) [
        | inl at ↦
            (let both : Some new ≡ Some other = sym same ∙ ap (λ n. get_or (set renumbered k (Some new)) n None) (sym at) ∙ some in
            let own : new ≡ other = cc in
            record {
              place = length texts;
              is = sym own ∙ named;
              there = omega (arith, long);
              text = get_or-append_seam texts text [] [] ∙ is ∙ ap (λ n. get_or old n []) (sym at);
            })
        | inr elsewhere ↦
            (let before = are.each number other (sym (get_or-set_other renumbered k number (Some new) None elsewhere) ∙ some) in
            let within = before.there in
            record {
              place = before.place;
              is = before.is;
              there = omega (arith, within, long);
              text = get_or-append texts (text ∷ []) [] before.place within ∙ before.text;
            })
      ];
      own = λ place within. elim (cases_lt place (length texts)) [
        | inl before ↦
            (let one = are.own place before in
            let elsewhere : one.0 ≡ k → ⊥ = λ at. let never : None ≡ Some (391 + place) = sym none
            ∙ ap (λ n. get_or renumbered n None) (sym at) ∙ one.1 in absurd (cc) in
            (one.0, get_or-set_other renumbered k one.0 (Some new) None elsewhere ∙ one.1))
        | inr last ↦
            (let at : new ≡ 391 + place = omega (arith, last, within, long, named) in
            (k, same ∙ ap (λ n. Some n) at))
      ];
      counted = omega (arith, long, a, counted);
      sized = omega (arith, sum_by-append length texts (text ∷ []), b, sized, ap length is);
    }

-- so there are not more strings, and not more bytes
pub few_written : (old texts : List (List ℕ)) (renumbered : List (Option ℕ)) → AreRenumbered old texts renumbered →
    (length texts ≤ length old) × (bytes_in texts ≤ bytes_in old)
few_written old texts renumbered are =
    let counted = are.counted in
    let sized = are.sized in
    (omega (arith, counted), omega (arith, sized))

pub none_has : (renumbered : List (Option ℕ)) (n number : ℕ) → renumbered ≡ replicate n None → HasNew renumbered number → ⊥
none_has renumbered n number is has =
    let none : get_or renumbered number None ≡ None = ap (λ rs. get_or rs number None) is ∙ none_new n number in
    let never : is_some nothing ≡ true = sym (ap is_some none) ∙ has in
    absurd (cc)

pub none_added : (before : List (Option ℕ)) (identifiers : List ℕ) → AreAdded before identifiers 0 before
none_added before identifiers = record {
  kept = λ number has. has;
  named = λ number there one. let less = one.1 in absurd (omega (arith, less));
  only = λ number has. inl has;
}

pub one_added : (before after new : List (Option ℕ)) (identifiers : List ℕ) (i identifier : ℕ) → length new ≡ length after →
    identifier ≡ get_or identifiers i 0 →
    ((number : ℕ) → identifier ≡ 391 + number → number < length new → HasNew new number) → ((number : ℕ) → HasNew after number → HasNew
    new number) →
    ((number : ℕ) → HasNew new number → HasNew after number ⊎ (identifier ≡ 391 + number)) → AreAdded before identifiers i
    after → AreAdded before identifiers (i + 1) new
one_added before after new identifiers i identifier many is named kept only added = record {
  kept = λ number has. kept number (added.kept number has);
  named = λ number there one. elim (cases_lt one.0 i) [
    | inl earlier ↦ kept number (added.named number (omega (arith, there, many)) (one.0, earlier, one.2))
    | inr last ↦ (let less = one.1 in let at : i ≡ one.0 = omega (arith, last, less) in
        named number (is ∙ ap (λ k. get_or identifiers k 0) at ∙ one.2) there)
  ];
  only = λ number has. elim (only number has) [
    | inr now ↦ inr (i, omega arith, sym is ∙ now)
    | inl had ↦ elim (added.only number had) [
      | inl at_first ↦ inl at_first
      | inr one ↦ (let less = one.1 in inr (one.0, omega (arith, less), one.2))
    ]
  ];
}

pub both_added : (map : Dictionary) (identifiers operators : List ℕ) (before middle after : List (Option ℕ)) →
    operators ≡ filter_map (identifier_in map) naming → length after ≡ length middle →
    ((number : ℕ) → HasNew before number → ⊥) → AreAdded before operators (length operators) middle → AreAdded middle identifiers
    (length identifiers) after → AreNamed map identifiers after
both_added map identifiers operators before middle after is many none first second =
    let added : AreAdded before (filter_map (identifier_in map) naming) (length (filter_map (identifier_in map) naming)) middle = subst
    (λ (ns : List ℕ). AreAdded before ns (length ns) middle) is first in
    record {
      all = λ number there one. elim one [
        | inl operator ↦ second.kept number (added.named number (omega (arith, there, many)) operator)
        | inr glyph ↦ second.named number there glyph
      ];
      only = λ number has. elim (second.only number has) [
        | inr glyph ↦ inr glyph
        | inl had ↦ elim (added.only number had) [
          | inl at_first ↦ absurd (none number at_first)
          | inr operator ↦ inl operator
        ]
      ];
    }

-- one more of those that give a value
pub one_given : {X A : Type 0} (h : X → Option A) (xs : List X) (i : ℕ) (d : X) (y : A) (old new : List A) → i < length xs →
    old ≡ filter_map h (take i xs) → h (get_or xs i d) ≡ Some y → new ≡ old ++ y ∷ [] →
    new ≡ filter_map h (take (i + 1) xs)
one_given h xs i d y old new less so_far gives more =
    more ∙ ap (λ ys. ys ++ y ∷ []) so_far ∙ ap (λ o. filter_map h (take i xs) ++ cons_option o []) (sym gives)
    ∙ sym (filter_map-append h (take i xs) (get_or xs i d ∷ [])) ∙ ap (filter_map h) (sym (take_more xs i d less))

pub none_given : {X A : Type 0} (h : X → Option A) (xs : List X) (i : ℕ) (d : X) (old new : List A) → i < length xs →
    old ≡ filter_map h (take i xs) → h (get_or xs i d) ≡ None → new ≡ old →
    new ≡ filter_map h (take (i + 1) xs)
none_given h xs i d old new less so_far gives same =
    same ∙ so_far ∙ sym (append-nil (filter_map h (take i xs))) ∙ ap (λ o. filter_map h (take i xs) ++ cons_option o []) (sym gives)
    ∙ sym (filter_map-append h (take i xs) (get_or xs i d ∷ [])) ∙ ap (filter_map h) (sym (take_more xs i d less))
