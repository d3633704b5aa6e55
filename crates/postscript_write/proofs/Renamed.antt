-- Strings that are named alike.
use Rattle.std.proofs.Common.{◌≡◌, refl, sym, ap, subst, ◌∙◌, ℕ, ◌-◌, ◌<◌, List, Bool, true, false, slice_get, get_or, arith}
use Rattle.std.specs.Prelude.{Option, Some, None, nat_lt, if◌then◌else◌}
use Rattle.std.proofs.lemmas.Bool.Decides.{nat_tests}
use Rattle.postscript_compact1.specs.StandardStrings.{standard_string}
use Rattle.postscript_view.specs.Naming.{Names}
use Rattle.postscript_view.specs.Strings.{string_of}
use Rattle.postscript_view.specs.declared.char_set.CharSetView.{CharSetView}
use Rattle.postscript_view.proofs.Naming.{named_once}
use Rattle.postscript_write.specs.Glyphs.{Sources}
use Rattle.postscript_write.specs.Strings.{own_string, AreNamedAs, IsNamedAs, SameString, SameText, SameTexts}

standard : (strings : List (List ℕ)) (identifier : ℕ) → nat_lt identifier 391 ≡ true →
    string_of strings identifier ≡ standard_string identifier
unfolding string_of
standard strings identifier e = ap (λ b. if b then standard_string identifier else slice_get strings (identifier - 391)) e

-- strings are the same where those of the fonts' own are, and standard ones
picked : (a b : Bool) (o p s t : Option (List ℕ)) → (a ≡ true → o ≡ s) → (b ≡ true → p ≡ t) →
    (if b then None else p) ≡ (if a then None else o) → ((if a then None else o) ≡ None → (b ≡ a) × (t ≡ s)) → p ≡ o
picked true true o p s t eo ep e same = ep refl ∙ (same refl).1 ∙ sym (eo refl)
picked true false o p s t eo ep e same = let never : false ≡ true = (same refl).0 in absurd (cc)
picked false true o p s t eo ep e same = let never : true ≡ false = (same (sym e)).0 in absurd (cc)
picked false false o p s t eo ep e same = e

same_string_of : (old new : List (List ℕ)) (was is : ℕ) → SameString old was new is → string_of new is ≡ string_of old was
unfolding own_string
same_string_of old new was is same =
    picked (nat_lt was 391) (nat_lt is 391) (string_of old was) (string_of new is) (standard_string was) (standard_string is)
    (standard old was) (standard new is) same.string
    (λ none. let e : is ≡ was = same.identifier none in (ap (λ n. nat_lt n 391) e, ap standard_string e))

own_none : (strings : List (List ℕ)) (identifier : ℕ) → identifier < 391 → own_string strings identifier ≡ None
unfolding own_string
own_none strings identifier less = grind (arith, nat_tests)

pub named_by : (old new : CharSetView) (old_strings new_strings : List (List ℕ)) (source : Option ℕ) (glyph i was is : ℕ) →
    source ≡ Some glyph → Names old glyph was → Names new i is → SameString old_strings was new_strings is →
    IsNamedAs old old_strings source new new_strings i
named_by old new old_strings new_strings source glyph i was is e names_old names_new same =
    subst (λ s. IsNamedAs old old_strings s new new_strings i) (sym e) (was, is, names_old, names_new, same)

-- where identifiers name the same string, glyphs have the same name
pub same_text_by : (old new : CharSetView) (old_strings new_strings : List (List ℕ)) (source : Option ℕ) (glyph i was is : ℕ) →
    source ≡ Some glyph → Names old glyph was → Names new i is → SameString old_strings was new_strings is →
    SameText old old_strings source new new_strings i
same_text_by old new old_strings new_strings source glyph i was is e names_old names_new same =
    let told : string_of new_strings is ≡ string_of old_strings was = same_string_of old_strings new_strings was is same in
    subst (λ s. SameText old old_strings s new new_strings i) (sym e) (record {
      name = λ name. (
        (λ h. (is, names_new, told ∙ subst (λ n. string_of old_strings n ≡ Some name) (named_once old glyph h.0 was h.1 names_old) h.2)),
        (λ h. (was, names_old, sym told ∙ subst (λ n. string_of new_strings n ≡ Some name) (named_once new i h.0 is h.1 names_new) h.2)),
      );
      standard = λ identifier less. (
        (λ h.
            let at : identifier ≡ was = named_once old glyph identifier was h names_old in
            let one : is ≡ was = same.identifier (own_none old_strings was (subst (λ n. n < 391) at less)) in
            subst (λ n. Names new i n) (one ∙ sym at) names_new),
        (λ h.
            let at : identifier ≡ is = named_once new i identifier is h names_new in
            let one : is ≡ was = same.identifier (sym same.string ∙ own_none new_strings is (subst (λ n. n < 391) at less)) in
            subst (λ n. Names old glyph n) (sym one ∙ sym at) names_old),
      );
    })

-- so all have the same names
pub texts_of : (old new : CharSetView) (old_strings new_strings : List (List ℕ)) (sources : Sources) →
    AreNamedAs old old_strings sources new new_strings → SameTexts old old_strings sources new new_strings
texts_of old new old_strings new_strings sources are i less = by (get_or sources i None) refl (are i less)
  where
    by : (source : Option ℕ) → get_or sources i None ≡ source → IsNamedAs old old_strings source new new_strings i →
        SameText old old_strings source new new_strings i
    by None e named = tt
    by (Some glyph) e named = same_text_by old new old_strings new_strings (Some glyph) glyph i named.0 named.1 refl named.2 named.3 named.4
