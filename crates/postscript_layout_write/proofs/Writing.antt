-- Arrays that are written one number after the other.
use Rattle.std.proofs.Common.{◌≡◌, ◌∙◌, ap, sym, subst, ℕ, ◌+◌, ◌-◌, ◌*◌, ◌<◌, ◌≤◌, List, [], ◌∷◌, ◌++◌, length, length-append, length-drop, get_or, take, drop, arith, inl, inr}
use Rattle.std.specs.Prelude.{Some}
use Rattle.std.specs.List.{All, Contains}
use Rattle.std.proofs.lemmas.List.{at_drop_more, at_drop_all, take_more}
use Rattle.std.proofs.lemmas.List.Elements.{All-append, All-cons, All-nil, All-weaker, Contains-append_left, Contains-push, Contains-push_cases}
use Rattle.postscript_layout_write.specs.Entries.{form_of}
use Rattle.postscript_layout_write.specs.Pieces.{extension_text, extensions_text}
use Rattle.postscript_layout_write.specs.Text.{AreOfForm, array_text, entries_text, entry_text, offsets_text, uint16}
use Rattle.postscript_layout_write.specs.declared.entries.Entry.{Entry}
use Rattle.postscript_layout_write.specs.declared.entries.Form.{Form}

pub array-more : (ns : List ℕ) (i : ℕ) → i < length ns → array_text (drop i ns) ≡ uint16 (get_or ns i 0) ++ array_text (drop (i + 1) ns)
unfolding array_text
array-more ns i less = at_drop_more array_text ns i 0 less

pub array-done : (ns : List ℕ) (i : ℕ) → length ns ≤ i → array_text (drop i ns) ≡ []
unfolding array_text
array-done ns i past = at_drop_all array_text ns i past

pub offsets-more : (base : ℕ) (ns : List ℕ) (i : ℕ) → i < length ns →
    offsets_text base (drop i ns) ≡ uint16 (base + get_or ns i 0) ++ offsets_text base (drop (i + 1) ns)
unfolding array_text
offsets-more base ns i less = at_drop_more (offsets_text base) ns i 0 less

pub offsets-done : (base : ℕ) (ns : List ℕ) (i : ℕ) → length ns ≤ i → offsets_text base (drop i ns) ≡ []
unfolding array_text
offsets-done base ns i past = at_drop_all (offsets_text base) ns i past

pub entries-text-more : (form : Form) (es : List Entry) (i : ℕ) (d : Entry) → i < length es →
    entries_text form (drop i es) ≡ entry_text form (get_or es i d) ++ entries_text form (drop (i + 1) es)
unfolding entries_text
entries-text-more form es i d less = at_drop_more (entries_text form) es i d less

pub entries-text-done : (form : Form) (es : List Entry) (i : ℕ) → length es ≤ i → entries_text form (drop i es) ≡ []
unfolding entries_text
entries-text-done form es i past = at_drop_all (entries_text form) es i past

pub extensions-more : (distance : ℕ) (ns : List ℕ) (i d : ℕ) → i < length ns → d ≡ (length ns - i) * 8 + distance + get_or ns i 0 →
    extensions_text distance (drop i ns) ≡ extension_text d ++ extensions_text distance (drop (i + 1) ns)
unfolding extensions_text
extensions-more distance ns i d less is = at_drop_more (extensions_text distance) ns i 0 less
    ∙ ap (λ n. extension_text n ++ extensions_text distance (drop (i + 1) ns)) {x = 8 + length (drop (i + 1) ns) * 8 + distance + get_or ns i 0} {y = d}
    (let rest = length-drop (i + 1) ns in omega (arith, rest, less, is))

pub extensions-done : (distance : ℕ) (ns : List ℕ) (i : ℕ) → length ns ≤ i → extensions_text distance (drop i ns) ≡ []
unfolding extensions_text
extensions-done distance ns i past = at_drop_all (extensions_text distance) ns i past

pub all-more : {X : Type 0} (P : X → Type 0) (xs : List X) (i : ℕ) (d : X) → i < length xs → All P (take i xs) → P (get_or xs i d) → All P (take (i + 1) xs)
all-more P xs i d less all here = subst (All P) (sym (take_more xs i d less))
    (All-append P (take i xs) (get_or xs i d ∷ []) all (All-cons P (get_or xs i d) [] here (All-nil P)))

-- the entries of a form, with one more entry

right-on : (form : Form) (xs : List Entry) (e : Entry) (found : List Entry) → All (λ e. (form_of e.adjustment ≡ Some form) × Contains xs e) found →
    All (λ y. (form_of y.adjustment ≡ Some form) × Contains (xs ++ e ∷ []) y) found
right-on form xs e found right = All-weaker (λ y. (form_of y.adjustment ≡ Some form) × Contains xs y)
    (λ y. (form_of y.adjustment ≡ Some form) × Contains (xs ++ e ∷ []) y)
    (λ y h. (h.0, Contains-append_left xs (e ∷ []) y h.1)) found right

pub of-form-more : (form : Form) (xs found : List Entry) (e : Entry) → AreOfForm form xs found → form_of e.adjustment ≡ Some form →
    AreOfForm form (xs ++ e ∷ []) (found ++ e ∷ [])
of-form-more form xs found e a is = record {
  right = (let P : Entry → Type 0 = λ y. (form_of y.adjustment ≡ Some form) × Contains (xs ++ e ∷ []) y in
      All-append P found (e ∷ []) (right-on form xs e found a.right) (All-cons P e [] (is, Contains-push xs e) (All-nil P)));
  all = λ y there h. elim (Contains-push_cases xs e y there) [
    | inl old ↦ Contains-append_left found (e ∷ []) y (a.all y old h)
    | inr same ↦ subst (λ z. Contains (found ++ e ∷ []) z) same (Contains-push found e)
  ];
  few = (let few = a.few in omega (arith, few, length-append xs (e ∷ []), length-append found (e ∷ [])));
}

pub of-form-less : (form : Form) (xs found : List Entry) (e : Entry) → AreOfForm form xs found → (form_of e.adjustment ≡ Some form → ⊥) →
    AreOfForm form (xs ++ e ∷ []) found
of-form-less form xs found e a never = record {
  right = right-on form xs e found a.right;
  all = λ y there h. elim (Contains-push_cases xs e y there) [
    | inl old ↦ a.all y old h
    | inr same ↦ absurd (never (subst (λ (z : Entry). form_of z.adjustment ≡ Some form) (sym same) h))
  ];
  few = (let few = a.few in omega (arith, few, length-append xs (e ∷ [])));
}
