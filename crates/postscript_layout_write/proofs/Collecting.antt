-- Sets, subtables and lookups that are collected.
use Rattle.std.proofs.Common.{◌≡◌, refl, sym, ap, subst, ◌∙◌, inl, inr, ℕ, ◌+◌, ◌*◌, ◌≤◌, ◌<◌, ◌&&◌, List, [], ◌∷◌, ◌++◌, length, length-append, get_or, arith, Bool, true, false}
use Rattle.std.specs.Prelude.{None, Some, nat_lt, if◌then◌else◌}
use Rattle.std.specs.List.{All, Contains}
use Rattle.std.proofs.lemmas.Bool.{le-ltb, lt-ltb}
use Rattle.std.proofs.lemmas.List.{get_or_append_left, get_or_push}
use Rattle.std.proofs.lemmas.List.Elements.{All-append, All-cons, All-contains, All-nil, All-weaker, Contains-append_left, Contains-push}
use Rattle.postscript_layout_write.specs.Entries.{AreEntries, entry, form_of}
use Rattle.postscript_layout_write.specs.Holds.{Holds}
use Rattle.postscript_layout_write.specs.Forms.{AddsForm, AddsForms, AddsSubtable, AreForms, Completes, HasFirst, HasSubtables, IsForm, IsSubtable, MakesRoom, has_room, is_full, no_subtable, one_subtable}
use Rattle.postscript_layout_write.specs.Scopes.{new_pair, pair_by}
use Rattle.postscript_layout_write.specs.Sets.{Adds, AreOffsets, AreSets, HasSet, HasSubtable, no_pairs, some_pairs}
use Rattle.postscript_layout_write.specs.Text.{AreOfForm, EntryFits, set_text, subtable_text}
use Rattle.postscript_layout_write.specs.Values.{nothing}
use Rattle.postscript_layout_write.specs.declared.entries.Entry.{Entry}
use Rattle.postscript_layout_write.specs.declared.entries.Form.{Form}
use Rattle.postscript_layout_write.specs.declared.entries.Form.TheVariants.{Advance, First, Both}
use Rattle.postscript_layout_write.specs.declared.forms.Forms.{Forms}
use Rattle.postscript_layout_write.specs.declared.forms.Subtables.{Subtables}
use Rattle.postscript_layout_write.specs.declared.scope.Scope.{Scope}
use Rattle.postscript_layout_write.specs.declared.subtables.Sets.{Sets}
use Rattle.postscript_layout_write.specs.declared.values.Adjustment.{Adjustment}
use Rattle.postscript_layout_write.proofs.Firsts.{nat_cases}
use Rattle.postscript_layout_write.proofs.Holding.{holds-last, holds-on}
use Rattle.postscript_layout_write.proofs.Listing.{entries-as}

-- a set and a subtable, with more bytes after them
set-on : (form : Form) (g : ℕ → Adjustment) (bytes more : List ℕ) (at : ℕ) → HasSet form g bytes at → HasSet form g (bytes ++ more) at
set-on form g bytes more at s = record {
  entries = s.entries;
  right = s.right;
  all = s.all;
  fit = s.fit;
  few = s.few;
  there = holds-on more s.there;
}

module _ (form : Form) (f : (x y : ℕ) → Adjustment) (n x : ℕ) (es : List Entry) (are : AreEntries (f x) n es) (few : n < 65536)
    (bounded : (y : ℕ) → n ≤ y → f x y ≡ nothing) where
  -- a pair of the form has an entry
  entry-there : (found : List Entry) → AreOfForm form es found → (y : ℕ) → form_of (f x y) ≡ Some form → Contains found (entry y (f x y))
  entry-there found of y is = elim (nat_cases y n) [
    | inl less ↦ elim (are.all y less) [
      | inl none ↦ absurd (cc)
      | inr there ↦ of.all (entry y (f x y)) there is
    ]
    | inr far ↦ (let none = ap form_of (bounded y far) in absurd (cc))
  ]

  set-of : (found : List Entry) → AreOfForm form es found → All (EntryFits form) found → (bytes : List ℕ) (offset : ℕ) →
      Holds (set_text form found) bytes offset → HasSet form (f x) bytes offset
  set-of found of fit bytes offset there = record {
    entries = found;
    right = All-weaker (λ e. (form_of e.adjustment ≡ Some form) × Contains es e) (λ e. (form_of e.adjustment ≡ Some form) × (e.adjustment ≡ f x e.second))
        (λ e h. (h.0, (All-contains (λ y. (y.second < n) × (y.adjustment ≡ f x y.second)) es e are.right h.1).1)) found of.right;
    all = entry-there found of;
    fit = fit;
    few = (let a = are.few in let b = of.few in omega (arith, a, b, few));
    there = there;
  }

  -- the sets with the pairs of one more first glyph
  sets-more : (old new : Sets) → Adds form x es old new → AreSets form f old.firsts.items old.offsets.items old.bytes.items →
      AreSets form f new.firsts.items new.offsets.items new.bytes.items
  sets-more old new (no_pairs of a b c) s =
      subst (λ (xs : List ℕ). AreSets form f xs new.offsets.items new.bytes.items) (sym a)
      (subst (λ (xs : List ℕ). AreSets form f old.firsts.items xs new.bytes.items) (sym b)
      (subst (λ (xs : List ℕ). AreSets form f old.firsts.items old.offsets.items xs) (sym c) s))
  sets-more old new (some_pairs found of fit small offset a b p) s =
      subst (λ (xs : List ℕ). AreSets form f xs new.offsets.items new.bytes.items) (sym a)
      (subst (λ (xs : List ℕ). AreSets form f (old.firsts.items ++ x ∷ []) xs new.bytes.items) (sym b)
      (subst (λ (xs : List ℕ). AreSets form f (old.firsts.items ++ x ∷ []) (old.offsets.items ++ offset ∷ []) xs) (sym p.bytes)
      (record {
        same = (let same = s.same in omega (arith, same, length-append old.firsts.items (x ∷ []), length-append old.offsets.items (offset ∷ [])));
        fit = λ k less. elim (nat_cases k m) [
          | inl early ↦ subst (λ w. w < 65536) (sym (get_or_append_left old.firsts.items (x ∷ []) 0 k early)) (s.fit k early)
          | inr late ↦ subst (λ w. w < 65536) (sym (get_or_push old.firsts.items x 0 k (last k less late))) small
        ];
        each = λ k less. elim (nat_cases k m) [
          | inl early ↦ subst (λ w. HasSet form (f w) bytes (get_or (old.offsets.items ++ offset ∷ []) k 0))
              (sym (get_or_append_left old.firsts.items (x ∷ []) 0 k early))
              (subst (λ w. HasSet form (f (get_or old.firsts.items k 0)) bytes w)
              (sym (get_or_append_left old.offsets.items (offset ∷ []) 0 k (let same = s.same in omega (arith, same, early))))
              (set-on form (f (get_or old.firsts.items k 0)) old.bytes.items p.more _ (s.each k early)))
          | inr late ↦ subst (λ w. HasSet form (f w) bytes (get_or (old.offsets.items ++ offset ∷ []) k 0))
              (sym (get_or_push old.firsts.items x 0 k (last k less late)))
              (subst (λ w. HasSet form (f x) bytes w)
              (sym (get_or_push old.offsets.items offset 0 k (let same = s.same in let l = last k less late in omega (arith, same, l))))
              (set-of found of fit bytes offset (subst (λ (xs : List ℕ). Holds (set_text form found) xs offset) p.bytes p.there)))
        ];
      })))
    where
      m : ℕ
      m = length old.firsts.items

      bytes : List ℕ
      bytes = old.bytes.items ++ p.more

      last : (k : ℕ) → k < length (old.firsts.items ++ x ∷ []) → m ≤ k → m ≡ k
      last k less late = omega (arith, less, late, length-append old.firsts.items (x ∷ []))

  -- no first glyph is lost
  first-kept : (old new : Sets) → Adds form x es old new → (z : ℕ) → Contains old.firsts.items z → Contains new.firsts.items z
  first-kept old new (no_pairs of a b c) z there = subst (λ (xs : List ℕ). Contains xs z) (sym a) there
  first-kept old new (some_pairs found of fit small offset a b p) z there =
      subst (λ (xs : List ℕ). Contains xs z) (sym a) (Contains-append_left old.firsts.items (x ∷ []) z there)

  first-there : (old new : Sets) → Adds form x es old new → (y : ℕ) → form_of (f x y) ≡ Some form → Contains new.firsts.items x
  first-there old new (no_pairs of a b c) y is = (let none = entry-there [] of y is in let less = none.1 in absurd (omega (arith, less)))
  first-there old new (some_pairs found of fit small offset a b p) y is =
      subst (λ (xs : List ℕ). Contains xs x) (sym a) (Contains-push old.firsts.items x)

  form-more : (old new : Sets) (offsets bytes : List ℕ) → Adds form x es old new → IsForm form f x old offsets bytes → IsForm form f (x + 1) new offsets bytes
  form-more old new offsets bytes adds s = record {
    are = sets-more old new adds s.are;
    all = λ z y less is. elim (nat_cases z x) [
      | inl early ↦ elim (s.all z y early is) [
        | inl there ↦ inl there
        | inr held ↦ inr (first-kept old new adds z held)
      ]
      | inr late ↦ (let same : z ≡ x = omega (arith, less, late) in
          inr (subst (Contains new.firsts.items) (sym same) (first-there old new adds y (subst (λ w. form_of (f w y) ≡ Some form) same is))))
    ];
  }

-- subtables
module _ (f : (x y : ℕ) → Adjustment) where
  subtable-on : (form : Form) (firsts bytes more : List ℕ) (at : ℕ) → HasSubtable form f firsts bytes at → HasSubtable form f firsts (bytes ++ more) at
  subtable-on form firsts bytes more at s = record {
    offsets = s.offsets;
    sets = s.sets;
    are = s.are;
    fit = s.fit;
    few = s.few;
    there = holds-on more s.there;
  }

  made : (form : Form) (sets : Sets) (old : List ℕ) → AreSets form f sets.firsts.items sets.offsets.items sets.bytes.items →
      AreOffsets (14 + length sets.firsts.items * 4) sets.offsets.items → length sets.firsts.items ≤ 16380 →
      HasSubtable form f sets.firsts.items (old ++ subtable_text form sets.firsts.items sets.offsets.items sets.bytes.items) (length old)
  made form sets old are fit few = record {
    offsets = sets.offsets.items;
    sets = sets.bytes.items;
    are = are;
    fit = fit;
    few = few;
    there = holds-last old (subtable_text form sets.firsts.items sets.offsets.items sets.bytes.items);
  }

  -- each subtable has pairs
  each-on : (form : Form) (sets : Sets) (old new : Subtables) → AddsSubtable form sets old new →
      AreSets form f sets.firsts.items sets.offsets.items sets.bytes.items →
      All (IsSubtable f old.bytes.items) old.offsets.items → All (IsSubtable f new.bytes.items) new.offsets.items
  each-on form sets old new (no_subtable none b o) are each =
      subst (λ (xs : List ℕ). All (IsSubtable f xs) new.offsets.items) (sym b) (subst (λ (xs : List ℕ). All (IsSubtable f old.bytes.items) xs) (sym o) each)
  each-on form sets old new (one_subtable fit few b o) are each =
      subst (λ (xs : List ℕ). All (IsSubtable f xs) new.offsets.items) (sym b) (subst (λ (xs : List ℕ). All (IsSubtable f bytes) xs) (sym o)
      (All-append (IsSubtable f bytes) old.offsets.items (length old.bytes.items ∷ [])
      (All-weaker (IsSubtable f old.bytes.items) (IsSubtable f bytes)
      (λ at s. (s.0, s.1, subtable-on s.0 s.1 old.bytes.items text at s.2)) old.offsets.items each)
      (All-cons (IsSubtable f bytes) (length old.bytes.items) [] (form, sets.firsts.items, made form sets old.bytes.items are fit few)
      (All-nil (IsSubtable f bytes)))))
    where
      text : List ℕ
      text = subtable_text form sets.firsts.items sets.offsets.items sets.bytes.items

      bytes : List ℕ
      bytes = old.bytes.items ++ text

  -- no pairs are lost
  first-on : (form other : Form) (sets : Sets) (old new : Subtables) (z : ℕ) → AddsSubtable form sets old new →
      HasFirst other f z old.offsets.items old.bytes.items → HasFirst other f z new.offsets.items new.bytes.items
  first-on form other sets old new z (no_subtable none b o) h =
      subst (λ (xs : List ℕ). HasFirst other f z new.offsets.items xs) (sym b) (subst (λ (xs : List ℕ). HasFirst other f z xs old.bytes.items) (sym o) h)
  first-on form other sets old new z (one_subtable fit few b o) h = record {
    offset = h.offset;
    firsts = h.firsts;
    listed = subst (λ (xs : List ℕ). Contains xs h.offset) (sym o) (Contains-append_left old.offsets.items (length old.bytes.items ∷ []) h.offset h.listed);
    has = subst (λ (xs : List ℕ). HasSubtable other f h.firsts xs h.offset) (sym b) (subtable-on other h.firsts old.bytes.items _ h.offset h.has);
    first = h.first;
  }

  first-new : (form : Form) (sets : Sets) (old new : Subtables) (z : ℕ) → AddsSubtable form sets old new →
      AreSets form f sets.firsts.items sets.offsets.items sets.bytes.items → Contains sets.firsts.items z →
      HasFirst form f z new.offsets.items new.bytes.items
  first-new form sets old new z (no_subtable none b o) are held = (let within = held.1 in let empty = ap length none in absurd (omega (arith, within, empty)))
  first-new form sets old new z (one_subtable fit few b o) are held = record {
    offset = length old.bytes.items;
    firsts = sets.firsts.items;
    listed = subst (λ (xs : List ℕ). Contains xs (length old.bytes.items)) (sym o) (Contains-push old.offsets.items (length old.bytes.items));
    has = subst (λ (xs : List ℕ). HasSubtable form f sets.firsts.items xs (length old.bytes.items)) (sym b) (made form sets old.bytes.items are fit few);
    first = held;
  }

  form-on : (form other : Form) (count : ℕ) (sets others : Sets) (old new : Subtables) → AddsSubtable form sets old new →
      IsForm other f count others old.offsets.items old.bytes.items → IsForm other f count others new.offsets.items new.bytes.items
  form-on form other count sets others old new adds s = record {
    are = s.are;
    all = λ x y less is. elim (s.all x y less is) [
      | inl there ↦ inl (first-on form other sets old new x adds there)
      | inr held ↦ inr held
    ];
  }

  -- the pairs of a form that are in subtables
  shut : (form : Form) (count : ℕ) (sets : Sets) (old new : Subtables) → AddsSubtable form sets old new →
      IsForm form f count sets old.offsets.items old.bytes.items → (x y : ℕ) → x < count → form_of (f x y) ≡ Some form →
      HasFirst form f x new.offsets.items new.bytes.items
  shut form count sets old new adds s x y less is = elim (s.all x y less is) [
    | inl there ↦ first-on form form sets old new x adds there
    | inr held ↦ first-new form sets old new x adds s.are held
  ]

  -- no sets
  no-sets : (form : Form) (sets : Sets) → sets.firsts.items ≡ [] → sets.offsets.items ≡ [] →
      AreSets form f sets.firsts.items sets.offsets.items sets.bytes.items
  no-sets form sets a b =
      subst (λ (xs : List ℕ). AreSets form f xs sets.offsets.items sets.bytes.items) (sym a)
      (subst (λ (xs : List ℕ). AreSets form f [] xs sets.bytes.items) (sym b)
      (record { same = refl; fit = λ k less. absurd (omega (arith, less)); each = λ k less. absurd (omega (arith, less)) }))

  -- a subtable that makes room
  room-each : (form : Form) (oldsets newsets : Sets) (old new : Subtables) → MakesRoom form oldsets newsets old new →
      AreSets form f oldsets.firsts.items oldsets.offsets.items oldsets.bytes.items →
      All (IsSubtable f old.bytes.items) old.offsets.items → All (IsSubtable f new.bytes.items) new.offsets.items
  room-each form oldsets newsets old new (has_room a b) are each = subst (λ (s : Subtables). All (IsSubtable f s.bytes.items) s.offsets.items) (sym b) each
  room-each form oldsets newsets old new (is_full a b c adds) are each = each-on form oldsets old new adds are each

  room-other : (form other : Form) (count : ℕ) (oldsets newsets others : Sets) (old new : Subtables) → MakesRoom form oldsets newsets old new →
      IsForm other f count others old.offsets.items old.bytes.items → IsForm other f count others new.offsets.items new.bytes.items
  room-other form other count oldsets newsets others old new (has_room a b) s =
      subst (λ (t : Subtables). IsForm other f count others t.offsets.items t.bytes.items) (sym b) s
  room-other form other count oldsets newsets others old new (is_full a b c adds) s = form-on form other count oldsets others old new adds s

  room-form : (form : Form) (count : ℕ) (oldsets newsets : Sets) (old new : Subtables) → MakesRoom form oldsets newsets old new →
      IsForm form f count oldsets old.offsets.items old.bytes.items → IsForm form f count newsets new.offsets.items new.bytes.items
  room-form form count oldsets newsets old new (has_room a b) s =
      subst (λ (t : Subtables). IsForm form f count newsets t.offsets.items t.bytes.items) (sym b)
      (subst (λ (t : Sets). IsForm form f count t old.offsets.items old.bytes.items) (sym a) s)
  room-form form count oldsets newsets old new (is_full a b c adds) s = record {
    are = no-sets form newsets a b;
    all = λ x y less is. inl (shut form count oldsets old new adds s x y less is);
  }

  -- all forms
  pub no-forms : (forms : Forms) → forms.subtables.offsets.items ≡ [] → forms.advance.firsts.items ≡ [] → forms.advance.offsets.items ≡ [] →
      forms.first.firsts.items ≡ [] → forms.first.offsets.items ≡ [] → forms.both.firsts.items ≡ [] → forms.both.offsets.items ≡ [] → AreForms f 0 forms
  no-forms forms none a b c d e g = record {
    each = subst (λ (xs : List ℕ). All (IsSubtable f forms.subtables.bytes.items) xs) (sym none) (All-nil (IsSubtable f forms.subtables.bytes.items));
    advance = record { are = no-sets Advance forms.advance a b; all = λ x y less is. absurd (omega (arith, less)) };
    first = record { are = no-sets First forms.first c d; all = λ x y less is. absurd (omega (arith, less)) };
    both = record { are = no-sets Both forms.both e g; all = λ x y less is. absurd (omega (arith, less)) };
  }

  pub completed : (n : ℕ) (old new : Forms) → ((x y : ℕ) → n ≤ x → form_of (f x y) ≡ None) → Completes old new → AreForms f n old →
      HasSubtables f new.subtables.offsets.items new.subtables.bytes.items
  completed n old new bounded c are = record {
    each = each-on Both old.both c.subtables2 new.subtables c.both are.both.are
        (each-on First old.first c.subtables1 c.subtables2 c.first are.first.are
        (each-on Advance old.advance old.subtables c.subtables1 c.advance are.advance.are are.each));
    all = λ form x y is. elim (nat_cases x n) [
      | inl less ↦ by form x y less is
      | inr far ↦ (let none = bounded x y far in absurd (cc))
    ];
  }
    where
      by : (form : Form) (x y : ℕ) → x < n → form_of (f x y) ≡ Some form → HasFirst form f x new.subtables.offsets.items new.subtables.bytes.items
      by Advance x y less is = first-on Both Advance old.both c.subtables2 new.subtables x c.both
          (first-on First Advance old.first c.subtables1 c.subtables2 x c.first
          (shut Advance n old.advance old.subtables c.subtables1 c.advance are.advance x y less is))
      by First x y less is = first-on Both First old.both c.subtables2 new.subtables x c.both
          (shut First n old.first c.subtables1 c.subtables2 c.first
          (form-on Advance First n old.advance old.first old.subtables c.subtables1 c.advance are.first) x y less is)
      by Both x y less is = shut Both n old.both c.subtables2 new.subtables c.both
          (form-on First Both n old.first old.both c.subtables1 c.subtables2 c.first
          (form-on Advance Both n old.advance old.both old.subtables c.subtables1 c.advance are.both)) x y less is

-- pairs of kept glyphs
pub pair-kept : (scope : Scope) (gpos kept : List ℕ) (lookup x y : ℕ) → x < length kept → y < length kept →
    pair_by scope gpos lookup (get_or kept x 0) (get_or kept y 0) ≡ new_pair scope gpos kept lookup x y
pair-kept scope gpos kept lookup x y a b =
    sym (ap (λ (t : Bool). if t && nat_lt y (length kept) then pair_by scope gpos lookup (get_or kept x 0) (get_or kept y 0) else nothing) (lt-ltb x (length kept) a)
    ∙ ap (λ (t : Bool). if t then pair_by scope gpos lookup (get_or kept x 0) (get_or kept y 0) else nothing) (lt-ltb y (length kept) b))

and-false : (b : Bool) → (b && false) ≡ false
and-false true = refl
and-false false = refl

pub pair-far : (scope : Scope) (gpos kept : List ℕ) (lookup x y : ℕ) → length kept ≤ y → new_pair scope gpos kept lookup x y ≡ nothing
pair-far scope gpos kept lookup x y far =
    ap (λ (t : Bool). if nat_lt x (length kept) && t then pair_by scope gpos lookup (get_or kept x 0) (get_or kept y 0) else nothing) (le-ltb y (length kept) far)
    ∙ ap (λ (t : Bool). if t then pair_by scope gpos lookup (get_or kept x 0) (get_or kept y 0) else nothing) (and-false (nat_lt x (length kept)))

pub first-far : (scope : Scope) (gpos kept : List ℕ) (lookup x y : ℕ) → length kept ≤ x → new_pair scope gpos kept lookup x y ≡ nothing
first-far scope gpos kept lookup x y far =
    ap (λ (t : Bool). if t && nat_lt y (length kept) then pair_by scope gpos lookup (get_or kept x 0) (get_or kept y 0) else nothing) (le-ltb x (length kept) far)

pub forms-more : (scope : Scope) (gpos kept : List ℕ) (lookup x : ℕ) (es : List Entry) (old new : Forms) → x < length kept → length kept < 65536 →
    AreEntries (λ y. pair_by scope gpos lookup (get_or kept x 0) (get_or kept y 0)) (length kept) es → AddsForms x es old new →
    AreForms (new_pair scope gpos kept lookup) x old → AreForms (new_pair scope gpos kept lookup) (x + 1) new
forms-more scope gpos kept lookup x es old new less few entries adds are = record {
  each = room-each f Both old.both adds.both.sets adds.subtables2 new.subtables adds.both.room are.both.are
      (room-each f First old.first adds.first.sets adds.subtables1 adds.subtables2 adds.first.room are.first.are
      (room-each f Advance old.advance adds.advance.sets old.subtables adds.subtables1 adds.advance.room are.advance.are are.each));
  advance = room-other f Both Advance (x + 1) old.both adds.both.sets new.advance adds.subtables2 new.subtables adds.both.room
      (room-other f First Advance (x + 1) old.first adds.first.sets new.advance adds.subtables1 adds.subtables2 adds.first.room
      (added Advance old.advance new.advance old.subtables adds.subtables1 adds.advance are.advance));
  first = room-other f Both First (x + 1) old.both adds.both.sets new.first adds.subtables2 new.subtables adds.both.room
      (added First old.first new.first adds.subtables1 adds.subtables2 adds.first
      (room-other f Advance First x old.advance adds.advance.sets old.first old.subtables adds.subtables1 adds.advance.room are.first));
  both = added Both old.both new.both adds.subtables2 new.subtables adds.both
      (room-other f First Both x old.first adds.first.sets old.both adds.subtables1 adds.subtables2 adds.first.room
      (room-other f Advance Both x old.advance adds.advance.sets old.both old.subtables adds.subtables1 adds.advance.room are.both));
}
  where
    f : ℕ → ℕ → Adjustment
    f = new_pair scope gpos kept lookup

    right : AreEntries (f x) (length kept) es
    right = entries-as (λ y. pair_by scope gpos lookup (get_or kept x 0) (get_or kept y 0)) (f x) (length kept) es
        (λ y within. pair-kept scope gpos kept lookup x y less within) entries

    added : (form : Form) (oldsets newsets : Sets) (before after : Subtables) → AddsForm form x es oldsets newsets before after →
        IsForm form f x oldsets before.offsets.items before.bytes.items → IsForm form f (x + 1) newsets after.offsets.items after.bytes.items
    added form oldsets newsets before after add s = form-more form f (length kept) x es right few (pair-far scope gpos kept lookup x) add.sets newsets
        after.offsets.items after.bytes.items add.adds (room-form f form x oldsets add.sets before after add.room s)
