-- Contexts that are collected: coverage tables, subtables and lookups.
use Rattle.std.proofs.Common.{◌≡◌, refl, sym, ap, subst, ◌∙◌, inl, inr, ℕ, ◌+◌, ◌*◌, ◌≤◌, ◌<◌, ◌&&◌, List, [], ◌∷◌, ◌++◌, length, length-append, get_or, append-nil, arith, Bool, true, false}
use Rattle.std.specs.List.{All}
use Rattle.std.specs.Prelude.{Option, if◌then◌else◌}
use Rattle.std.proofs.lemmas.List.{append_assoc, get_or_append_left, get_or_push}
use Rattle.std.proofs.lemmas.List.FromFn.{map-range_with_len_more}
use Rattle.postscript_layout.specs.Numbers.{word}
use Rattle.postscript_layout_write.specs.Contexts.{sets_at}
use Rattle.postscript_layout_write.specs.Sequences.{Context, all_some, can_apply, covered_of, if_applies, is_some_glyph}
use Rattle.postscript_layout_write.specs.Coverages.{AddsChained, AddsContexts, AddsSets, Fits, FitsReverse, HasChained, HasContext, HasCoverage, HasEither, HasReverse, HaveContexts, HaveCoverages, IsMade, IsPart, PutsChained, PutsContext, PutsReverse, base_of, chained_text, context_text, no_context, reverse_base, reverse_text}
use Rattle.postscript_layout_write.specs.Holds.{Holds}
use Rattle.postscript_layout_write.specs.Labels.{having_at}
use Rattle.postscript_layout_write.specs.RuleSets.{Begins}
use Rattle.postscript_layout_write.specs.First.{all_below}
use Rattle.postscript_layout_write.specs.Scopes.{mark_set_text}
use Rattle.postscript_layout_write.specs.declared.contexts.Contexts.{Contexts}
use Rattle.postscript_layout_write.specs.declared.contexts.Made.{Made}
use Rattle.postscript_layout_write.specs.declared.contexts.Part.{Part}
use Rattle.postscript_layout_write.proofs.Firsts.{nat_cases}
use Rattle.postscript_layout_write.proofs.Holding.{holds-in, holds-last, holds-on}
use Rattle.postscript_layout_write.proofs.Reading.{any-default}
use Rattle.postscript_layout_write.proofs.RuleRows.{below-more}

pub begins-trans : (a b c : List ℕ) → Begins a b → Begins b c → Begins a c
begins-trans a b c p q = record {
  more = p.more ++ q.more;
  is = q.is ∙ ap (λ xs. xs ++ q.more) p.is ∙ append_assoc a p.more q.more;
}

pub begins-same : (old : List ℕ) → Begins old old
begins-same old = record { more = []; is = sym (append-nil old) }

pub holds-begins : {text old new : List ℕ} {offset : ℕ} → Begins old new → Holds text old offset → Holds text new offset
holds-begins {text = text} {offset = offset} b h = subst (λ (xs : List ℕ). Holds text xs offset) (sym b.is) (holds-on b.more h)

-- coverage tables with more bytes after them
coverage-on : (set bytes new : List ℕ) (offset : ℕ) → Begins bytes new → HasCoverage set bytes offset → HasCoverage set new offset
coverage-on set bytes new offset b h = subst (λ (xs : List ℕ). HasCoverage set xs offset) (sym b.is) (record {
  few = h.few;
  small = h.small;
  there = holds-on b.more h.there;
})

pub coverages-on : (sets : List (List ℕ)) (offsets bytes new : List ℕ) → Begins bytes new → HaveCoverages sets offsets bytes → HaveCoverages sets offsets new
coverages-on sets offsets bytes new b h = record {
  same = h.same;
  each = λ k less. coverage-on (get_or sets k []) bytes new (get_or offsets k 0) b (h.each k less);
}

last-index : {X : Type 0} (xs : List X) (x : X) (k : ℕ) → k < length (xs ++ x ∷ []) → length xs ≤ k → length xs ≡ k
last-index xs x k less late = omega (arith, less, late, length-append xs (x ∷ []))

pub coverages-more : (sets : List (List ℕ)) (set offsets bytes new : List ℕ) (offset : ℕ) → HaveCoverages sets offsets bytes → Begins bytes new →
    HasCoverage set new offset → HaveCoverages (sets ++ set ∷ []) (offsets ++ offset ∷ []) new
coverages-more sets set offsets bytes new offset h b one = record {
  same = (let same = h.same in omega (arith, same, length-append sets (set ∷ []), length-append offsets (offset ∷ [])));
  each = λ k less. elim (nat_cases k (length sets)) [
    | inl early ↦ subst (λ (xs : List ℕ). HasCoverage xs new (get_or (offsets ++ offset ∷ []) k 0)) (sym (get_or_append_left sets (set ∷ []) [] k early))
        (subst (λ n. HasCoverage (get_or sets k []) new n) (sym (get_or_append_left offsets (offset ∷ []) 0 k (let same = h.same in omega (arith, same, early))))
        (coverage-on (get_or sets k []) bytes new (get_or offsets k 0) b (h.each k early)))
    | inr late ↦ (let last = last-index sets set k less late in
        subst (λ (xs : List ℕ). HasCoverage xs new (get_or (offsets ++ offset ∷ []) k 0)) (sym (get_or_push sets set [] k last))
        (subst (λ n. HasCoverage set new n) (sym (get_or_push offsets offset 0 k (let same = h.same in omega (arith, same, last)))) one))
  ];
}

pub coverages-none : (offsets bytes : List ℕ) → offsets ≡ [] → HaveCoverages [] offsets bytes
coverages-none offsets bytes empty = record {
  same = ap length empty;
  each = λ k less. absurd (omega (arith, less));
}

-- one set more
pub all-some-more : (sets : List (List ℕ)) (set : List ℕ) → all_some (sets ++ set ∷ []) ≡ (all_some sets && is_some_glyph set)
all-some-more [] set = by (is_some_glyph set)
  where
    by : (b : Bool) → (b && true) ≡ (true && b)
    by true = refl
    by false = refl
all-some-more (s ∷ sets) set = ap (λ b. is_some_glyph s && b) (all-some-more sets set) ∙ by (is_some_glyph s) (all_some sets) (is_some_glyph set)
  where
    by : (a b c : Bool) → (a && (b && c)) ≡ ((a && b) && c)
    by true b c = refl
    by false b c = refl

pub sets-more : (gsub kept : List ℕ) (subtable array p : ℕ) →
    sets_at gsub kept subtable array (p + 1) ≡ sets_at gsub kept subtable array p ++ covered_of gsub kept (subtable + word gsub (array + p * 2)) ∷ []
sets-more gsub kept subtable array p = map-range_with_len_more (λ q. covered_of gsub kept (subtable + word gsub (array + q * 2))) 0 p p (omega arith)

-- parts
pub part-none : (part : Part) (tables : List ℕ) → part.offsets.items ≡ [] → part.all_some ≡ true → IsPart [] part tables
part-none part tables empty some = record { have = coverages-none part.offsets.items tables empty; some = some }

pub adds-none : (part : Part) (tables : List ℕ) → AddsSets [] part tables part tables
adds-none part tables = record {
  have = λ sets is. subst (λ (xs : List (List ℕ)). IsPart xs part tables) (sym (append-nil sets)) is;
  more = begins-same tables;
}

pub adds-both : (a b : List (List ℕ)) (x y z : Part) (s t u : List ℕ) → AddsSets a x s y t → AddsSets b y t z u → AddsSets (a ++ b) x s z u
adds-both a b x y z s t u p q = record {
  have = λ sets is. subst (λ (xs : List (List ℕ)). IsPart xs z u) (append_assoc sets a b) (q.have (sets ++ a) (p.have sets is));
  more = begins-trans s t u p.more q.more;
}

pub adds-set : (set : List ℕ) (old new : Part) (tables newtables : List ℕ) (offset : ℕ) → Begins tables newtables → HasCoverage set newtables offset →
    new.offsets.items ≡ old.offsets.items ++ offset ∷ [] → new.all_some ≡ (old.all_some && is_some_glyph set) →
    AddsSets (set ∷ []) old tables new newtables
adds-set set old new tables newtables offset more has pushed some = record {
  have = λ sets is. record {
    have = subst (λ (xs : List ℕ). HaveCoverages (sets ++ set ∷ []) xs newtables) (sym pushed)
        (coverages-more sets set old.offsets.items tables newtables offset is.have more has);
    some = some ∙ ap (λ (b : Bool). b && is_some_glyph set) is.some ∙ sym (all-some-more sets set);
  };
  more = more;
}

pub labelled-as : (gsub : List ℕ) (labels others : List (Option ℕ)) (array count : ℕ) (old new : Part) (tables newtables : List ℕ) → labels ≡ others →
    AddsSets (having_at gsub labels array count) old tables new newtables → AddsSets (having_at gsub others array count) old tables new newtables
labelled-as gsub labels others array count old new tables newtables same adds =
    subst (λ (xs : List (Option ℕ)). AddsSets (having_at gsub xs array count) old tables new newtables) same adds

-- a part to which sets were added, with more tables after them
pub part-of : (added : List (List ℕ)) (old new : Part) (tables newtables final : List ℕ) → old.offsets.items ≡ [] → old.all_some ≡ true →
    AddsSets added old tables new newtables → Begins newtables final → IsPart added new final
part-of added old new tables newtables final empty some adds begins =
    let is : IsPart added new newtables = adds.have [] (part-none old tables empty some) in
    record { have = coverages-on added new.offsets.items newtables final begins is.have; some = is.some }

-- contexts that can apply
pub applies-same : (context : Context) (made : Made) → IsMade context made →
    ((made.before.all_some && made.input.all_some) && made.after.all_some) ≡ can_apply context
applies-same context made is =
    ap (λ (b : Bool). (b && made.input.all_some) && made.after.all_some) is.before.some
    ∙ ap (λ (b : Bool). (all_some context.before && b) && made.after.all_some) is.input.some
    ∙ ap (λ (b : Bool). (all_some context.before && all_some context.input) && b) is.after.some

module _ {reverse : Bool} where
  pub adds-nothing : (old : Contexts) → AddsContexts reverse [] old old
  adds-nothing old = record {
    have = λ contexts has. subst (λ (xs : List Context). HaveContexts reverse xs old.offsets.items old.bytes.items) (sym (append-nil contexts)) has;
    more = begins-same old.bytes.items;
  }

  pub adds-not : (context : Context) (old : Contexts) → can_apply context ≡ false → AddsContexts reverse (if_applies context) old old
  adds-not context old never = subst (λ (b : Bool). AddsContexts reverse (if b then context ∷ [] else []) old old) (sym never) (adds-nothing old)

  pub adds-if : (context : Context) (old new : Contexts) → can_apply context ≡ true → AddsContexts reverse (context ∷ []) old new → AddsContexts reverse (if_applies context) old new
  adds-if context old new applies adds = subst (λ (b : Bool). AddsContexts reverse (if b then context ∷ [] else []) old new) (sym applies) adds

  pub adds-then : (a b : List Context) (x y z : Contexts) → AddsContexts reverse a x y → AddsContexts reverse b y z → AddsContexts reverse (a ++ b) x z
  adds-then a b x y z p q = record {
    have = λ contexts has. subst (λ (xs : List Context). HaveContexts reverse xs z.offsets.items z.bytes.items) (append_assoc contexts a b)
        (q.have (contexts ++ a) (p.have contexts has));
    more = begins-trans x.bytes.items y.bytes.items z.bytes.items p.more q.more;
  }

  -- the contexts of one part more
  pub adds-below : (f : ℕ → List Context) (k : ℕ) (x y z : Contexts) → AddsContexts reverse (all_below f k) x y → AddsContexts reverse (f k) y z → AddsContexts reverse (all_below f (k + 1)) x z
  adds-below f k x y z p q = subst (λ (xs : List Context). AddsContexts reverse xs x z) (sym (below-more f k)) (adds-then (all_below f k) (f k) x y z p q)

-- contexts
pub context-on : (context : Context) (bytes more : List ℕ) (offset : ℕ) → HasContext context bytes offset → HasContext context (bytes ++ more) offset
context-on context bytes more offset h = record {
  before = h.before;
  input = h.input;
  after = h.after;
  count = h.count;
  tables = h.tables;
  has_before = h.has_before;
  has_input = h.has_input;
  has_after = h.has_after;
  fits = h.fits;
  small = h.small;
  there = holds-on more h.there;
}

pub context-made : (context : Context) (made : Made) (count : ℕ) (old new : List ℕ) → IsMade context made →
    PutsContext made count old new → HasContext context new (length old)
context-made context made count old new is puts =
    let acts = is.actions in
    record {
      before = made.before.offsets.items;
      input = made.input.offsets.items;
      after = made.after.offsets.items;
      count = count;
      tables = made.tables.bytes.items;
      has_before = is.before.have;
      has_input = is.input.have;
      has_after = is.after.have;
      fits = subst (λ (xs : List ℕ). Fits made.before.offsets.items made.input.offsets.items made.after.offsets.items xs count) acts puts.fits;
      small = is.small;
      there = subst (λ (xs : List ℕ). Holds (context_text (base_of made.before.offsets.items made.input.offsets.items made.after.offsets.items xs)
          made.before.offsets.items made.input.offsets.items made.after.offsets.items count xs made.tables.bytes.items) new (length old)) acts
          (subst (λ (xs : List ℕ). Holds (context_text (base_of made.before.offsets.items made.input.offsets.items made.after.offsets.items made.actions.items)
          made.before.offsets.items made.input.offsets.items made.after.offsets.items count made.actions.items made.tables.bytes.items) xs (length old)) (sym puts.text)
          (holds-last old _));
    }

reverse-on : (context : Context) (bytes more : List ℕ) (offset : ℕ) → HasReverse context bytes offset → HasReverse context (bytes ++ more) offset
reverse-on context bytes more offset h = record {
  before = h.before;
  input = h.input;
  after = h.after;
  tables = h.tables;
  has_before = h.has_before;
  has_input = h.has_input;
  has_after = h.has_after;
  fits = h.fits;
  small = h.small;
  there = holds-on more h.there;
}

either-on : (reverse : Bool) (context : Context) (bytes more : List ℕ) (offset : ℕ) → HasEither reverse context bytes offset →
    HasEither reverse context (bytes ++ more) offset
either-on false context bytes more offset h = context-on context bytes more offset h
either-on true context bytes more offset h = reverse-on context bytes more offset h

pub reverse-made : (context : Context) (made : Made) (old new : List ℕ) → IsMade context made → PutsReverse made old new → HasReverse context new (length old)
reverse-made context made old new is puts =
    let acts = is.actions in
    let a = made.before.offsets.items in
    let b = made.input.offsets.items in
    let d = made.after.offsets.items in
    let tables = made.tables.bytes.items in
    record {
      before = a;
      input = b;
      after = d;
      tables = tables;
      has_before = is.before.have;
      has_input = is.input.have;
      has_after = is.after.have;
      fits = subst (λ (xs : List ℕ). FitsReverse a b d xs) acts puts.fits;
      small = is.small;
      there = subst (λ (xs : List ℕ). Holds (reverse_text (reverse_base a d xs) a b d xs tables) new (length old)) acts
          (subst (λ (xs : List ℕ). Holds (reverse_text (reverse_base a d made.actions.items) a b d made.actions.items tables) xs (length old)) (sym puts.text)
          (holds-last old _));
    }

module _ {reverse : Bool} where
  pub contexts-more : (contexts : List Context) (context : Context) (offsets bytes new : List ℕ) → HaveContexts reverse contexts offsets bytes → Begins bytes new →
      HasEither reverse context new (length bytes) → HaveContexts reverse (contexts ++ context ∷ []) (offsets ++ length bytes ∷ []) new
  contexts-more contexts context offsets bytes new h b one = record {
    same = (let same = h.same in omega (arith, same, length-append contexts (context ∷ []), length-append offsets (length bytes ∷ [])));
    each = λ k less. elim (nat_cases k (length contexts)) [
      | inl early ↦ subst (λ (c : Context). HasEither reverse c new (get_or (offsets ++ length bytes ∷ []) k 0)) (sym (get_or_append_left contexts (context ∷ []) no_context k early))
          (subst (λ n. HasEither reverse (get_or contexts k no_context) new n)
          (sym (get_or_append_left offsets (length bytes ∷ []) 0 k (let same = h.same in omega (arith, same, early))))
          (subst (λ (xs : List ℕ). HasEither reverse (get_or contexts k no_context) xs (get_or offsets k 0)) (sym b.is)
          (either-on reverse (get_or contexts k no_context) bytes b.more (get_or offsets k 0) (h.each k early))))
      | inr late ↦ (let last = last-index contexts context k less late in
          subst (λ (c : Context). HasEither reverse c new (get_or (offsets ++ length bytes ∷ []) k 0)) (sym (get_or_push contexts context no_context k last))
          (subst (λ n. HasEither reverse context new n) (sym (get_or_push offsets (length bytes) 0 k (let same = h.same in omega (arith, same, last)))) one))
    ];
  }

  pub contexts-none : (offsets bytes : List ℕ) → offsets ≡ [] → HaveContexts reverse [] offsets bytes
  contexts-none offsets bytes empty = record {
    same = ap length empty;
    each = λ k less. absurd (omega (arith, less));
  }

pub puts-begins : (made : Made) (count : ℕ) (old new : List ℕ) → PutsContext made count old new → Begins old new
puts-begins made count old new puts = record { more = _; is = puts.text }

-- numbers of two bytes
pub all-fit : (xs : List ℕ) → ((k : ℕ) → get_or xs k 0 < 65536) → All (λ n. n < 65536) xs
all-fit xs fits k d less = subst (λ n. n < 65536) (any-default xs k 0 d less) (fits k)

pub reverse-begins : (made : Made) (old new : List ℕ) → PutsReverse made old new → Begins old new
reverse-begins made old new puts = record { more = _; is = puts.text }

module _ {reverse : Bool} where
  -- a lookup of contexts with more bytes after it, in other bytes, and as it is appended
  pub chained-on : (type flag set : ℕ) (contexts : List Context) (bytes more : List ℕ) (at : ℕ) → HasChained reverse type flag set contexts bytes at →
      HasChained reverse type flag set contexts (bytes ++ more) at
  chained-on type flag set contexts bytes more at h = record {
    offsets = h.offsets;
    subtables = h.subtables;
    have = h.have;
    few = h.few;
    fit = h.fit;
    small = h.small;
    set_small = h.set_small;
    begins = h.begins;
    type_small = h.type_small;
    there = holds-on more h.there;
  }

  pub chained-in : (type flag set : ℕ) (contexts : List Context) (t bytes : List ℕ) (at offset : ℕ) → Holds bytes t at →
      HasChained reverse type flag set contexts bytes offset → HasChained reverse type flag set contexts t (at + offset)
  chained-in type flag set contexts t bytes at offset held h = record {
    offsets = h.offsets;
    subtables = h.subtables;
    have = h.have;
    few = h.few;
    fit = h.fit;
    small = h.small;
    set_small = h.set_small;
    begins = h.begins;
    type_small = h.type_small;
    there = holds-in held h.there;
  }

  pub chained-added : (type flag set : ℕ) (contexts : List Context) (offsets subtables old new : List ℕ) → type < 65536 → set < 65536 →
      HaveContexts reverse contexts offsets subtables → Holds (mark_set_text flag set) subtables 0 → PutsChained type flag offsets subtables old new →
      AddsChained reverse type flag set contexts old new
  chained-added type flag set contexts offsets subtables old new type-small set-small have begins puts = record {
    more = chained_text type flag offsets subtables;
    bytes = puts.text;
    has = record {
      offsets = offsets;
      subtables = subtables;
      have = have;
      few = puts.few;
      fit = puts.fit;
      small = puts.small;
      set_small = set-small;
      begins = begins;
      type_small = type-small;
      there = subst (λ (xs : List ℕ). Holds (chained_text type flag offsets subtables) xs (length old)) (sym puts.text)
          (holds-last old (chained_text type flag offsets subtables));
    };
  }
