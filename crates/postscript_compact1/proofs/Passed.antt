-- What is passed over is what is read, and nothing of it is kept.
use Rattle.std.proofs.Common.{◌≡◌, ◌≢◌, refl, sym, ℕ, suc, ◌+◌, ◌-◌, ◌*◌, ◌≤◌, ◌<◌, Bool, true, false, ◌==◌, nat_lt, if◌then◌else◌, slice_index_or, ◌∙◌, ap, None, List, [], ◌∷◌, length, Result, Ok, Err, arith}
use Rattle.std.specs.Prelude.{IfErr, OnOk}
use Rattle.std.proofs.lemmas.Bool.Decides.{nat_tests}
use Rattle.postscript_base.specs.Compact1.Dictionary.{Dictionary}
use Rattle.postscript_base.specs.Compact1.DictionaryLaw.{ReadsDictionaries}
use Rattle.postscript_base.specs.Compact1.Header.{header}
use Rattle.postscript_base.specs.Compact1.Offset.{rising, behind}
use Rattle.postscript_base.specs.Numbers.{number, slice}
use Rattle.postscript_base.specs.Tape.At.{at, NeedsBytes}
use Rattle.postscript_base.specs.Tape.Loops.{chain, each}
use Rattle.postscript_base.specs.Tape.Outcome.{Outcome, Got, Fault, Past, after, end, pure, ◌>>=◌, Answers, RefusedAs}
use Rattle.postscript_base.specs.declared.compact1.operator.Operator.TheVariants as operators
use Rattle.postscript_base.specs.declared.error.Error.{Error}
use Rattle.postscript_base.specs.declared.error.Error.TheVariants.{Memory}
use Rattle.postscript_base.proofs.Onward.{needs_after, number_needs}
use Rattle.postscript_compact1.specs.Index.{Index, empty, filled, index, lengths, lengths_from, offsets}
use Rattle.postscript_compact1.specs.IndexAt.{OffsetsAt, RisesFrom, last_of}
use Rattle.postscript_compact1.specs.Computed.Order.{parts, font, lenient_font, font_by, behind as tables_behind}
use Rattle.postscript_compact1.specs.Computed.Parts.{encoding, glyphs, char_strings, char_set, locals, part}
use Rattle.postscript_compact1.specs.Private.Passed.{passed, size_of_items, filled_count, index_count, glyph_count, passed_part, passed_parts, passed_font}
use Rattle.postscript_compact1.specs.FontSet.Causes.{NoFontBy}
use Rattle.postscript_compact1.specs.FontSet.Font.{Part, Font, columns, font_of}
use Rattle.postscript_compact1.specs.FontSet.Layout.{IsFont, IsLenientFont}
use Rattle.postscript_compact1.specs.FontSet.Operands.{place_at, type_two}
use Rattle.postscript_compact1.specs.declared.char_set.CharSet.{CharSet}
use Rattle.postscript_compact1.specs.declared.encoding.Encoding.{Encoding}
use Rattle.postscript_compact1.specs.declared.font_set.manner.Manner.{Manner}
use Rattle.postscript_compact1.specs.declared.font_set.manner.Manner.TheVariants.{Strict, Lenient}
use Rattle.postscript_compact1.proofs.FontCauses.{no_font, refuses_layout}
use Rattle.postscript_compact1.proofs.FontLaws.{font_has, lenient_has}
use Rattle.postscript_compact1.proofs.IndexIs.{IsChain, is_chain}
use Rattle.postscript_compact1.proofs.Outcomes.{got}

pub count_needs : NeedsBytes index_count
unfolding index_count
count_needs = needs_after (number 2) (λ count. if count == 0 then pure 0 else filled_count count) (number_needs 2 (omega arith))

-- ---- how many bytes items are
last_at : (n d : ℕ) (os : List ℕ) → slice_index_or (n ∷ os) (length os) d ≡ last_of n os
last_at n d [] = refl
last_at n d (m ∷ os) = last_at m d os

pub size_is : (os : List ℕ) (last : ℕ) → 1 ≤ length os → last ≡ slice_index_or os (length os - 1) last → last ≡ last_of 0 os
size_is [] last some is = absurd (omega arith)
size_is (n ∷ os) last some is = let here : length (n ∷ os) - 1 ≡ length os = omega arith in rw here at is ∙ last_at n last os

-- ---- a value of which something is told
abbrev told : {A B : Type 0} → (A → B) → Outcome A → Outcome B
told tell o = after o (λ value next. Got (tell value) next)

told_after : {A B C : Type 0} (tell : B → C) (o : Outcome A) (g : A → ℕ → Outcome C) (f : A → ℕ → Outcome B) →
    ((value : A) (next : ℕ) → g value next ≡ told tell (f value next)) → after o g ≡ told tell (after o f)
told_after tell (Got value next) g f each = each value next
told_after tell (Fault refusal) g f each = refl
told_after tell Past g f each = refl

-- nothing is told of it
abbrev passes : {A : Type 0} → Outcome A → Outcome (Unit {0})
passes o = after o (λ _ next. Got tt next)

told_told : {A B : Type 0} (tell : A → B) (o : Outcome A) → passes (told tell o) ≡ passes o
told_told tell (Got value next) = refl
told_told tell (Fault refusal) = refl
told_told tell Past = refl

-- ---- items
last_is_most : (low : ℕ) (os : List ℕ) → RisesFrom low os → low ≤ last_of low os
last_is_most low [] up = omega arith
last_is_most low (high ∷ os) up = let more = up.0 in let later = last_is_most high os up.1 in omega arith

longer : (item : List ℕ) (o : Outcome (List (List ℕ))) →
    told length (after o (λ items next. Got (item ∷ items) next)) ≡ told suc (told length o)
longer item (Got items next) = refl
longer item (Fault refusal) = refl
longer item Past = refl

-- as many values, and the place behind them, or an end
abbrev to : Bool → ℕ → ℕ → Outcome ℕ
to cut n place = if cut then end else Got n place

one_more : (cut : Bool) (n place : ℕ) → told suc (to cut n place) ≡ to cut (suc n) place
one_more true n place = refl
one_more false n place = refl

-- items one behind the other are there where their last byte is
items_pass : (low : ℕ) (os bytes : List ℕ) (place : ℕ) → RisesFrom low os → place ≤ length bytes
    → told length (each slice (lengths_from low os) bytes place) ≡ to (nat_lt (length bytes) (place + (last_of low os - low))) (length os)
    (place + (last_of low os - low))
unfolding each slice
items_pass low [] bytes place up within = grind (arith, nat_tests)
items_pass low (high ∷ os) bytes place up within =
    by (nat_lt (length bytes - place) (high - low)) refl (items_pass high os bytes (place + (high - low)) up.1)
  where
    more : low < high
    more = up.0

    most : high ≤ last_of high os
    most = last_is_most high os up.1

    by : (b : Bool) → nat_lt (length bytes - place) (high - low) ≡ b
        → (place + (high - low) ≤ length bytes → told length (each slice (lengths_from high os) bytes (place + (high - low))) ≡ to
        (nat_lt (length bytes) (place + (high - low) + (last_of high os - high))) (length os)
        (place + (high - low) + (last_of high os - high)))
        → told length (each slice (lengths_from low (high ∷ os)) bytes place) ≡ to
        (nat_lt (length bytes) (place + (last_of high os - low))) (suc (length os)) (place + (last_of high os - low))
    by true e later =
        let cut : nat_lt (length bytes) (place + (last_of high os - low)) ≡ true = grind (arith, nat_tests, more, most) in rw (e, cut) refl
    by false e later =
        let sum : place + (high - low) + (last_of high os - high) ≡ place + (last_of high os - low) = omega (arith, more, most) in
        let there : place + (high - low) ≤ length bytes = grind (arith, nat_tests) in
        let rest = rw sum at (later there) in
        rw e (longer _ _ ∙ (ap (told suc) rest ∙ one_more _ _ _))

-- ---- an INDEX
offsets_within : (size : ℕ) (bytes : List ℕ) (place n : ℕ) (os : List ℕ) → OffsetsAt bytes place size (n ∷ os) →
    place + (length os + 1) * size ≤ length bytes
offsets_within size bytes place n [] h = let here = h.0.0 in omega arith
offsets_within size bytes place n (m ∷ os) h = let later = offsets_within size bytes (place + size) m os h.1 in omega arith

module _ (bytes : List ℕ) (count : ℕ) where
  abbrev made : ℕ → List ℕ → List (List ℕ) → Index
  made size os items = record { count = count; offset_size = size; offsets = os; items = items }

  told_items : (size : ℕ) (os : List ℕ) (o : Outcome (List (List ℕ))) → told length o ≡ told (λ (i : Index). length i.items)
      (after o (λ items next. Got (made size os items) next))
  told_items size os (Got items next) = refl
  told_items size os (Fault refusal) = refl
  told_items size os Past = refl

  as_many : (cut : Bool) (place : ℕ) → after (if cut then end else Got (tt {0}) place) (λ _ next. Got count next) ≡ to cut count place
  as_many true place = refl
  as_many false place = refl

  items_counted : (size : ℕ) (os : List ℕ) (mid begin : ℕ) → IsChain (count + 1) size None bytes mid (Got os begin)
      → after (passed (size_of_items os) bytes begin) (λ _ next. Got count next) ≡ told (λ (i : Index). length i.items)
      (after (each slice (lengths os) bytes begin) (λ items next. Got (made size os items) next))
  unfolding passed
  items_counted size [] mid begin h = let none = h.0 in absurd (omega arith)
  items_counted size (first ∷ rest) mid begin h =
      let many : length rest ≡ count = let all = h.0 in omega arith in
      let last_place = h.3 in
      let stand = offsets_within size bytes mid first rest h.1 in
      let there : begin ≤ length bytes = rw (many, sym last_place) at stand in
      let size_is : last_of first rest - first ≡ last_of first rest - 1 = ap (λ k. last_of first rest - k) h.2.0 in
      let all = rw (many, size_is) at (items_pass first rest bytes begin h.2.1 there) in
      as_many _ _ ∙ (sym all ∙ told_items size (first ∷ rest) _)

  filled_counted : (place : ℕ) → filled_count count bytes place ≡ told (λ (i : Index). length i.items) (filled count bytes place)
  unfolding filled_count filled offsets
  filled_counted place =
      told_after _ (number 1 bytes place) _ _
      (λ size mid. by size mid (chain rising behind (size, None) (count + 1) bytes mid) (is_chain (count + 1) size None bytes mid))
    where
      by : (size mid : ℕ) (o : Outcome (List ℕ)) → IsChain (count + 1) size None bytes mid o
          → after o (λ os begin. after (passed (size_of_items os) bytes begin) (λ _ next. Got count next)) ≡ told
          (λ (i : Index). length i.items)
          (after o (λ os begin. after (each slice (lengths os) bytes begin) (λ items next. Got (made size os items) next)))
      by size mid (Got os begin) h = items_counted size os mid begin h
      by size mid (Fault refusal) h = refl
      by size mid Past h = refl

index_counted : (bytes : List ℕ) (place : ℕ) → index_count bytes place ≡ told (λ (i : Index). length i.items) (index bytes place)
unfolding index_count index
index_counted bytes place = told_after _ (number 2 bytes place) _ _ (λ count next. by count next (count == 0))
  where
    by : (count next : ℕ) (b : Bool) → (if b then pure 0 else filled_count count) bytes next ≡ told (λ (i : Index). length i.items)
        ((if b then pure empty else filled count) bytes next)
    by count next true = refl
    by count next false = filled_counted bytes count next

-- ---- the parts of a font
glyphs_counted : (start : ℕ) (m : Dictionary) (bytes : List ℕ) (place : ℕ) →
    glyph_count start m bytes place ≡ told (λ (i : Index). length i.items) (char_strings start m bytes place)
unfolding glyph_count char_strings at
glyphs_counted start m bytes place =
    told_after _ (place_at start 0 m operators.CharStrings bytes place) _ _
    (λ there next. told_after _ (type_two m bytes next) _ _ (λ _ from. by there (nat_lt (length bytes) there)))
  where
    by : (there : ℕ) (b : Bool) → (if b then Past else index_count bytes there) ≡ told (λ (i : Index). length i.items)
        (if b then Past else index bytes there)
    by there true = refl
    by there false = index_counted bytes there

abbrev the_part : Encoding → Index × CharSet → Dictionary × Index → Part
the_part e g l = record { encoding = e; char_strings = g.0; char_set = g.1; local_dictionary = l.0; local_subroutines = l.1 }

part_passes : (manner : Manner) (start : ℕ) (m : Dictionary) (bytes : List ℕ) (place : ℕ) →
    passed_part manner start m bytes place ≡ passes (part manner start m bytes place)
unfolding passed_part part glyphs
part_passes manner start m bytes place =
    told_after _ (encoding m bytes place) _ _ (λ e at. rw (glyphs_counted start m bytes at) (by e (char_strings start m bytes at)))
  where
    left : (e : Encoding) (i : Index) (o : Outcome CharSet)
        → after o (λ _ from. after (locals manner start m bytes from) (λ _ next. Got tt next)) ≡ passes
        (after {A = Index × CharSet} (after o (λ s next. Got (i, s) next))
        (λ g from. after (locals manner start m bytes from) (λ l next. Got (the_part e g l) next)))
    left e i (Got s from) = sym (told_told (λ l. the_part e (i, s) l) (locals manner start m bytes from))
    left e i (Fault refusal) = refl
    left e i Past = refl

    by : (e : Encoding) (o : Outcome Index)
        → after (told (λ (i : Index). length i.items) o)
        (λ glyphs from. after (char_set start glyphs m bytes from)
        (λ _ from. after (locals manner start m bytes from) (λ _ next. Got tt next)))
        ≡ passes (after {A = Index × CharSet}
        (after o (λ i from. after (char_set start (length i.items) m bytes from) (λ s next. Got (i, s) next)))
        (λ g from. after (locals manner start m bytes from) (λ l next. Got (the_part e g l) next)))
    by e (Got i from) = left e i (char_set start (length i.items) m bytes from)
    by e (Fault refusal) = refl
    by e Past = refl

each_passes : (manner : Manner) (start : ℕ) (ms : List Dictionary) (bytes : List ℕ) (place : ℕ) →
    passes (each (passed_part manner start) ms bytes place) ≡ passes (each (part manner start) ms bytes place)
unfolding each
each_passes manner start [] bytes place = refl
each_passes manner start (m ∷ ms) bytes place =
    rw (part_passes manner start m bytes place) (by (part manner start m bytes place) (each_passes manner start ms bytes))
  where
    by : (o : Outcome Part) →
        ((from : ℕ) → passes (each (passed_part manner start) ms bytes from) ≡ passes (each (part manner start) ms bytes from))
        → passes (after (passes o)
        (λ v from. after (each (passed_part manner start) ms bytes from) (λ vs next. Got (v ∷ vs) next))) ≡ passes
        (after o (λ p from. after (each (part manner start) ms bytes from) (λ ps next. Got (p ∷ ps) next)))
    by (Got p from) later = told_told (λ vs. tt ∷ vs) _ ∙ (later from ∙ sym (told_told (λ ps. p ∷ ps) _))
    by (Fault refusal) later = refl
    by Past later = refl

-- a font that is passed over is one that is read
pub font_passes : (manner : Manner) (bytes : List ℕ) (place : ℕ) →
    passed_font manner bytes place ≡ (font_by manner >>= λ _. pure tt) bytes place
unfolding passed_font passed_parts font_by parts
font_passes manner bytes place = told_after _ (header bytes place) _ _ (λ h at. told_after _ (tables_behind place h bytes at) _ _ (λ t from.
    each_passes manner place t.dictionaries bytes from ∙ (sym (told_told columns _) ∙ sym (told_told (λ c. font_of h t c) _))))

-- ---- the clauses
kept : {A : Type 0} (o : Outcome A) (next : ℕ) → passes o ≡ Got tt next → (value : A) × (o ≡ Got value next)
kept (Got value at) next e = (value, ap (λ k. Got value k) (got _ _ _ _ e).1)
kept (Fault refusal) next e = absurd (cc)
kept Past next e = absurd (cc)

refused : {A : Type 0} (e : Error) (o : Outcome A) → RefusedAs e (passes o) → RefusedAs e o
refused e (Got value next) h = h
refused e (Fault refusal) h = h
refused e Past h = h

abbrev Tells : Manner → Result Unit Error → List ℕ → ℕ → ℕ → Type 0
Tells manner r bytes start next = Answers (λ _. tt) r next (passed_font manner bytes start)

pub found : ReadsDictionaries → (r : Result Unit Error) (bytes : List ℕ) (start next : ℕ) → Tells Strict r bytes start next →
    OnOk r ((f : Font) × IsFont bytes start f next)
found d (Ok u) bytes start next h =
    let f = kept (font bytes start) next (rw (font_passes Strict bytes start) at h) in (f.0, font_has d bytes start f.0 next f.1)
found d (Err e) bytes start next h = tt

pub found_leniently : ReadsDictionaries → (r : Result Unit Error) (bytes : List ℕ) (start next : ℕ) → Tells Lenient r bytes start next →
    OnOk r ((f : Font) × IsLenientFont bytes start f)
found_leniently d (Ok u) bytes start next h =
    let f = kept (lenient_font bytes start) next (rw (font_passes Lenient bytes start) at h) in
    (f.0, lenient_has d bytes start f.0 next f.1)
found_leniently d (Err e) bytes start next h = tt

pub why : (manner : Manner) → ReadsDictionaries → (r : Result Unit Error) (bytes : List ℕ) (start next : ℕ) →
    Tells manner r bytes start next → IfErr r (λ e. e ≢ Memory → NoFontBy manner e bytes start)
why manner d (Ok u) bytes start next h = tt
why manner d (Err e) bytes start next h =
    λ other. no_font d manner e bytes start (refused e (font_by manner bytes start) (rw (font_passes manner bytes start) at (h other)))

pub only : ReadsDictionaries → (r : Result Unit Error) (bytes : List ℕ) (start next : ℕ) → Tells Strict r bytes start next →
    IfErr r (λ e. e ≢ Memory → (f : Font) (end : ℕ) → IsFont bytes start f end → ⊥)
only d (Ok u) bytes start next h = tt
only d (Err e) bytes start next h =
    λ other f end stands. (refuses_layout d).no_font e bytes start f end (why Strict d (Err e) bytes start next h other) stands

pub only_leniently : ReadsDictionaries → (r : Result Unit Error) (bytes : List ℕ) (start next : ℕ) → Tells Lenient r bytes start next →
    IfErr r (λ e. e ≢ Memory → (f : Font) → IsLenientFont bytes start f → ⊥)
only_leniently d (Ok u) bytes start next h = tt
only_leniently d (Err e) bytes start next h =
    λ other f stands. (refuses_layout d).no_lenient_font e bytes start f (why Lenient d (Err e) bytes start next h other) stands
