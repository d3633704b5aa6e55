-- Operations but those of some operators.
use Rattle.std.proofs.Common.{◌≡◌, ◌≢◌, ◌⊎◌, refl, map, sym, ap, subst, ◌∙◌, inl, inr, ℕ, ◌+◌, ◌-◌, ◌≤◌, ◌<◌, ◌^◌, zero, suc, get_or, false, List, [], ◌∷◌, ◌++◌, length, take, drop, length-append, length-take, length-take-le, length-drop, take_all, take-append-drop, arith, below_more}
use Rattle.std.specs.List.{Contains}
use Rattle.std.proofs.lemmas.List.{append-nil, append_assoc, get_or_default, map-append}
use Rattle.postscript_base.specs.Refusal.{Refusal}
use Rattle.postscript_base.specs.Tape.Loops.{is_end}
use Rattle.postscript_base.specs.Tape.Outcome.{Outcome, Got, Fault, Past, RefusedAs}
use Rattle.postscript_base.specs.Compact1.Decimal.{Decimal}
use Rattle.postscript_base.specs.Compact1.Dictionary.{Dictionary}
use Rattle.postscript_base.specs.Compact1.DictionaryLaw.{IsDictionary, IsRefused, OperationsAt, UnfinishedAt}
use Rattle.postscript_base.specs.Compact1.OperationLaw.{OperationAt}
use Rattle.postscript_base.specs.Compact1.Operation.{Operation, operation}
use Rattle.postscript_base.specs.declared.compact1.operator.Operator.{Operator}
use Rattle.postscript_base.specs.declared.error.Error.{Error}
use Rattle.postscript_base.specs.declared.error.Error.TheVariants.{UnexpectedEof}
use Rattle.postscript_base.proofs.Cuts.{bad_cut}
use Rattle.postscript_base.proofs.DictionaryIs.{reads_dictionaries}
use Rattle.postscript_base.proofs.Onward.{Goes}
use Rattle.postscript_base.proofs.OperationIs.{IsOperation, is_at, operation_is, reads}
use Rattle.postscript_base.proofs.OperationSteps.{operation_goes}
use Rattle.postscript_write.specs.Dictionaries.{AreHeld, IsHeld, IsWritable, numbers_of}
use Rattle.postscript_write.specs.DictionarySizes.{HasSize, places_size}
use Rattle.postscript_write.specs.LeftOut.{AreLeft, IsLeftOut, IsLeftText, IsToldFrom, IsWithout, operators_in}
use Rattle.postscript_write.specs.declared.dictionaries.Place.{Place}
use Rattle.postscript_write.specs.LeftOut.AreLeft.{none, kept, gone}
use Rattle.postscript_write.specs.LeftOut.IsLeftText.{ends, keeps, leaves}
use Rattle.postscript_write.proofs.Locality.{operation_local, operations_local}
use Rattle.postscript_write.proofs.Moving.{operation_back, operation_moved}
use Rattle.postscript_write.proofs.OperationsStand.{one_more}

pub contains_next : {X : Type 0} (x : X) (xs : List X) (y : X) → Contains xs y → Contains (x ∷ xs) y
contains_next x xs y has = let less = has.1 in (suc has.0, omega (arith, less), has.2)

pub contains_here : {X : Type 0} (x : X) (xs : List X) → Contains (x ∷ xs) x
contains_here x xs = (0, omega arith, refl)

pub contains_cases : {X : Type 0} (x : X) (xs : List X) (y : X) → Contains (x ∷ xs) y → (x ≡ y) ⊎ Contains xs y
contains_cases x xs y (zero, less, is) = inl is
contains_cases x xs y (suc k, less, is) = inr (k, omega (arith, less), is)

-- behind the operations stands no other one
abbrev pub Stops : List ℕ → ℕ → Type 0
Stops text end = (o : Operation) (next : ℕ) → operation text end ≡ Got o next → ⊥

pub same_got : (x y : Operation) (n m : ℕ) → Got x n ≡ Got y m → (x ≡ y) × (n ≡ m)
same_got x y n m e = (cc, cc)

-- one operation stands at a place
pub one_at : (text : List ℕ) (place : ℕ) (x y : Operation) (n m : ℕ) → OperationAt text place x n → OperationAt text place y m → (x ≡ y) × (n ≡ m)
one_at text place x y n m a b = same_got x y n m (sym (reads text place x n a) ∙ reads text place y m b)

-- operations begin those up to where none stands
pub told_among : (text : List ℕ) (place end stop : ℕ) (xs all : List Operation) (q : Operator) → OperationsAt text place xs end →
    OperationsAt text place all stop → Stops text stop → Contains (operators_in xs) q → Contains (operators_in all) q
told_among text place end stop [] all q are come stops has = let less = has.1 in absurd (omega (arith, less))
told_among text place end stop (x ∷ xs) [] q are come stops has =
    absurd (stops x are.0 (subst (λ p. operation text p ≡ Got x are.0) (sym come) (reads text place x are.0 are.1)))
told_among text place end stop (x ∷ xs) (y ∷ all) q are come stops has =
    let same = one_at text place x y are.0 come.0 are.1 come.1 in
    let rest : OperationsAt text come.0 xs end = subst (λ p. OperationsAt text p xs end) same.1 are.2 in
    elim (contains_cases x.0 (operators_in xs) q has) [
      | inl is ↦ subst (Contains (y.0 ∷ operators_in all)) (ap (λ (o : Operation). o.0) (sym same.0) ∙ is)
          (contains_here y.0 (operators_in all))
      | inr later ↦ contains_next y.0 (operators_in all) q
          (told_among text come.0 end stop xs all q rest come.2 stops later)
    ]

-- the operations up to a place, those that come, and those of the former that are left
pub record IsSoFar (text : List ℕ) (left_out told : List Operator) (place count : ℕ) (out : List ℕ) : Type 0 where
  pub all : List Operation
  pub coming : List Operation
  pub left : List Operation
  pub end : ℕ
  pub are : OperationsAt text 0 all place
  pub come : OperationsAt text place coming end
  pub stops : Stops text end
  pub later : drop count told ≡ operators_in coming
  pub among : (more : List Operation) → AreLeft left_out coming more → AreLeft left_out (all ++ coming) (left ++ more)
  pub stand : OperationsAt out 0 left (length out)

-- the text of an operation stands behind others
pub spelled_more : (text out : List ℕ) (place next : ℕ) (left : List Operation) (o : Operation) → place ≤ next → next ≤ length text →
    OperationAt text place o next → OperationsAt out 0 left (length out) →
    OperationsAt (out ++ take (next - place) (drop place text)) 0 (left ++ o ∷ []) (length (out ++ take (next - place) (drop place text)))
spelled_more text out place next left o up within at so_far =
    let front : List ℕ = take place text in
    let behind : List ℕ = drop place text in
    let count : ℕ = next - place in
    let spelled : List ℕ = take count behind in
    let at_front : length front ≡ place = length-take-le place text (omega (arith, up, within)) in
    let whole : front ++ behind ≡ text = take-append-drop place text in
    let long : length text ≡ length front + length behind = ap length (sym whole) ∙ length-append front behind in
    let many : length spelled ≡ count = length-take-le count behind (omega (arith, long, at_front, within, up)) in
    let there : OperationAt (front ++ behind) (length front + 0) o next = subst (λ bs. OperationAt bs (length front + 0) o next) (sym whole)
    (subst (λ p. OperationAt text p o next) (omega (arith, at_front)) at) in
    let alone = operation_back front behind 0 next o there in
    let size : alone.0 ≡ count = let e = alone.1 in omega (arith, e, at_front) in
    let split : OperationAt (spelled ++ drop count behind) 0 o count = subst (λ bs. OperationAt bs 0 o count)
    (sym (take-append-drop count behind)) (subst (λ n. OperationAt behind 0 o n) size alone.2) in
    let cut : OperationAt spelled 0 o count = subst (λ bs. OperationAt bs 0 o count) (append-nil spelled)
    (operation_local spelled (drop count behind) [] 0 count o split (omega (arith, many))).1 in
    let moved : OperationAt (out ++ spelled) (length out + 0) o (length out + count) = operation_moved out spelled 0 count o cut in
    let before : OperationsAt (out ++ spelled) 0 left
    (length out) = (operations_local out [] spelled 0 (length out) left
    (subst (λ bs. OperationsAt bs 0 left (length out)) (sym (append-nil out)) so_far) (omega arith)).1 in
    let end : length out + count ≡ length (out ++ spelled) = omega (arith, many, length-append out spelled) in
    one_more (out ++ spelled) 0 left (length out) o (length (out ++ spelled)) before
    (subst (λ n. OperationAt (out ++ spelled) (length out) o n) end
    (subst (λ p. OperationAt (out ++ spelled) p o (length out + count)) (omega arith) moved))

pub reached : (text : List ℕ) (place next : ℕ) (o : Operation) → operation text place ≡ Got o next → (place < next) × (next ≤ length text)
reached text place next o e =
    let goes = subst (Goes {A = Operation} (place + 1) (length text)) e (operation_goes text place) in let up = goes.0 in
    (omega (arith, up), goes.1)

-- what comes begins with the operation that is read
pub record Begins (text : List ℕ) (told : List Operator) (next count : ℕ) (o : Operation) (coming : List Operation) (end : ℕ) : Type 0 where
  pub rest : List Operation
  pub is : coming ≡ o ∷ rest
  pub come : OperationsAt text next rest end
  pub later : drop (count + 1) told ≡ operators_in rest
  pub there : count < length told

dropped : {X : Type 0} (xs : List X) (n : ℕ) (y : X) (ys : List X) → drop n xs ≡ y ∷ ys → (drop (suc n) xs ≡ ys) × (n < length xs)
dropped [] zero y ys e = absurd (cc)
dropped [] (suc n) y ys e = absurd (cc)
dropped (x ∷ xs) zero y ys e = (cc, omega arith)
dropped (x ∷ xs) (suc n) y ys e = let rest = dropped xs n y ys e in let less = rest.1 in (rest.0, omega (arith, less))

pub begins : (text : List ℕ) (told : List Operator) (place next count : ℕ) (o : Operation) (coming : List Operation) (end : ℕ) →
    operation text place ≡ Got o next → OperationsAt text place coming end → Stops text end → drop count told ≡ operators_in coming →
    Begins text told next count o coming end
begins text told place next count o [] end got come stops later =
    absurd (stops o next (subst (λ p. operation text p ≡ Got o next) (sym come) got))
begins text told place next count o (x ∷ coming) end got come stops later =
    let same = same_got x o come.0 next (sym (reads text place x come.0 come.1) ∙ got) in
    let on = dropped told count x.0 (operators_in coming) later in
    record {
      rest = coming;
      is = ap (λ (y : Operation). y ∷ coming) same.0;
      come = subst (λ p. OperationsAt text p coming end) same.1 come.2;
      later = let e : count + 1 ≡ suc count = omega arith in ap (λ n. drop n told) e ∙ on.0;
      there = on.1;
    }

-- whether it is told again
told_again : (text : List ℕ) (left_out : List Operator) (next end : ℕ) (q : Operator) (rest : List Operation) →
    OperationsAt text next rest end → Stops text end → (IsLeftOut left_out (operators_in rest) q → ⊥) →
    Contains left_out q ⊎ IsToldFrom text next q → ⊥
told_again text left_out next end q rest come stops not (inl has) = not (inl has)
told_again text left_out next end q rest come stops not (inr told) =
    not (inr (told_among text next told.1 end told.0 rest q told.2 come stops told.3))

again_told : (text : List ℕ) (left_out : List Operator) (next end : ℕ) (q : Operator) (rest : List Operation) →
    OperationsAt text next rest end → IsLeftOut left_out (operators_in rest) q → Contains left_out q ⊎ IsToldFrom text next q
again_told text left_out next end q rest come (inl has) = inl has
again_told text left_out next end q rest come (inr later) = inr (rest, end, come, later)

-- what is done with an operation
abbrev pub IsPutOr : (text : List ℕ) (left_out later : List Operator) (place next : ℕ) (q : Operator) (out more : List ℕ) → Type 0
IsPutOr text left_out later place next q out more = (IsLeftOut left_out later q × (more ≡ out))
    ⊎ ((IsLeftOut left_out later q → ⊥) × (more ≡ out ++ take (next - place) (drop place text)))

-- one operation more
pub one_more_so : (text out more : List ℕ) (left_out told later : List Operator) (place next count : ℕ) (o : Operation) →
    operation text place ≡ Got o next → (h : IsSoFar text left_out told place count out) →
    later ≡ drop (count + 1) told → IsPutOr text left_out later place next o.0 out more → IsSoFar text left_out told next (count + 1) more
one_more_so text out more left_out told later place next count o e h is_later put =
    let at : OperationAt text place o next = is_at text place o next (subst (IsOperation [] text place) e (operation_is text place)) in
    let goes = reached text place next o e in
    let up = goes.0 in
    let b = begins text told place next count o h.coming h.end e h.come h.stops h.later in
    let are = one_more text 0 h.all place o next h.are at in
    let all : h.all ++ h.coming ≡ (h.all ++ o ∷ []) ++ b.rest = ap (λ os. h.all ++ os) b.is ∙ sym (append_assoc h.all (o ∷ []) b.rest) in
    let before : (rest : List Operation) → AreLeft left_out (o ∷ b.rest) rest → AreLeft left_out ((h.all ++ o ∷ []) ++ b.rest) (h.left ++ rest) =
    λ rest is. subst (λ (os : List Operation). AreLeft left_out os (h.left ++ rest)) all
    (h.among rest (subst (λ (os : List Operation). AreLeft left_out os rest) (sym b.is) is)) in
    elim put [
      | inl out_of ↦ subst (λ (bs : List ℕ). IsSoFar text left_out told next (count + 1) bs) (sym out_of.1) (record {
        all = h.all ++ o ∷ [];
        coming = b.rest;
        left = h.left;
        end = h.end;
        are = are;
        come = b.come;
        stops = h.stops;
        later = b.later;
        among = λ rest is. before rest
            (gone o b.rest rest (subst (λ (qs : List Operator). IsLeftOut left_out qs o.0) (is_later ∙ b.later) out_of.0) is);
        stand = h.stand;
      })
      | inr stays ↦ subst (λ (bs : List ℕ). IsSoFar text left_out told next (count + 1) bs) (sym stays.1) (record {
        all = h.all ++ o ∷ [];
        coming = b.rest;
        left = h.left ++ o ∷ [];
        end = h.end;
        are = are;
        come = b.come;
        stops = h.stops;
        later = b.later;
        among = λ rest is. subst (AreLeft left_out ((h.all ++ o ∷ []) ++ b.rest)) (sym (append_assoc h.left (o ∷ []) rest))
            (before (o ∷ rest)
            (kept o b.rest rest (subst (λ (qs : List Operator). IsLeftOut left_out qs o.0 → ⊥) (is_later ∙ b.later) stays.0) is));
        stand = spelled_more text out place next h.left o (omega (arith, up)) goes.1 at h.stand;
      })
    ]

-- one operation more, as it is spelled
pub left_more : (text out more : List ℕ) (left_out told later : List Operator) (place next count : ℕ) (o : Operation) →
    operation text place ≡ Got o next → (h : IsSoFar text left_out told place count out) →
    later ≡ drop (count + 1) told → IsPutOr text left_out later place next o.0 out more →
    ((rest : List ℕ) → IsLeftText text left_out place rest → IsLeftText text left_out 0 (out ++ rest)) → (rest : List ℕ) →
    IsLeftText text left_out next rest → IsLeftText text left_out 0 (more ++ rest)
left_more text out more left_out told later place next count o got h is_later (inl out_of) before rest is =
    let b = begins text told place next count o h.coming h.end got h.come h.stops h.later in
    subst (λ xs. IsLeftText text left_out 0 (xs ++ rest)) (sym out_of.1)
    (before rest (leaves place next o rest got
    (again_told text left_out next h.end o.0 b.rest b.come (subst (λ (qs : List Operator). IsLeftOut left_out qs o.0) (is_later ∙ b.later) out_of.0)) is))
left_more text out more left_out told later place next count o got h is_later (inr stays) before rest is =
    let b = begins text told place next count o h.coming h.end got h.come h.stops h.later in
    let spelled : List ℕ = take (next - place) (drop place text) in
    subst (IsLeftText text left_out 0) (sym (ap (λ xs. xs ++ rest) stays.1 ∙ append_assoc out spelled rest))
    (before (spelled ++ rest) (keeps place next o rest (spelled ++ rest) got
    (told_again text left_out next h.end o.0 b.rest b.come h.stops
    (subst (λ (qs : List Operator). IsLeftOut left_out qs o.0 → ⊥) (is_later ∙ b.later) stays.0)) is refl))

same_left : (text : List ℕ) (left_out : List Operator) (n m : ℕ) (o q : Operation) → o ≡ q → n ≡ m →
    Contains left_out o.0 ⊎ IsToldFrom text n o.0 → Contains left_out q.0 ⊎ IsToldFrom text m q.0
same_left text left_out n m o q same at h =
    subst (λ (x : Operation). Contains left_out x.0 ⊎ IsToldFrom text m x.0) same
    (subst (λ (p : ℕ). Contains left_out o.0 ⊎ IsToldFrom text p o.0) at h)

-- one text is left
pub one_left : (text : List ℕ) (left_out : List Operator) (place other : ℕ) (a b : List ℕ) → place ≡ other →
    IsLeftText text left_out place a → IsLeftText text left_out other b → a ≡ b
one_left text left_out _ _ _ _ at (ends place stops) (ends other again) = refl
one_left text left_out _ _ _ b at (ends place stops) (keeps other next o rest _ got out h e) =
    absurd (stops o next (subst (λ p. operation text p ≡ Got o next) (sym at) got))
one_left text left_out _ _ _ b at (ends place stops) (leaves other next o _ got is h) =
    absurd (stops o next (subst (λ p. operation text p ≡ Got o next) (sym at) got))
one_left text left_out _ _ a _ at (keeps place next o rest _ got out h e) (ends other stops) =
    absurd (stops o next (subst (λ p. operation text p ≡ Got o next) at got))
one_left text left_out _ _ a _ at (leaves place next o _ got is h) (ends other stops) =
    absurd (stops o next (subst (λ p. operation text p ≡ Got o next) at got))
one_left text left_out _ _ a b at (keeps place next o rest _ got out h e) (keeps other after q more _ got2 out2 h2 e2) =
    let same = same_got o q next after (sym (subst (λ p. operation text p ≡ Got o next) at got) ∙ got2) in
    let tail = one_left text left_out next after rest more same.1 h h2 in
    e ∙ ap (λ xs. take (next - place) (drop place text) ++ xs) tail ∙ ap (λ n. take (n - place) (drop place text) ++ more) same.1
    ∙ ap (λ p. take (after - p) (drop p text) ++ more) at ∙ sym e2
one_left text left_out _ _ a b at (leaves place next o _ got is h) (leaves other after q _ got2 is2 h2) =
    let same = same_got o q next after (sym (subst (λ p. operation text p ≡ Got o next) at got) ∙ got2) in
    one_left text left_out next after a b same.1 h h2
one_left text left_out _ _ a b at (keeps place next o rest _ got out h e) (leaves other after q _ got2 is2 h2) =
    let same = same_got o q next after (sym (subst (λ p. operation text p ≡ Got o next) at got) ∙ got2) in
    absurd (out (same_left text left_out after next q o (sym same.0) (sym same.1) is2))
one_left text left_out _ _ a b at (leaves place next o _ got is h) (keeps other after q more _ got2 out2 h2 e2) =
    let same = same_got o q next after (sym (subst (λ p. operation text p ≡ Got o next) at got) ∙ got2) in
    absurd (out2 (same_left text left_out next after o q same.0 same.1 is))

-- places of the same operators, of the same size, make dictionaries of one size
pub one_size : (text : List ℕ) (places other : List Place) (n m : ℕ) → HasSize text places n → HasSize text other m →
    map (λ place. place.operator) places ≡ map (λ place. place.operator) other → places_size places ≡ places_size other →
    n ≡ m
one_size text places other n m x y same sizes =
    let left = ap length (one_left text (map (λ place. place.operator) other) 0 0 x.0 y.0 refl
    (subst (λ os. IsLeftText text os 0 x.0) same x.1) y.1) in
    let a = x.2 in
    let b = y.2 in
    omega (arith, a, b, left, sizes)

not_end : (e : Error) → e ≢ UnexpectedEof → (refusal : Refusal) → RefusedAs {A = Operation} e (Fault refusal) → is_end refusal ≡ false
not_end e other refusal h = grind arith

-- bytes with operations, behind which one is refused that the end does not cut, are no dictionary
pub no_dictionary : (text : List ℕ) (place : ℕ) (all : List Operation) (e : Error) → OperationsAt text 0 all place →
    RefusedAs e (operation text place) → e ≢ UnexpectedEof → (map : Dictionary) → IsDictionary text 0 map → ⊥
no_dictionary text place all e are h other map is = by (operation text place) (operation_is text place) h
  where
    by : (o : Outcome Operation) → IsOperation [] text place o → RefusedAs e o → ⊥
    by (Got o next) it h = h
    by (Fault refusal) it h =
        let whole : is_end refusal ≡ false = not_end e other refusal h in
        let refused : IsRefused text 0
        refusal = record {
          operations = all;
          front = place;
          are = are;
          operands = it.operands;
          next = it.next;
          stand = it.are;
          bad = it.bad;
          whole = bad_cut text it.next refusal it.bad ∙ whole;
        } in
        let never : Got map (length text) ≡ Fault refusal = sym (reads_dictionaries.all text 0 map is)
        ∙ reads_dictionaries.refused text 0 refusal refused in
        absurd (cc)
    by Past it h = it

-- each of numbers that are held is
pub held_at : (ns : List ℕ) (i : ℕ) → AreHeld ns → i < length ns → get_or ns i 0 < 2 ^ 31
held_at [] i held less = absurd (omega (arith, less))
held_at (n ∷ ns) zero held less = held.0
held_at (n ∷ ns) (suc i) held less = held_at ns i held.1 (omega (arith, less))

pub place_held : (place : Place) (numbers : List ℕ) → numbers_of place.size place.offset ≡ numbers →
    (IsWritable place.operator → AreHeld numbers → ⊥) → IsHeld place → ⊥
place_held place numbers are never held = never held.0 (subst AreHeld are held.1)

-- what holds of those so far, and of one more
pub held_more : {X : Type 0} (P : X → Type 0) (xs : List X) (i : ℕ) (one : X) → i < length xs → P (get_or xs i one) →
    ((k : ℕ) (d : X) → k < i → P (get_or xs k d)) → (k : ℕ) (d : X) → k < i + 1 → P (get_or xs k d)
held_more {X =
    X} P xs i one less here before k d h = below_more (λ k. (d : X) → P (get_or xs k d)) i (λ k under d. before k d under)
    (λ d. subst P (get_or_default xs i one d less) here) k h d

-- what is left of a dictionary is no longer than the dictionary
left_within : (text : List ℕ) (left_out : List Operator) (place : ℕ) (out : List ℕ) → place ≤ length text →
    IsLeftText text left_out place out → place + length out ≤ length text
left_within text left_out _ _ within (ends place stops) = omega (arith, within)
left_within text left_out _ _ within (keeps place next o rest out got stays h e) =
    let goes = reached text place next o got in
    let up = goes.0 in
    let less = left_within text left_out next rest goes.1 h in
    let spelled : List ℕ = take (next - place) (drop place text) in
    let long : length out ≡ length spelled + length rest = ap length e ∙ length-append spelled rest in
    let there : length spelled ≤ next - place = omega (arith, length-take (next - place) (drop place text)) in
    omega (arith, up, less, long, there)
left_within text left_out _ _ within (leaves place next o out got is h) =
    let goes = reached text place next o got in
    let up = goes.0 in
    let less = left_within text left_out next out goes.1 h in
    omega (arith, up, less)

pub left_shorter : (text : List ℕ) (left_out : List Operator) (out : List ℕ) → IsLeftText text left_out 0 out → length out ≤ length text
left_shorter text left_out out h = omega (arith, left_within text left_out 0 out (omega arith) h)

-- and with places no longer than with as many bytes more as these have
pub sized_within : (text : List ℕ) (places : List Place) (size : ℕ) → HasSize text places size → size ≤ length text + places_size places
sized_within text places size h =
    let less = left_shorter text (map (λ place. place.operator) places) h.0 h.1 in
    let is = h.2 in
    omega (arith, less, is)

-- the operators up to a place
pub record AreToldTo (text : List ℕ) (place : ℕ) (told : List Operator) : Type 0 where
  pub all : List Operation
  pub are : OperationsAt text 0 all place
  pub is : told ≡ operators_in all

pub one_told : (text : List ℕ) (place next : ℕ) (o : Operation) (told more : List Operator) → operation text place ≡ Got o next →
    more ≡ told ++ o.0 ∷ [] → AreToldTo text place told → AreToldTo text next more
one_told text place next o told more got is h = record {
  all = h.all ++ o ∷ [];
  are = one_more text 0 h.all place o next h.are
      (is_at text place o next (subst (IsOperation [] text place) got (operation_is text place)));
  is = is ∙ ap (λ xs. xs ++ o.0 ∷ []) h.is ∙ sym (map-append (λ (x : Operation). x.0) h.all (o ∷ []));
}

pub rest_of : {X : Type 0} (xs : List X) (n : ℕ) → take (length xs - n) (drop n xs) ≡ drop n xs
rest_of xs n = ap (λ k. take k (drop n xs)) (sym (length-drop n xs)) ∙ take_all (length (drop n xs)) (drop n xs) (omega arith)

-- one more comes than were read
pub one_comes : (text inner : List ℕ) (left_out told : List Operator) (place pos count : ℕ) (out : List ℕ) (q : Operator) (end : ℕ) →
    (operands : List Decimal) × (operation inner pos ≡ Got (q, operands) end) → inner ≡ text → pos ≡ place →
    IsSoFar text left_out told place count out → count < length told
one_comes text inner left_out told place pos count out q end found is at h =
    (begins text told place end count (q, found.0) h.coming h.end
    (subst (λ p. operation text p ≡ Got (q, found.0) end) at
    (subst (λ bs. operation bs pos ≡ Got (q, found.0) end) is found.1)) h.come h.stops h.later).there

-- where none stands any more, no one comes
pub finished : (text : List ℕ) (left_out told : List Operator) (place count : ℕ) (out : List ℕ) → IsSoFar text left_out told place count out →
    Stops text place → UnfinishedAt text place → IsWithout text left_out out
finished text left_out told place count out h stops rest = by h.coming h.come h.among
  where
    by : (coming : List Operation) → OperationsAt text place coming h.end → ((more : List Operation) → AreLeft left_out coming more →
        AreLeft left_out (h.all ++ coming) (h.left ++ more)) → IsWithout text left_out out
    by [] come among = (
      h.all,
      h.left,
      place,
      h.are,
      rest,
      subst (λ (os : List Operation). AreLeft left_out os h.left) (append-nil h.all)
          (subst (λ (os : List Operation). AreLeft left_out (h.all ++ []) os) (append-nil h.left) (among [] none)),
      h.stand,
    )
    by (o ∷ coming) come among = absurd (stops o come.0 (reads text place o come.0 come.1))
