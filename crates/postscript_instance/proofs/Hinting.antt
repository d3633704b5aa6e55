-- The steps of reading a CFF2 Private DICT.
use Rattle.std.proofs.Common.{◌≡◌, refl, sym, ap, subst, ◌∙◌, inl, inr, ℕ, ◌+◌, ◌*◌, ◌<◌, ◌≤◌, ◌++◌, List, [], ◌∷◌, Bool, true, false, IsTrue, Option, Some, None, length, take, drop, append_assoc, length-drop, arith}
use Rattle.std.specs.Prelude.{◌⊎◌, ℤ, pos, Vec, option_map}
use Rattle.std.specs.List.{flat_map, list_all, slice_range}
use Rattle.std.specs.Option.{MatchOption}
use Rattle.std.specs.declared.alloc.Global.{Global}
use Rattle.std.proofs.lemmas.List.{append-nil}
use Rattle.postscript_cff2.specs.Tokens.{byte_at, operand_size, operator_size}
use Rattle.postscript_instance.specs.Far.{AreEdges}
use Rattle.postscript_instance.specs.Hints as hints
use Rattle.postscript_instance.specs.Hints.{Acts, AreOperands, HintsAt, IsHintAt, IsHintOperation, State, all_bits, blend, blended, blended_each, chosen, is_encoded, is_hint_operator, operand_at, scalars_in, text_of}
use Rattle.postscript_instance.specs.Numbers.{numbers_text}
use Rattle.postscript_instance.specs.Private.{rounded_edges}
use Rattle.postscript_instance.specs.declared.privates.Number.{Number}

-- one more blended operand
pub each-step : (done defaults : List Number) (i : ℕ) (x b : Number) (rest mine behind : List Number) (scalars : List ℕ) →
    b ≡ blended x mine scalars → drop i defaults ≡ x ∷ drop (i + 1) defaults → mine ≡ take (length scalars) rest →
    behind ≡ drop (length scalars) rest →
    (done ++ b ∷ []) ++ blended_each (drop (i + 1) defaults) behind scalars ≡ done ++ blended_each (drop i defaults) rest scalars
each-step done defaults i x b rest mine behind scalars is item front back =
    let more : blended_each (drop i defaults) rest scalars ≡ blended_each (x ∷ drop (i + 1) defaults) rest scalars =
    ap (λ ds. blended_each ds rest scalars) item in
    let first : blended x (take (length scalars) rest) scalars ≡ b = ap (λ ms. blended x ms scalars) (sym front) ∙ sym is in
    append_assoc done (b ∷ []) _
    ∙ ap (λ ms. done ++ b ∷ blended_each (drop (i + 1) defaults) ms scalars) back
    ∙ ap (λ y. done ++ y ∷ blended_each (drop (i + 1) defaults) (drop (length scalars) rest) scalars) (sym first)
    ∙ ap (λ xs. done ++ xs) (sym more)

pub each-count : (defaults : List Number) (i : ℕ) (rest behind : List Number) (k : ℕ) → i < length defaults →
    length rest ≡ length (drop i defaults) * k → length behind + k ≡ length rest →
    length behind ≡ length (drop (i + 1) defaults) * k
each-count defaults i rest behind k less many left =
    let here = length-drop i defaults in
    let next = length-drop (i + 1) defaults in
    let one : length (drop i defaults) ≡ length (drop (i + 1) defaults) + 1 = omega (arith, here, next) in
    let all : length rest ≡ (length (drop (i + 1) defaults) + 1) * k = many ∙ ap (λ n. n * k) one in
    omega (arith, all, left)

-- the operands of a hint
pub same-some : {X : Type 0} (x y : X) → Some x ≡ Some y → x ≡ y
same-some x y e = cc

none-at : (bytes : List ℕ) (numbers : List Number) (bits : List ℤ) → list_all is_encoded numbers ≡ false → all_bits numbers ≡ Some bits →
    (AreEdges (pos 0) bits → ⊥) → (text : List ℕ) → AreOperands bytes numbers text → ⊥
none-at bytes numbers bits blended_some is far text (hints.as_they_are all) = absurd (cc)
none-at bytes numbers bits blended_some is far text (hints.at_location others some others_are near) =
    far (subst (AreEdges (pos 0)) (same-some others bits (sym others_are ∙ is)) near)

pub found-edges : (bytes : List ℕ) (numbers : List Number) (bits : List ℤ) (found : Option (Vec ℕ Global)) →
    list_all is_encoded numbers ≡ false → all_bits numbers ≡ Some bits →
    MatchOption found (AreEdges (pos 0) bits → ⊥) (λ text. AreEdges (pos 0) bits × (text.items ≡ numbers_text (rounded_edges (pos 0) bits))) →
    MatchOption found ((text : List ℕ) → AreOperands bytes numbers text → ⊥) (λ text. AreOperands bytes numbers text.items)
found-edges bytes numbers bits None some is far = none-at bytes numbers bits some is far
found-edges bytes numbers bits (Some text) some is near =
    subst (AreOperands bytes numbers) (sym near.1) (hints.at_location bits some is near.0)

none-without : (bytes : List ℕ) (numbers : List Number) → list_all is_encoded numbers ≡ false → all_bits numbers ≡ None →
    (text : List ℕ) → AreOperands bytes numbers text → ⊥
none-without bytes numbers some none text (hints.as_they_are all) = absurd (cc)
none-without bytes numbers some none text (hints.at_location bits others are near) = absurd (cc)

pub lost-bits : (bytes : List ℕ) (numbers : List Number) → list_all is_encoded numbers ≡ false → all_bits numbers ≡ None →
    (text : List ℕ) → AreOperands bytes numbers text → ⊥
lost-bits = none-without

pub as-they-are : (bytes : List ℕ) (numbers : List Number) (text : List ℕ) → list_all is_encoded numbers ≡ true →
    text ≡ flat_map (text_of bytes) numbers → AreOperands bytes numbers text
as-they-are bytes numbers text all is = subst (AreOperands bytes numbers) (sym is) (hints.as_they_are all)

-- what is appended for a hint
pub left-out : (bytes operator : List ℕ) (numbers : List Number) (out : List ℕ) → IsHintAt bytes operator numbers [] →
    (text : List ℕ) × IsHintAt bytes operator numbers text × (out ≡ out ++ text)
left-out bytes operator numbers out it = ([], it, sym (append-nil out))

pub put-or-not : (bytes operator : List ℕ) (numbers : List Number) (operands text old new : List ℕ) → (length numbers ≡ 0 → ⊥) →
    length numbers ≤ 48 → AreOperands bytes numbers operands → text ≡ operands ++ operator →
    (IsHintOperation text × (new ≡ old ++ text)) ⊎ ((IsHintOperation text → ⊥) × (new ≡ old)) →
    (more : List ℕ) × IsHintAt bytes operator numbers more × (new ≡ old ++ more)
put-or-not bytes operator numbers operands text old new some few are is (inl put) =
    (operands ++ operator, hints.written operands (omega (arith, some)) few are (subst IsHintOperation is put.0), put.1 ∙ ap (λ t. old ++ t) is)
put-or-not bytes operator numbers operands text old new some few are is (inr not) =
    ([], hints.unreadable operands are (λ it. not.0 (subst IsHintOperation (sym is) it)), not.1 ∙ sym (append-nil old))

-- what an operator does
pub blends-so : (tables : List (Vec ℕ Global)) (bytes operator : List ℕ) (now : State) (scalars : List ℕ) (numbers : List Number)
    (out : List ℕ) → operator ≡ 23 ∷ [] → scalars ≡ scalars_in tables now.index → numbers ≡ blend now.numbers scalars →
    (text : List ℕ) × Acts tables bytes operator now text (record { index = now.index; numbers = numbers }) × (out ≡ out ++ text)
blends-so tables bytes operator now scalars numbers out is with_scalars are =
    let same : blend now.numbers (scalars_in tables now.index) ≡ numbers = ap (blend now.numbers) (sym with_scalars) ∙ sym are in
    ([], subst (λ ns. Acts tables bytes operator now [] (record { index = now.index; numbers = ns })) same (hints.blends is), sym (append-nil out))

pub chooses-so : (tables : List (Vec ℕ Global)) (bytes operator : List ℕ) (now : State) (index : ℕ) (numbers : List Number)
    (out : List ℕ) → operator ≡ 22 ∷ [] → index ≡ chosen now.index now.numbers → numbers ≡ [] →
    (text : List ℕ) × Acts tables bytes operator now text (record { index = index; numbers = numbers }) × (out ≡ out ++ text)
chooses-so tables bytes operator now index numbers out is chooses none = (
  [],
  subst (λ ns. Acts tables bytes operator now [] (record { index = index; numbers = ns })) (sym none)
      (subst (λ i. Acts tables bytes operator now [] (record { index = i; numbers = [] })) (sym chooses) (hints.chooses is)),
  sym (append-nil out),
)

pub hints-so : (tables : List (Vec ℕ Global)) (bytes operator : List ℕ) (now : State) (numbers : List Number)
    (old new : List ℕ) → is_hint_operator operator ≡ true → numbers ≡ [] →
    ((text : List ℕ) × IsHintAt bytes operator now.numbers text × (new ≡ old ++ text)) →
    (text : List ℕ) × Acts tables bytes operator now text (record { index = now.index; numbers = numbers }) × (new ≡ old ++ text)
hints-so tables bytes operator now numbers old new is none put = (
  put.0,
  subst (λ ns. Acts tables bytes operator now put.0 (record { index = now.index; numbers = ns })) (sym none)
      (hints.hints put.0 is put.1),
  put.2,
)

pub skips-so : (tables : List (Vec ℕ Global)) (bytes operator : List ℕ) (now : State) (numbers : List Number)
    (out : List ℕ) → (operator ≡ 23 ∷ [] → ⊥) → (operator ≡ 22 ∷ [] → ⊥) → is_hint_operator operator ≡ false → numbers ≡ [] →
    (text : List ℕ) × Acts tables bytes operator now text (record { index = now.index; numbers = numbers }) × (out ≡ out ++ text)
skips-so tables bytes operator now numbers out no_blend no_index no_hint none = (
  [],
  subst (λ ns. Acts tables bytes operator now [] (record { index = now.index; numbers = ns })) (sym none)
      (hints.skips no_blend no_index no_hint),
  sym (append-nil out),
)

-- the hints so far, and those of the rest, are all
abbrev pub Goes : (tables : List (Vec ℕ Global)) → (bytes : List ℕ) → (place : ℕ) → State → (out : List ℕ) → Type 0
Goes tables bytes place now out = (more : List ℕ) → HintsAt tables bytes place now more →
    HintsAt tables bytes 0 (record { index = 0; numbers = [] }) (out ++ more)

pub goes-first : (tables : List (Vec ℕ Global)) (bytes : List ℕ) (numbers : List Number) (out : List ℕ) → numbers ≡ [] → out ≡ [] →
    Goes tables bytes 0 (record { index = 0; numbers = numbers }) out
goes-first tables bytes numbers out none nothing more it =
    subst (λ (o : List ℕ). HintsAt tables bytes 0 (record { index = 0; numbers = [] }) (o ++ more)) (sym nothing)
    (subst (λ ns. HintsAt tables bytes 0 (record { index = 0; numbers = ns }) more) none it)

pub goes-last : (tables : List (Vec ℕ Global)) (bytes : List ℕ) (place : ℕ) (now : State) (out : List ℕ) →
    Goes tables bytes place now out → HintsAt tables bytes place now [] → HintsAt tables bytes 0 (record { index = 0; numbers = [] }) out
goes-last tables bytes place now out goes it =
    subst (HintsAt tables bytes 0 (record { index = 0; numbers = [] })) (append-nil out) (goes [] it)

pub goes-cut : (tables : List (Vec ℕ Global)) (bytes : List ℕ) (place first next : ℕ) (now : State) (out : List ℕ) →
    Goes tables bytes place now out → place < length bytes → first ≡ byte_at bytes place → first < 28 → next ≡ place + operator_size first →
    length bytes < next → HintsAt tables bytes 0 (record { index = 0; numbers = [] }) out
goes-cut tables bytes place first next now out goes within is below at past =
    goes-last tables bytes place now out goes
    (hints.cut_off place now within (subst (λ b. b < 28) is below) (subst (λ n. length bytes < n) (at ∙ ap (λ b. place + operator_size b) is) past))

pub goes-operator : (tables : List (Vec ℕ Global)) (bytes : List ℕ) (place first next : ℕ) (operator : List ℕ) (now after : State)
    (old new : List ℕ) → Goes tables bytes place now old → place < length bytes → first ≡ byte_at bytes place → first < 28 →
    next ≡ place + operator_size first → next ≤ length bytes → operator ≡ slice_range bytes place next →
    ((text : List ℕ) × Acts tables bytes operator now text after × (new ≡ old ++ text)) → Goes tables bytes next after new
goes-operator tables bytes place first next operator now after old new goes within is below at room slice acts more it =
    let text : List ℕ = acts.0 in
    let whole = goes (text ++ more) (hints.operator place next now after text more within (subst (λ b. b < 28) is below)
    (at ∙ ap (λ b. place + operator_size b) is) room (subst (λ op. Acts tables bytes op now text after) slice acts.1) it) in
    subst (HintsAt tables bytes 0 (record { index = 0; numbers = [] }))
    (sym (append_assoc old text more) ∙ ap (λ (o : List ℕ). o ++ more) (sym acts.2)) whole

pub goes-operand : (tables : List (Vec ℕ Global)) (bytes : List ℕ) (place first next : ℕ) (number : Number) (now : State)
    (numbers : List Number) (out : List ℕ) → Goes tables bytes place now out → place < length bytes → first ≡ byte_at bytes place →
    28 ≤ first → next ≡ place + operand_size bytes place → number ≡ operand_at bytes place → numbers ≡ now.numbers ++ number ∷ [] →
    Goes tables bytes next (record { index = now.index; numbers = numbers }) out
goes-operand tables bytes place first next number now numbers out goes within is above at one are more it =
    let all : numbers ≡ now.numbers ++ operand_at bytes place ∷ [] = are ∙ ap (λ n. now.numbers ++ n ∷ []) one in
    goes more (hints.operand place now more within (subst (λ b. 28 ≤ b) is above)
    (subst (λ n. HintsAt tables bytes n (record { index = now.index; numbers = now.numbers ++ operand_at bytes place ∷ [] }) more) at
    (subst (λ ns. HintsAt tables bytes next (record { index = now.index; numbers = ns }) more) all it)))

-- a hint without operands or with too many, and one with operands that are unknown
pub no-operands : (bytes operator : List ℕ) (numbers : List Number) (found : Option (Vec ℕ Global)) → found ≡ None →
    MatchOption found ((text : List ℕ) → AreOperands bytes numbers text → ⊥) (λ text. AreOperands bytes numbers text.items) →
    IsHintAt bytes operator numbers []
no-operands bytes operator numbers None is never = hints.unknown never
no-operands bytes operator numbers (Some text) is are = absurd (cc)

pub some-operands : (bytes : List ℕ) (numbers : List Number) (found : Option (Vec ℕ Global)) (v : Vec ℕ Global) → found ≡ Some v →
    MatchOption found ((text : List ℕ) → AreOperands bytes numbers text → ⊥) (λ text. AreOperands bytes numbers text.items) →
    AreOperands bytes numbers v.items
some-operands bytes numbers None v is never = absurd (cc)
some-operands bytes numbers (Some text) v is are = subst (λ (t : Vec ℕ Global). AreOperands bytes numbers t.items) (same-some text v is) are

pub same-bits : (numbers : List Number) (found : Option (Vec ℤ Global)) (bits : Vec ℤ Global) (all : List ℤ) → found ≡ Some bits →
    option_map (λ (v : Vec ℤ Global). v.items) found ≡ all_bits numbers → all ≡ bits.items → all_bits numbers ≡ Some all
same-bits numbers None bits all is are same = absurd (cc)
same-bits numbers (Some v) bits all is are same =
    sym are ∙ ap (λ (w : Vec ℤ Global). Some w.items) (same-some v bits is) ∙ ap Some (sym same)

pub none-there : {X : Type 0} (found : Option X) → ((x : X) → found ≡ Some x → ⊥) → found ≡ None
none-there None none = refl
none-there (Some x) none = absurd (none x refl)

pub not-so : {P : Type 0} (b : Bool) → b ≡ false → (P → IsTrue b) → P → ⊥
not-so b is so p = let yes : IsTrue b = so p in absurd (cc)

pub with-items : (index : ℕ) (found : ℕ) (numbers items : List Number) → numbers ≡ items → found ≡ chosen index numbers →
    found ≡ chosen index items
with-items index found numbers items same is = is ∙ ap (chosen index) same

pub with-numbers : (bytes operator : List ℕ) (numbers items : List Number) (old new : List ℕ) → numbers ≡ items →
    ((text : List ℕ) × IsHintAt bytes operator numbers text × (new ≡ old ++ text)) →
    (text : List ℕ) × IsHintAt bytes operator items text × (new ≡ old ++ text)
with-numbers bytes operator numbers items old new same it = (it.0, subst (λ ns. IsHintAt bytes operator ns it.0) same it.1, it.2)
