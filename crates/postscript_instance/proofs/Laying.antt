-- The parts of tables, as they are written and found.
use Rattle.std.proofs.Common.{◌≡◌, refl, sym, ap, subst, ◌∙◌, ℕ, suc, ◌+◌, ◌-◌, ◌*◌, ◌^◌, ◌<◌, ◌≤◌, List, [], ◌∷◌, ◌++◌, length, length-append, length-drop, take, drop, Option, Some, None, Vec, arith}
use Rattle.std.specs.List.{concat, range_with_len, slice_range}
use Rattle.std.proofs.lemmas.List.{append-nil, length-map}
use Rattle.std.proofs.Math.Seq.{drop-append_seam}
use Rattle.postscript_base.specs.Compact1.Decimal.{Decimal}
use Rattle.postscript_base.specs.Compact1.DictionaryLaw.{OperationsAt}
use Rattle.postscript_base.specs.Compact1.Number.{number}
use Rattle.postscript_base.specs.Compact1.Operation.{Operation}
use Rattle.postscript_base.specs.Compact1.Operators.{operator_of}
use Rattle.postscript_base.specs.Index.{IsIndex}
use Rattle.postscript_base.specs.Numbers.{number as unsigned, slice}
use Rattle.postscript_base.specs.declared.compact1.operator.Operator.{Operator}
use Rattle.postscript_base.specs.declared.compact1.operator.Operator.TheVariants.{CIDCount, CharSet, CharStrings, FDArray, FDSelect, Private, ROS}
use Rattle.postscript_write.specs.ArrangedText.{tables_text}
use Rattle.postscript_write.specs.Dictionaries.{IsCode, IsEscaped, escaped_text, integers_text, operation_text}
use Rattle.postscript_write.specs.Index.{FitsIndex, index_text}
use Rattle.postscript_write.specs.Texts.{TextStands, number_text}
use Rattle.postscript_write.proofs.IndexStands.{writes_indices}
use Rattle.postscript_write.proofs.Lengths.{same_single}
use Rattle.postscript_write.proofs.Locality.{operations_local}
use Rattle.postscript_write.proofs.Moving.{operation_moved}
use Rattle.postscript_write.proofs.OperationsStand.{integers_length, writes_operations}
use Rattle.postscript_write.proofs.Rests.{none_fit}
use Rattle.postscript_write.proofs.Room.{index_most, single_fits, they_fit}
use Rattle.postscript_write.proofs.Standing.{length-number_text, stands_first, stands_second, stands_slice}
use Rattle.postscript_write.proofs.TablesStand.{tables_there, tables_length}
use Rattle.postscript_instance.specs.Encoded.{AreLow, HasRoom, IsKeyedBytes, IsNamedBytes, font_dicts, keyed_places, keyed_text, named_places, named_text, ros_text}
use Rattle.postscript_instance.specs.Whole.{IsDict, HasHead, adobe, identity, integers, keyed_operations, matrix_operation, named_operations}
use Rattle.postscript_instance.specs.Whole as whole
use Rattle.postscript_instance.specs.declared.layout.Places.{Places}
use Rattle.postscript_instance.specs.declared.naming.Identifiers.{Identifiers}
use Rattle.postscript_instance.proofs.Sets.{select-ends, set-ends}
use Rattle.postscript_cff2.specs.Shown.{view_shown}
use Rattle.postscript_cff2.specs.declared.font.Font.{Font}
use Rattle.postscript_type2.specs.Program.Routines.{texts}
use Rattle.std.specs.declared.alloc.Global.{Global}
use Rattle.std.proofs.lemmas.List.FromFn.{length-range_with_len}

-- operations after operations
after : (bytes : List ℕ) (p q r : ℕ) (os ps : List Operation) → OperationsAt bytes p os q → OperationsAt bytes q ps r →
    OperationsAt bytes p (os ++ ps) r
after bytes p q r [] ps first second = subst (λ n. OperationsAt bytes n ps r) first second
after bytes p q r (o ∷ os) ps first second = (first.0, first.1, after bytes first.0 q r os ps first.2 second)

moved : (front bytes : List ℕ) (place next : ℕ) (os : List Operation) → OperationsAt bytes place os next →
    OperationsAt (front ++ bytes) (length front + place) os (length front + next)
moved front bytes place next [] h = ap (λ n. length front + n) h
moved front bytes place next (o ∷ os) h =
    (length front + h.0, operation_moved front bytes place h.0 o h.1, moved front bytes h.0 next os h.2)

pub joined : (a b : List ℕ) (os ps : List Operation) → IsDict a os → IsDict b ps → IsDict (a ++ b) (os ++ ps)
joined a b os ps first second =
    let whole : OperationsAt (a ++ []) 0 os (length a) = subst (λ xs. OperationsAt xs 0 os (length a)) (sym (append-nil a)) first in
    let front : OperationsAt (a ++ b) 0 os (length a) = (operations_local a [] b 0 (length a) os whole (omega arith)).1 in
    let start : length a + 0 ≡ length a = omega arith in
    let behind : OperationsAt (a ++ b) (length a) ps (length a + length b) =
    subst (λ n. OperationsAt (a ++ b) n ps (length a + length b)) start (moved a b 0 (length b) ps second) in
    subst (OperationsAt (a ++ b) 0 (os ++ ps)) (sym (length-append a b)) (after (a ++ b) 0 (length a) (length a + length b) os ps front behind)

ros-is : IsDict ros_text ((ROS, integers (391 ∷ 392 ∷ 0 ∷ [])) ∷ [])
unfolding number unsigned slice operator_of
ros-is = (9, (7, (3, refl, (6, refl, (7, refl, refl))), refl), refl)

set-code : IsCode 0x0f CharSet
unfolding operator_of
set-code = record { low = omega arith; one = λ e. absurd (omega (arith, e)); names = refl }

codes-code : IsCode 0x11 CharStrings
unfolding operator_of
codes-code = record { low = omega arith; one = λ e. absurd (omega (arith, e)); names = refl }

private-code : IsCode 0x12 Private
unfolding operator_of
private-code = record { low = omega arith; one = λ e. absurd (omega (arith, e)); names = refl }

count-code : IsEscaped 0x22 CIDCount
unfolding operator_of
count-code = record { low = omega arith; names = refl }

select-code : IsEscaped 0x25 FDSelect
unfolding operator_of
select-code = record { low = omega arith; names = refl }

array-code : IsEscaped 0x24 FDArray
unfolding operator_of
array-code = record { low = omega arith; names = refl }

put : (kept : List ℕ) (os : List Operation) (n code : ℕ) (q : Operator) → IsDict kept os → n < 2 ^ 31 → IsCode code q →
    IsDict (kept ++ operation_text (n ∷ []) code) (os ++ (q, integers (n ∷ [])) ∷ [])
put kept os n code q are low is = writes_operations.append kept os (n ∷ []) code q are (low, tt) is

put-escaped : (kept : List ℕ) (os : List Operation) (n second : ℕ) (q : Operator) → IsDict kept os → n < 2 ^ 31 → IsEscaped second q →
    IsDict (kept ++ escaped_text (n ∷ []) second) (os ++ (q, integers (n ∷ [])) ∷ [])
put-escaped kept os n second q are low is = writes_operations.escaped kept os (n ∷ []) second q are (low, tt) is

keyed-order : (m : Option (List Decimal)) (glyphs : ℕ) (p : Places) →
    (((((((ROS, integers (391 ∷ 392 ∷ 0 ∷ [])) ∷ []) ++ matrix_operation m) ++ (CIDCount, integers (glyphs ∷ [])) ∷ [])
    ++ (CharSet, integers (p.char_set ∷ [])) ∷ []) ++ (FDSelect, integers (p.select ∷ [])) ∷ [])
    ++ (CharStrings, integers (p.char_strings ∷ [])) ∷ []) ++ (FDArray, integers (p.array ∷ [])) ∷ []
    ≡ keyed_operations m glyphs p.char_set p.select p.char_strings p.array
keyed-order None glyphs p = refl
keyed-order (Some x) glyphs p = refl

pub keyed-dict : (matrix : List ℕ) (m : Option (List Decimal)) (glyphs : ℕ) (p : Places) → IsDict matrix (matrix_operation m) →
    glyphs < 2 ^ 31 → AreLow p →
    IsDict (keyed_text matrix glyphs p) (keyed_operations m glyphs p.char_set p.select p.char_strings p.array)
keyed-dict matrix m glyphs p is few low =
    let a = joined ros_text matrix ((ROS, integers (391 ∷ 392 ∷ 0 ∷ [])) ∷ []) (matrix_operation m) ros-is is in
    let ta : List ℕ = ros_text ++ matrix in
    let tb : List ℕ = ta ++ escaped_text (glyphs ∷ []) 0x22 in
    let tc : List ℕ = tb ++ operation_text (p.char_set ∷ []) 0x0f in
    let td : List ℕ = tc ++ escaped_text (p.select ∷ []) 0x25 in
    let te : List ℕ = td ++ operation_text (p.char_strings ∷ []) 0x11 in
    let oa : List Operation = (ROS, integers (391 ∷ 392 ∷ 0 ∷ [])) ∷ matrix_operation m in
    let ob : List Operation = oa ++ (CIDCount, integers (glyphs ∷ [])) ∷ [] in
    let oc : List Operation = ob ++ (CharSet, integers (p.char_set ∷ [])) ∷ [] in
    let od : List Operation = oc ++ (FDSelect, integers (p.select ∷ [])) ∷ [] in
    let oe : List Operation = od ++ (CharStrings, integers (p.char_strings ∷ [])) ∷ [] in
    let b = put-escaped ta oa glyphs 0x22 CIDCount a few count-code in
    let c = put tb ob p.char_set 0x0f CharSet b low.char_set set-code in
    let d = put-escaped tc oc p.select 0x25 FDSelect c low.select select-code in
    let e = put td od p.char_strings 0x11 CharStrings d low.char_strings codes-code in
    let f = put-escaped te oe p.array 0x24 FDArray e low.array array-code in
    subst (IsDict (keyed_text matrix glyphs p)) (keyed-order m glyphs p) f

named-order : (m : Option (List Decimal)) (size : ℕ) (p : Places) →
    ((matrix_operation m ++ (CharSet, integers (p.char_set ∷ [])) ∷ []) ++ (CharStrings, integers (p.char_strings ∷ [])) ∷ [])
    ++ (Private, integers (size ∷ p.private ∷ [])) ∷ []
    ≡ named_operations m p.char_set p.char_strings size p.private
named-order None size p = refl
named-order (Some x) size p = refl

pub named-dict : (matrix : List ℕ) (m : Option (List Decimal)) (size : ℕ) (p : Places) → IsDict matrix (matrix_operation m) →
    size < 2 ^ 31 → AreLow p →
    IsDict (named_text matrix size p) (named_operations m p.char_set p.char_strings size p.private)
named-dict matrix m size p is few low =
    let a = put matrix (matrix_operation m) p.char_set 0x0f CharSet is low.char_set set-code in
    let ta : List ℕ = matrix ++ operation_text (p.char_set ∷ []) 0x0f in
    let oa : List Operation = matrix_operation m ++ (CharSet, integers (p.char_set ∷ [])) ∷ [] in
    let b = put ta oa p.char_strings 0x11 CharStrings a low.char_strings codes-code in
    let c = writes_operations.append (ta ++ operation_text (p.char_strings ∷ []) 0x11) (oa ++ (CharStrings, integers (p.char_strings ∷ [])) ∷ [])
    (size ∷ p.private ∷ []) 0x12 Private b (few, (low.private, tt)) private-code in
    subst (IsDict (named_text matrix size p)) (named-order m size p) c

pub font-dict : (size place : ℕ) → size < 2 ^ 31 → place < 2 ^ 31 →
    IsDict (operation_text (size ∷ place ∷ []) 0x12) ((Private, integers (size ∷ place ∷ [])) ∷ [])
font-dict size place few low = writes_operations.append [] [] (size ∷ place ∷ []) 0x12 Private refl (few, (low, tt)) private-code

pub font-dicts : (privates : List (List ℕ)) (place : ℕ) → place + length (concat privates) < 2 ^ 31 →
    whole.AreFontDicts (font_dicts privates place) privates place
font-dicts [] place small = tt
font-dicts (text ∷ texts) place small =
    let long = length-append text (concat texts) in (
      font-dict (length text) place (omega (arith, small, long)) (omega (arith, small, long)),
      font-dicts texts (place + length text) (omega (arith, small, long)),
    )

-- how long they are
length-operation : (ns : List ℕ) (code : ℕ) → length (operation_text ns code) ≡ 5 * length ns + 1
length-operation ns code = omega (arith, length-append (integers_text ns) (number_text 1 code), integers_length ns, length-number_text 1 code)

length-escaped : (ns : List ℕ) (second : ℕ) → length (escaped_text ns second) ≡ 5 * length ns + 2
length-escaped ns second =
    omega (
      arith,
      length-append (integers_text ns) (number_text 1 0x0c ++ number_text 1 second),
      integers_length ns,
      length-append (number_text 1 0x0c) (number_text 1 second),
      length-number_text 1 0x0c,
      length-number_text 1 second,
    )

pub keyed-length : (matrix : List ℕ) (glyphs : ℕ) (p : Places) → length (keyed_text matrix glyphs p) ≡ length matrix + 42
keyed-length matrix glyphs p =
    let a : List ℕ = ros_text ++ matrix in
    let b : List ℕ = a ++ escaped_text (glyphs ∷ []) 0x22 in
    let c : List ℕ = b ++ operation_text (p.char_set ∷ []) 0x0f in
    let d : List ℕ = c ++ escaped_text (p.select ∷ []) 0x25 in
    let e : List ℕ = d ++ operation_text (p.char_strings ∷ []) 0x11 in
    omega (
      arith,
      length-append ros_text matrix,
      length-append a (escaped_text (glyphs ∷ []) 0x22),
      length-append b (operation_text (p.char_set ∷ []) 0x0f),
      length-append c (escaped_text (p.select ∷ []) 0x25),
      length-append d (operation_text (p.char_strings ∷ []) 0x11),
      length-append e (escaped_text (p.array ∷ []) 0x24),
      length-escaped (glyphs ∷ []) 0x22,
      length-operation (p.char_set ∷ []) 0x0f,
      length-escaped (p.select ∷ []) 0x25,
      length-operation (p.char_strings ∷ []) 0x11,
      length-escaped (p.array ∷ []) 0x24,
    )

pub named-length : (matrix : List ℕ) (size : ℕ) (p : Places) → length (named_text matrix size p) ≡ length matrix + 23
named-length matrix size p =
    let a : List ℕ = matrix ++ operation_text (p.char_set ∷ []) 0x0f in
    let b : List ℕ = a ++ operation_text (p.char_strings ∷ []) 0x11 in
    omega (
      arith,
      length-append matrix (operation_text (p.char_set ∷ []) 0x0f),
      length-append a (operation_text (p.char_strings ∷ []) 0x11),
      length-append b (operation_text (size ∷ p.private ∷ []) 0x12),
      length-operation (p.char_set ∷ []) 0x0f,
      length-operation (p.char_strings ∷ []) 0x11,
      length-operation (size ∷ p.private ∷ []) 0x12,
    )

pub tables-sum : (name top : List ℕ) (strings : List (List ℕ)) → length (tables_text (name ∷ []) top strings)
    ≡ 4 + (length (index_text (name ∷ [])) + (length (index_text (top ∷ [])) + (length (index_text strings) + length (index_text []))))
tables-sum name top strings =
    let last = index_text strings ++ index_text [] in
    let more = index_text (top ∷ []) ++ last in
    omega (
      arith,
      length-append (1 ∷ 0 ∷ 4 ∷ 4 ∷ []) (index_text (name ∷ []) ++ more),
      length-append (index_text (name ∷ [])) more,
      length-append (index_text (top ∷ [])) last,
      length-append (index_text strings) (index_text []),
    )

pub same-tables : (name x y : List ℕ) (strings : List (List ℕ)) → length x ≡ length y →
    length (tables_text (name ∷ []) x strings) ≡ length (tables_text (name ∷ []) y strings)
same-tables name x y strings same = omega (arith, tables-sum name x strings, tables-sum name y strings, same_single x y same)

pub tables-most : (name top : List ℕ) (strings : List (List ℕ)) →
    length (tables_text (name ∷ []) top strings) ≤ 40 + length name + length top + 4 * length strings + length (concat strings)
tables-most name top strings =
    omega (
      arith,
      tables-sum name top strings,
      index_most (name ∷ []),
      index_most (top ∷ []),
      index_most strings,
      index_most [],
      length-append name [],
      length-append top [],
    )

-- a text behind another one
pub stands-behind : (out front rest : List ℕ) → out ≡ front ++ rest → TextStands rest out (length front)
stands-behind out front rest is = record {
  within = omega (arith, ap length is, length-append front rest);
  behind = [];
  there = ap (drop (length front)) is ∙ drop-append_seam front rest ∙ sym (append-nil rest);
}

slice-there : (text bytes : List ℕ) (place : ℕ) → TextStands text bytes place → slice_range bytes place (place + length text) ≡ text
slice-there text bytes place stands =
    let many : place + length text - place ≡ length text = omega arith in
    ap (λ n. take n (drop place bytes)) many ∙ stands_slice text stands

-- Font DICTs are few and short
pub dicts-length : (privates : List (List ℕ)) (place : ℕ) → length (font_dicts privates place) ≡ length privates
dicts-length [] place = refl
dicts-length (text ∷ texts) place = ap suc (dicts-length texts (place + length text))

pub dicts-size : (privates : List (List ℕ)) (place : ℕ) → length (concat (font_dicts privates place)) ≡ 11 * length privates
dicts-size [] place = refl
dicts-size (text ∷ texts) place =
    omega (
      arith,
      length-append (operation_text (length text ∷ place ∷ []) 0x12) (concat (font_dicts texts (place + length text))),
      length-operation (length text ∷ place ∷ []) 0x12,
      dicts-size texts (place + length text),
    )

pub dicts-fit : (privates : List (List ℕ)) (place : ℕ) → length privates ≤ 256 → FitsIndex (font_dicts privates place)
dicts-fit privates place few =
    they_fit (font_dicts privates place) (omega (arith, dicts-length privates place, few)) (omega (arith, dicts-size privates place, few))

pub keyed-strings-fit : FitsIndex (adobe ∷ identity ∷ [])
keyed-strings-fit = they_fit (adobe ∷ identity ∷ []) (omega arith) (omega arith)

-- the head
pub has-head : (out behind name top : List ℕ) (strings : List (List ℕ)) → out ≡ tables_text (name ∷ []) top strings ++ behind →
    FitsIndex (name ∷ []) → FitsIndex (top ∷ []) → FitsIndex strings →
    HasHead out name top strings (length (tables_text (name ∷ []) top strings))
has-head out behind name top strings is name_fits top_fits strings_fit =
    let stand = tables_there out behind (name ∷ []) strings top is in
    let end = tables_length (name ∷ []) strings top in record {
      begins = ap (take 4) is;
      dictionaries = _;
      texts = _;
      subroutines = _;
      one_name = writes_indices (name ∷ []) out 4 name_fits stand.1.0;
      one_dictionary = writes_indices (top ∷ []) out _ top_fits stand.1.1.0;
      are_strings = writes_indices strings out _ strings_fit stand.1.1.1.0;
      no_subroutines = subst (IsIndex out _ []) end (writes_indices [] out _ (none_fit [] refl) stand.1.1.1.1.0);
    }

-- the Private DICTs
pub are-privates : (privates : List (List ℕ)) (bytes : List ℕ) (place : ℕ) → TextStands (concat privates) bytes place →
    whole.ArePrivates bytes privates place (place + length (concat privates))
are-privates [] bytes place stands = omega arith
are-privates (text ∷ texts) bytes place stands =
    let here = stands_first text (concat texts) stands in
    let rest = are-privates texts bytes (place + length text) (stands_second text (concat texts) stands) in
    let end : place + length text + length (concat texts) ≡ place + length (text ++ concat texts) = omega
    (arith, length-append text (concat texts)) in
    (slice-there text bytes place here, subst (whole.ArePrivates bytes texts (place + length text)) end rest)

-- the bytes of FontMatrix are the operation, if there is one
pub matrix-dict : (dictionary text : List ℕ) (m : Option (List Decimal)) → whole.IsMatrixOf dictionary text m →
    IsDict text (matrix_operation m)
matrix-dict dictionary text m (whole.as_it_is entry operands is dict) = dict
matrix-dict dictionary text m (whole.shortened entry short operands is never are dict) = dict
matrix-dict dictionary text m (whole.unreadable entry short is never are none) = refl
matrix-dict dictionary text m (whole.without is) = refl

-- texts one after the other
pub five-stand : (out front a b c d e : List ℕ) (start : ℕ) → start ≡ length front → out ≡ front ++ (a ++ (b ++ (c ++ (d ++ e)))) →
    TextStands a out start × TextStands b out (start + length a) × TextStands c out (start + length a + length b)
    × TextStands d out (start + length a + length b + length c) × TextStands e out (start + length a + length b + length c + length d)
five-stand out front a b c d e start begins is =
    let s0 = subst (TextStands (a ++ (b ++ (c ++ (d ++ e)))) out) (sym begins) (stands-behind out front (a ++ (b ++ (c ++ (d ++ e)))) is) in
    let s1 = stands_second a (b ++ (c ++ (d ++ e))) s0 in
    let s2 = stands_second b (c ++ (d ++ e)) s1 in
    let s3 = stands_second c (d ++ e) s2 in
    (stands_first a _ s0, stands_first b _ s1, stands_first c _ s2, stands_first d e s3, stands_second d e s3)

pub three-stand : (out front a b c : List ℕ) (start : ℕ) → start ≡ length front → out ≡ front ++ (a ++ (b ++ c)) →
    TextStands a out start × TextStands b out (start + length a) × TextStands c out (start + length a + length b)
three-stand out front a b c start begins is =
    let s0 = subst (TextStands (a ++ (b ++ c)) out) (sym begins) (stands-behind out front (a ++ (b ++ c)) is) in
    let s1 = stands_second a (b ++ c) s0 in
    (stands_first a _ s0, stands_first b c s1, stands_second b c s1)

pub five-length : (out front a b c d e : List ℕ) (start : ℕ) → start ≡ length front → out ≡ front ++ (a ++ (b ++ (c ++ (d ++ e)))) →
    start + length a + length b + length c + length d + length e ≡ length out
five-length out front a b c d e start begins is =
    omega (
      arith,
      ap length is,
      begins,
      length-append front (a ++ (b ++ (c ++ (d ++ e)))),
      length-append a (b ++ (c ++ (d ++ e))),
      length-append b (c ++ (d ++ e)),
      length-append c (d ++ e),
      length-append d e,
    )

pub three-length : (out front a b c : List ℕ) (start : ℕ) → start ≡ length front → out ≡ front ++ (a ++ (b ++ c)) →
    start + length a + length b + length c ≡ length out
three-length out front a b c start begins is =
    omega (arith, ap length is, begins, length-append front (a ++ (b ++ c)), length-append a (b ++ c), length-append b c)

-- the table of a CID-keyed font
pub keyed-table : (font : Font) (name matrix : List ℕ) (m : Option (List Decimal)) (codes privates : List (Vec ℕ Global)) (out : List ℕ) →
    IsKeyedBytes font name matrix codes privates out → HasRoom name matrix codes privates → IsDict matrix (matrix_operation m) →
    length privates ≡ length (view_shown font).font_dictionaries →
    whole.IsKeyedTable m name (adobe ∷ identity ∷ []) (texts codes) (texts privates) out
keyed-table font name matrix m codes privates out b room dict counted =
    let cs : List ℕ = index_text (texts codes) in
    let ps : List ℕ = concat (texts privates) in
    let n : ℕ = length codes in
    let p : Places = keyed_places b.start b.set b.select cs ps in
    let top : List ℕ = keyed_text matrix n p in
    let dicts : List (List ℕ) = font_dicts (texts privates) p.private in
    let array : List ℕ = index_text dicts in
    let many_codes : length (texts codes) ≡ n = length-map codes (λ v. v.items) in
    let many_privates : length (texts privates) ≡ length privates = length-map privates (λ v. v.items) in
    let sum = room.small in
    let few_codes = room.few_codes in
    let few_privates = room.few_privates in
    let small = b.small in
    let low : AreLow p = record {
      char_set = omega (arith, small);
      select = omega (arith, small);
      char_strings = omega (arith, small);
      private = omega (arith, small);
      array = omega (arith, small);
    } in
    let front : List ℕ = tables_text (name ∷ []) top (adobe ∷ identity ∷ []) in
    let stand = five-stand out front b.set b.select cs ps array b.start b.begins b.is in
    let codes_fit : FitsIndex (texts codes) = they_fit (texts codes) (omega (arith, many_codes, few_codes)) (omega (arith, sum)) in
    let dicts_fit : FitsIndex dicts = dicts-fit (texts privates) p.private (omega (arith, many_privates, few_privates)) in
    let end = five-length out front b.set b.select cs ps array b.start b.begins b.is in
    let head = has-head out _ name top (adobe ∷ identity ∷ []) b.is (single_fits name (omega (arith, sum)))
    (single_fits top (omega (arith, sum, keyed-length matrix n p))) keyed-strings-fit in
    record {
      top = top;
      dictionaries = dicts;
      set = b.start;
      select = p.select;
      char_strings = p.char_strings;
      private = p.private;
      array = p.array;
      head = subst (HasHead out name top (adobe ∷ identity ∷ [])) (sym b.begins) head;
      set_ends = subst (λ k. whole.SetEnds out k b.start p.select) (sym many_codes)
          (set-ends (range_with_len 1 (n - 1)) b.set out b.start n b.is_set (length-range_with_len 1 (n - 1)) stand.0);
      select_ends = subst (λ k. whole.SelectEnds out k (length (texts privates)) p.select p.char_strings) (sym many_codes)
          (select-ends font n (length (texts privates)) b.select out p.select b.is_select (many_privates ∙ counted) stand.1);
      are_codes = writes_indices (texts codes) out p.char_strings codes_fit stand.2;
      are_privates = are-privates (texts privates) out p.private stand.3;
      are_dictionaries = subst (IsIndex out p.array dicts) end (writes_indices dicts out p.array dicts_fit stand.4);
      name_privates = font-dicts (texts privates) p.private (omega (arith, small));
      dictionary = subst (λ k. IsDict top (keyed_operations m k b.start p.select p.char_strings p.array)) (sym many_codes)
          (keyed-dict matrix m n p dict (omega (arith, few_codes)) low);
    }

-- the table of a font with glyph names
pub named-table : (name matrix : List ℕ) (m : Option (List Decimal)) (identifiers : Identifiers) (codes : List (Vec ℕ Global))
    (private out : List ℕ) → IsNamedBytes name matrix identifiers codes private out →
    length codes < 2 ^ 16 → length identifiers.strings.items < 2 ^ 16 → length identifiers.numbers.items ≡ length codes →
    length name + length (concat (texts identifiers.strings.items)) + length (concat (texts codes)) + length private + length matrix < 2000000000 →
    IsDict matrix (matrix_operation m) →
    whole.IsNamedTable m name (texts identifiers.strings.items) (texts codes) (private ∷ []) out
named-table name matrix m identifiers codes private out b few_codes few_strings counted sum dict =
    let strings : List (List ℕ) = texts identifiers.strings.items in
    let cs : List ℕ = index_text (texts codes) in
    let n : ℕ = length codes in
    let p : Places = named_places b.start b.set cs in
    let top : List ℕ = named_text matrix (length private) p in
    let many_codes : length (texts codes) ≡ n = length-map codes (λ v. v.items) in
    let many_strings : length strings ≡ length identifiers.strings.items = length-map identifiers.strings.items (λ v. v.items) in
    let small = b.small in
    let low : AreLow p = record {
      char_set = omega (arith, small);
      select = omega arith;
      char_strings = omega (arith, small);
      private = omega (arith, small);
      array = omega arith;
    } in
    let front : List ℕ = tables_text (name ∷ []) top strings in
    let stand = three-stand out front b.set cs private b.start b.begins b.is in
    let codes_fit : FitsIndex (texts codes) = they_fit (texts codes) (omega (arith, many_codes, few_codes)) (omega (arith, sum)) in
    let head = has-head out _ name top strings b.is (single_fits name (omega (arith, sum)))
    (single_fits top (omega (arith, sum, named-length matrix (length private) p)))
    (they_fit strings (omega (arith, many_strings, few_strings)) (omega (arith, sum))) in
    let end = three-length out front b.set cs private b.start b.begins b.is in
    record {
      top = top;
      text = private;
      set = b.start;
      char_strings = p.char_strings;
      private = p.private;
      one_private = refl;
      head = subst (HasHead out name top strings) (sym b.begins) head;
      set_ends = subst (λ k. whole.SetEnds out k b.start p.char_strings) (sym many_codes)
          (set-ends (drop 1 identifiers.numbers.items) b.set out b.start n b.is_set
          (length-drop 1 identifiers.numbers.items ∙ ap (λ k. k - 1) counted) stand.0);
      are_codes = writes_indices (texts codes) out p.char_strings codes_fit stand.1;
      are_privates = (slice-there private out p.private stand.2, sym end);
      dictionary = named-dict matrix m (length private) p dict (omega (arith, small)) low;
    }
