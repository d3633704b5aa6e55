-- Operands and hints of operations, one behind another.
use Rattle.std.proofs.Common.{◌≡◌, refl, sym, ap, ◌∙◌, ℕ, ◌+◌, ◌-◌, ◌≤◌, ℤ, pos, List, [], ◌∷◌, ◌++◌, length, map, take, drop, arith}
use Rattle.std.proofs.lemmas.List.{append_assoc, append-nil, drop-append-le, drop_at, length-append, length-drop, length-map, map-append, take-append-le}
use Rattle.std.proofs.Math.Seq.{take-append_seam}
use Rattle.std.specs.Prelude.{Some}
use Rattle.postscript_c.specs.Operations.{AllLieIn, LiesIn, Row, row_of, slice, answered, held}
use Rattle.postscript_c.specs.declared.operations.PsfOperation.{PsfOperation}
use Rattle.postscript_type2.specs.Operation.Operators.{operator_of}
use Rattle.postscript_type2.specs.Program.Runs.{Answer}

-- those of an earlier operation stay its own
stays : (xs ys : List ℤ) (place count : ℕ) → place + count ≤ length xs → slice place count (xs ++ ys) ≡ slice place count xs
stays xs ys place count there =
    let same : length (drop place xs) ≡ length xs - place = length-drop place xs in
    ap (take count) (drop-append-le place xs ys (omega (arith, there)))
    ∙ take-append-le count (drop place xs) ys (omega (arith, there, same))

held_more : (xs ys : List ℤ) (row : PsfOperation) → LiesIn xs row → held (xs ++ ys) row ≡ held xs row
held_more xs ys row theirs =
    let op = operator_of row.operator in
    let second = row.first + row.count in
    let third = row.first + row.count + row.stems in
    ap (λ own. row_of op own (slice second row.stems (xs ++ ys)) (slice third row.mask (xs ++ ys)))
    (stays xs ys row.first row.count (omega (arith, theirs)))
    ∙ ap (λ own. row_of op (slice row.first row.count xs) own (slice third row.mask (xs ++ ys)))
    (stays xs ys second row.stems (omega (arith, theirs)))
    ∙ ap (λ own. row_of op (slice row.first row.count xs) (slice second row.stems xs) own)
    (stays xs ys third row.mask (omega (arith, theirs)))

rows_more : (xs ys : List ℤ) (rows : List PsfOperation) → AllLieIn xs rows → map (held (xs ++ ys)) rows ≡ map (held xs) rows
rows_more xs ys [] theirs = refl
rows_more xs ys (row ∷ rows) theirs =
    ap (λ first. first ∷ map (held (xs ++ ys)) rows) (held_more xs ys row theirs.0)
    ∙ ap (λ others. held xs row ∷ others) (rows_more xs ys rows theirs.1)

-- numbers between others
between : (xs ys zs : List ℤ) (place count : ℕ) → place ≡ length xs → count ≡ length ys → slice place count (xs ++ (ys ++ zs)) ≡ ys
between xs ys zs place count at long =
    ap (take count) (drop_at xs (ys ++ zs) place (sym at)) ∙ ap (λ n. take n (ys ++ zs)) long ∙ take-append_seam ys zs

-- the numbers of the last one: its operands, the stems, and the mask
pub record Last (ys ss : List ℤ) (ms : List ℕ) (code : ℕ) (answer : Answer) : Type 0 where
  pub named : operator_of code ≡ Some answer.operator
  pub operands : ys ≡ answer.operands
  pub stems : ss ≡ answer.hints.stems
  pub mask : ms ≡ answer.hints.mask

-- its row, behind these numbers
abbrev pub last_row : (xs ys ss : List ℤ) (ms : List ℕ) (code : ℕ) → PsfOperation
last_row xs ys ss ms code = record { first = length xs; count = length ys; stems = length ss; mask = length ms; operator = code }

-- these are the last
abbrev pub all_of : (xs ys ss : List ℤ) (ms : List ℕ) → List ℤ
all_of xs ys ss ms = xs ++ (ys ++ (ss ++ map pos ms))

held_last : (xs ys ss : List ℤ) (ms : List ℕ) (code : ℕ) (answer : Answer) → Last ys ss ms code answer → held (all_of xs ys ss ms)
    (last_row xs ys ss ms code) ≡ answered answer
held_last xs ys ss ms code answer last =
    let all = all_of xs ys ss ms in
    let second = length xs + length ys in
    let third = length xs + length ys + length ss in
    let two : all ≡ (xs ++ ys) ++ (ss ++ map pos ms) = sym (append_assoc xs ys (ss ++ map pos ms)) in
    let three : all ≡ ((xs ++ ys) ++ ss) ++ (map pos ms ++ []) =
    two ∙ sym (append_assoc (xs ++ ys) ss (map pos ms)) ∙ ap (λ m. ((xs ++ ys) ++ ss) ++ m) (sym (append-nil (map pos ms))) in
    let long : length (xs ++ ys) ≡ second = length-append xs ys in
    let longer : length ((xs ++ ys) ++ ss) ≡ length (xs ++ ys) + length ss = length-append (xs ++ ys) ss in
    let own : slice (length xs) (length ys) all ≡ answer.operands = between xs ys (ss ++ map pos ms) (length xs) (length ys) refl refl
    ∙ last.operands in
    let stems : slice second (length ss) all ≡ answer.hints.stems =
    ap (slice second (length ss)) two ∙ between (xs ++ ys) ss (map pos ms) second (length ss) (sym long) refl ∙ last.stems in
    let mask : slice third (length ms) all ≡ map pos answer.hints.mask =
    ap (slice third (length ms)) three
    ∙ between ((xs ++ ys) ++ ss) (map pos ms) [] third (length ms) (omega (arith, long, longer)) (sym (length-map ms pos))
    ∙ ap (map pos) last.mask in
    ap (λ op. row_of op (slice (length xs) (length ys) all) (slice second (length ss) all) (slice third (length ms) all)) last.named
    ∙ ap (λ o. row_of (Some answer.operator) o (slice second (length ss) all) (slice third (length ms) all)) own
    ∙ ap (λ o. row_of (Some answer.operator) answer.operands o (slice third (length ms) all)) stems
    ∙ ap (λ o. row_of (Some answer.operator) answer.operands answer.hints.stems o) mask

-- one operation more is listed, and one fewer is left
pub one_more : (xs ys ss : List ℤ) (ms : List ℕ) (rows : List PsfOperation) (code : ℕ) (answer : Answer) (rest answers : List Answer)
    (all : List Row)
    → Last ys ss ms code answer → answers ≡ answer ∷ rest → AllLieIn xs rows → map (held xs) rows ++ map answered answers ≡ all
    → map (held (all_of xs ys ss ms)) (rows ++ last_row xs ys ss ms code ∷ []) ++ map answered rest ≡ all
one_more xs ys ss ms rows code answer rest answers all last left theirs whole =
    let row = last_row xs ys ss ms code in
    let new = ys ++ (ss ++ map pos ms) in
    let before : List Row = map (held xs) rows in
    ap (λ listed. listed ++ map answered rest)
    (map-append (held (xs ++ new)) rows (row ∷ []) ∙ ap (λ listed. listed ++ held (xs ++ new) row ∷ []) (rows_more xs new rows theirs)
    ∙ ap (λ last. before ++ last ∷ []) (held_last xs ys ss ms code answer last))
    ∙ append_assoc before (answered answer ∷ []) (map answered rest) ∙ ap (λ left. before ++ map answered left) (sym left) ∙ whole

pub theirs_too : (xs ys ss : List ℤ) (ms : List ℕ) (rows : List PsfOperation) (code : ℕ) → AllLieIn xs rows →
    AllLieIn (all_of xs ys ss ms) (rows ++ last_row xs ys ss ms code ∷ [])
theirs_too xs ys ss ms [] code theirs = (
  omega (
    arith,
    length-append xs (ys ++ (ss ++ map pos ms)),
    length-append ys (ss ++ map pos ms),
    length-append ss (map pos ms),
    length-map ms pos,
  ),
  tt,
)
theirs_too xs ys ss ms (row ∷ rows) code theirs =
    (omega (arith, theirs.0, length-append xs (ys ++ (ss ++ map pos ms))), theirs_too xs ys ss ms rows code theirs.1)
