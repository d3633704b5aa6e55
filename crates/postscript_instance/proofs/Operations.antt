-- The operations of a static code are those of the charstring, in pieces, and draw the same.
use Rattle.std.proofs.Common.{◌≡◌, refl, ap, sym, subst, ◌∙◌, ℕ, ◌≤◌, ℤ, List, [], ◌∷◌, ◌++◌, length, map, append_assoc, Option, Result, Ok, Err, All, arith}
use Rattle.std.proofs.lemmas.List.Elements.{All-nil, All-cons, All-head, All-tail}
use Rattle.postscript_base.specs.Refusal.{Refusal}
use Rattle.postscript_drawing.specs.Drawing.{Drawing, ◌>>=◌, blank_at, drawing}
use Rattle.postscript_drawing.specs.Operators.{strokes}
use Rattle.postscript_drawing.specs.Outline.{drawing_of, finished}
use Rattle.postscript_drawing.proofs.GivenLaws.{drawing-append}
use Rattle.postscript_type2.specs.declared.operation.Operator.{Operator}
use Rattle.postscript_type2.specs.Program.Runs as runs
use Rattle.postscript_type2.specs.Program.Runs.{Answer, Finished, Run, operation}
use Rattle.postscript_type2.specs.Program.Meaning.{IsRunOf}
use Rattle.postscript_type2.specs.Program.Routines.{Lists}
use Rattle.postscript_type2.proofs.MeaningLaws as means
use Rattle.postscript_variable.specs.declared.charstring.Charstring.{Charstring}
use Rattle.postscript_variable.specs.Meaning.{End, UsedUp}
use Rattle.postscript_variable.specs.Programs.{end_of}
use Rattle.postscript_variable.specs.Sayings.{Phrase}
use Rattle.postscript_variable.specs.Told.{answer_of}
use Rattle.postscript_variable.proofs.MeaningLaws as varied
use Rattle.postscript_variable.proofs.SaysLaws as says
use Rattle.postscript_variable.specs.Charstrings.{font_from, IsRunFrom}
use Rattle.postscript_instance.specs.Laws.{operation_of, OperationsStay, OutlinesStay}
use Rattle.postscript_instance.specs.Pieces.{strokes_of, AreInPieces, nothing, as_it_is, in_pieces}
use Rattle.postscript_instance.specs.Statics.{answer_with, IsStaticOf}

-- what is answered of what is said, whatever the width
operations-with : (width : Option ℤ) (xs : List Phrase) → map operation (map (answer_with width) xs) ≡ map operation_of xs
operations-with width [] = refl
operations-with width (x ∷ xs) = ap (λ ys. operation_of x ∷ ys) (operations-with width xs)

operations-of : (xs : List Phrase) → map operation (map answer_of xs) ≡ map operation_of xs
operations-of [] = refl
operations-of (x ∷ xs) = ap (λ ys. operation_of x ∷ ys) (operations-of xs)

all-widths : (width : Option ℤ) (xs : List Phrase) → All (λ answer. answer.width ≡ width) (map (answer_with width) xs)
all-widths width [] = All-nil (λ answer. answer.width ≡ width)
all-widths width (x ∷ xs) =
    All-cons (λ answer. answer.width ≡ width) (answer_with width x) (map (answer_with width) xs) refl (all-widths width xs)

-- where nothing has more operands than a stack holds, nothing is in pieces
abbrev IsFew : Answer → Type 0
IsFew answer = length answer.operands ≤ 48

not-in-pieces : {xs ys : List Phrase} → AreInPieces xs ys → All IsFew (map answer_of xs) → ys ≡ xs
not-in-pieces nothing few = refl
not-in-pieces (as_it_is x xs ys rest) few = ap (λ zs. x ∷ zs) (not-in-pieces rest (All-tail IsFew (answer_of x) (map answer_of xs) few))
not-in-pieces (in_pieces x pieces xs ys many is rest) few =
    let here = All-head IsFew (answer_of x) (map answer_of xs) few in absurd (omega (arith, many, here))

-- what the run of a static code answers, and what the charstring's does
answered : (charstring : Charstring) (width : Option ℤ) (code : List ℕ) (static : IsStaticOf charstring width code) (lists : Lists)
    (run : Run) → IsRunOf lists code run →
    (run.answers ≡ map (answer_with width) static.written) × (run.end ≡ Finished [] width)
answered charstring width code static lists run is =
    let does = static.does lists in
    let same : run ≡ does.run = sym ((means.runs lists code run).0 is) ∙ (means.runs lists code does.run).0 does.is in
    (ap (λ (r : Run). r.answers) same ∙ does.answers, ap (λ (r : Run). r.end) same ∙ does.end)

varied-answered : (charstring : Charstring) (width : Option ℤ) (code : List ℕ) (static : IsStaticOf charstring width code)
    (answers : List Answer) (end : End) → IsRunFrom charstring answers end →
    (answers ≡ map answer_of static.says) × (end ≡ UsedUp static.said.last)
varied-answered charstring width code static answers end varies =
    let font = font_from charstring in
    let index = charstring.blends.index in
    let bytes = charstring.code.now in
    let said = static.said in
    let first = varied.no-other font index bytes answers said.answers end _ varies said.run in
    let told = says.answered font index bytes said.answers _ said.run in
    (first.0 ∙ told ∙ ap (map answer_of) (sym said.all), first.1)

pub law : OperationsStay
law charstring width code static answers end varies lists run is =
    let answered = answered charstring width code static lists run is in
    let whole = (varied-answered charstring width code static answers end varies).0 in
    let these : map operation answers ≡ map operation_of static.says = ap (map operation) whole ∙ operations-of static.says in
    let parts : map operation run.answers ≡ map operation_of static.written = ap (map operation) answered.0
    ∙ operations-with width static.written in (
      record {
        says = static.says;
        written = static.written;
        in_pieces = static.in_pieces;
        whole = these;
        parts = parts;
        same = λ few. parts ∙ ap (map operation_of) (not-in-pieces static.in_pieces (subst (All IsFew) whole few)) ∙ sym these;
      },
      subst (All (λ answer. answer.width ≡ width)) (sym answered.0) (all-widths width static.written),
      answered.1,
    )

-- the strokes of all that is said are those of the pieces
strokes-append : (xs ys : List Phrase) → strokes_of (xs ++ ys) ≡ strokes_of xs ++ strokes_of ys
strokes-append [] ys = refl
strokes-append (x ∷ xs) ys =
    let here = strokes x.operator x.operands in
    ap (λ ss. here ++ ss) (strokes-append xs ys) ∙ sym (append_assoc here (strokes_of xs) (strokes_of ys))

pub same-strokes : {xs ys : List Phrase} → AreInPieces xs ys → strokes_of ys ≡ strokes_of xs
same-strokes nothing = refl
same-strokes (as_it_is x xs ys rest) = ap (λ ss. strokes x.operator x.operands ++ ss) (same-strokes rest)
same-strokes (in_pieces x pieces xs ys many is rest) =
    strokes-append pieces ys ∙ ap (λ ss. ss ++ strokes_of ys) is.same ∙ ap (λ ss. strokes x.operator x.operands ++ ss) (same-strokes rest)

-- answers are drawn by their strokes
same-next : (r : Result Drawing Refusal) (f g : Drawing → Result Drawing Refusal) → ((d : Drawing) → f d ≡ g d) → r >>= f ≡ r >>= g
same-next (Ok d) f g same = same d
same-next (Err e) f g same = refl

pub drawn-with : (f : Phrase → Answer) → ((x : Phrase) → operation (f x) ≡ operation_of x) → (xs : List Phrase) (d : Drawing) →
    drawing_of (map f xs) d ≡ drawing (strokes_of xs) d
drawn-with f same [] d = refl
drawn-with f same (x ∷ xs) d =
    let here : strokes (f x).operator (f x).operands ≡ strokes x.operator x.operands = ap (λ (o : Operator × List ℤ). strokes o.0 o.1)
    (same x) in
    ap (λ ss. drawing ss d >>= drawing_of (map f xs)) here
    ∙ same-next (drawing (strokes x.operator x.operands) d) (drawing_of (map f xs)) (drawing (strokes_of xs)) (drawn-with f same xs)
    ∙ sym (drawing-append (strokes x.operator x.operands) (strokes_of xs) d)

pub outlines : OutlinesStay
outlines charstring width code static answers end varies lists run is origin =
    let written = answered charstring width code static lists run is in
    let whole = varied-answered charstring width code static answers end varies in
    let blank = blank_at origin in
    let drawn : drawing_of run.answers blank ≡ drawing_of answers blank =
    ap (λ (xs : List Answer). drawing_of xs blank) written.0 ∙ drawn-with (answer_with width) (λ x. refl) static.written blank
    ∙ ap (λ ss. drawing ss blank) (same-strokes static.in_pieces) ∙ sym (drawn-with answer_of (λ x. refl) static.says blank)
    ∙ ap (λ (xs : List Answer). drawing_of xs blank) (sym whole.0) in
    ap (λ e. drawing_of run.answers blank >>= finished e) written.1 ∙ ap (λ r. r >>= finished runs.UsedUp) drawn
    ∙ ap (λ (e : End). drawing_of answers blank >>= finished (end_of e)) (sym whole.1)
