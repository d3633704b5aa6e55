-- The run of what is written.
use Rattle.std.proofs.Common.{◌≡◌, refl, sym, subst, ℕ, suc, ◌+◌, ◌*◌, ◌%◌, ◌<◌, ◌≤◌, ℤ, Bool, true, IsTrue, ◌⊎◌, inl, inr, List, [], ◌∷◌, ◌++◌, length, length-append, map, replicate, Option, Some, None, Result, Ok, Err, IfErr, arith, pos}
use Rattle.std.proofs.lemmas.Bool.Decides.{nat_tests}
use Rattle.std.proofs.lemmas.List.{append-nil}
use Rattle.std.specs.Prelude.{IsErrAnd}
use Rattle.postscript_type2.specs.declared.operation.Operator.{Operator}
use Rattle.postscript_type2.specs.declared.operation.Operator.TheVariants.{EndChar}
use Rattle.postscript_type2.specs.Operation.Kinds.{Kind, Draws, DeclaresStems, Masks, Works, Stores, CallsFrom, GoesBack, EndsGlyph, IsRefused, kind}
use Rattle.postscript_type2.specs.Operation.Lengths.{exactly, groups}
use Rattle.postscript_type2.specs.Program.Phrases.{IsPhrase}
use Rattle.postscript_type2.specs.Program.Effects.{Clears, Ends, mask_len}
use Rattle.postscript_type2.specs.Program.States.{State, start, pushed}
use Rattle.postscript_type2.specs.Program.Meaning as rules
use Rattle.postscript_type2.specs.Program.Meaning.{Means, Moves}
use Rattle.postscript_type2.specs.Program.OperatorRules as does
use Rattle.postscript_type2.specs.Program.OperatorRules.{Does, TakesMost, IsSettled, StemsAfter, in_pairs}
use Rattle.postscript_type2.specs.Program.Routines.{Lists}
use Rattle.postscript_type2.specs.Program.Runs as runs
use Rattle.postscript_type2.specs.Program.Runs.{Finished, by}
use Rattle.postscript_type2.proofs.OperatorLaws as operators
use Rattle.postscript_variable.specs.declared.charstring.Charstring.{Charstring}
use Rattle.postscript_variable.specs.Told.{Says}
use Rattle.postscript_variable.specs.Defaults.{AreHeld}
use Rattle.postscript_variable.specs.Sayings.{Phrase}
use Rattle.postscript_instance.specs.Numbers.{numbers_text}
use Rattle.postscript_instance.specs.Private.{AreHeldIn, AreHeldOrCut, HasMoreUncut, IsUnwritten, IsWritten}
use Rattle.postscript_instance.specs.declared.error.Error.{Error}
use Rattle.postscript_instance.specs.declared.error.Error.TheVariants as errors
use Rattle.postscript_instance.specs.Refusals.{HasMore, NotWritten}
use Rattle.postscript_instance.specs.Statics.{AreSpelled, finish, one_more, answer_with, SaysSo, bears_width, BearsWidth, IsStaticOf}
use Rattle.postscript_instance.specs.Texts.{width_numbers, numbers_of, phrase_text, code_text}
use Rattle.postscript_instance.proofs.Cutting.{cut-sayable, cut-in-pieces, cut-fits, cut-bears, hints-more}
use Rattle.postscript_instance.proofs.Sayable.{SayableAs, IsSayable, AreSayable, more, mask-kind, stems-take, sayable}
use Rattle.postscript_instance.proofs.Spelling.{IsAnswered, endchar-spelled, phrase-spelled, said-spelled}

-- between two operators nothing is on the stack
abbrev at_stems : (stems : ℕ) → (width : Option (Option ℤ)) → State
at_stems stems width = record { stack = []; stems = stems; width = width; stored = replicate 32 (pos 0) }

-- where there is a width to be written, the operator may have one before its operands
abbrev Bears : Option ℤ → Operator → Type 0
Bears (Some width) op = bears_width op ≡ true
Bears None op = Unit {0}

answered-kind : (k : Kind) (stems after : ℕ) (x : Phrase) → SayableAs k stems x after → IsAnswered k
answered-kind k stems after x h = grind arith

-- no more than its operands is taken of a stack with the width beneath them
one-more-fails : (op : Operator) (takes : ℕ → Bool) (n : ℕ) → bears_width op ≡ true → kind op ≡ Draws takes → IsTrue (takes n) →
    ¬ IsTrue (takes (suc n))
one-more-fails op takes n bears k is = by (exact op takes bears k)
  where
    exact : (op : Operator) (takes : ℕ → Bool) → bears_width op ≡ true → kind op ≡ Draws takes → (takes ≡ exactly 1) ⊎ (takes ≡ exactly 2)
    exact op takes bears k = grind arith

    fails : (m n : ℕ) → IsTrue (exactly m n) → ¬ IsTrue (exactly m (suc n))
    fails m n is = grind (arith, nat_tests)

    by : (takes ≡ exactly 1) ⊎ (takes ≡ exactly 2) → ¬ IsTrue (takes (suc n))
    by (inl one) = subst (λ (t : ℕ → Bool). ¬ IsTrue (t (suc n))) (sym one) (fails 1 n (subst (λ (t : ℕ → Bool). IsTrue (t n)) one is))
    by (inr two) = subst (λ (t : ℕ → Bool). ¬ IsTrue (t (suc n))) (sym two) (fails 2 n (subst (λ (t : ℕ → Bool). IsTrue (t n)) two is))

two-more-fails : (op : Operator) (takes : ℕ → Bool) (n : ℕ) → kind op ≡ DeclaresStems takes → IsTrue (takes n) → ¬ IsTrue (takes (suc n))
two-more-fails op takes n k is =
    let twos = stems-take op takes k in
    subst (λ (t : ℕ → Bool). ¬ IsTrue (t (suc n))) (sym twos) (fails n (subst (λ (t : ℕ → Bool). IsTrue (t n)) twos is))
  where
    fails : (n : ℕ) → IsTrue (groups 2 n) → ¬ IsTrue (groups 2 (suc n))
    fails n is = grind (arith, nat_tests)

takes-most : (takes : ℕ → Bool) (width : Option ℤ) (operands : List ℤ) → IsTrue (takes (length operands)) →
    ((w : ℤ) → width ≡ Some w → ¬ IsTrue (takes (suc (length operands)))) →
    TakesMost takes (width_numbers width ++ operands) (width_numbers width) operands
takes-most takes None operands is never =
    record { parts = refl; allowed = is; longest = λ n above below. absurd (omega (arith, above, below)) }
takes-most takes (Some w) operands is never =
    record {
      parts =
          refl;
      allowed = is;
      longest = λ n above below. let same : n ≡ suc (length operands) = omega (arith, above, below) in
          subst (λ m. ¬ IsTrue (takes m)) (sym same) (never w refl);
    }

width-few : (width : Option ℤ) → length (width_numbers width) < 2
width-few None = omega arith
width-few (Some w) = omega arith

bears-width : (width : Option ℤ) (op : Operator) (w : ℤ) → Bears width op → width ≡ Some w → bears_width op ≡ true
bears-width (Some v) op w bears is = bears
bears-width None op w bears is = absurd (cc)

-- the stems of pairs above a width
stems-counted : (stems : ℕ) (before : Option (Option ℤ)) (write : Option ℤ) (pairs : List ℤ) (n after : ℕ) → length pairs ≡ n * 2 →
    after ≡ stems + n →
    StemsAfter (pushed (width_numbers write ++ pairs) (at_stems stems before)) after
stems-counted stems before write pairs n after twice is =
    let few = width-few write in
    let all = length-append (width_numbers write) pairs in
    rw is (in_pairs n (length (width_numbers write)) few (omega (arith, all, twice)))

-- an operator over what is written before it
step-as : (k : Kind) (lists : Lists) (x : Phrase) (behind : List ℕ) (stems after : ℕ) (before : Option (Option ℤ))
    (write width : Option ℤ) → kind x.operator ≡ k → SayableAs k stems x after →
    IsSettled before (width_numbers write) width → Bears write x.operator →
    Does lists x.operator (x.mask ++ behind) (pushed (numbers_of write x) (at_stems stems before))
    (Clears x.operands x.stems after width (length x.mask))
step-as (Draws takes) lists x behind stems after before write width k h settled bears =
    rw (h.0, h.1, h.3) (does.draws takes (width_numbers write) x.operands width k
    (takes-most takes write x.operands h.2
    (λ w is. one-more-fails x.operator takes (length x.operands) (bears-width write x.operator w bears is) k h.2)) settled)
step-as (DeclaresStems takes) lists x behind stems after before write width k h settled bears =
    let most = takes-most takes write x.operands h.2 (λ w is. two-more-fails x.operator takes (length x.operands) k h.2) in
    let counts = stems-counted stems before write x.operands h.4.0 after h.4.1 h.4.2 in
    rw (h.0, h.1) (does.declares takes (width_numbers write) x.operands width after k counts h.3 most settled)
step-as (Masks takes) lists x behind stems after before write width k h settled bears =
    let counts = stems-counted stems before write x.stems h.3.0 after h.3.1 h.3.2 in
    let few = width-few write in
    let pairs = h.3.1 in
    let whole : (n : ℕ) → length x.stems ≡ n * 2 → length x.stems % 2 ≡ 0 = λ n twice. omega (arith, twice) in
    let long : length (x.mask ++ behind) ≡ length x.mask + length behind = length-append x.mask behind in
    let room : mask_len after ≤ length (x.mask ++ behind) = omega (arith, long, h.1) in
    let does : Does lists x.operator (x.mask ++ behind) (pushed (width_numbers write ++ x.stems) (at_stems stems before))
    (Clears [] x.stems after width (mask_len after)) =
    does.masks (width_numbers write) x.stems width after (mask-kind x.operator takes k) counts h.2 room refl few
    (whole h.3.0 pairs) settled in
    let all : x.stems ++ [] ≡ x.stems = append-nil x.stems in
    rw (h.0, h.1, all) does
step-as (Works work) lists x behind stems after before write width k h settled bears = absurd h
step-as (Stores work) lists x behind stems after before write width k h settled bears = absurd h
step-as (CallsFrom routines) lists x behind stems after before write width k h settled bears = absurd h
step-as GoesBack lists x behind stems after before write width k h settled bears = absurd h
step-as EndsGlyph lists x behind stems after before write width k h settled bears = absurd h
step-as (IsRefused part) lists x behind stems after before write width k h settled bears = absurd h

moves : (lists : Lists) (x : Phrase) (behind : List ℕ) (stems after : ℕ) (before : Option (Option ℤ)) (write width : Option ℤ) →
    IsSayable stems x after → AreHeld (numbers_of write x) →
    IsSettled before (width_numbers write) width → Bears write x.operator →
    Moves lists (at_stems stems before) (phrase_text write x) (numbers_of write x) x.operator (x.mask ++ behind)
    (Clears x.operands x.stems after width (length x.mask))
moves lists x behind stems after before write width is held settled bears = record {
  spelled = said-spelled (numbers_of write x) x.operator held (answered-kind (kind x.operator) stems after x is);
  does =
      (operators.law lists x.operator (x.mask ++ behind) (pushed (numbers_of write x) (at_stems stems before))
      (Clears x.operands x.stems after width (length x.mask))).0
      (step-as (kind x.operator) lists x behind stems after before write width refl is settled bears);
}

-- what a code means, with the phrases of its run
record MeansSo (lists : Lists) (code : List ℕ) (st : State) (write width : Option ℤ) (xs : List Phrase) : Type 0 where
  trace : List runs.Phrase
  means : Means lists 0 code st (map (answer_with width) xs) trace (Finished [] width)
  spelled : AreSpelled write xs trace

first-bears : (write : Option ℤ) (x : Phrase) (xs : List Phrase) → BearsWidth write (x ∷ xs) → Bears write x.operator
first-bears None x xs h = tt
first-bears (Some w) x xs h = h

means-so : (lists : Lists) (xs : List Phrase) (stems after : ℕ) (before : Option (Option ℤ)) (write width : Option ℤ) →
    AreSayable stems xs after → AreHeldIn write xs →
    IsSettled before (width_numbers write) width → BearsWidth write xs → MeansSo lists (code_text write xs)
    (at_stems stems before) write width xs
means-so lists [] stems after before write width sayable held settled bears =
    let nums = width_numbers write in
    let phrase = numbers_text nums ++ 0x0e ∷ [] in
    let few = width-few write in
    let spelled : IsPhrase phrase nums EndChar = phrase-spelled nums (0x0e ∷ []) EndChar held endchar-spelled in
    let ends : Does lists EndChar [] (pushed nums (at_stems stems before)) (Ends [] width) = does.ends nums [] width refl
    (does.fewer nums (omega (arith, few))) settled in
    let moves : Moves lists (at_stems stems before) phrase nums EndChar []
    (Ends [] width) = record {
      spelled = spelled;
      does = (operators.law lists EndChar [] (pushed nums (at_stems stems before)) (Ends [] width)).0 ends;
    } in record {
      trace = by EndChar phrase ∷ [];
      means =
          subst (λ bytes. Means lists 0 bytes (at_stems stems before) [] (by EndChar phrase ∷ []) (Finished [] width)) (append-nil phrase)
          (rules.finishes 0 phrase [] nums EndChar (at_stems stems before) [] width (Finished [] width) moves (rules.in_outermost []));
      spelled = finish write phrase spelled;
    }
means-so lists (x ∷ xs) stems after before write width (more _ next _ _ _ is later) held settled bears =
    let rest = means-so lists xs next after (Some width) None width later held.1 (does.settled_before width []) tt in record {
      trace = by x.operator (phrase_text write x ++ x.mask) ∷ rest.trace;
      means =
          rules.clears 0 (phrase_text write x) x.mask (code_text None xs) (numbers_of write x) x.operator
          (at_stems stems before) x.operands x.stems next width _ _ _
          (moves lists x (code_text None xs) stems next before write width is held.0 settled (first-bears write x xs bears)) rest.means;
      spelled = one_more write x xs (phrase_text write x) rest.trace
          (said-spelled (numbers_of write x) x.operator held.0 (answered-kind (kind x.operator) stems next x is)) rest.spelled;
    }

settles : (write : Option ℤ) → IsSettled None (width_numbers write) write
settles None = does.nothing_beneath
settles (Some w) = does.operand_beneath [] w

-- the run of what is written, over any subroutines
pub says-so : (lists : Lists) (xs : List Phrase) (after : ℕ) (width : Option ℤ) (code : List ℕ) → code ≡ code_text width xs →
    AreSayable 0 xs after → AreHeldIn width xs → BearsWidth width xs →
    SaysSo lists code width xs
says-so lists xs after width code is sayable held bears =
    let h = means-so lists xs 0 after None width width sayable held (settles width) bears in record {
      run = record { answers = map (answer_with width) xs; trace = h.trace; end = Finished [] width };
      is = subst (λ bytes. Means lists 0 bytes start (map (answer_with width) xs) h.trace (Finished [] width)) (sym is) h.means;
      answers = refl;
      phrases = h.spelled;
      end = refl;
    }

-- and so what is written does what the charstring does
pub static-of : (charstring : Charstring) (width : Option ℤ) (code : List ℕ) (says : List Phrase) → Says charstring says →
    IsWritten width says [] code → AreHeldOrCut width says →
    BearsWidth width says → IsStaticOf charstring width code
static-of charstring width code says said is held bears =
    let after = said.last.stems in
    let all : AreSayable 0 says after = subst (λ ys. AreSayable 0 ys after) (sym said.all) (sayable said.run) in
    let again = cut-sayable is.cut 0 after all in
    let first = cut-bears width is.cut bears in record {
      says = says;
      said = said;
      written = is.written;
      in_pieces = cut-in-pieces is.cut 0 after all;
      does = λ lists. says-so lists is.written after width code is.text again is.held first;
      fits = cut-fits is.cut 0 after width all held bears;
      bears = first;
    }

-- what is not written for its numbers has hints with too many
too-many : (charstring : Charstring) (width : Option ℤ) (says : List Phrase) → Says charstring says → HasMoreUncut width says →
    HasMore width says
too-many charstring width says said many =
    let after = said.last.stems in
    hints-more many 0 after (subst (λ ys. AreSayable 0 ys after) (sym said.all) (sayable said.run))

unwritten : (charstring : Charstring) (width : Option ℤ) (says : List Phrase) (e : Error) → Says charstring says →
    IsUnwritten width says e → NotWritten charstring width e
unwritten charstring width says (errors.Font e) said is = subst (λ cause. NotWritten charstring width (errors.Font cause)) (sym is) tt
unwritten charstring width says errors.TooManyOperands said is = (says, said, too-many charstring width says said is)
unwritten charstring width says errors.NoMove said is = (says, said, is)
unwritten charstring width says e said is = absurd is

pub refused-on : {A : Type 0} (charstring : Charstring) (width : Option ℤ) (says : List Phrase) (r : Result A Error) (e : Error) →
    IsErrAnd r (λ x. x ≡ e) → Says charstring says →
    IsUnwritten width says e → IfErr r (λ x. NotWritten charstring width x)
refused-on charstring width says (Ok x) e same said is = absurd same
refused-on charstring width says (Err x) e same said is =
    subst (NotWritten charstring width) (sym same) (unwritten charstring width says e said is)
