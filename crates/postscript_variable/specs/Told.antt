-- The operations of a charstring in full, along its run by the rules.
use Rattle.std.specs.Prelude.{◌≡◌, ℕ, List, [], ◌∷◌, ◌++◌, map}
use Rattle.postscript_base.specs.Refusal.{Refusal}
use Rattle.postscript_type2.specs.Program.Runs.{Answer}
use Rattle.postscript_variable.specs.declared.charstring.Charstring.{Charstring}
use Rattle.postscript_variable.specs.declared.sayings.Saying.{Saying}
use Rattle.postscript_variable.specs.Charstrings.{IsRunFrom}
use Rattle.postscript_variable.specs.State.{Font, State}
use Rattle.postscript_variable.specs.Evaluation.{run_of}
use Rattle.postscript_variable.specs.Meaning as rules
use Rattle.postscript_variable.specs.Meaning.{answer, End, Means, IsRunOf}
use Rattle.postscript_variable.specs.Sayings.{Phrase, said}

-- Each operator that clears the stack gives an operation. A call gives the operations of its subroutine, and then the rest of the run
-- follows.
abbrev pub told : {font : Font} {depth : ℕ} {rest : List ℕ} {st : State} {answers : List Answer} {end : End} →
    Means font depth rest st answers end → List Phrase
told (rules.used_up depth st) = []
told (rules.number depth spelling behind x st answers end is room later) = told later
told (rules.no_room depth spelling behind x st is full) = []
told (rules.unread depth rest st e none) = []
told (rules.refused depth spelling behind command st e moves) = []
told (rules.keeps depth spelling behind command st after answers end moves later) = told later
told (rules.clears depth spelling mask behind command op st after taken answers end moves later) = said op st.stack taken mask ∷ told later
told (rules.calls_too_deep depth spelling behind command st after routine moves deep) = []
told (rules.calls depth spelling behind command st after back routine inner answers end moves room within later) = told within ++ told later
told (rules.calls_to_stop depth spelling behind command st after routine inner e moves room within) = told within

-- an operation in full, without the hints of a mask
abbrev pub answer_of : Phrase → Answer
answer_of x = answer x.operator x.operands

-- Laws of the definitions. The operations in full along a run are the computed ones, so there is only one list of them. Without the hints
-- of masks, they are the operations of the run.
abbrev pub ToldIsComputed : Type 0
ToldIsComputed = (font : Font) (index : ℕ) (code : List ℕ) (answers : List Answer) (end : End) (run : IsRunOf font index code answers end) →
    (run_of font index code).says ≡ told run

abbrev pub ToldIsAnswered : Type 0
ToldIsAnswered = (font : Font) (index : ℕ) (code : List ℕ) (answers : List Answer) (end : End) (run : IsRunOf font index code answers end) →
    answers ≡ map answer_of (told run)

-- an operation in full, converted for the specification
abbrev pub said_of : Saying → Phrase
said_of saying = record {
  operator = saying.operator;
  stems = saying.stems.items;
  operands = saying.operands.items;
  mask = saying.mask.now;
}

-- all operations of a charstring whose run ends without a fault
pub record Says (charstring : Charstring) (says : List Phrase) : Type 0 where
  pub answers : List Answer
  pub last : State
  pub run : IsRunFrom charstring answers (rules.UsedUp last)
  pub all : says ≡ told run

-- the run of a charstring ends with an error
abbrev pub StopsWith : Charstring → Refusal → Type 0
StopsWith charstring e = (answers : List Answer) × IsRunFrom charstring answers (rules.Stopped e)
