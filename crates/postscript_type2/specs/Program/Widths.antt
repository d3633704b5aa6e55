-- The width of a glyph, over a whole run (Technical Note 5177, "Type 2 Charstring Organization").
use Rattle.std.specs.Prelude.{◌≡◌, ℕ, suc, ◌<◌, ℤ, ◌⊎◌, List, [], ◌++◌, Option, None, All}
use Rattle.postscript_type2.specs.declared.operation.Operator.{Operator}
use Rattle.postscript_type2.specs.Program.Effects.{Keeps, Clears, Calls, Ends}
use Rattle.postscript_type2.specs.Program.States.{State, start, stacked, holding}
use Rattle.postscript_type2.specs.Program.Meaning.{Moves, Means, IsRunOf}
use Rattle.postscript_type2.specs.Program.Routines.{Lists}
use Rattle.postscript_type2.specs.Program.Runs.{Phrase, End, UsedUp, Returned, Finished, Fault, Run, width_of}

-- The first operator that clears the stack or ends the glyph settles this width. It is at the front, after operators that do neither, in a
-- subroutine, or after a subroutine that has none.
pub data FirstSettles (lists : Lists) (width : Option ℤ) : (depth : ℕ) → (rest : List ℕ) → State → Type 0 where
  clears : (depth : ℕ) (phrase behind : List ℕ) (numbers : List ℤ) (op : Operator) (st : State) (taken pairs : List ℤ) (stems mask : ℕ) →
      Moves lists st phrase numbers op behind (Clears taken pairs stems width mask) → FirstSettles lists width depth (phrase ++ behind) st
  ends : (depth : ℕ) (phrase behind : List ℕ) (numbers : List ℤ) (op : Operator) (st : State) (taken : List ℤ) →
      Moves lists st phrase numbers op behind (Ends taken width) → FirstSettles lists width depth (phrase ++ behind) st
  behind_others : (depth : ℕ) (phrase behind : List ℕ) (numbers : List ℤ) (op : Operator) (st : State) (stack stored : List ℤ) →
      Moves lists st phrase numbers op behind (Keeps stack stored) → FirstSettles lists width depth behind (holding stack stored st) →
      FirstSettles lists width depth (phrase ++ behind) st
  in_subroutine : (depth : ℕ) (phrase behind : List ℕ) (numbers : List ℤ) (op : Operator) (st : State) (subroutine : List ℕ)
      (stack : List ℤ) →
      Moves lists st phrase numbers op behind (Calls subroutine stack) → depth < 10 →
      FirstSettles lists width (suc depth) subroutine (stacked stack st) →
      FirstSettles lists width depth (phrase ++ behind) st
  behind_subroutine : (depth : ℕ) (phrase behind : List ℕ) (numbers : List ℤ) (op : Operator) (st : State) (subroutine : List ℕ)
      (stack : List ℤ) (trace : List Phrase) (back : State) →
      Moves lists st phrase numbers op behind (Calls subroutine stack) → depth < 10 →
      Means lists (suc depth) subroutine (stacked stack st) [] trace (Returned back) →
      FirstSettles lists width depth behind back → FirstSettles lists width depth (phrase ++ behind) st

-- every operation has this width, and so has the end of the glyph
abbrev pub EndsWith : Option ℤ → End → Type 0
EndsWith width (Finished taken last) = last ≡ width
EndsWith width (Returned st) = Unit {0}
EndsWith width UsedUp = Unit {0}
EndsWith width (Fault e) = Unit {0}

pub record HasWidth (run : Run) (width : Option ℤ) : Type 0 where
  pub answers : All (λ answer. answer.width ≡ width) run.answers
  pub end : EndsWith width run.end

-- the glyph was not finished
abbrev pub NeverFinished : End → Type 0
NeverFinished (Finished taken last) = ⊥
NeverFinished (Returned st) = Unit {0}
NeverFinished UsedUp = Unit {0}
NeverFinished (Fault e) = Unit {0}

-- there is no operation, and the glyph was not finished
pub record HasNoWidth (run : Run) : Type 0 where
  pub answers : run.answers ≡ []
  pub end : NeverFinished run.end

-- A law: the first such operator settles the width of a run, and each operation and the end of the glyph have it. If there is no operation
-- and the glyph was not finished, there is no width.
abbrev pub WidthIsSettledOnce : Type 0
WidthIsSettledOnce = (lists : Lists) (code : List ℕ) (run : Run) → IsRunOf lists code run →
    (FirstSettles lists (width_of run) 0 code start × HasWidth run (width_of run)) ⊎ (HasNoWidth run × (width_of run ≡ None))
