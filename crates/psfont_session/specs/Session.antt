-- A session: the lines of an input in order, and the reply to each.
use Rattle.std.specs.Prelude.{◌≡◌, ◌≢◌, ◌⊎◌, ℕ, List, [], ◌∷◌, ◌++◌, All, Option, Some, None, codes, flat_map}
use Rattle.std.specs.List.{FoldsTo}
use Rattle.std.specs.Io.KnownBytes.{Appends, Consumes, Keeps}
use Rattle.hex.specs.Hex.{decode_of}
use Rattle.psfont_session.specs.declared.command.Command.TheVariants.{Load, Run, Flat, Font}
use Rattle.psfont_session.specs.declared.command.Manner.{Manner}
use Rattle.psfont_session.specs.declared.command.Place.{Place}
use Rattle.psfont_session.specs.Command.{name_of}
use Rattle.psfont_session.specs.Line.{word_of, argument_of, IsBad}
use Rattle.psfont_session.specs.Loaded.{Loaded, put, Loads}
use Rattle.psfont_session.specs.Texts.{fault_line, loaded_line}
use Rattle.postscript_base.specs.declared.error.Error.TheVariants.{Memory}
use Rattle.psfont_session.specs.Limit.{IsUsedUp, KeepsToLimit, past_line}
use Rattle.psfont_session.specs.Output.{RunTold, FlatTold, FontTold}

-- the effect of a line on the loaded code and on the output
pub record LineTold (line : List ℕ) (old : Loaded) (before : Option (List ℕ)) (new : Loaded) (after : Option (List ℕ)) : Type 0 where
  pub puts : (place : Place) (bytes : List ℕ) → Loads line place bytes → new ≡ put place bytes old
  pub keeps : ((place : Place) (bytes : List ℕ) → Loads line place bytes → ⊥) → new ≡ old
  pub loaded : (place : Place) → word_of line ≡ name_of (Load place) → Appends before after (loaded_line (decode_of (argument_of line)))
  pub ran : word_of line ≡ name_of Run → argument_of line ≡ [] → RunTold old before after
  pub flattened : word_of line ≡ name_of Flat → argument_of line ≡ [] → FlatTold old before after
  pub shown : (manner : Manner) → word_of line ≡ name_of (Font manner) → FontTold manner (argument_of line) before after
  pub bad : IsBad line → line ≢ [] → Appends before after (codes "bad command\n")
  pub silent : line ≡ [] → Keeps before after

-- the line asks for a run of the code, or for its flattened code
abbrev pub AsksRun : List ℕ → Type 0
AsksRun line = ((word_of line ≡ name_of Run) ⊎ (word_of line ≡ name_of Flat)) × (argument_of line ≡ [])

-- The effect of a line within a limit. If it asks for a run that uses up the limit, the reply says so. If memory runs out for it, the reply
-- says that. Otherwise the run, if any, ends or fails within the limit, and the effect is the same as without a limit.
pub data ToldWithin (limit : ℕ) (line : List ℕ) (old : Loaded) (before : Option (List ℕ)) (new : Loaded)
    (after : Option (List ℕ)) : Type 0 where
  past : AsksRun line → IsUsedUp limit old → new ≡ old → Appends before after (past_line limit old.code) →
      ToldWithin limit line old before new after
  wanting : AsksRun line → new ≡ old → Appends before after (fault_line Memory) → ToldWithin limit line old before new after
  told : (AsksRun line → KeepsToLimit limit old) → LineTold line old before new after → ToldWithin limit line old before new after

abbrev pub LineToldWithin : (limit : Option ℕ) → List ℕ → Loaded → Option (List ℕ) → Loaded → Option (List ℕ) → Type 0
LineToldWithin None line old before new after = LineTold line old before new after
LineToldWithin (Some limit) line old before new after = ToldWithin limit line old before new after

-- the loaded code, and the output if it is known
pub record Talk : Type 0 where
  pub loaded : Loaded
  pub written : Option (List ℕ)

-- no code and no subroutine, before any reply
abbrev pub fresh : Option (List ℕ) → Talk
fresh written = record { loaded = record { code = []; global = []; local = [] }; written = written }

-- bytes without a line end
abbrev pub IsFree : List ℕ → Type 0
IsFree bytes = All (λ byte. byte ≢ 10) bytes

-- the text of a line that has its end, without one carriage return at its end, if there is one
abbrev pub IsText : List ℕ → List ℕ → Type 0
IsText line text = ((front : List ℕ) → line ≡ front ++ 13 ∷ [] → text ≡ front)
    × (((front : List ℕ) → line ≢ front ++ 13 ∷ []) → text ≡ line)

-- the reply to a line, before which the output may be flushed
abbrev pub Answered : (limit : Option ℕ) → Talk → List ℕ → Talk → Type 0
Answered limit old text new = (flushed : Option (List ℕ)) × Keeps old.written flushed
    × LineToldWithin limit text old.loaded flushed new.loaded new.written

-- the same for a line that has its end
abbrev pub AnsweredLine : (limit : Option ℕ) → Talk → List ℕ → Talk → Type 0
AnsweredLine limit old line new = (text : List ℕ) × IsFree line × IsText line text × Answered limit old text new

-- The input consists of these lines, each with its end, and an open line after them. Each complete line gets its reply in order.
pub record Heard (limit : Option ℕ) (input : List ℕ) (old : Talk) (open_line : List ℕ) (new : Talk) : Type 0 where
  pub lines : List (List ℕ)
  pub spelled : input ≡ flat_map (λ line. line ++ 10 ∷ []) lines ++ open_line
  pub free : IsFree open_line
  pub answered : FoldsTo (AnsweredLine limit) old lines new

-- Each line of the input gets its reply, and then the open line gets one, within a limit, if there is one.
abbrev pub SessionWithin : (limit : Option ℕ) → List ℕ → Option (List ℕ) → Option (List ℕ) → Type 0
SessionWithin limit input before after = (open_line : List ℕ) × (talk : Talk) × (last : Talk)
    × Heard limit input (fresh before) open_line talk
    × Answered limit talk open_line last × Keeps last.written after

abbrev pub Session : List ℕ → Option (List ℕ) → Option (List ℕ) → Type 0
Session input before after = SessionWithin None input before after
