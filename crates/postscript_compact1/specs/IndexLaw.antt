-- An INDEX, defined without a parser: slices of one list of bytes (Technical Note 5176, "INDEX Data").
use Rattle.std.specs.Prelude.{◌≡◌, ◌⊎◌, ℕ, List}
use Rattle.postscript_base.specs.Refusal.{Refusal, unexpected_eof, malformed_offset, malformed_index}
use Rattle.postscript_base.specs.Tape.At.{NeedsBytes}
use Rattle.postscript_base.specs.Tape.Onward.{TakesBytes}
use Rattle.postscript_base.specs.Tape.Outcome.{Got, Fault}
use Rattle.postscript_compact1.specs.Index.{Index, index}
use Rattle.postscript_compact1.specs.IndexCauses.{IsNoIndex}
use Rattle.postscript_compact1.specs.IndexAt.{IsWhole, IsIndex}

-- A law: reading returns an INDEX exactly if it is there, with the offset after it. It fails exactly for one of the causes in `IsNoIndex`.
-- Past the end it fails because the input ends early.
pub record ReadsIndices : Type 0 where
  pub all : (bytes : List ℕ) (place : ℕ) (i : Index) (next : ℕ) → IsIndex bytes place i next → index bytes place ≡ Got i next
  pub only : (bytes : List ℕ) (place : ℕ) (i : Index) (next : ℕ) → index bytes place ≡ Got i next → IsIndex bytes place i next
  pub whole : (bytes : List ℕ) (place : ℕ) (i : Index) (next : ℕ) → index bytes place ≡ Got i next → IsWhole i
  pub refusals : (bytes : List ℕ) (place : ℕ) (refusal : Refusal) → index bytes place ≡ Fault refusal → (refusal ≡ unexpected_eof)
      ⊎ ((refusal ≡ malformed_offset) ⊎ (refusal ≡ malformed_index))
  pub refused : (bytes : List ℕ) (place : ℕ) (refusal : Refusal) → IsNoIndex bytes place refusal → index bytes place ≡ Fault refusal
  pub refused_only : (bytes : List ℕ) (place : ℕ) (refusal : Refusal) → index bytes place ≡ Fault refusal → IsNoIndex bytes place refusal
  pub takes : TakesBytes index
  pub needs : NeedsBytes index
