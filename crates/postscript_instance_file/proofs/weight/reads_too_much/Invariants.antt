use Rattle.std.proofs.Common.{◌≡◌, ℕ, ◌+◌, ◌*◌, ◌<◌, List, Some, length, slice_get}
use Rattle.postscript_cff2.specs.Shown.{view_shown}
use Rattle.postscript_instance_file.specs.Weights.{private_size}
use Rattle.postscript_instance_file.specs.declared.weight.TheConstants.{STEPS}
use Rattle.postscript_instance_file.proofs.weight.reads_too_much.Given as goal

-- the Font DICTs so far are short
abbrev pub invariant-loop-number : goal.invariant-loop-number
invariant-loop-number l =
    (number : ℕ) (dictionary : List ℕ) → number < l.number → slice_get (view_shown l.face.font).font_dictionaries number ≡ Some dictionary →
    STEPS < (private_size l.face.font.bytes.now dictionary + length dictionary) * l.face.glyphs → ⊥
