-- A font as it is seen.
use Rattle.std.proofs.Common.{◌≡◌, ap, ◌∙◌, ℕ, List, Some, slice_get}
use Rattle.std.specs.Prelude.{option_map}
use Rattle.std.proofs.lemmas.Option.{slice_get-map}
use Rattle.postscript_type2.specs.Program.Inlining.{KeepsMeaning}
use Rattle.postscript_type2.specs.Program.Routines.{Lists}
use Rattle.postscript_type2.specs.Program.Runs.{Run}
use Rattle.postscript_view.specs.Value.{view_shown, part_shown}
use Rattle.postscript_view.specs.declared.font.FontView.{FontView}
use Rattle.postscript_view.specs.declared.private_dict.PrivateDict.{PrivateDict}
use Rattle.postscript_write.specs.Glyphs.{DrawsAs}

pub shown_part : (font : FontView) (number : ℕ) (part : PrivateDict) → slice_get font.parts.items number ≡ Some part →
    slice_get (view_shown font).parts number ≡ Some (part_shown part)
shown_part font number part h = slice_get-map part_shown font.parts.items number ∙ ap (option_map part_shown) h

-- what keeps the meaning of a run draws what it draws
pub draws_as : (lists : Lists) (flat : List ℕ) (run : Run) → KeepsMeaning lists flat run → DrawsAs lists flat run
draws_as lists flat run h = record { answers = h.answers; width = h.width; taken = h.taken; faultless = h.faultless; no_calls = h.no_calls }
