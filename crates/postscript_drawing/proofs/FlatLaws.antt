-- Outlines of flat code.
use Rattle.std.proofs.Common.{◌≡◌, refl, sym, ap, ◌∙◌, List, None, Result, Ok, Err}
use Rattle.postscript_base.specs.Refusal.{Refusal}
use Rattle.postscript_drawing.specs.Drawing.{Drawing, ◌>>=◌, blank, closed}
use Rattle.postscript_drawing.specs.Flat.{FlatTextDrawsTheSame, InlinedTextDrawsTheSame}
use Rattle.postscript_drawing.specs.Outline.{drawing_of, finished, outline_of, outlined}
use Rattle.postscript_type2.specs.Program.Evaluation.{run_of}
use Rattle.postscript_type2.specs.Program.Flat.{flat_text}
use Rattle.postscript_type2.specs.Program.Inlined.{inlined_text}
use Rattle.postscript_type2.specs.Program.InlinedLaws.{InlinedTextKeepsMeaning}
use Rattle.postscript_type2.specs.Program.Inlining.{FlatTextKeepsMeaning}
use Rattle.postscript_type2.specs.Program.Runs.{Answer, End, Fault, Finished, Returned, Run, UsedUp, fault_of}

-- an end without fault ends the contour, whichever it is
faultless-finished : (end : End) → fault_of end ≡ None → (d : Drawing) → finished end d ≡ Ok (closed d).segments
faultless-finished (Fault e) not d = cc
faultless-finished UsedUp not d = refl
faultless-finished (Returned st) not d = refl
faultless-finished (Finished taken width) not d = refl

after-drawing : (r : Result Drawing Refusal) (this that : End) → fault_of this ≡ None → fault_of that ≡ None →
    r >>= finished this ≡ r >>= finished that
after-drawing (Ok d) this that h k = faultless-finished this h d ∙ sym (faultless-finished that k d)
after-drawing (Err e) this that h k = refl

same-outline : (run other : Run) → run.answers ≡ other.answers → fault_of run.end ≡ None → fault_of other.end ≡ None →
    outline_of run ≡ outline_of other
same-outline run other same h k =
    after-drawing (drawing_of run.answers blank) run.end other.end h k ∙ ap (λ (answers : List Answer). outlined answers other.end) same

pub flat-draws-the-same : FlatTextKeepsMeaning → FlatTextDrawsTheSame
flat-draws-the-same keeps lists other code faultless =
    let kept = keeps lists other code faultless in
    record {
      outline =
          same-outline (run_of other (flat_text (run_of lists code).trace)) (run_of lists code) kept.answers kept.faultless faultless;
      width = kept.width;
    }

pub inlined-draws-the-same : InlinedTextKeepsMeaning → InlinedTextDrawsTheSame
inlined-draws-the-same keeps lists other code faultless =
    let kept = keeps lists other code faultless in
    record {
      outline =
          same-outline (run_of other (inlined_text (run_of lists code).trace)) (run_of lists code) kept.answers kept.faultless faultless;
      width = kept.width;
    }
