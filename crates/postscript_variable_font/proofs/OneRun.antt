-- The charstring of a glyph at a place has one run.
use Rattle.std.proofs.Common.{◌≡◌, ap, sym, ◌∙◌, ℕ, List, Some, Vec}
use Rattle.std.specs.declared.alloc.Global.{Global}
use Rattle.postscript_cff2.specs.Parts as parts
use Rattle.postscript_cff2.specs.Shown.{view_shown}
use Rattle.postscript_cff2.proofs.OnePart as one_part
use Rattle.postscript_type2.specs.Program.Charstrings.{lists_of}
use Rattle.postscript_type2.specs.Program.Routines.{Lists, lent}
use Rattle.postscript_variable.specs.Evaluation.{run_of}
use Rattle.postscript_variable.specs.Programs.{font}
use Rattle.postscript_variable_font.specs.OneRun.{HasOneRun}

same-code : (a b : List ℕ) → Some a ≡ Some b → a ≡ b
same-code a b e = cc

pub law : HasOneRun
law f glyph place a b is_a is_b =
    let part : is_a.part ≡ is_b.part = one_part.one_part f.bytes.now (view_shown f) glyph is_a.part is_b.part is_a.has is_b.has in
    let code : a.code.now ≡ b.code.now = same-code a.code.now b.code.now (sym is_a.code ∙ is_b.code) in
    let lists : lists_of a.subroutines ≡ lists_of b.subroutines =
    is_a.subroutines ∙ ap (λ (p : parts.PrivateDict). lent (view_shown f).global_subroutines p.subroutines) part ∙ sym is_b.subroutines in
    let tables : a.blends.tables.now ≡ b.blends.tables.now = is_a.tables ∙ sym is_b.tables in
    let index : a.blends.index ≡ b.blends.index = is_a.index ∙ ap (λ (p : parts.PrivateDict). p.index) part ∙ sym is_b.index in
    ap (λ (l : Lists). run_of (font l a.blends.tables.now) a.blends.index a.code.now) lists
    ∙ ap (λ (t : List (Vec ℕ Global)). run_of (font (lists_of b.subroutines) t) a.blends.index a.code.now) tables
    ∙ ap (λ i. run_of (font (lists_of b.subroutines) b.blends.tables.now) i a.code.now) index
    ∙ ap (λ c. run_of (font (lists_of b.subroutines) b.blends.tables.now) b.blends.index c) code
