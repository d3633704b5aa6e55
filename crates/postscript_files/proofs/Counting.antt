-- How many glyphs a subset has.
use Rattle.std.proofs.Common.{◌≡◌, sym, ap, ◌∙◌, ℕ, List, Bool, true, false, length}
use Rattle.std.specs.Prelude.{Some}
use Rattle.std.proofs.lemmas.List.{length-map}
use Rattle.std.proofs.lemmas.List.FromFn.{length-range_with_len}
use Rattle.postscript_drawing.specs.Components.{glyphs_of}
use Rattle.postscript_view.specs.Contents.{View}
use Rattle.postscript_view.specs.Layout.{IsLaidOut}
use Rattle.postscript_write.specs.Components.{AreClosed}
use Rattle.postscript_write.specs.Glyphs.{Sources}
use Rattle.postscript_write.specs.Making.{IsFontBy}
use Rattle.postscript_write.specs.Sources.{choice_by, kept_of}
use Rattle.postscript_write.proofs.Drawings.{many-of}
use Rattle.postscript_write.proofs.Places.{keeping-many}
use Rattle.postscript_write.proofs.ReadAgain.{one_view}
use Rattle.postscript_files.specs.Origins.{AreOrigins}
use Rattle.postscript_files.specs.Subsets.{IsSubsetFont}
use Rattle.postscript_files.proofs.Same.{one-closed, same-kept}

many-made : (retain : Bool) (sources : Sources) (bytes : List ℕ) (old : View) (flat : List ℕ) (new : View) →
    IsFontBy retain sources bytes old flat new → length new.char_strings ≡ length sources
many-made true sources bytes old flat new h = h.made.many
many-made false sources bytes old flat new h = h.made.many

many-sources : (retain : Bool) (named cff origins closed : List ℕ) (old : View) → AreOrigins retain named cff origins →
    AreClosed cff named closed → IsLaidOut cff 0 old → length (choice_by retain closed (length old.char_strings)) ≡ length origins
many-sources true named cff origins closed old are h was =
    keeping-many closed (length old.char_strings) ∙ sym (many-of cff are.0 old are.1 was)
    ∙ sym (ap length are.2 ∙ length-range_with_len 0 (glyphs_of are.0))
many-sources false named cff origins closed old are h was =
    length-map (kept_of closed (length old.char_strings)) Some
    ∙ ap length (same-kept closed are.closed (one-closed cff named closed are.closed h are.are) (length old.char_strings))
    ∙ ap (λ n. length (kept_of are.closed n)) (sym (many-of cff are.are.font old are.are.opened was)) ∙ ap length (sym are.all)

-- the new font has a glyph for each origin
pub many-glyphs : (retain : Bool) (named cff flat origins : List ℕ) → IsSubsetFont retain named cff flat →
    AreOrigins retain named cff origins → (view : View) → IsLaidOut flat 0 view → length view.char_strings ≡ length origins
many-glyphs retain named cff flat origins font are view is =
    let h = font.written in
    ap (λ (v : View). length v.char_strings) (one_view flat h.written.new view h.written.is is)
    ∙ many-made retain (choice_by retain h.closed (length h.written.old.char_strings)) cff h.written.old flat h.written.new h.written.made
    ∙ many-sources retain named cff origins h.closed h.written.old are h.are h.written.was
