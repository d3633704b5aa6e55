-- A charset, defined without a parser: SIDs or ranges, one after the other (Technical Note 5176, "Charsets").
use Rattle.std.specs.Prelude.{◌≡◌, ◌≢◌, ℕ, List}
use Rattle.postscript_base.specs.Refusal.{Refusal}
use Rattle.postscript_base.specs.Tape.Outcome.{Got, Fault, Past}
use Rattle.postscript_compact1.specs.CharSets.{char_set, char_set_0, char_set_1, char_set_2}
use Rattle.postscript_compact1.specs.CharSets.Formats.{Listed, Covered}
use Rattle.postscript_compact1.specs.declared.char_set.CharSet.{CharSet}
use Rattle.postscript_compact1.specs.declared.char_set.range.Range1.{Range1}
use Rattle.postscript_compact1.specs.declared.char_set.range.Range2.{Range2}
use Rattle.postscript_compact1.specs.CharSetCauses.{NoCharSet, NoCharSet0, NoCharSet1, NoCharSet2}
use Rattle.postscript_compact1.specs.CharSetAt.{ListsGlyphs, CoversGlyphs1, CoversGlyphs2, IsCharSet}

-- A law: reading returns a charset exactly if it is there, with the offset after it. It fails exactly for one of the causes in `NoCharSet`.
-- It never seeks past the end. The same is true for each single format.
pub record ReadsCharSets : Type 0 where
  pub all : (glyphs : ℕ) (bytes : List ℕ) (place : ℕ) (set : CharSet) (next : ℕ) → IsCharSet bytes place glyphs set next →
      char_set glyphs bytes place ≡ Got set next
  pub only : (glyphs : ℕ) (bytes : List ℕ) (place : ℕ) (set : CharSet) (next : ℕ) → char_set glyphs bytes place ≡ Got set next →
      IsCharSet bytes place glyphs set next
  pub why : (glyphs : ℕ) (bytes : List ℕ) (place : ℕ) (refusal : Refusal) → char_set glyphs bytes place ≡ Fault refusal →
      NoCharSet bytes place glyphs refusal
  pub refused : (glyphs : ℕ) (bytes : List ℕ) (place : ℕ) (refusal : Refusal) → NoCharSet bytes place glyphs refusal →
      char_set glyphs bytes place ≡ Fault refusal
  pub never_past : (glyphs : ℕ) (bytes : List ℕ) (place : ℕ) → char_set glyphs bytes place ≢ Past
  pub all_0 : (glyphs : ℕ) (bytes : List ℕ) (place : ℕ) (set : Listed) (next : ℕ) → ListsGlyphs bytes place glyphs set next →
      char_set_0 glyphs bytes place ≡ Got set next
  pub only_0 : (glyphs : ℕ) (bytes : List ℕ) (place : ℕ) (set : Listed) (next : ℕ) → char_set_0 glyphs bytes place ≡ Got set next →
      ListsGlyphs bytes place glyphs set next
  pub all_1 : (glyphs : ℕ) (bytes : List ℕ) (place : ℕ) (set : Covered Range1) (next : ℕ) → CoversGlyphs1 bytes place glyphs set next →
      char_set_1 glyphs bytes place ≡ Got set next
  pub only_1 : (glyphs : ℕ) (bytes : List ℕ) (place : ℕ) (set : Covered Range1) (next : ℕ) →
      char_set_1 glyphs bytes place ≡ Got set next → CoversGlyphs1 bytes place glyphs set next
  pub all_2 : (glyphs : ℕ) (bytes : List ℕ) (place : ℕ) (set : Covered Range2) (next : ℕ) → CoversGlyphs2 bytes place glyphs set next →
      char_set_2 glyphs bytes place ≡ Got set next
  pub only_2 : (glyphs : ℕ) (bytes : List ℕ) (place : ℕ) (set : Covered Range2) (next : ℕ) →
      char_set_2 glyphs bytes place ≡ Got set next → CoversGlyphs2 bytes place glyphs set next
  pub why_0 : (glyphs : ℕ) (bytes : List ℕ) (place : ℕ) (refusal : Refusal) → char_set_0 glyphs bytes place ≡ Fault refusal →
      NoCharSet0 bytes place glyphs refusal
  pub refused_0 : (glyphs : ℕ) (bytes : List ℕ) (place : ℕ) (refusal : Refusal) → NoCharSet0 bytes place glyphs refusal →
      char_set_0 glyphs bytes place ≡ Fault refusal
  pub never_past_0 : (glyphs : ℕ) (bytes : List ℕ) (place : ℕ) → char_set_0 glyphs bytes place ≢ Past
  pub why_1 : (glyphs : ℕ) (bytes : List ℕ) (place : ℕ) (refusal : Refusal) → char_set_1 glyphs bytes place ≡ Fault refusal →
      NoCharSet1 bytes place glyphs refusal
  pub refused_1 : (glyphs : ℕ) (bytes : List ℕ) (place : ℕ) (refusal : Refusal) → NoCharSet1 bytes place glyphs refusal →
      char_set_1 glyphs bytes place ≡ Fault refusal
  pub never_past_1 : (glyphs : ℕ) (bytes : List ℕ) (place : ℕ) → char_set_1 glyphs bytes place ≢ Past
  pub why_2 : (glyphs : ℕ) (bytes : List ℕ) (place : ℕ) (refusal : Refusal) → char_set_2 glyphs bytes place ≡ Fault refusal →
      NoCharSet2 bytes place glyphs refusal
  pub refused_2 : (glyphs : ℕ) (bytes : List ℕ) (place : ℕ) (refusal : Refusal) → NoCharSet2 bytes place glyphs refusal →
      char_set_2 glyphs bytes place ≡ Fault refusal
  pub never_past_2 : (glyphs : ℕ) (bytes : List ℕ) (place : ℕ) → char_set_2 glyphs bytes place ≢ Past
