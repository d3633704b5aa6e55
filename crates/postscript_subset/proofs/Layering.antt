-- Layout tables of which less of the limit is left.
use Rattle.std.proofs.Common.{inl, inr, ℕ, ◌≤◌, List, Bool, true, false, arith}
use Rattle.postscript_layout_write.specs.Classes.{RefusesClasses}
use Rattle.postscript_layout_write.specs.Refusals.{Fails, Refuses}
use Rattle.postscript_layout_write.specs.declared.error.Error.{Error as Fault}
use Rattle.postscript_layout_write.specs.declared.error.Error.TheVariants.{ListsTooLong, Memory, TooLarge, TooLong}
use Rattle.postscript_sfnt.specs.declared.file.FontFile.{FontFile}
use Rattle.postscript_subset.specs.Layers.{IsGdef, IsGpos, IsGsub, RefusesGlyphs, are_few}
use Rattle.postscript_subset.specs.declared.features.Features.{Features}
use Rattle.postscript_subset.specs.declared.layers.Outcome.{Outcome}
use Rattle.postscript_subset.specs.declared.layers.Outcome.TheVariants.{Absent, Kept, Lost, NotChosen}

less-classes : (e : Fault) (kept : List ℕ) (left less : ℕ) → less ≤ left → RefusesClasses e kept left → RefusesClasses e kept less
less-classes Memory kept left less below h = tt
less-classes TooLong kept left less below h = omega (arith, below, h)
less-classes TooLarge kept left less below h = h
less-classes ListsTooLong kept left less below h = h

less-fails : (e : Fault) (left less : ℕ) → less ≤ left → Fails left e → Fails less e
less-fails Memory left less below h = tt
less-fails TooLong left less below h = omega (arith, below, h)
less-fails TooLarge left less below h = tt
less-fails ListsTooLong left less below h = h

less-glyphs : (few : Bool) (e : Fault) (kept : List ℕ) (left less : ℕ) → less ≤ left → RefusesGlyphs few e kept left → RefusesGlyphs few e kept less
less-glyphs true e kept left less below h = less-fails e left less below h
less-glyphs false e kept left less below h = less-classes e kept left less below h

less-rules : (e : Fault) (table : List ℕ) (left less : ℕ) → less ≤ left → Refuses e table left → Refuses e table less
less-rules Memory table left less below h = tt
less-rules TooLong table left less below h = omega (arith, below, h)
less-rules TooLarge table left less below h = tt
less-rules ListsTooLong table left less below h = h

pub less-gdef : (o : Outcome) (file : FontFile) (origins : List ℕ) (left less : ℕ) (new : List ℕ) → less ≤ left →
    IsGdef o file origins left new → IsGdef o file origins less new
less-gdef Absent file origins left less new below h = h
less-gdef NotChosen file origins left less new below h = h
less-gdef Kept file origins left less new below h = h
less-gdef (Lost e) file origins left less new below h = (h.0, h.1, (h.2.0, less-glyphs (are_few origins) e origins left less below h.2.1))

pub less-gsub : (o : Outcome) (file : FontFile) (features : Features) (lookups origins : List ℕ) (gdef : Outcome) (left less : ℕ) (new : List ℕ) → less ≤ left →
    IsGsub o file features lookups origins gdef left new → IsGsub o file features lookups origins gdef less new
less-gsub Absent file features lookups origins gdef left less new below h = h
less-gsub NotChosen file features lookups origins gdef left less new below h = h
less-gsub Kept file features lookups origins gdef left less new below h = h
less-gsub (Lost e) file features lookups origins gdef left less new below h = (
  h.0,
  h.1,
  elim h.2 [
    | inl refused ↦ inl (less-rules e h.0 left less below refused)
    | inr lost ↦ inr lost
  ],
)

pub less-gpos : (o : Outcome) (file : FontFile) (features : Features) (origins : List ℕ) (gdef : Outcome) (left less : ℕ) (new : List ℕ) → less ≤ left →
    IsGpos o file features origins gdef left new → IsGpos o file features origins gdef less new
less-gpos Absent file features origins gdef left less new below h = h
less-gpos NotChosen file features origins gdef left less new below h = h
less-gpos Kept file features origins gdef left less new below h = h
less-gpos (Lost e) file features origins gdef left less new below h = (
  h.0,
  (
    h.1.0,
    h.1.1,
    elim h.1.2 [
      | inl refused ↦ inl (less-rules e h.1.0 left less below refused)
      | inr lost ↦ inr lost
    ],
  ),
)
