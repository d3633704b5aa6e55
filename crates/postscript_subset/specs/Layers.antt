-- Layout tables under new glyph numbers, and why one is not written.
use Rattle.std.specs.Prelude.{◌≡◌, ◌⊎◌, ℕ, ◌<◌, ◌++◌, Bool, true, false, List, [], ◌∷◌, length, nat_lt}
use Rattle.postscript_kern.specs.Kept.{AreKept, Subtable}
use Rattle.postscript_kern.specs.Languages.{EachLanguageKerns}
use Rattle.postscript_kern.specs.Pairs.{count_of}
use Rattle.postscript_kern.specs.Refusals.{Refuses as RefusesKern}
use Rattle.postscript_kern.specs.Written.{IsTable}
use Rattle.postscript_kern.specs.declared.error.Error.TheVariants as kern_errors
use Rattle.postscript_layout.specs.Numbers.{word}
use Rattle.postscript_layout_write.specs.Classes.{KeepsClasses, RefusesClasses}
use Rattle.postscript_layout_write.specs.Definitions.{KeepsDefinitions}
use Rattle.postscript_layout_write.specs.Features.{HasOnlyFeatures}
use Rattle.postscript_layout_write.specs.Flags.{KeepsFlaggedPositions}
use Rattle.postscript_layout_write.specs.Positions.{KeepsPositions}
use Rattle.postscript_layout_write.specs.Refusals.{Fails, Refuses}
use Rattle.postscript_layout_write.specs.Substituting.{KeepsRules}
use Rattle.postscript_sfnt.specs.Lent.{HasNoTable, IsTableOf}
use Rattle.postscript_sfnt.specs.declared.file.FontFile.{FontFile}
use Rattle.postscript_layout_write.specs.declared.error.Error.{Error}
use Rattle.postscript_layout_write.specs.declared.error.Error.TheVariants as faults
use Rattle.postscript_subset.specs.Lookups.{HaveKerning, HavePositions}
use Rattle.postscript_subset.specs.declared.features.Features.{Features}
use Rattle.postscript_subset.specs.declared.features.Features.TheVariants.{All, These}
use Rattle.postscript_subset.specs.declared.layers.Outcome.{Outcome}
use Rattle.postscript_subset.specs.declared.layers.Outcome.TheVariants.{Absent, Kept, Lost, NotChosen}

-- tags of tables
abbrev pub gdef_tag : ℕ
gdef_tag = 0x47444546

abbrev pub gsub_tag : ℕ
gsub_tag = 0x47535542

abbrev pub gpos_tag : ℕ
gpos_tag = 0x47504f53

abbrev pub kern_tag : ℕ
kern_tag = 0x6b65726e

-- the face has the table, and this is true of it
abbrev pub OfTable : FontFile → (tag : ℕ) → (List ℕ → Type 0) → Type 0
OfTable file tag P = (table : List ℕ) × IsTableOf file tag table × P table

-- whether there are few enough glyphs for a `GDEF` table with classes and sets of marks
abbrev pub are_few : (origins : List ℕ) → Bool
are_few origins = nat_lt (length origins) 16378

-- the new `GDEF` table has glyph classes, and with few glyphs also mark attachment classes and mark glyph sets
abbrev pub KeepsGlyphs : (few : Bool) → (old origins new : List ℕ) → Type 0
KeepsGlyphs true old origins new = KeepsDefinitions old origins new
KeepsGlyphs false old origins new = KeepsClasses old origins new

abbrev pub RefusesGlyphs : (few : Bool) → Error → (origins : List ℕ) → (left : ℕ) → Type 0
RefusesGlyphs true e origins left = Fails left e
RefusesGlyphs false e origins left = RefusesClasses e origins left

-- whether the new `GDEF` table has classes and sets of marks
abbrev pub have_marks : (origins : List ℕ) → (gdef : Outcome) → Bool
have_marks origins Kept = are_few origins
have_marks origins _ = false

-- the new `GPOS` table keeps kerning and marks, and if there are classes and sets of marks also in lookups that use these
abbrev pub KeepsPlaces : (marks : Bool) → (old origins new : List ℕ) → Type 0
KeepsPlaces true old origins new = KeepsFlaggedPositions old origins new
KeepsPlaces false old origins new = KeepsPositions old origins new

-- a table has only the chosen features
abbrev pub HasChosen : Features → (whole new : List ℕ) → Type 0
HasChosen All whole new = new ≡ whole
HasChosen (These tags) whole new = HasOnlyFeatures whole tags.now new

-- a table with only the chosen features, where this is true of the table with all of them
abbrev pub OfWhole : Features → (new : List ℕ) → (List ℕ → Type 0) → Type 0
OfWhole features new P = (whole : List ℕ) × P whole × HasChosen features whole new

-- The outcome for `GDEF`, and the new table. The table is absent if the face has none, or no glyph classes in it.
abbrev pub IsGdef : Outcome → (file : FontFile) → (origins : List ℕ) → (left : ℕ) → (new : List ℕ) → Type 0
IsGdef Absent file origins left new = HasNoTable file gdef_tag ⊎ OfTable file gdef_tag (λ gdef. word gdef 4 ≡ 0)
IsGdef NotChosen file origins left new = ⊥
IsGdef Kept file origins left new = OfTable file gdef_tag (λ gdef. (0 < word gdef 4) × KeepsGlyphs (are_few origins) gdef origins new)
IsGdef (Lost e) file origins left new = OfTable file gdef_tag (λ gdef. (0 < word gdef 4) × RefusesGlyphs (are_few origins) e origins left)

-- the table is not lost
abbrev pub IsNotLost : Outcome → Type 0
IsNotLost (Lost e) = ⊥
IsNotLost _ = Unit {0}

-- The outcome for `GSUB`, and the new table. It has only the chosen features, and lookups that use classes or sets of marks if `GDEF` has these. It is
-- lost if it is refused, or with `GDEF`.
abbrev pub IsGsub : Outcome → (file : FontFile) → (features : Features) → (lookups origins : List ℕ) → (gdef : Outcome) → (left : ℕ) → (new : List ℕ) → Type 0
IsGsub Absent file features lookups origins gdef left new = HasNoTable file gsub_tag
IsGsub NotChosen file features lookups origins gdef left new = ⊥
IsGsub Kept file features lookups origins gdef left new =
    IsNotLost gdef × OfTable file gsub_tag (λ gsub. OfWhole features new (KeepsRules (have_marks origins gdef) gsub lookups origins))
IsGsub (Lost e) file features lookups origins gdef left new = OfTable file gsub_tag (λ gsub. Refuses e gsub left ⊎ (gdef ≡ Lost e))

-- The outcome for `GPOS`, and the new table. It is chosen if kerning or marks are, and has only the chosen features.
abbrev pub IsGpos : Outcome → (file : FontFile) → (features : Features) → (origins : List ℕ) → (gdef : Outcome) → (left : ℕ) → (new : List ℕ) → Type 0
IsGpos Absent file features origins gdef left new = HasNoTable file gpos_tag
IsGpos NotChosen file features origins gdef left new = (HavePositions features → ⊥) × OfTable file gpos_tag (λ gpos. Unit {0})
IsGpos Kept file features origins gdef left new =
    HavePositions features × IsNotLost gdef × OfTable file gpos_tag (λ gpos. OfWhole features new (KeepsPlaces (have_marks origins gdef) gpos origins))
IsGpos (Lost e) file features origins gdef left new =
    HavePositions features × OfTable file gpos_tag (λ gpos. Refuses e gpos left ⊎ (gdef ≡ Lost e))

-- the new `kern` table has the pairs of the origins
abbrev pub KeepsPairs : (old origins new : List ℕ) → Type 0
KeepsPairs old origins new = (subtables : List Subtable) × AreKept old origins (count_of old) subtables × IsTable subtables new

-- a `kern` table has no pairs of origins
abbrev pub HasNoPairs : (old origins : List ℕ) → Type 0
HasNoPairs old origins = AreKept old origins (count_of old) []

abbrev pub RefusesPairs : Error → (old origins : List ℕ) → (left : ℕ) → Type 0
RefusesPairs faults.Memory old origins left = ⊥
RefusesPairs faults.TooLong old origins left = RefusesKern kern_errors.TooLong old origins left
RefusesPairs faults.TooLarge old origins left = RefusesKern kern_errors.TooLarge old origins left
RefusesPairs faults.ListsTooLong old origins left = ⊥

-- there is a new `GPOS` table, and it kerns in each language
abbrev pub IsKerned : (gpos : Outcome) → (positions : List ℕ) → Type 0
IsKerned Kept positions = EachLanguageKerns positions
IsKerned _ positions = ⊥

-- The outcome for `kern`, and the new table. It is chosen if kerning is, and the new `GPOS` table does not kern in each language. It is absent if the face
-- has no such table, or no pairs of origins in it. If the limit is used up, it is lost, also if it is not known whether `GPOS` kerns.
abbrev pub IsKern : Outcome → (file : FontFile) → (features : Features) → (origins : List ℕ) → (gpos : Outcome) → (positions : List ℕ) → (left : ℕ) →
    (new : List ℕ) → Type 0
IsKern Absent file features origins gpos positions left new = HasNoTable file kern_tag
    ⊎ (HaveKerning features × (IsKerned gpos positions → ⊥) × OfTable file kern_tag (λ kern. HasNoPairs kern origins))
IsKern NotChosen file features origins gpos positions left new =
    ((HaveKerning features → ⊥) ⊎ IsKerned gpos positions) × OfTable file kern_tag (λ kern. Unit {0})
IsKern Kept file features origins gpos positions left new =
    HaveKerning features × (IsKerned gpos positions → ⊥) × OfTable file kern_tag (λ kern. KeepsPairs kern origins new)
IsKern (Lost e) file features origins gpos positions left new = HaveKerning features × ((IsKerned gpos positions → ⊥) ⊎ (e ≡ faults.TooLong))
    × OfTable file kern_tag (λ kern. RefusesPairs e kern origins left)

-- the outcome for a table that is copied
abbrev pub IsCopiedAs : Outcome → (file : FontFile) → (tag : ℕ) → Type 0
IsCopiedAs Kept file tag = OfTable file tag (λ table. Unit {0})
IsCopiedAs Absent file tag = HasNoTable file tag
IsCopiedAs _ file tag = ⊥

-- a table with its tag, if it is kept
abbrev pub table_if : Outcome → (tag : ℕ) → (table : List ℕ) → List (ℕ × List ℕ)
table_if Kept tag table = (tag, table) ∷ []
table_if _ tag table = []

-- the layout tables that are kept, and the tables for vertical text
abbrev pub all_tables : (gdef gsub gpos kern : Outcome) → (a b c d : List ℕ) → (vertical : List (ℕ × List ℕ)) → List (ℕ × List ℕ)
all_tables gdef gsub gpos kern a b c d vertical =
    table_if gdef gdef_tag a ++ (table_if gsub gsub_tag b ++ (table_if gpos gpos_tag c ++ (table_if kern kern_tag d ++ vertical)))
