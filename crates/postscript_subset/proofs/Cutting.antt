-- The file of a choice with further glyphs and tables.
use Rattle.std.proofs.Common.{◌≡◌, refl, sym, ap, ◌∙◌, subst, inl, inr, ℕ, zero, suc, ◌≤◌, List, [], ◌∷◌, ◌++◌, Bool, true, false, length, arith, append-nil}
use Rattle.std.specs.Prelude.{Some, map, slice_get, Result, Ok, Err, IfOk, IfErr}
use Rattle.std.specs.List.{Contains}
use Rattle.std.proofs.lemmas.List.Elements.{Contains-append_right}
use Rattle.postscript_files.specs.Copies.{HasCopy}
use Rattle.postscript_files.specs.Faces.{IsFaceIn}
use Rattle.postscript_files.specs.Origins.{AreOriginsOf, NoOriginsOf}
use Rattle.postscript_files.specs.Subsets.{IsSubsetFile, NoSubsetBy, NoSubsetFrom}
use Rattle.postscript_files.specs.declared.choice.Choice.{Choice}
use Rattle.postscript_files.specs.declared.choice.Given.{Given}
use Rattle.postscript_files.specs.declared.error.Error.{Error as Cause}
use Rattle.postscript_files.specs.declared.error.Error.TheVariants as causes
use Rattle.postscript_files.specs.declared.face.Face.{Face}
use Rattle.postscript_files.proofs.Ordering.{origins-alike}
use Rattle.postscript_sfnt.specs.Lent.{IsTableOf}
use Rattle.postscript_subset.specs.Closing.{AreClosed, AreExtended, IsClosingError, IsTableOrNone, IsUnopenedFace, below}
use Rattle.postscript_subset.specs.Layering.{tables_of}
use Rattle.postscript_subset.specs.Layers.{IsCopiedAs, all_tables, gdef_tag, gpos_tag, gsub_tag}
use Rattle.postscript_subset.specs.Planning.{HasTables, IsCutBy, IsCutFace, IsPlaced, IsUnfinished, NoCutBy, NoCutFace}
use Rattle.postscript_subset.specs.Subsets.{IsBy, IsCutInPlace, IsCutWithLayout, IsWidened, NoCutWithLayout, NoFileFrom, copied_by, features_by, shown}
use Rattle.postscript_subset.specs.declared.error.Error.{Error}
use Rattle.postscript_subset.specs.declared.error.Error.TheVariants as errors
use Rattle.postscript_subset.specs.declared.features.Features.{Features}
use Rattle.postscript_subset.specs.declared.features.Features.TheVariants as kinds
use Rattle.postscript_subset.specs.declared.layers.Layers.{Layers}
use Rattle.postscript_subset.specs.declared.layers.Outcome.TheVariants as outcomes
use Rattle.postscript_subset.specs.declared.subset.Subset.{Subset}
use Rattle.postscript_subset.proofs.Staying.{text-stays, text-stays-same}

later-get : (xs ys : List (ℕ × List ℕ)) (i : ℕ) (x : ℕ × List ℕ) → slice_get ys i ≡ Some x → (k : ℕ) × (slice_get (xs ++ ys) k ≡ Some x)
later-get [] ys i x h = (i, h)
later-get (one ∷ xs) ys i x h = let k = later-get xs ys i x h in (suc k.0, k.1)

mapped-get : (given : List Given) (k : ℕ) (x : ℕ × List ℕ) → slice_get (map shown given) k ≡ Some x →
    (g : Given) × (slice_get given k ≡ Some g) × (shown g ≡ x)
mapped-get [] k x h = absurd (cc)
mapped-get (one ∷ given) zero x h = let is : shown one ≡ x = cc in (one, refl, is)
mapped-get (one ∷ given) (suc k) x h = mapped-get given k x h

-- the new file has the further tables
pub tables-there : (before by : Choice) (face : Face) (file : List ℕ) (tables : List (ℕ × List ℕ)) →
    map shown by.given.now ≡ map shown before.given.now ++ tables → IsSubsetFile by face file →
    (i : ℕ) (table : ℕ × List ℕ) → slice_get tables i ≡ Some table → (new : Face) → IsFaceIn file 0 new → HasCopy new.file table.0 table.1
tables-there before by face file tables given is i table h new read =
    let at = later-get (map shown before.given.now) tables i table h in
    let got : slice_get (map shown by.given.now) at.0 ≡ Some table =
    ap (λ (xs : List (ℕ × List ℕ)). slice_get xs at.0) given ∙ at.1 in
    let from = mapped-get by.given.now at.0 table got in
    subst (λ (t : ℕ × List ℕ). HasCopy new.file t.0 t.1) from.2 ((is.is new read).given at.0 from.0 from.1)

widened : (choice by with : Choice) (added : List ℕ) (tables : List (ℕ × List ℕ)) → IsWidened choice by added [] → HasTables by tables with →
    IsWidened choice with added tables
widened choice by with added tables w h = record {
  chars = h.chars ∙ w.chars;
  glyphs = h.glyphs ∙ w.glyphs;
  unmapped = h.unmapped ∙ w.unmapped;
  lenient = h.lenient ∙ w.lenient;
  retain_gids = h.retain_gids ∙ w.retain_gids;
  limit = h.limit ∙ w.limit;
  copied = h.copied ∙ w.copied;
  given = h.given ∙ ap (λ (xs : List (ℕ × List ℕ)). xs ++ tables) (w.given ∙ append-nil (map shown choice.given.now));
}

-- what is known before the glyphs have numbers
pub record Known (choice : Choice) (features : Features) (face : Face) (by : Choice) (gsub lookups glyphs : List ℕ) : Type 0 where
  pub is : IsTableOrNone face.file gsub_tag gsub
  pub are : AreClosed choice (features_by choice.retain_gids features) face gsub lookups glyphs
  pub unmapped : List ℕ
  pub extended : AreExtended face choice.unmapped.now glyphs unmapped
  pub widened : IsWidened choice by (below extended.0 glyphs) []

-- glyphs get new numbers
pub known-anew : (choice : Choice) (features : Features) (face : Face) (by : Choice) (gsub lookups glyphs : List ℕ) (unmapped : List ℕ) →
    choice.retain_gids ≡ false → IsTableOrNone face.file gsub_tag gsub → AreClosed choice features face gsub lookups glyphs →
    AreExtended face choice.unmapped.now glyphs unmapped → by.chars.now ≡ choice.chars.now → by.glyphs.now ≡ choice.glyphs.now →
    by.unmapped.now ≡ unmapped → by.lenient ≡ choice.lenient → by.retain_gids ≡ choice.retain_gids → by.limit ≡ choice.limit →
    by.copied.now ≡ choice.copied.now → by.given.now ≡ choice.given.now → Known choice features face by gsub lookups glyphs
known-anew choice features face by gsub lookups glyphs unmapped anew is are extended chars numbers further lenient retain limit copied given = record {
  is = is;
  are = subst (λ (r : Bool). AreClosed choice (features_by r features) face gsub lookups glyphs) (sym anew) are;
  unmapped = unmapped;
  extended = extended;
  widened = record {
    chars = chars;
    glyphs = numbers;
    unmapped = further ∙ extended.2;
    lenient = lenient;
    retain_gids = retain;
    limit = limit;
    copied = subst (λ (r : Bool). by.copied.now ≡ choice.copied.now ++ copied_by r) (sym anew) (copied ∙ sym (append-nil choice.copied.now));
    given = ap (map shown) given ∙ sym (append-nil (map shown choice.given.now));
  };
}

-- glyphs keep their numbers
pub known-in-place : (choice : Choice) (features : Features) (face : Face) (by : Choice) (gsub lookups glyphs : List ℕ)
    (unmapped : List ℕ) → choice.retain_gids ≡ true → IsTableOrNone face.file gsub_tag gsub →
    AreClosed choice kinds.All face gsub lookups glyphs → AreExtended face choice.unmapped.now glyphs unmapped →
    by.chars.now ≡ choice.chars.now → by.glyphs.now ≡ choice.glyphs.now → by.unmapped.now ≡ unmapped → by.lenient ≡ choice.lenient →
    by.retain_gids ≡ choice.retain_gids → by.limit ≡ choice.limit → by.copied.now ≡ choice.copied.now ++ copied_by true →
    by.given.now ≡ choice.given.now →
    Known choice features face by gsub lookups glyphs
known-in-place choice features face by gsub lookups glyphs unmapped retain is are extended chars numbers further lenient same limit copied given = record {
  is = is;
  are = subst (λ (r : Bool). AreClosed choice (features_by r features) face gsub lookups glyphs) (sym retain) are;
  unmapped = unmapped;
  extended = extended;
  widened = record {
    chars = chars;
    glyphs = numbers;
    unmapped = further ∙ extended.2;
    lenient = lenient;
    retain_gids = same;
    limit = limit;
    copied = subst (λ (r : Bool). by.copied.now ≡ choice.copied.now ++ copied_by r) (sym retain) copied;
    given = ap (map shown) given ∙ sym (append-nil (map shown choice.given.now));
  };
}

is-by : (choice : Choice) (features : Features) (face : Face) (by with : Choice) (gsub lookups glyphs : List ℕ)
    (tables : List (ℕ × List ℕ)) → Known choice features face by gsub lookups glyphs → HasTables by tables with →
    IsBy choice features face tables with
is-by choice features face by with gsub lookups glyphs tables k h = record {
  further = below k.extended.0 glyphs;
  made = record {
    gsub = gsub;
    is = k.is;
    lookups = lookups;
    closed = glyphs;
    are = k.are;
    count = k.extended.0;
    counted = k.extended.1;
    kept = refl;
  };
  widened = widened choice by with (below k.extended.0 glyphs) tables k.widened h;
}

pub cut-so : (r : Result Subset Error) (choice : Choice) (features : Features) (face : Face) (by : Choice) (gsub lookups glyphs : List ℕ)
    (left : ℕ) → choice.retain_gids ≡ false → Known choice features face by gsub lookups glyphs →
    IfOk r (λ subset. IsCutBy by features face gsub lookups left subset) → IfOk r (λ subset. IsCutFace choice features face left subset)
unfolding is-by
cut-so (Ok subset) choice features face by gsub lookups glyphs left anew k h =
    let is : IsBy choice features face (all_tables subset.gdef subset.gsub subset.gpos subset.kern h.gdef h.gsub h.gpos h.kern h.vertical) h.with =
    is-by choice features face by h.with gsub lookups glyphs (all_tables subset.gdef subset.gsub subset.gpos subset.kern h.gdef h.gsub h.gpos h.kern h.vertical) k h.has in
    let are : AreOriginsOf h.with face h.origins =
    origins-alike by h.with face h.origins h.has.chars h.has.glyphs h.has.unmapped h.has.retain_gids h.are in
    record {
      by = h.with;
      gdef = h.gdef;
      gsub = h.gsub;
      gpos = h.gpos;
      kern = h.kern;
      vertical = h.vertical;
      file = h.file;
      is = is-by choice features face by h.with gsub lookups glyphs
          (all_tables subset.gdef subset.gsub subset.gpos subset.kern h.gdef h.gsub h.gpos h.kern h.vertical) k h.has;
      origins = h.origins;
      are = are;
      classes = h.classes;
      substitutions = h.substitutions;
      positions = h.positions;
      pairs = h.pairs;
      upright = h.upright;
      stays = text-stays choice features face (all_tables subset.gdef subset.gsub subset.gpos subset.kern h.gdef h.gsub h.gpos h.kern h.vertical) h.with h.origins is
          (h.has.retain_gids ∙ k.widened.retain_gids ∙ anew) are;
      left_out = h.left_out;
    }
cut-so (Err e) choice features face by gsub lookups glyphs left anew k h = tt

-- why there are no origins, and so no subset
origins-from : (e : Cause) (by : Choice) (face : Face) → NoOriginsOf by face e → NoSubsetFrom by face e
origins-from causes.Memory by face h = tt
origins-from (causes.Font e) by face h = h
origins-from causes.TooLarge by face h = absurd h
origins-from causes.Cut by face h = absurd h
origins-from (causes.SameTag tag) by face h = absurd h
origins-from (causes.File e) by face h = absurd h
origins-from (causes.MissingTable tag) by face h = absurd h
origins-from causes.NoMap by face h = absurd h
origins-from causes.NoAdvances by face h = absurd h
origins-from causes.Overlap by face h = absurd h
origins-from (causes.MissingCharacter char) by face h = absurd h

-- the `hhea` table is not truncated
subset-from : (e : Cause) (by : Choice) (face : Face) → 36 ≤ length face.hhea.now → NoSubsetBy by face e → NoSubsetFrom by face e
subset-from causes.NoAdvances by face room h = absurd (omega (arith, room, h))
subset-from causes.Memory by face room h = h
subset-from (causes.Font e) by face room h = h
subset-from causes.TooLarge by face room h = h
subset-from causes.Cut by face room h = h
subset-from (causes.SameTag tag) by face room h = h
subset-from (causes.File e) by face room h = h
subset-from (causes.MissingTable tag) by face room h = h
subset-from causes.NoMap by face room h = h
subset-from causes.Overlap by face room h = h
subset-from (causes.MissingCharacter char) by face room h = h

no-tables : (by : Choice) → HasTables by [] by
no-tables by = record {
  chars = refl;
  glyphs = refl;
  unmapped = refl;
  lenient = refl;
  retain_gids = refl;
  limit = refl;
  copied = refl;
  given = sym (append-nil (map shown by.given.now));
}

no-file : (e : Error) (choice : Choice) (features : Features) (face : Face) (by : Choice) (gsub lookups glyphs : List ℕ) →
    36 ≤ length face.hhea.now → Known choice features face by gsub lookups glyphs → (h : NoCutBy by face e) →
    NoFileFrom choice features face h.0
no-file e choice features face by gsub lookups glyphs room k h =
    let is : IsBy choice features face [] by = is-by choice features face by by gsub lookups glyphs [] k (no-tables by) in
    elim h.2 [
      | inl origins ↦ inr (
        by,
        outcomes.Absent,
        outcomes.Absent,
        outcomes.Absent,
        outcomes.Absent,
        [],
        [],
        [],
        [],
        [],
        is,
        origins-from h.0 by face origins,
      )
      | inr (inl memory) ↦ inl (inl memory)
      | inr (inr with) ↦ inr (
        with.0,
        with.1,
        with.2,
        with.3,
        with.4,
        with.5,
        with.6,
        with.7,
        with.8,
        with.9,
        is-by choice features face by with.0 gsub lookups glyphs
            (all_tables with.1 with.2 with.3 with.4 with.5 with.6 with.7 with.8 with.9) k with.10,
        subset-from h.0 with.0 face room with.11,
      )
    ]

pub no-cut-so : (r : Result Subset Error) (choice : Choice) (features : Features) (face : Face) (by : Choice) (gsub lookups glyphs : List ℕ)
    (left : ℕ) → 36 ≤ length face.hhea.now → Known choice features face by gsub lookups glyphs →
    IfErr r (λ e. NoCutBy by face e) → IfErr r (λ e. NoCutFace choice features face left e)
no-cut-so (Ok subset) choice features face by gsub lookups glyphs left room k h = tt
no-cut-so (Err e) choice features face by gsub lookups glyphs left room k h =
    subst (λ (x : Error). NoCutFace choice features face left x) (sym h.1) (no-file e choice features face by gsub lookups glyphs room k h)

pub no-closing : (e : Error) (choice : Choice) (features : Features) (face : Face) (left : ℕ) → IsClosingError choice face left e →
    NoCutFace choice features face left e
no-closing e choice features face left h = elim h [
  | inl (inl memory) ↦ subst (λ (x : Error). NoCutFace choice features face left x) (sym memory) (inl (inl refl))
  | inl (inr long) ↦ subst (λ (x : Error). NoCutFace choice features face left x) (sym long.0) long.1
  | inr large ↦ subst (λ (x : Error). NoCutFace choice features face left x) (sym large.1) (large.2, large.3)
]

pub no-extended : (e : Error) (choice : Choice) (features : Features) (face : Face) (left : ℕ) → IsUnopenedFace face e →
    NoCutFace choice features face left e
no-extended e choice features face left h = subst (λ (x : Error). NoCutFace choice features face left x) (sym h.1) (inl h.2)

pub subset-so : (r : Result Subset Error) (choice : Choice) (features : Features) (bytes : List ℕ) (number left : ℕ) (face : Face) →
    IsFaceIn bytes number face → IfOk r (λ subset. IsCutFace choice features face left subset) →
    IfOk r (λ subset. IsCutWithLayout choice features bytes number left subset)
subset-so (Ok subset) choice features bytes number left face was h = record {
  by = h.by;
  cut = record {
    old = face;
    was = was;
    opens = h.file.opens;
    sound = h.file.sound;
    all = h.file.all;
    within = h.file.within;
    there = h.file.there;
    is = h.file.is;
  };
  gdef = h.gdef;
  gsub = h.gsub;
  gpos = h.gpos;
  kern = h.kern;
  vertical = h.vertical;
  is = h.is;
  origins = h.origins;
  are = h.are;
  classes = h.classes;
  substitutions = h.substitutions;
  positions = h.positions;
  pairs = h.pairs;
  upright = h.upright;
  there = tables-there choice h.by face subset.file.items
      (all_tables subset.gdef subset.gsub subset.gpos subset.kern h.gdef h.gsub h.gpos h.kern h.vertical) h.is.widened.given h.file;
  stays = h.stays;
  left_out = h.left_out;
}
subset-so (Err e) choice features bytes number left face was h = tt

no-subset : (e : Error) (choice : Choice) (features : Features) (bytes : List ℕ) (number left : ℕ) (face : Face) → IsFaceIn bytes number face →
    NoCutFace choice features face left e → NoCutWithLayout choice features bytes number left e
no-subset errors.TooLong choice features bytes number left face was h = h
no-subset (errors.LargeGlyph glyph) choice features bytes number left face was h = (face, was, h.0, h.1)
no-subset (errors.File e) choice features bytes number left face was h = inr (face, was, h)

pub no-subset-so : (r : Result Subset Error) (choice : Choice) (features : Features) (bytes : List ℕ) (number left : ℕ) (face : Face) →
    IsFaceIn bytes number face → IfErr r (λ e. NoCutFace choice features face left e) →
    IfErr r (λ e. NoCutWithLayout choice features bytes number left e)
no-subset-so (Ok subset) choice features bytes number left face was h = tt
no-subset-so (Err e) choice features bytes number left face was h = no-subset e choice features bytes number left face was h

pub unfinished-so : (cause : Cause) (by with : Choice) (face : Face) (layers : Layers) → NoSubsetBy with face cause →
    HasTables by (tables_of layers) with → IsUnfinished by face layers (errors.File cause)
unfinished-so cause by with face layers h has = (cause, refl, inr (with, has, h))

pub no-cut-by : (e : Error) (by : Choice) (face : Face) (layers : Layers) → IsUnfinished by face layers e → NoCutBy by face e
no-cut-by e by face layers h = (
  h.0,
  h.1,
  elim h.2 [
    | inl memory ↦ inr (inl memory)
    | inr with ↦ inr (inr (
      with.0,
      layers.gdef.outcome,
      layers.gsub.outcome,
      layers.gpos.outcome,
      layers.kern.outcome,
      layers.gdef.table.items,
      layers.gsub.table.items,
      layers.gpos.table.items,
      layers.kern.table.items,
      map shown layers.vertical.items,
      with.1,
      with.2,
    ))
  ],
)

pub placed-so : (choice : Choice) (features : Features) (face : Face) (by : Choice) (gsub lookups glyphs : List ℕ) (subset : Subset) →
    choice.retain_gids ≡ true → Known choice features face by gsub lookups glyphs → IsSubsetFile by face subset.file.items →
    IsCopiedAs subset.gdef face.file gdef_tag → IsCopiedAs subset.gsub face.file gsub_tag → IsCopiedAs subset.gpos face.file gpos_tag →
    subset.kern ≡ outcomes.NotChosen → subset.left_out.items ≡ [] → IsPlaced choice features face subset
unfolding is-by
placed-so choice features face by gsub lookups glyphs subset retain k file gdef gsub-is gpos kern none =
    let is : IsBy choice features face [] by = is-by choice features face by by gsub lookups glyphs [] k (no-tables by) in
    record {
      by = by;
      file = file;
      is = is-by choice features face by by gsub lookups glyphs [] k (no-tables by);
      gdef = gdef;
      gsub = gsub-is;
      gpos = gpos;
      kern = kern;
      stays = text-stays-same choice features face [] by subset.file.items is (k.widened.retain_gids ∙ retain) file;
      left_out = none;
    }

-- the copies are those of the face
copied-there : (choice : Choice) (features : Features) (face : Face) (by : Choice) (file : List ℕ) → choice.retain_gids ≡ true →
    IsBy choice features face [] by → IsSubsetFile by face file → (tag : ℕ) (table : List ℕ) → Contains (copied_by true) tag →
    IsTableOf face.file tag table → (new : Face) → IsFaceIn file 0 new → HasCopy new.file tag table
copied-there choice features face by file retain is cut tag table listed has new read =
    let all : by.copied.now ≡ choice.copied.now ++ copied_by true =
    subst (λ (r : Bool). by.copied.now ≡ choice.copied.now ++ copied_by r) retain is.widened.copied in
    (cut.is new read).copied tag table (subst (λ (xs : List ℕ). Contains xs tag) (sym all)
    (Contains-append_right choice.copied.now (copied_by true) tag listed)) has

pub in-place-so : (r : Result Subset Error) (choice : Choice) (features : Features) (bytes : List ℕ) (number : ℕ) (face : Face) →
    IsFaceIn bytes number face → choice.retain_gids ≡ true → IfOk r (λ subset. IsPlaced choice features face subset) →
    IfOk r (λ subset. IsCutInPlace choice features bytes number subset)
in-place-so (Ok subset) choice features bytes number face was retain h = record {
  by = h.by;
  cut = record {
    old = face;
    was = was;
    opens = h.file.opens;
    sound = h.file.sound;
    all = h.file.all;
    within = h.file.within;
    there = h.file.there;
    is = h.file.is;
  };
  is = h.is;
  gdef = h.gdef;
  gsub = h.gsub;
  gpos = h.gpos;
  kern = h.kern;
  copied = copied-there choice features face h.by subset.file.items retain h.is h.file;
  stays = h.stays;
  left_out = h.left_out;
}
in-place-so (Err e) choice features bytes number face was retain h = tt

pub no-placed : (cause : Cause) (choice : Choice) (features : Features) (face : Face) (by : Choice) (gsub lookups glyphs : List ℕ)
    (left : ℕ) → 36 ≤ length face.hhea.now → Known choice features face by gsub lookups glyphs → NoSubsetBy by face cause →
    NoCutFace choice features face left (errors.File cause)
no-placed cause choice features face by gsub lookups glyphs left room k h = inr (
  by,
  outcomes.Absent,
  outcomes.Absent,
  outcomes.Absent,
  outcomes.Absent,
  [],
  [],
  [],
  [],
  [],
  is-by choice features face by by gsub lookups glyphs [] k (no-tables by),
  subset-from cause by face room h,
)
