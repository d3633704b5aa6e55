-- The file of a subset: its parts put together.
use Rattle.std.proofs.Common.{◌≡◌, refl, sym, ap, ◌∙◌, subst, inl, inr, ℕ, ◌+◌, ◌*◌, ◌/◌, ◌<◌, ◌≤◌, List, [], ◌∷◌, Bool, true, false, length, get_or, arith}
use Rattle.std.specs.Prelude.{Result, Ok, Err, IfOk, IfErr, Vec, drop, map}
use Rattle.std.specs.List.{Contains}
use Rattle.std.specs.declared.alloc.Global.{Global}
use Rattle.std.proofs.lemmas.List.{get_or-drop}
use Rattle.std.proofs.lemmas.List.Elements.{Contains-append_left, Contains-get_or}
use Rattle.postscript_base.proofs.NumbersAt.{of_four}
use Rattle.postscript_base.specs.Index.{number_at}
use Rattle.postscript_sfnt.specs.Choice.{place_at}
use Rattle.postscript_sfnt.specs.Lent.{AreAdvancesOf, IsFaceOf}
use Rattle.postscript_sfnt.specs.Maps.{IsMapAt, IsWhole, Maps}
use Rattle.postscript_sfnt.specs.Metrics.{HasAdvances, IsGlyphs, IsWord}
use Rattle.postscript_sfnt.specs.declared.character_map.CharacterMap.{CharacterMap}
use Rattle.postscript_sfnt.specs.declared.character_map.CharacterMap.TheVariants.{Segments, Groups, Trimmed}
use Rattle.postscript_sfnt.specs.declared.file.FontFile.{FontFile}
use Rattle.postscript_sfnt_write.specs.Files.{Opens}
use Rattle.postscript_sfnt_write.specs.Mappings.{IsGlyphIn, in_segments}
use Rattle.postscript_sfnt_write.specs.Metrics.{KeepsBut}
use Rattle.postscript_sfnt_write.specs.declared.file.Table.{Table}
use Rattle.postscript_sfnt_write.specs.declared.mapping.Mapping.{Mapping}
use Rattle.postscript_write.specs.Components.{AreKept}
use Rattle.postscript_write.specs.Drawings.{DrawsTheSame}
use Rattle.postscript_write.specs.SameGlyphs.{IsSameGlyph}
use Rattle.postscript_write.specs.declared.error.Error.{Error as Refusal}
use Rattle.postscript_files.specs.Choices.{AreKeptPairs, AreMappingsOf, IsFirstMissing, IsKept, NoneIsMissing, glyph_of, glyphs_of, named_of}
use Rattle.postscript_files.specs.Copies.{tagged}
use Rattle.postscript_files.specs.Faces.{IsBestMap, IsFaceIn, cff_tag, cmap_tag, hhea_tag, hmtx_tag, maxp_tag}
use Rattle.postscript_files.specs.Listed.{AreParts, HasParts, IsFileOfParts, IsUnmade, NoFileOfParts}
use Rattle.postscript_files.specs.Made.{AreBytes, HasNoOrigins, IsCutFile, IsHmtxOf, IsMade, IsMapOf}
use Rattle.postscript_write.specs.Costs.{KeepsWithin}
use Rattle.postscript_files.specs.Origins.{AreFew, AreOrigins, AreOriginsOf, IsCutRefusedBy, IsKeptGlyph, IsOrigin, NoOriginsOf}
use Rattle.postscript_files.specs.Renumbered.{ArePlaced, AreSpread}
use Rattle.postscript_files.specs.Sequences.{IsFirstIndex, IsNewNumber, chars_of}
use Rattle.postscript_files.specs.Subsets.{AreCounted, AreInOrder, AreTablesOf, HasNotdefMetrics, HasSame, IsSame, IsSubsetFace, IsSubsetFile, IsSubsetFont, IsSubsetOf, KeepsNumber, NoSubsetBy, NoSubsetFrom, NoSubsetOf}
use Rattle.postscript_files.specs.declared.choice.Choice.{Choice}
use Rattle.postscript_files.specs.declared.error.Error.{Error}
use Rattle.postscript_files.specs.declared.error.Error.TheVariants.{Cut, File, Font, Memory, MissingCharacter, MissingTable, NoAdvances, NoMap, Overlap, SameTag, TooLarge}
use Rattle.postscript_files.specs.declared.error.Error.TheVariants as errors
use Rattle.postscript_files.specs.declared.face.Face.{Face}
use Rattle.postscript_files.specs.declared.subset.Made.{Made}
use Rattle.postscript_files.proofs.Charting.{find-char, glyph-named, mapping-from, mapping-there, named-for, numbered, renumbered-rise}
use Rattle.postscript_files.proofs.Counting.{many-glyphs}
use Rattle.postscript_files.proofs.Few.{few-pairs, two-small}
use Rattle.postscript_files.proofs.Measuring.{many-metrics, same-advance, same-bearing}
use Rattle.postscript_files.proofs.OneGlyph.{some-glyph}
use Rattle.postscript_files.proofs.Origins.{above-zero, has-origin, kept-there, origin-like, own-number}
use Rattle.postscript_files.proofs.Ordering.{few-placed, kept-for, kept-like, new-numbers, one-order, one-origins, placed-at, placed-empty, placed-many}
use Rattle.postscript_files.proofs.Others.{one-table}
use Rattle.postscript_files.proofs.Varied.{with-numbers}

-- the kept glyphs are placed at their new numbers
pub record HasPlaced (retain : Bool) (named cff origins placed : List ℕ) : Type 0 where
  pub kept : List ℕ
  pub are : AreKept named cff kept
  pub at : ArePlaced retain kept (length origins) placed

-- what is known of a new face
pub record Known (choice : Choice) (old new : Face) : Type 0 where
  pub pairs : List Mapping
  pub origins : List ℕ
  pub kept : AreKeptPairs choice old.map pairs
  pub font : IsSubsetFont choice.retain_gids (named_of (glyphs_of choice) pairs) old.cff.now new.cff.now
  pub are : AreOrigins choice.retain_gids (named_of (glyphs_of choice) pairs) old.cff.now origins
  pub placed : List ℕ
  pub at : HasPlaced choice.retain_gids (named_of (glyphs_of choice) pairs) old.cff.now origins placed
  pub cmap : IsMapOf old.cmap.now pairs origins placed new.cmap.now
  pub hhea : IsWord new.hhea.now 34 (length origins)
  pub hmtx : IsHmtxOf old placed new.hmtx.now
  pub maxp : IsGlyphs new.maxp.now (length origins)
  pub map : IsBestMap new.cmap.now new.map
  pub advances : AreAdvancesOf new.hhea.now new.hmtx.now new.advances

keeps-number : (retain : Bool) (named cff origins : List ℕ) (i glyph : ℕ) → AreOrigins retain named cff origins → IsOrigin origins i glyph →
    KeepsNumber retain glyph i
keeps-number true named cff origins i glyph are h = own-number named cff origins i glyph are h
keeps-number false named cff origins i glyph are h = tt

-- as many glyphs are placed as there are new ones
many-placed : (choice : Choice) (old new : Face) (w : Known choice old new) → length w.placed ≡ length w.origins
many-placed choice old new w =
    placed-many choice.retain_gids (named_of (glyphs_of choice) w.pairs) old.cff.now w.origins w.at.kept w.placed w.are w.at.are w.at.at

hhea-told : (choice : Choice) (old new : Face) (w : Known choice old new) → IsWord new.hhea.now 34 (length w.placed)
hhea-told choice old new w = subst (IsWord new.hhea.now 34) (sym (many-placed choice old new w)) w.hhea

is-placed : (choice : Choice) (old new : Face) (w : Known choice old new) (i glyph : ℕ) → Contains w.at.kept glyph →
    IsOrigin w.origins i glyph → IsOrigin w.placed i glyph
is-placed choice old new w i glyph there h =
    placed-at choice.retain_gids (named_of (glyphs_of choice) w.pairs) old.cff.now w.origins w.at.kept w.placed w.are w.at.are w.at.at i glyph
    there h

has-same : (choice : Choice) (old new : Face) (w : Known choice old new) (glyph i : ℕ) →
    Contains (named_of (glyphs_of choice) w.pairs) glyph → IsOrigin w.origins i glyph → HasSame choice old new glyph i
has-same choice old new w glyph i asked h =
    let there : Contains w.at.kept glyph =
    kept-there choice.retain_gids (named_of (glyphs_of choice) w.pairs) old.cff.now new.cff.now w.at.kept w.font w.at.are glyph asked in
    let placed : IsOrigin w.placed i glyph = is-placed choice old new w i glyph there h in (
      record {
        drawn = λ was is opened made.
            origin-like DrawsTheSame choice.retain_gids (named_of (glyphs_of choice) w.pairs) old.cff.now new.cff.now w.origins w.are w.font.drawn
            glyph i asked h was is opened made;
        told = λ was is opened made.
            origin-like IsSameGlyph choice.retain_gids (named_of (glyphs_of choice) w.pairs) old.cff.now new.cff.now w.origins w.are w.font.same
            glyph i asked h was is opened made;
        advance = same-advance old new w.placed i glyph w.hmtx (hhea-told choice old new w) w.advances placed;
        bearing = same-bearing old new w.placed i glyph w.hmtx (hhea-told choice old new w) placed;
      },
      keeps-number choice.retain_gids (named_of (glyphs_of choice) w.pairs) old.cff.now w.origins i glyph w.are h,
    )

origin-there : (choice : Choice) (old new : Face) (w : Known choice old new) (glyph : ℕ) →
    Contains (named_of (glyphs_of choice) w.pairs) glyph → (i : ℕ) × IsOrigin w.origins i glyph
origin-there choice old new w glyph asked =
    has-origin choice.retain_gids (named_of (glyphs_of choice) w.pairs) old.cff.now new.cff.now w.origins w.font w.are glyph asked

glyphs-there : (choice : Choice) (old new : Face) (w : Known choice old new) (glyph : ℕ) → Contains (glyphs_of choice) glyph →
    (i : ℕ) × HasSame choice old new glyph i
glyphs-there choice old new w glyph chosen =
    let asked : Contains (named_of (glyphs_of choice) w.pairs) glyph =
    Contains-append_left (glyphs_of choice) (map glyph_of w.pairs) glyph chosen in
    let h = origin-there choice old new w glyph asked in
    (h.0, has-same choice old new w glyph h.0 asked h.1)

-- what the new map says of a character
char-in : (choice : Choice) (old new : Face) (w : Known choice old new) (char i : ℕ) → Maps new.map char i →
    IsGlyphIn w.cmap.is.mappings char i
char-in choice old new w char i maps = w.cmap.like.told w.cmap.is.mappings w.cmap.is.told w.map.0 new.map w.map.1 w.map.2 char i maps

char-kept : (choice : Choice) (old new : Face) (w : Known choice old new) (char glyph : ℕ) → IsKept choice old.map char glyph →
    (i : ℕ) × (0 < i) × Maps new.map char i × HasSame choice old new glyph i
char-kept choice old new w char glyph kept =
    let at = w.kept.all char glyph kept in
    let some = some-glyph new.map char in
    let told = char-in choice old new w char some.0 some.1 in
    let here = mapping-there w.pairs w.cmap.is.mappings w.cmap.is.numbers w.cmap.is.are at.0 at.1 at.2 in
    let is : some.0 ≡ get_or w.cmap.is.numbers at.1.glyph 0 = told.given at.0 _ here at.3 in
    let asked : Contains (named_of (glyphs_of choice) w.pairs) glyph =
    subst (λ g. Contains (named_of (glyphs_of choice) w.pairs) g) at.4 (glyph-named (glyphs_of choice) w.pairs at.0 at.1 at.2) in
    let number : some.0 ≡ get_or w.cmap.is.numbers glyph 0 = is ∙ ap (λ g. get_or w.cmap.is.numbers g 0) at.4 in
    let origin : IsOrigin w.origins some.0 glyph =
    subst (λ n. IsOrigin w.origins n glyph) (sym number)
    (numbered w.origins w.cmap.is.numbers glyph w.cmap.is.numbered (origin-there choice old new w glyph asked)) in (
      some.0,
      above-zero choice.retain_gids (named_of (glyphs_of choice) w.pairs) old.cff.now w.origins some.0 glyph w.are origin kept.has.some,
      some.1,
      has-same choice old new w glyph some.0 asked origin,
    )

char-only : (choice : Choice) (old new : Face) (w : Known choice old new) (char i : ℕ) → 0 < i → Maps new.map char i →
    (glyph : ℕ) × IsKept choice old.map char glyph
char-only choice old new w char i some maps =
    let told = char-in choice old new w char i maps in
    elim (find-char w.cmap.is.mappings char) [
      | inl h ↦
          let from = mapping-from w.pairs w.cmap.is.mappings w.cmap.is.numbers w.cmap.is.are h.0 h.1 h.2 in
          (from.0.glyph, subst (λ c. IsKept choice old.map c from.0.glyph) (from.2 ∙ h.3) (w.kept.each h.0 from.0 from.1))
      | inr none ↦ absurd (let e = told.lost none in omega (arith, e, some))
    ]

-- the mappings of the table are those of its best map
are-mappings : (choice : Choice) (old new : Face) (w : Known choice old new) → AreMappingsOf new.map w.cmap.is.mappings
are-mappings choice old new w = record {
  rise = renumbered-rise w.pairs w.cmap.is.mappings w.cmap.is.numbers w.cmap.is.are w.kept.rise;
  each = λ k m here.
      let from = mapping-from w.pairs w.cmap.is.mappings w.cmap.is.numbers w.cmap.is.are k m here in
      let kept : IsKept choice old.map m.char from.0.glyph =
      subst (λ c. IsKept choice old.map c from.0.glyph) from.2 (w.kept.each k from.0 from.1) in
      let new-one = char-kept choice old new w m.char from.0.glyph kept in
      let is : new-one.0 ≡ m.glyph = (char-in choice old new w m.char new-one.0 new-one.2).given k m here refl in
      record {
        unicode = kept.has.unicode;
        maps = subst (Maps new.map m.char) is new-one.2;
        some = subst (λ n. 0 < n) is new-one.1;
      };
  all = λ char glyph has.
      let told = char-in choice old new w char glyph has.maps in
      elim (find-char w.cmap.is.mappings char) [
        | inl h ↦ (h.0, h.1, h.2, h.3, sym (told.given h.0 h.1 h.2 h.3))
        | inr none ↦ absurd (let e = told.lost none in let some = has.some in omega (arith, e, some))
      ];
}

counted-so : (choice : Choice) (old new : Face) (w : Known choice old new) → AreCounted new (length w.origins)
counted-so choice old new w = record {
  font = λ view laid. many-glyphs choice.retain_gids (named_of (glyphs_of choice) w.pairs) old.cff.now new.cff.now w.origins w.font w.are view laid;
  maxp = w.maxp;
  hhea = w.hhea;
  hmtx = w.hmtx.size ∙ ap (λ n. n * 4) (many-metrics old w.placed new.hmtx.now w.hmtx ∙ many-placed choice old new w);
}

-- a kept glyph is the same under its new number
same-kept-glyph : (choice : Choice) (old new : Face) (w : Known choice old new) (i glyph : ℕ) → IsOrigin w.origins i glyph →
    IsKeptGlyph choice old glyph → IsSame old new glyph i
same-kept-glyph choice old new w i glyph h kept =
    let all = kept-for choice old.map kept.0 w.pairs old.cff.now kept.1 kept.2 w.kept kept.3 in
    let same : kept.1 ≡ w.at.kept = one-order false (named_of (glyphs_of choice) w.pairs) old.cff.now kept.1 w.at.kept all w.at.are in
    let placed : IsOrigin w.placed i glyph =
    is-placed choice old new w i glyph (subst (λ (xs : List ℕ). Contains xs glyph) same kept.4) h in
    record {
      drawn = λ was is opened made.
          kept-like DrawsTheSame choice.retain_gids (named_of (glyphs_of choice) w.pairs) old.cff.now new.cff.now w.origins kept.1 w.are
          w.font.drawn all i glyph kept.4 h was is opened made;
      told = λ was is opened made.
          kept-like IsSameGlyph choice.retain_gids (named_of (glyphs_of choice) w.pairs) old.cff.now new.cff.now w.origins kept.1 w.are
          w.font.same all i glyph kept.4 h was is opened made;
      advance = same-advance old new w.placed i glyph w.hmtx (hhea-told choice old new w) w.advances placed;
      bearing = same-bearing old new w.placed i glyph w.hmtx (hhea-told choice old new w) placed;
    }

-- another glyph has the metrics of .notdef, if glyphs keep their numbers
emptied : (choice : Choice) (old new : Face) (w : Known choice old new) (i : ℕ) → choice.retain_gids ≡ true → i < length w.origins →
    (IsKeptGlyph choice old i → ⊥) → HasNotdefMetrics old new i
emptied choice old new w i retain less other =
    let spread : AreSpread w.at.kept (length w.origins) w.placed =
    subst (λ (r : Bool). ArePlaced r w.at.kept (length w.origins) w.placed) retain w.at.at in
    let placed = placed-empty w.at.kept w.placed (length w.origins) i spread less
    (λ there. other (w.pairs, w.at.kept, w.kept, w.at.are, there)) in
    record {
      advance = same-advance old new w.placed i 0 w.hmtx (hhea-told choice old new w) w.advances placed;
      bearing = same-bearing old new w.placed i 0 w.hmtx (hhea-told choice old new w) placed;
    }

-- the map gives a kept character the new number of its glyph
char-number : (choice : Choice) (old new : Face) (w : Known choice old new) (char glyph i : ℕ) → IsKept choice old.map char glyph →
    Maps new.map char i → IsOrigin w.origins i glyph
char-number choice old new w char glyph i kept maps =
    let at = w.kept.all char glyph kept in
    let told = char-in choice old new w char i maps in
    let here = mapping-there w.pairs w.cmap.is.mappings w.cmap.is.numbers w.cmap.is.are at.0 at.1 at.2 in
    let is : i ≡ get_or w.cmap.is.numbers at.1.glyph 0 = told.given at.0 _ here at.3 in
    let asked : Contains (named_of (glyphs_of choice) w.pairs) glyph =
    subst (λ g. Contains (named_of (glyphs_of choice) w.pairs) g) at.4 (glyph-named (glyphs_of choice) w.pairs at.0 at.1 at.2) in
    let number : i ≡ get_or w.cmap.is.numbers glyph 0 = is ∙ ap (λ g. get_or w.cmap.is.numbers g 0) at.4 in
    subst (λ n. IsOrigin w.origins n glyph) (sym number)
    (numbered w.origins w.cmap.is.numbers glyph w.cmap.is.numbered (origin-there choice old new w glyph asked))

in-order : (choice : Choice) (old new : Face) (w : Known choice old new) (origins : List ℕ) → AreOriginsOf choice old origins →
    AreInOrder choice old new origins
in-order choice old new w origins h =
    let one = one-origins choice old.map h.0 w.pairs old.cff.now origins w.origins h.1 w.kept h.2 w.are in
    subst (AreInOrder choice old new) (sym one) (record {
      counted = counted-so choice old new w;
      same = λ i glyph origin kept. same-kept-glyph choice old new w i glyph origin kept;
      emptied = λ i retain less other. emptied choice old new w i retain less other;
      maps = λ char glyph i kept maps. char-number choice old new w char glyph i kept maps;
    })

-- a new face whose tables these are
pub known : (choice : Choice) (old new : Face) (pairs : List Mapping) (origins placed font : List ℕ) (made : Made) →
    AreKeptPairs choice old.map pairs → IsSubsetFont choice.retain_gids (named_of (glyphs_of choice) pairs) old.cff.now font →
    AreOrigins choice.retain_gids (named_of (glyphs_of choice) pairs) old.cff.now origins →
    HasPlaced choice.retain_gids (named_of (glyphs_of choice) pairs) old.cff.now origins placed → IsMade old pairs origins placed made →
    HasParts choice old.file font made new.file → (file : List ℕ) → IsFaceIn file 0 new → Known choice old new
known choice old new pairs origins placed font made kept is are at m has file read = record {
  pairs = pairs;
  origins = origins;
  kept = kept;
  font = subst (λ (xs : List ℕ). IsSubsetFont choice.retain_gids (named_of (glyphs_of choice) pairs) old.cff.now xs)
      (one-table new.file cff_tag font new.cff.now has.cff read.cff) is;
  are = are;
  placed = placed;
  at = at;
  cmap = subst (λ (xs : List ℕ). IsMapOf old.cmap.now pairs origins placed xs) (one-table new.file cmap_tag made.cmap.items new.cmap.now has.cmap read.cmap) m.cmap;
  hhea = subst (λ (xs : List ℕ). IsWord xs 34 (length origins))
      (one-table new.file hhea_tag made.hhea.items new.hhea.now has.hhea read.hhea) m.hhea;
  hmtx = subst (λ (xs : List ℕ). IsHmtxOf old placed xs) (one-table new.file hmtx_tag made.hmtx.items new.hmtx.now has.hmtx read.hmtx) m.hmtx;
  maxp = subst (λ (xs : List ℕ). IsGlyphs xs (length origins))
      (one-table new.file maxp_tag made.maxp.items new.maxp.now has.maxp read.maxp) m.maxp;
  map = read.map;
  advances = read.advances;
}

pub subset-face : (choice : Choice) (old new : Face) (pairs : List Mapping) (origins placed font : List ℕ) (made : Made) →
    AreKeptPairs choice old.map pairs → IsSubsetFont choice.retain_gids (named_of (glyphs_of choice) pairs) old.cff.now font →
    AreOrigins choice.retain_gids (named_of (glyphs_of choice) pairs) old.cff.now origins →
    HasPlaced choice.retain_gids (named_of (glyphs_of choice) pairs) old.cff.now origins placed → IsMade old pairs origins placed made →
    HasParts choice old.file font made new.file → (file : List ℕ) → IsFaceIn file 0 new → IsSubsetFace choice old new
unfolding known
subset-face choice old new pairs origins placed font made kept is are at m has file read =
    let w = known choice old new pairs origins placed font made kept is are at m has file read in
    record {
      named = named_of (glyphs_of choice) pairs;
      are = λ glyph h. named-for choice old.map pairs kept glyph h;
      font = w.font;
      glyphs = λ glyph h. glyphs-there choice old new w glyph h;
      characters = record {
        kept = λ char glyph h. char-kept choice old new w char glyph h;
        only = λ char i some maps. char-only choice old new w char i some maps;
      };
      ordered = λ all h. in-order choice old new w all h;
      counted = (length origins, counted-so choice old new w);
      cmap = record {
        plain = w.cmap.plain;
        added = w.cmap.like.added;
        headers = w.cmap.is.headers;
        format4 = w.cmap.like.format4 w.cmap.is.format4;
        mappings = w.cmap.is.mappings;
        are = are-mappings choice old new w;
        told_in_4 = w.cmap.like.told_in_4 (in_segments w.cmap.is.mappings) w.cmap.is.told_in_4;
        only = w.cmap.is.only;
        records = w.cmap.is.records;
        ascend = w.cmap.like.ascend w.cmap.is.ascend;
      };
      sequences = record {
        pairs = pairs;
        are = kept;
        kept = at.kept;
        glyphs = at.are;
        sequences = with-numbers old.cmap.now (chars_of pairs) (IsFirstIndex placed) (IsNewNumber choice.retain_gids at.kept) new.cmap.now
            (new-numbers choice.retain_gids (named_of (glyphs_of choice) pairs) old.cff.now origins at.kept placed are at.are at.at)
            w.cmap.sequences;
      };
      hhea = subst (λ (xs : List ℕ). KeepsBut 34 old.hhea.now xs)
          (one-table new.file hhea_tag made.hhea.items new.hhea.now has.hhea read.hhea) m.hhea_kept;
      maxp = subst (λ (xs : List ℕ). KeepsBut 4 old.maxp.now xs)
          (one-table new.file maxp_tag made.maxp.items new.maxp.now has.maxp read.maxp) m.maxp_kept;
      post = (made.post.items, record { is = has.post; version = m.post.version; kept = m.post.kept; lacking = m.post.lacking });
      copied = has.copied;
      given = has.given;
      only = has.only;
    }

four-small : (bytes : List ℕ) (place : ℕ) → AreBytes bytes → place + 4 ≤ length bytes → number_at bytes place 4 < 4294967296
four-small bytes place are room =
    let e = of_four bytes place room in
    let a = are place in
    let b = are (place + 1) in
    let c = are (place + 2) in
    let d = are (place + 3) in
    omega (arith, e, a, b, c, d)

bytes-after : (bytes : List ℕ) (n : ℕ) → AreBytes bytes → AreBytes (drop n bytes)
bytes-after bytes n are i = let e = get_or-drop n bytes i 0 in let p = are (n + i) in omega (arith, e, p)

-- a map that lies within a table
some-map : (cmap : List ℕ) (place : ℕ) → AreBytes (drop place cmap) → IsWhole (drop place cmap) → (it : CharacterMap) × IsMapAt cmap place it
some-map cmap place are whole = elim whole [
  | inl four ↦ (
    Segments (record {
      table = record { ref_ptr = (0, 0); now = drop place cmap };
      count = number_at (drop place cmap) 6 2 / 2;
      rises = false;
      room = four.1;
      counted = let room = four.1 in let p = two-small (drop place cmap) 6 are (omega (arith, room)) in omega (arith, p);
      risen = λ e. absurd (cc);
    }),
    record { format = four.0; bytes = refl; counted = refl },
  )
  | inr more ↦ elim more [
    | inl twelve ↦ (
      Groups (record {
        table = record { ref_ptr = (0, 0); now = drop place cmap };
        count = number_at (drop place cmap) 12 4;
        rises = false;
        room = twelve.1;
        counted = let room = twelve.1 in four-small (drop place cmap) 12 are (omega (arith, room));
        risen = λ e. absurd (cc);
      }),
      record { format = twelve.0; bytes = refl; counted = refl },
    )
    | inr six ↦ (
      Trimmed (record {
        table = record { ref_ptr = (0, 0); now = drop place cmap };
        first = number_at (drop place cmap) 6 2;
        count = number_at (drop place cmap) 8 2;
        room = six.1;
      }),
      record { format = six.0; bytes = refl; begins = refl; counted = refl },
    )
  ]
]

-- a face of a file that opens
a-face : (bytes : List ℕ) (count : ℕ) → Opens bytes count → (file : FontFile) × IsFaceOf bytes 0 file
a-face bytes count opens = (
  record { bytes = record { ref_ptr = (0, 0); now = bytes }; start = 0; count = count; room = opens.directory.room },
  record { lent = refl; begins = opens.face; directory = opens.directory },
)

-- the new font has a glyph
some-origin : (retain : Bool) (named cff flat origins : List ℕ) → IsSubsetFont retain named cff flat → AreOrigins retain named cff origins →
    0 < length origins
some-origin retain named cff flat origins is are =
    let h = has-origin retain named cff flat origins is are (get_or named 0 0) (Contains-get_or named 0 0 is.some) in
    let there = h.1.there in omega (arith, there)

-- the file is opened
opened : (choice : Choice) (old : Face) (pairs : List Mapping) (origins placed font : List ℕ) (made : Made) (file : List ℕ) → 0 < length origins →
    length placed ≡ length origins → IsMade old pairs origins placed made → IsFileOfParts choice old.file font made file → (new : Face) × IsFaceIn file 0 new
opened choice old pairs origins placed font made file some as_many m it =
    let face = a-face file it.opens.0 it.opens.1 in
    let has = it.is face.0 face.1 in
    let readable = m.cmap.like.read m.cmap.is.readable in
    let map = some-map made.cmap.items (place_at made.cmap.items readable.i)
    (bytes-after made.cmap.items (place_at made.cmap.items readable.i) m.cmap_bytes) readable.whole in
    let many : length m.hmtx.metrics ≡ length origins = many-metrics old placed made.hmtx.items m.hmtx ∙ as_many in
    let told : HasAdvances made.hhea.items made.hmtx.items (length origins) =
    m.hmtx.read made.hhea.items (length origins) m.hhea some (omega (arith, many)) in (
      record {
        file = face.0;
        cff = record { ref_ptr = (0, 0); now = font };
        cmap = record { ref_ptr = (0, 0); now = made.cmap.items };
        map = map.0;
        hhea = record { ref_ptr = (0, 0); now = made.hhea.items };
        hmtx = record { ref_ptr = (0, 0); now = made.hmtx.items };
        advances = record {
          hmtx = record { ref_ptr = (0, 0); now = made.hmtx.items };
          count = length origins;
          some = told.some;
          room = told.room;
        };
        maxp = record { ref_ptr = (0, 0); now = made.maxp.items };
      },
      record {
        read = face.1;
        cff = has.cff;
        cmap = has.cmap;
        map = (readable.i, readable.chosen, map.1);
        hhea = has.hhea;
        hmtx = has.hmtx;
        advances = record {
          lent = refl;
          told = told;
        };
        maxp = has.maxp;
      },
    )

-- placed glyphs are few
pub few-by : (retain : Bool) (cff named xs ys origins kept placed : List ℕ) (count : ℕ) → xs ≡ named → ys ≡ named → count ≡ length origins →
    AreKept xs cff kept → AreOrigins retain ys cff origins → ArePlaced retain kept count placed → AreFew origins → AreFew placed
few-by retain cff named xs ys origins kept placed count of-xs of-ys counted of_kept are at few =
    few-placed retain named cff origins kept placed (subst (λ (ns : List ℕ). AreOrigins retain ns cff origins) of-ys are)
    (subst (λ (ns : List ℕ). AreKept ns cff kept) of-xs of_kept) (subst (λ n. ArePlaced retain kept n placed) counted at) few

-- tables that are made of copies of these lists
pub made-by : (old : Face) (ps pairs : List Mapping) (os origins xs placed : List ℕ) (made : Made) → ps ≡ pairs → os ≡ origins → xs ≡ placed →
    IsMade old ps os xs made → IsMade old pairs origins placed made
made-by old ps pairs os origins xs placed made same-pairs same-origins same m =
    subst (λ (ys : List ℕ). IsMade old pairs origins ys made) same
    (subst (λ (ys : List ℕ). IsMade old pairs ys xs made) same-origins
    (subst (λ (qs : List Mapping). IsMade old qs os xs made) same-pairs m))

pub if-subset : (r : Result (Vec ℕ Global) Error) (choice : Choice) (old : Face) (pairs : List Mapping) (named origins placed font : List ℕ)
    (made : Made) → AreKeptPairs choice old.map pairs → named ≡ named_of (glyphs_of choice) pairs →
    IsSubsetFont choice.retain_gids named old.cff.now font → KeepsWithin choice.limit named old.cff.now →
    AreOrigins choice.retain_gids named old.cff.now origins → HasPlaced choice.retain_gids named old.cff.now origins placed →
    IsMade old pairs origins placed made → IfOk r (λ file. IsFileOfParts choice old.file font made file.items) →
    IfOk r (λ file. IsCutFile choice old file.items)
if-subset (Ok file) choice old pairs named origins placed font made kept same is within are at m it =
    let font-is : IsSubsetFont choice.retain_gids (named_of (glyphs_of choice) pairs) old.cff.now font =
    subst (λ (xs : List ℕ). IsSubsetFont choice.retain_gids xs old.cff.now font) same is in
    let origins-are : AreOrigins choice.retain_gids (named_of (glyphs_of choice) pairs) old.cff.now origins =
    subst (λ (xs : List ℕ). AreOrigins choice.retain_gids xs old.cff.now origins) same are in
    let places : HasPlaced choice.retain_gids (named_of (glyphs_of choice) pairs) old.cff.now origins placed =
    subst (λ (xs : List ℕ). HasPlaced choice.retain_gids xs old.cff.now origins placed) same at in
    record {
      within = (pairs, kept, subst (λ (xs : List ℕ). KeepsWithin choice.limit xs old.cff.now) same within);
      opens = it.opens;
      sound = it.sound;
      there = opened choice old pairs origins placed font made file.items
          (some-origin choice.retain_gids named old.cff.now font origins is are)
          (placed-many choice.retain_gids named old.cff.now origins at.kept placed are at.are at.at) m it;
      is = λ new read.
          subset-face choice old new pairs origins placed font made kept font-is origins-are places m (it.is new.file read.read) file.items read;
    }
if-subset (Err e) choice old pairs named origins placed font made kept same is within are at m it = tt

pub subset-by : (r : Result (Vec ℕ Global) Error) (choice : Choice) (old : Face) →
    (choice.lenient ≡ false → NoneIsMissing old.map choice.chars.now) → IfOk r (λ file. IsCutFile choice old file.items) →
    IfOk r (λ file. IsSubsetFile choice old file.items)
subset-by (Ok file) choice old all it = record {
  opens = it.opens;
  sound = it.sound;
  all = all;
  within = it.within;
  there = it.there;
  is = it.is;
}
subset-by (Err e) choice old all it = tt

pub subset-so : (r : Result (Vec ℕ Global) Error) (choice : Choice) (bytes : List ℕ) (number : ℕ) (old : Face) →
    IsFaceIn bytes number old → IfOk r (λ file. IsSubsetFile choice old file.items) → IfOk r (λ file. IsSubsetOf choice bytes number file.items)
subset-so (Ok file) choice bytes number old was it = record {
  old = old;
  was = was;
  opens = it.opens;
  sound = it.sound;
  all = it.all;
  within = it.within;
  there = it.there;
  is = it.is;
}
subset-so (Err e) choice bytes number old was it = tt

-- a list that is not empty has an item
pub some-named : (named : List ℕ) → (named ≡ [] → ⊥) → 0 < length named
some-named [] h = absurd (h refl)
some-named (one ∷ named) h = omega arith

missing-so : (e : Error) (choice : Choice) (old : Face) → choice.lenient ≡ false → IsFirstMissing old.map choice.chars.now e →
    NoSubsetFrom choice old e
missing-so (MissingCharacter char) choice old strict h = (strict, h)
missing-so Memory choice old strict h = absurd h
missing-so TooLarge choice old strict h = absurd h
missing-so (SameTag tag) choice old strict h = absurd h
missing-so (File e) choice old strict h = absurd h
missing-so (MissingTable tag) choice old strict h = absurd h
missing-so NoMap choice old strict h = absurd h
missing-so NoAdvances choice old strict h = absurd h
missing-so (Font e) choice old strict h = absurd h
missing-so Overlap choice old strict h = absurd h
missing-so Cut choice old strict h = absurd h

from-by : (e : Error) (choice : Choice) (old : Face) → NoSubsetFrom choice old e → NoSubsetBy choice old e
from-by NoAdvances choice old h = absurd h
from-by (MissingCharacter char) choice old h = h
from-by Memory choice old h = h
from-by TooLarge choice old h = h
from-by (SameTag tag) choice old h = h
from-by (File e) choice old h = h
from-by (MissingTable tag) choice old h = h
from-by NoMap choice old h = h
from-by (Font e) choice old h = h
from-by Overlap choice old h = h
from-by Cut choice old h = h

-- the `hhea` table of an opened face is not truncated
by-from : (e : Error) (choice : Choice) (bytes : List ℕ) (number : ℕ) (old : Face) → IsFaceIn bytes number old → NoSubsetBy choice old e →
    NoSubsetFrom choice old e
by-from NoAdvances choice bytes number old was h = absurd (let w = was.advances.told.counted.within in omega (arith, w, h))
by-from (MissingCharacter char) choice bytes number old was h = h
by-from Memory choice bytes number old was h = h
by-from TooLarge choice bytes number old was h = h
by-from (SameTag tag) choice bytes number old was h = h
by-from (File e) choice bytes number old was h = h
by-from (MissingTable tag) choice bytes number old was h = h
by-from NoMap choice bytes number old was h = h
by-from (Font e) choice bytes number old was h = h
by-from Overlap choice bytes number old was h = h
by-from Cut choice bytes number old was h = h

pub no-character-so : (e : Error) (choice : Choice) (old : Face) → choice.lenient ≡ false → IsFirstMissing old.map choice.chars.now e →
    NoSubsetBy choice old e
no-character-so e choice old strict h = from-by e choice old (missing-so e choice old strict h)

pub no-subset-by : (r : Result (Vec ℕ Global) Error) (choice : Choice) (old : Face) → IfErr r (λ e. NoSubsetFrom choice old e) →
    IfErr r (λ e. NoSubsetBy choice old e)
no-subset-by (Ok file) choice old h = tt
no-subset-by (Err e) choice old h = from-by e choice old h

pub no-subset-so : (r : Result (Vec ℕ Global) Error) (choice : Choice) (bytes : List ℕ) (number : ℕ) (old : Face) →
    IsFaceIn bytes number old → IfErr r (λ e. NoSubsetBy choice old e) → IfErr r (λ e. NoSubsetOf choice bytes number e)
no-subset-so (Ok file) choice bytes number old was h = tt
no-subset-so (Err e) choice bytes number old was h = inr (old, was, by-from e choice bytes number old was h)

pub unmade-so : (e : Error) (choice : Choice) (old : Face) → IsUnmade old e → NoSubsetFrom choice old e
unmade-so Memory choice old h = tt
unmade-so TooLarge choice old h = absurd h
unmade-so Cut choice old h = h
unmade-so (SameTag tag) choice old h = absurd h
unmade-so (File e) choice old h = absurd h
unmade-so (MissingTable tag) choice old h = absurd h
unmade-so NoMap choice old h = absurd h
unmade-so NoAdvances choice old h = absurd h
unmade-so (Font e) choice old h = absurd h
unmade-so Overlap choice old h = absurd h
unmade-so (MissingCharacter char) choice old h = absurd h

pub no-made-so : (e : Error) (choice : Choice) (old : Face) → IsUnmade old e → NoSubsetFrom choice old e
no-made-so e choice old h = unmade-so e choice old h

-- the tables of a subset that was made
tables-of : (choice : Choice) (old : Face) (pairs : List Mapping) (origins placed font : List ℕ) (made : Made) (tables : List Table) →
    AreKeptPairs choice old.map pairs → IsSubsetFont choice.retain_gids (named_of (glyphs_of choice) pairs) old.cff.now font →
    AreFew placed → IsMade old pairs origins placed made → AreParts choice old.file font made tables →
    ((tag : ℕ) → tagged tables tag ≤ 1) → AreTablesOf choice old tables
tables-of choice old pairs origins placed font made tables kept is few m parts once = record {
  named = named_of (glyphs_of choice) pairs;
  are = λ glyph h. named-for choice old.map pairs kept glyph h;
  cff = (font, parts.cff, is);
  cmap = (
    made.cmap.items,
    parts.cmap,
    (
      m.cmap.plain,
      let size = m.cmap.is.size in let most = few-pairs choice old.map pairs kept in omega (arith, size, most),
      m.cmap.like.added,
    ),
  );
  hhea = (made.hhea.items, parts.hhea, m.hhea_kept.size);
  hmtx = (
    made.hmtx.items,
    parts.hmtx,
    let size = m.hmtx.size in let many = many-metrics old placed made.hmtx.items m.hmtx in let most = few.0 in
        omega (arith, size, many, most),
  );
  maxp = (made.maxp.items, parts.maxp, m.maxp_kept.size);
  post = (made.post.items, parts.post, m.post_size);
  copied = parts.copied;
  given = parts.given;
  only = parts.only;
  once = once;
}

unwritten-so : (e : Error) (choice : Choice) (old : Face) (pairs : List Mapping) (origins placed font : List ℕ) (made : Made) →
    AreKeptPairs choice old.map pairs → IsSubsetFont choice.retain_gids (named_of (glyphs_of choice) pairs) old.cff.now font →
    AreFew placed → IsMade old pairs origins placed made → NoFileOfParts choice old.file font made e → NoSubsetFrom choice old e
unwritten-so Memory choice old pairs origins placed font made kept is few m h = tt
unwritten-so TooLarge choice old pairs origins placed font made kept is few m h =
    (h.0, tables-of choice old pairs origins placed font made h.0 kept is few m h.1 h.2, h.3)
unwritten-so (SameTag tag) choice old pairs origins placed font made kept is few m h = h
unwritten-so Cut choice old pairs origins placed font made kept is few m h = absurd h
unwritten-so (File e) choice old pairs origins placed font made kept is few m h = absurd h
unwritten-so (MissingTable tag) choice old pairs origins placed font made kept is few m h = absurd h
unwritten-so NoMap choice old pairs origins placed font made kept is few m h = absurd h
unwritten-so NoAdvances choice old pairs origins placed font made kept is few m h = absurd h
unwritten-so (Font e) choice old pairs origins placed font made kept is few m h = absurd h
unwritten-so Overlap choice old pairs origins placed font made kept is few m h = absurd h
unwritten-so (MissingCharacter char) choice old pairs origins placed font made kept is few m h = absurd h

pub no-written-so : (r : Result (Vec ℕ Global) Error) (choice : Choice) (old : Face) (pairs : List Mapping) (named origins placed font : List ℕ)
    (made : Made) → AreKeptPairs choice old.map pairs → named ≡ named_of (glyphs_of choice) pairs →
    IsSubsetFont choice.retain_gids named old.cff.now font → AreFew placed → IsMade old pairs origins placed made →
    IfErr r (λ e. NoFileOfParts choice old.file font made e) → IfErr r (λ e. NoSubsetFrom choice old e)
no-written-so (Ok file) choice old pairs named origins placed font made kept same is few m h = tt
no-written-so (Err e) choice old pairs named origins placed font made kept same is few m h =
    unwritten-so e choice old pairs origins placed font made kept
    (subst (λ (xs : List ℕ). IsSubsetFont choice.retain_gids xs old.cff.now font) same is) few m h

-- the font of the named glyphs is refused
pub no-font-so : (e : Error) (choice : Choice) (old : Face) (pairs : List Mapping) (named all : List ℕ) → AreKeptPairs choice old.map pairs →
    named ≡ named_of (glyphs_of choice) pairs → all ≡ named →
    (fault : Refusal) × (e ≡ errors.Font fault) × IsCutRefusedBy choice.limit choice.retain_gids all old.cff.now fault →
    NoSubsetFrom choice old e
no-font-so e choice old pairs named all kept is same h =
    subst (λ (x : Error). NoSubsetFrom choice old x) (sym h.1) (
      pairs,
      kept,
      subst (λ (xs : List ℕ). IsCutRefusedBy choice.limit choice.retain_gids xs old.cff.now h.0) (same ∙ is) h.2,
    )

pub no-origins-so : (e : Error) (choice : Choice) (old : Face) (pairs : List Mapping) (named all : List ℕ) →
    AreKeptPairs choice old.map pairs → named ≡ named_of (glyphs_of choice) pairs → all ≡ named →
    HasNoOrigins choice.limit choice.retain_gids all old.cff.now e → NoSubsetFrom choice old e
no-origins-so e choice old pairs named all kept is same h = elim h [
  | inl memory ↦ subst (λ (x : Error). NoSubsetFrom choice old x) (sym memory) tt
  | inr font ↦ no-font-so e choice old pairs named all kept is same font
]

-- the origins of a choice are not found
no-order : (e : Error) (choice : Choice) (old : Face) (pairs : List Mapping) (all : List ℕ) → AreKeptPairs choice old.map pairs →
    all ≡ named_of (glyphs_of choice) pairs → HasNoOrigins choice.limit choice.retain_gids all old.cff.now e → NoOriginsOf choice old e
no-order e choice old pairs all kept same h = elim h [
  | inl memory ↦ subst (λ (x : Error). NoOriginsOf choice old x) (sym memory) tt
  | inr font ↦ subst (λ (x : Error). NoOriginsOf choice old x) (sym font.1) (
    pairs,
    kept,
    subst (λ (xs : List ℕ). IsCutRefusedBy choice.limit choice.retain_gids xs old.cff.now font.0) same font.2,
  )
]

pub no-origins-of : (r : Result (Vec ℕ Global) Error) (choice : Choice) (old : Face) (pairs : List Mapping) (all : List ℕ) →
    AreKeptPairs choice old.map pairs → all ≡ named_of (glyphs_of choice) pairs →
    IfErr r (λ e. HasNoOrigins choice.limit choice.retain_gids all old.cff.now e) → IfErr r (λ e. NoOriginsOf choice old e)
no-origins-of (Ok origins) choice old pairs all kept same h = tt
no-origins-of (Err e) choice old pairs all kept same h = no-order e choice old pairs all kept same h

pub origins-so : (r : Result (Vec ℕ Global) Error) (choice : Choice) (old : Face) (pairs : List Mapping) (all : List ℕ) →
    AreKeptPairs choice old.map pairs → all ≡ named_of (glyphs_of choice) pairs →
    IfOk r (λ origins. AreOrigins choice.retain_gids all old.cff.now origins.items) → IfOk r (λ origins. AreOriginsOf choice old origins.items)
origins-so (Ok origins) choice old pairs all kept same h =
    (pairs, kept, subst (λ (xs : List ℕ). AreOrigins choice.retain_gids xs old.cff.now origins.items) same h)
origins-so (Err e) choice old pairs all kept same h = tt
