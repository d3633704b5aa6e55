-- Two readings of one face agree.
use Rattle.std.proofs.Common.{◌≡◌, sym, ap, ◌∙◌, subst, inl, inr, ℕ, ◌+◌, List, arith}
use Rattle.std.proofs.lemmas.Bool.{cases_eq, cases_lt}
use Rattle.postscript_base.specs.Index.{number_at}
use Rattle.postscript_sfnt.specs.CharacterMap.{IsGlyphOf, first12, first4, gives12, gives4, glyph6, last12, last4}
use Rattle.postscript_sfnt.specs.Choice.{IsChosen, place_at}
use Rattle.postscript_sfnt.specs.Directory.{IsFace, IsTable, IsVersion, collection}
use Rattle.postscript_sfnt.specs.Lent.{IsFaceOf, IsTableOf}
use Rattle.postscript_sfnt.specs.Maps.{IsMapAt, Maps}
use Rattle.postscript_sfnt.specs.Metrics.{advance_of}
use Rattle.postscript_sfnt.specs.declared.character_map.CharacterMap.{CharacterMap}
use Rattle.postscript_sfnt.specs.declared.character_map.CharacterMap.TheVariants.{Segments, Groups, Trimmed}
use Rattle.postscript_sfnt.specs.declared.file.FontFile.{FontFile}
use Rattle.postscript_files.specs.Faces.{IsBestMap, cff_tag, cmap_tag, hhea_tag, hmtx_tag, maxp_tag}
use Rattle.postscript_files.specs.Readings.{ReadingsAgree}
use Rattle.postscript_files.proofs.Others.{one-table}

no-collection : (version : ℕ) → IsVersion version → version ≡ collection → ⊥
no-collection version (inl one) same = absurd (omega (arith, one, same))
no-collection version (inr (inl otto)) same = absurd (omega (arith, otto, same))
no-collection version (inr (inr true)) same = absurd (omega (arith, true, same))

one-start : (bytes : List ℕ) (number s t : ℕ) → IsFace bytes number s → IsFace bytes number t → s ≡ t
one-start bytes number s t (inl a) (inl b) = a.begins ∙ sym b.begins
one-start bytes number s t (inr a) (inr b) = a.begins ∙ sym b.begins
one-start bytes number s t (inl a) (inr b) = absurd (no-collection (number_at bytes 0 4) a.alone.version b.header.tag)
one-start bytes number s t (inr a) (inl b) = absurd (no-collection (number_at bytes 0 4) b.alone.version a.header.tag)

same-tables : (bytes : List ℕ) (number : ℕ) (a b : FontFile) → IsFaceOf bytes number a → IsFaceOf bytes number b →
    (tag : ℕ) (table : List ℕ) → IsTableOf a tag table → IsTableOf b tag table
same-tables bytes number a b x y tag table h =
    let lent = x.lent ∙ sym y.lent in
    let begins = one-start bytes number a.start b.start x.begins y.begins in
    let counted = x.directory.counted ∙ ap (λ s. number_at bytes (s + 4) 2) begins ∙ sym y.directory.counted in
    subst (λ (xs : List ℕ). IsTable xs b.start b.count tag table) lent
    (subst (λ s. IsTable a.bytes.now s b.count tag table) begins (subst (λ k. IsTable a.bytes.now a.start k tag table) counted h))

one-record : (cmap : List ℕ) (i j : ℕ) → IsChosen cmap i → IsChosen cmap j → i ≡ j
one-record cmap i j x y = elim (cases_eq i j) [
  | inl same ↦ same
  | inr other ↦ elim (cases_lt i j) [
    | inl less ↦ absurd (let low = y.best.first i less in let high = x.best.highest j y.best.listed in omega (arith, low, high))
    | inr more ↦ absurd (let low = x.best.first j (omega (arith, more, other)) in let high = y.best.highest i x.best.listed in
        omega (arith, low, high))
  ]
]

same-map : (cmap : List ℕ) (place : ℕ) (m n : CharacterMap) → IsMapAt cmap place m → IsMapAt cmap place n → (char glyph : ℕ) →
    Maps m char glyph → Maps n char glyph
same-map cmap place (Segments a) (Segments b) x y char glyph h =
    subst (λ k. IsGlyphOf (first4 b.table.now k) (last4 b.table.now) (gives4 b.table.now k) k char glyph) (x.counted ∙ sym y.counted)
    (subst (λ (xs : List ℕ). IsGlyphOf (first4 xs a.count) (last4 xs) (gives4 xs a.count) a.count char glyph) (x.bytes ∙ sym y.bytes) h)
same-map cmap place (Groups a) (Groups b) x y char glyph h =
    subst (λ k. IsGlyphOf (first12 b.table.now) (last12 b.table.now) (gives12 b.table.now) k char glyph) (x.counted ∙ sym y.counted)
    (subst (λ (xs : List ℕ). IsGlyphOf (first12 xs) (last12 xs) (gives12 xs) a.count char glyph) (x.bytes ∙ sym y.bytes) h)
same-map cmap place (Trimmed a) (Trimmed b) x y char glyph h =
    h ∙ ap (λ (xs : List ℕ). glyph6 xs a.first a.count char) (x.bytes ∙ sym y.bytes)
    ∙ ap (λ f. glyph6 b.table.now f a.count char) (x.begins ∙ sym y.begins)
    ∙ ap (λ k. glyph6 b.table.now b.first k char) (x.counted ∙ sym y.counted)
same-map cmap place (Segments a) (Groups b) x y char glyph h = absurd (let p = x.format in let q = y.format in omega (arith, p, q))
same-map cmap place (Segments a) (Trimmed b) x y char glyph h = absurd (let p = x.format in let q = y.format in omega (arith, p, q))
same-map cmap place (Groups a) (Segments b) x y char glyph h = absurd (let p = x.format in let q = y.format in omega (arith, p, q))
same-map cmap place (Groups a) (Trimmed b) x y char glyph h = absurd (let p = x.format in let q = y.format in omega (arith, p, q))
same-map cmap place (Trimmed a) (Segments b) x y char glyph h = absurd (let p = x.format in let q = y.format in omega (arith, p, q))
same-map cmap place (Trimmed a) (Groups b) x y char glyph h = absurd (let p = x.format in let q = y.format in omega (arith, p, q))

best-map : (cmap other : List ℕ) (m n : CharacterMap) → other ≡ cmap → IsBestMap cmap m → IsBestMap other n → (char glyph : ℕ) →
    Maps m char glyph → Maps n char glyph
best-map cmap other m n same x y char glyph h =
    let z : IsBestMap cmap n = subst (λ (xs : List ℕ). IsBestMap xs n) same y in
    let one = one-record cmap x.0 z.0 x.1 z.1 in
    same-map cmap (place_at cmap z.0) m n (subst (λ i. IsMapAt cmap (place_at cmap i) m) one x.2) z.2 char glyph h

pub readings-agree : ReadingsAgree
readings-agree bytes number a b x y =
    let moved = same-tables bytes number a.file b.file x.read y.read in
    let cmap = one-table b.file cmap_tag b.cmap.now a.cmap.now y.cmap (moved cmap_tag a.cmap.now x.cmap) in
    let hhea = one-table b.file hhea_tag b.hhea.now a.hhea.now y.hhea (moved hhea_tag a.hhea.now x.hhea) in
    let hmtx = one-table b.file hmtx_tag b.hmtx.now a.hmtx.now y.hmtx (moved hmtx_tag a.hmtx.now x.hmtx) in
    record {
      tables = moved;
      cff = one-table b.file cff_tag b.cff.now a.cff.now y.cff (moved cff_tag a.cff.now x.cff);
      cmap = cmap;
      hhea = hhea;
      hmtx = hmtx;
      maxp = one-table b.file maxp_tag b.maxp.now a.maxp.now y.maxp (moved maxp_tag a.maxp.now x.maxp);
      map = best-map a.cmap.now b.cmap.now a.map b.map cmap x.map y.map;
      advances = λ glyph.
          ap (λ (xs : List ℕ). advance_of xs b.advances.count glyph) (y.advances.lent ∙ hmtx ∙ sym x.advances.lent)
          ∙ ap (λ k. advance_of a.advances.hmtx.now k glyph) (y.advances.told.counted.value
          ∙ ap (λ (xs : List ℕ). number_at xs 34 2) hhea ∙ sym x.advances.told.counted.value);
    }
