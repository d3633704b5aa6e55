-- The reason why a face is not opened.
use Rattle.std.proofs.Common.{◌≡◌, sym, subst, ℕ, List}
use Rattle.postscript_sfnt.specs.Lent.{HasNoTable, IsFaceOf, IsTableOf}
use Rattle.postscript_sfnt.specs.Metrics.{HasAdvances}
use Rattle.postscript_sfnt.specs.declared.file.FontFile.{FontFile}
use Rattle.postscript_files.specs.Faces.{HasNoMap, IsNeeded, NoFaceIn, cmap_tag, hhea_tag, hmtx_tag}
use Rattle.postscript_files.specs.declared.error.Error.{Error}
use Rattle.postscript_files.specs.declared.error.Error.TheVariants.{MissingTable, NoAdvances, NoMap}

pub missing-so : (bytes : List ℕ) (number : ℕ) (file : FontFile) (tag : ℕ) (e : Error) → IsFaceOf bytes number file → IsNeeded tag →
    (e ≡ MissingTable tag) × HasNoTable file tag → NoFaceIn e bytes number
missing-so bytes number file tag e is needed h = subst (λ (x : Error). NoFaceIn x bytes number) (sym h.0) (file, is, (needed, h.1))

pub no-map-so : (bytes : List ℕ) (number : ℕ) (file : FontFile) (cmap : List ℕ) (e : Error) → IsFaceOf bytes number file →
    IsTableOf file cmap_tag cmap → (e ≡ NoMap) × HasNoMap cmap → NoFaceIn e bytes number
no-map-so bytes number file cmap e is table h = subst (λ (x : Error). NoFaceIn x bytes number) (sym h.0) (file, is, (cmap, table, h.1))

pub no-advances-so : (bytes : List ℕ) (number : ℕ) (file : FontFile) (hhea hmtx : List ℕ) (e : Error) → IsFaceOf bytes number file →
    IsTableOf file hhea_tag hhea → IsTableOf file hmtx_tag hmtx →
    (e ≡ NoAdvances) × ((count : ℕ) → HasAdvances hhea hmtx count → ⊥) → NoFaceIn e bytes number
no-advances-so bytes number file hhea hmtx e is a b h =
    subst (λ (x : Error). NoFaceIn x bytes number) (sym h.0) (file, is, (hhea, hmtx, a, b, h.1))
