-- The advances and the left side bearings of a subset.
use Rattle.std.proofs.Common.{◌≡◌, sym, ap, ◌∙◌, ℕ, pos, ◌+◌, ◌*◌, ◌<◌, List, length, arith}
use Rattle.std.specs.Prelude.{Some, map, slice_get, option_map, nat_lt, if◌then◌else◌}
use Rattle.std.proofs.lemmas.Bool.{le-ltb, lt-ltb}
use Rattle.std.proofs.lemmas.List.{length-map}
use Rattle.std.proofs.lemmas.Option.{slice_get-get_or, slice_get-map}
use Rattle.postscript_base.specs.Index.{number_at}
use Rattle.postscript_sfnt.specs.Lent.{AreAdvancesOf, advance_in}
use Rattle.postscript_sfnt.specs.Metrics.{IsWord, signed}
use Rattle.postscript_sfnt_write.specs.Metrics.{IsMetric}
use Rattle.postscript_sfnt_write.specs.declared.metrics.Metric.{Metric}
use Rattle.postscript_files.specs.Made.{IsHmtxOf}
use Rattle.postscript_files.specs.Measures.{bearing_in, metric_in}
use Rattle.postscript_files.specs.Origins.{IsOrigin}
use Rattle.postscript_files.specs.Subsets.{bearing_of}
use Rattle.postscript_files.specs.declared.face.Face.{Face}

-- the metric of a glyph of the old face
abbrev of_old : Face → ℕ → Metric
of_old old glyph = metric_in old.advances old.hmtx.now (number_at old.hhea.now 34 2) glyph

metric-there : (old : Face) (origins : List ℕ) (metrics : List Metric) (i glyph : ℕ) → metrics ≡ map (of_old old) origins →
    IsOrigin origins i glyph → IsMetric metrics i (of_old old glyph)
metric-there old origins metrics i glyph are h =
    ap (λ (ms : List Metric). slice_get ms i) are ∙ slice_get-map (of_old old) origins i
    ∙ ap (option_map (of_old old)) (slice_get-get_or origins i 0 h.there ∙ ap Some h.is)

as-many : (old : Face) (origins : List ℕ) (metrics : List Metric) → metrics ≡ map (of_old old) origins → length metrics ≡ length origins
as-many old origins metrics are = ap length are ∙ length-map origins (of_old old)

pub same-advance : (old new : Face) (origins : List ℕ) (i glyph : ℕ) → IsHmtxOf old origins new.hmtx.now →
    IsWord new.hhea.now 34 (length origins) → AreAdvancesOf new.hhea.now new.hmtx.now new.advances → IsOrigin origins i glyph →
    advance_in new.advances i ≡ advance_in old.advances glyph
same-advance old new origins i glyph made told read h =
    let many = as-many old origins made.metrics made.are in
    made.advances new.hhea.now (length origins) new.advances told (omega (arith, many)) read i (of_old old glyph) h.there
    (metric-there old origins made.metrics i glyph made.are h)

-- the bearing of a glyph that has an advance of its own
bearing-there : (hmtx : List ℕ) (count i : ℕ) → i < count → length hmtx ≡ count * 4 → bearing_in hmtx count i ≡ signed hmtx (i * 4 + 2)
bearing-there hmtx count i less size =
    ap (λ b. let place = if b then i * 4 + 2 else (i + count) * 2 in if nat_lt (length hmtx) (place + 2) then pos 0 else signed hmtx place)
    (lt-ltb i count less)
    ∙ ap (λ b. if b then pos 0 else signed hmtx (i * 4 + 2)) (le-ltb (length hmtx) (i * 4 + 2 + 2) (omega (arith, less, size)))

pub same-bearing : (old new : Face) (origins : List ℕ) (i glyph : ℕ) → IsHmtxOf old origins new.hmtx.now →
    IsWord new.hhea.now 34 (length origins) → IsOrigin origins i glyph → bearing_of new i ≡ bearing_of old glyph
same-bearing old new origins i glyph made told h =
    let size : length new.hmtx.now ≡ length origins * 4 = made.size ∙ ap (λ n. n * 4) (as-many old origins made.metrics made.are) in
    ap (λ n. bearing_in new.hmtx.now n i) (sym told.value) ∙ bearing-there new.hmtx.now (length origins) i h.there size
    ∙ made.bearings i (of_old old glyph) (metric-there old origins made.metrics i glyph made.are h)

pub many-metrics : (old : Face) (origins hmtx : List ℕ) (made : IsHmtxOf old origins hmtx) → length made.metrics ≡ length origins
many-metrics old origins hmtx made = as-many old origins made.metrics made.are
