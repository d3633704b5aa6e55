-- What C is told of a dictionary is the part that it has where the font is opened in place.
use Rattle.std.proofs.Common.{◌≡◌, refl, sym, ap, subst, ◌∙◌, inl, inr, ℕ, ◌+◌, ◌==◌, false, ℤ, pos, ◌+ℤ◌, List, [], arith}
use Rattle.std.specs.Prelude.{None}
use Rattle.std.proofs.lemmas.Bool.Decides.{nat_tests}
use Rattle.postscript_base.proofs.DictionaryIs.{get_last}
use Rattle.postscript_base.specs.Compact1.Defaults.{look, first_of, first_two_of}
use Rattle.postscript_base.specs.Compact1.Dictionary.{Dictionary, dictionary_of}
use Rattle.postscript_base.specs.Tape.Outcome.{Got}
use Rattle.postscript_base.specs.declared.compact1.operator.Operator.TheVariants as operators
use Rattle.postscript_c.proofs.Cutting.{every-width, zero-width}
use Rattle.postscript_c.specs.Glyphs.{index_at}
use Rattle.postscript_c.specs.Places as told
use Rattle.postscript_c.specs.AtStart.{NamesSubroutines}
use Rattle.postscript_c.specs.Widths.{AreWidths, IsWidth}
use Rattle.postscript_compact1.proofs.OperandLaws.{bounds_has, bounds_is, placed_is}
use Rattle.postscript_compact1.proofs.Outcomes.{got}
use Rattle.postscript_compact1.specs.FontSet.Parts.{HasFirst, HasPrivate, IsPlace}
use Rattle.postscript_compact1.specs.Kinds.{map_of}
use Rattle.postscript_base.proofs.Opening.{opened_is}
use Rattle.postscript_view.proofs.Wider.{map_is, slice_is}
use Rattle.postscript_view.specs.Layout.{HasLocals, IsIndexAt, WithBoth, WithoutPrivate, WithoutSubrs}
use Rattle.postscript_view.specs.Order.{slice_at}

-- ---- an INDEX at a place, which is none at 0
pub index_there : (bytes : List ℕ) (there : ℕ) (items : List (List ℕ)) → (there ≡ 0 → ⊥) → IsIndexAt bytes there items →
    index_at there bytes 0 ≡ Got items 0
unfolding index_at
index_there bytes there items some h =
    let no : (there == 0) ≡ false = grind (arith, nat_tests) in
    rw (no, opened_is bytes there items h.0 h.2) refl

pub index_none : (bytes : List ℕ) → index_at 0 bytes 0 ≡ Got [] 0
unfolding index_at
index_none bytes = refl

-- ---- the place of the local subroutines
subs_told : (bytes : List ℕ) (base : ℕ) (local : Dictionary) (z : ℤ) (there place : ℕ) → HasFirst local operators.Subrs z →
    pos base +ℤ z ≡ pos there → IsPlace there → told.subroutines base local bytes place ≡ Got there place
unfolding told.subroutines
subs_told bytes base local z there place h sum fits =
    let on : 0 + there ≡ there = omega arith in
    rw h.1 (placed_is 0 base local operators.Subrs z there bytes place h sum (subst IsPlace (sym on) fits) ∙ ap (λ n. Got n place) on)

subs_lack : (bytes : List ℕ) (base : ℕ) (local : Dictionary) (place : ℕ) → first_of (look local operators.Subrs) ≡ None →
    told.subroutines base local bytes place ≡ Got 0 place
unfolding told.subroutines
subs_lack bytes base local place none = rw none refl

own_told : (bytes : List ℕ) (map local : Dictionary) (offset there place : ℕ) → HasPrivate bytes 0 map offset local →
    told.subroutines offset local bytes place ≡ Got there place → told.part map bytes place ≡ Got there place
unfolding told.part told.own_part
own_told bytes map local offset there place h s =
    rw (
      h.2.2,
      bounds_is 0 map h.0 offset bytes place h.2 h.3,
      slice_is h.0 (0 + offset) h.1 bytes place h.4,
      map_is h.1 local bytes place h.5,
    ) s

part_lacks : (bytes : List ℕ) (map : Dictionary) (place : ℕ) → first_two_of (look map operators.Private) ≡ None →
    told.part map bytes place ≡ Got 0 place
unfolding told.part
part_lacks bytes map place none = rw none refl

pub part_told : (bytes : List ℕ) (map local : Dictionary) (subs : List (List ℕ)) → HasLocals bytes map local subs →
    (NamesSubroutines bytes map local 0 → ⊥)
    → (there : ℕ) × ((place : ℕ) → told.part map bytes place ≡ Got there place) × (index_at there bytes 0 ≡ Got subs 0)
part_told bytes map local subs (WithBoth offset private s) none = (
  s.1,
  λ place. own_told bytes map local offset s.1 place private (subs_told bytes offset local s.0 s.1 place s.2 s.3 s.4.1),
  index_there bytes s.1 subs (λ zero. none (offset, s.0, private, s.2, s.3 ∙ ap pos zero)) s.4,
)
part_told bytes map local subs (WithoutSubrs offset private lacking empty) none = (
  0,
  λ place. own_told bytes map local offset 0 place private (subs_lack bytes offset local place lacking),
  index_none bytes ∙ ap (λ s. Got s 0) (sym empty),
)
part_told bytes map local subs (WithoutPrivate lacking is empty) none =
    (0, λ place. part_lacks bytes map place lacking, index_none bytes ∙ ap (λ s. Got s 0) (sym empty))

-- ---- the widths
abbrev AreWidthsOf : Dictionary → (default nominal : ℤ) → Type 0
AreWidthsOf local default nominal =
    IsWidth (first_of (look local operators.DefaultWidthX)) default × IsWidth (first_of (look local operators.NominalWidthX)) nominal

no_widths : AreWidthsOf (dictionary_of []) (pos 0) (pos 0)
no_widths = (rw (get_last [] operators.DefaultWidthX) zero-width, rw (get_last [] operators.NominalWidthX) zero-width)

-- a private dictionary that is named is the one whose widths are told
own_widths : (bytes : List ℕ) (map local : Dictionary) (offset : ℕ) (default nominal : ℤ) → HasPrivate bytes 0 map offset local →
    AreWidths bytes map default nominal → AreWidthsOf local default nominal
own_widths bytes map local offset default nominal h (inl lacks) = let there = h.2.2 in let none = lacks.0 in absurd (cc)
own_widths bytes map local offset default nominal h (inr w) =
    let b = got _ _ _ _ (sym (bounds_is 0 map h.0 offset bytes 0 h.2 h.3) ∙ w.named) in
    let size : h.0 ≡ w.size = ap (λ (b : ℕ × ℕ × ℕ). b.0) b.0 in
    let there : 0 + offset ≡ w.there = ap (λ (b : ℕ × ℕ × ℕ). b.2) b.0 in
    let S : ℕ → ℕ → Type 0 = λ there size. slice_at there size bytes 0 ≡ Got h.1 0 in
    let slice = subst (λ size. S w.there size) size (subst (λ there. S there h.0) there (slice_is h.0 (0 + offset) h.1 bytes 0 h.4)) in
    let t = got _ _ _ _ (sym slice ∙ w.stands) in
    let spelled = subst (λ (text : List ℕ). map_of text bytes 0 ≡ Got local 0) t.0 (map_is h.1 local bytes 0 h.5) in
    let l = got _ _ _ _ (sym w.spelled ∙ spelled) in (
      subst (λ (d : Dictionary). IsWidth (first_of (look d operators.DefaultWidthX)) default) l.0 w.default,
      subst (λ (d : Dictionary). IsWidth (first_of (look d operators.NominalWidthX)) nominal) l.0 w.nominal,
    )

pub same_widths : (bytes : List ℕ) (map local : Dictionary) (subs : List (List ℕ)) (default nominal : ℤ) →
    HasLocals bytes map local subs → AreWidths bytes map default nominal → AreWidthsOf local default nominal
same_widths bytes map local subs default nominal (WithBoth offset private s) w = own_widths bytes map local offset default nominal private w
same_widths bytes map local subs default nominal (WithoutSubrs offset private lacking empty) w =
    own_widths bytes map local offset default nominal private w
same_widths bytes map local subs default nominal (WithoutPrivate lacking is empty) (inl lacks) = rw (is, lacks.1, lacks.2) no_widths
same_widths bytes map local subs default nominal (WithoutPrivate lacking is empty) (inr w) =
    let named = bounds_has 0 map (w.size, w.offset, w.there) bytes 0 0 w.named in
    let there = named.0.2 in
    absurd (cc)

own_told_widths : (bytes : List ℕ) (map local : Dictionary) (offset : ℕ) → HasPrivate bytes 0 map offset local →
    (default : ℤ) × (nominal : ℤ) × AreWidths bytes map default nominal
own_told_widths bytes map local offset h =
    let default = every-width (first_of (look local operators.DefaultWidthX)) in
    let nominal = every-width (first_of (look local operators.NominalWidthX)) in (
      default.0,
      nominal.0,
      inr (record {
        size = h.0;
        offset = offset;
        there = 0 + offset;
        text = h.1;
        local = local;
        named = bounds_is 0 map h.0 offset bytes 0 h.2 h.3;
        stands = slice_is h.0 (0 + offset) h.1 bytes 0 h.4;
        spelled = map_is h.1 local bytes 0 h.5;
        default = default.1;
        nominal = nominal.1;
      }),
    )

pub told_widths : (bytes : List ℕ) (map local : Dictionary) (subs : List (List ℕ)) → HasLocals bytes map local subs →
    (default : ℤ) × (nominal : ℤ) × AreWidths bytes map default nominal
told_widths bytes map local subs (WithBoth offset private s) = own_told_widths bytes map local offset private
told_widths bytes map local subs (WithoutSubrs offset private lacking empty) = own_told_widths bytes map local offset private
told_widths bytes map local subs (WithoutPrivate lacking is empty) = (pos 0, pos 0, inl (lacking, refl, refl))
