-- Lookups that are written with a subtable for each old one, as they are appended.
use Rattle.std.proofs.Common.{◌≡◌, sym, ap, subst, ℕ, ◌+◌, ◌*◌, ◌≤◌, ◌<◌, List, [], ◌∷◌, ◌++◌, length, length-append, get_or, arith}
use Rattle.std.specs.Prelude.{Option}
use Rattle.std.proofs.lemmas.List.{append_assoc}
use Rattle.postscript_layout.specs.Numbers.{word}
use Rattle.postscript_layout_write.specs.Attaching.{AddsAttaching, IsArray, lead_of, numbers_of}
use Rattle.postscript_layout_write.specs.Flags.{set_of}
use Rattle.postscript_layout_write.specs.Holds.{Holds}
use Rattle.postscript_layout_write.specs.Marks.{of_format1, type_at, typed_at}
use Rattle.postscript_layout_write.specs.RuleSets.{rule_head_text}
use Rattle.postscript_layout_write.specs.Scopes.{mark_set_text}
use Rattle.postscript_layout_write.specs.Sets.{AreOffsets, Places}
use Rattle.postscript_layout_write.specs.Text.{array_text, coverage_text, offsets_text}
use Rattle.postscript_layout_write.specs.Typed.{AddsPart, AddsRows, AddsTyped, HasPart, HasParts, HasRows, HasTyped, PutsRows, has_ends, has_marks, has_singles, parts_text, rows_text}
use Rattle.postscript_layout_write.specs.declared.anchors.Side.{Side}
use Rattle.postscript_layout_write.specs.declared.anchors.Side.TheVariants.{Cursive, Singles}
use Rattle.postscript_layout_write.proofs.Lists.{push-each}
use Rattle.postscript_layout_write.proofs.Holding.{holds-in, holds-last, holds-on, holds-whole}
use Rattle.postscript_layout_write.proofs.MarkWriting.{attaching-in, attaching-on}

-- a subtable with more bytes after it, and in other bytes
has-rows-on : (side : Side) (gpos : List ℕ) (subtable : Option ℕ) (kept bytes more : List ℕ) (at : ℕ) → HasRows side gpos subtable kept bytes at →
    HasRows side gpos subtable kept (bytes ++ more) at
has-rows-on side gpos subtable kept bytes more at s = record {
  glyphs = s.glyphs;
  array = s.array;
  small = s.small;
  is = s.is;
  few = s.few;
  fit = s.fit;
  there = holds-on more s.there;
}

has-rows-in : (side : Side) (gpos : List ℕ) (subtable : Option ℕ) (kept t bytes : List ℕ) (at offset : ℕ) → Holds bytes t at →
    HasRows side gpos subtable kept bytes offset → HasRows side gpos subtable kept t (at + offset)
has-rows-in side gpos subtable kept t bytes at offset h s = record {
  glyphs = s.glyphs;
  array = s.array;
  small = s.small;
  is = s.is;
  few = s.few;
  fit = s.fit;
  there = holds-in h s.there;
}

part-on : (type : ℕ) (gpos : List ℕ) (part : Option ℕ) (kept bytes more : List ℕ) (at : ℕ) → HasPart type gpos part kept bytes at →
    HasPart type gpos part kept (bytes ++ more) at
part-on type gpos part kept bytes more at (has_singles one s) = has_singles one (has-rows-on Singles gpos part kept bytes more at s)
part-on type gpos part kept bytes more at (has_ends three s) = has_ends three (has-rows-on Cursive gpos (of_format1 gpos part) kept bytes more at s)
part-on type gpos part kept bytes more at (has_marks a b s) = has_marks a b (attaching-on type gpos (of_format1 gpos part) kept bytes more at s)

pub part-in : (type : ℕ) (gpos : List ℕ) (part : Option ℕ) (kept t bytes : List ℕ) (at offset : ℕ) → Holds bytes t at →
    HasPart type gpos part kept bytes offset → HasPart type gpos part kept t (at + offset)
part-in type gpos part kept t bytes at offset h (has_singles one s) = has_singles one (has-rows-in Singles gpos part kept t bytes at offset h s)
part-in type gpos part kept t bytes at offset h (has_ends three s) = has_ends three (has-rows-in Cursive gpos (of_format1 gpos part) kept t bytes at offset h s)
part-in type gpos part kept t bytes at offset h (has_marks a b s) = has_marks a b (attaching-in type gpos (of_format1 gpos part) kept t bytes at offset h s)

-- a subtable that is appended
pub adds-rows : (side : Side) (gpos : List ℕ) (subtable : Option ℕ) (kept glyphs array old new : List ℕ) → length kept < 65536 →
    IsArray side gpos subtable kept glyphs array → PutsRows side glyphs array old new → AddsRows side gpos subtable kept old new
adds-rows side gpos subtable kept glyphs array old new small is puts = record {
  more = rows_text side glyphs array;
  bytes = puts.text;
  has = record {
    glyphs = glyphs;
    array = array;
    small = small;
    is = is;
    few = puts.few;
    fit = puts.fit;
    there = subst (λ (xs : List ℕ). Holds (rows_text side glyphs array) xs (length old)) (sym puts.text) (holds-last old (rows_text side glyphs array));
  };
}

pub singles-added : (type : ℕ) (gpos : List ℕ) (part : Option ℕ) (kept old new : List ℕ) → type ≡ 1 → AddsRows Singles gpos part kept old new →
    AddsPart type gpos part kept old new
singles-added type gpos part kept old new one adds = record { more = adds.more; bytes = adds.bytes; has = has_singles one adds.has }

pub ends-added : (type : ℕ) (gpos : List ℕ) (part : Option ℕ) (kept old new : List ℕ) → type ≡ 3 → AddsRows Cursive gpos (of_format1 gpos part) kept old new →
    AddsPart type gpos part kept old new
ends-added type gpos part kept old new three adds = record { more = adds.more; bytes = adds.bytes; has = has_ends three adds.has }

pub attaching-added : (type : ℕ) (gpos : List ℕ) (part : Option ℕ) (kept old new : List ℕ) → (type ≡ 1 → ⊥) → (type ≡ 3 → ⊥) →
    AddsAttaching type gpos (of_format1 gpos part) kept old new → AddsPart type gpos part kept old new
attaching-added type gpos part kept old new a b adds = record { more = adds.more; bytes = adds.bytes; has = has_marks a b adds.has }

pub rows-joined : (side : Side) (glyphs array out : List ℕ) →
    ((out ++ array_text (numbers_of side (lead_of side + length array))) ++ array) ++ coverage_text glyphs ≡ out ++ rows_text side glyphs array
unfolding rows_text
rows-joined side glyphs array out = simp append_assoc

-- no subtable yet, and one more
pub parts-none : (gpos : List ℕ) (lookup type flag : ℕ) (kept offsets bytes : List ℕ) → offsets ≡ [] → bytes ≡ mark_set_text flag (set_of gpos lookup) →
    set_of gpos lookup < 65536 → HasParts gpos lookup type flag kept 0 offsets bytes
parts-none gpos lookup type flag kept offsets bytes none is small = record {
  many = ap length none;
  each = λ j less. absurd (omega (arith, less));
  set = subst (λ (xs : List ℕ). Holds (mark_set_text flag (set_of gpos lookup)) xs 0) (sym is) (holds-whole (mark_set_text flag (set_of gpos lookup)));
  set_small = small;
}

pub parts-more : (gpos : List ℕ) (lookup type flag : ℕ) (kept : List ℕ) (j offset : ℕ) (text offsets bytes newoffsets newbytes : List ℕ) →
    HasParts gpos lookup type flag kept j offsets bytes → AddsPart type gpos (typed_at gpos lookup type j) kept [] text → Places text bytes newbytes offset →
    newoffsets ≡ offsets ++ offset ∷ [] → HasParts gpos lookup type flag kept (j + 1) newoffsets newbytes
parts-more gpos lookup type flag kept j offset text offsets bytes newoffsets newbytes has adds places is =
    subst (λ (xs : List ℕ). HasParts gpos lookup type flag kept (j + 1) xs newbytes) (sym is) (record {
      many = (let many = has.many in omega (arith, many, length-append offsets (offset ∷ [])));
      each = push-each (λ k o. HasPart type gpos (typed_at gpos lookup type k) kept newbytes o) offsets offset 0 j has.many
          (λ k less. subst (λ (xs : List ℕ). HasPart type gpos (typed_at gpos lookup type k) kept xs (get_or offsets k 0)) (sym places.bytes)
          (part-on type gpos (typed_at gpos lookup type k) kept bytes places.more (get_or offsets k 0) (has.each k less)))
          (subst (λ o. HasPart type gpos (typed_at gpos lookup type j) kept newbytes o) {x = offset + 0} {y = offset} (omega arith)
          (part-in type gpos (typed_at gpos lookup type j) kept newbytes text offset 0 places.there adds.has));
      set = subst (λ (xs : List ℕ). Holds (mark_set_text flag (set_of gpos lookup)) xs 0) (sym places.bytes) (holds-on places.more has.set);
      set_small = has.set_small;
    })

-- a lookup that is appended
pub adds-typed : (gpos kept : List ℕ) (lookup flag : ℕ) (offsets subtables old new : List ℕ) →
    HasParts gpos lookup (type_at gpos lookup) flag kept (word gpos (lookup + 4)) offsets subtables → length offsets ≤ 32000 →
    AreOffsets (6 + length offsets * 2) offsets → type_at gpos lookup < 65536 → flag < 65536 →
    new ≡ old ++ parts_text (type_at gpos lookup) flag offsets subtables → AddsTyped gpos kept lookup flag old new
adds-typed gpos kept lookup flag offsets subtables old new parts few fit type small is = record {
  more = parts_text (type_at gpos lookup) flag offsets subtables;
  bytes = is;
  has = record {
    offsets = offsets;
    subtables = subtables;
    parts = parts;
    few = few;
    fit = fit;
    type = type;
    small = small;
    there = subst (λ (xs : List ℕ). Holds (parts_text (type_at gpos lookup) flag offsets subtables) xs (length old)) (sym is)
        (holds-last old (parts_text (type_at gpos lookup) flag offsets subtables));
  };
}

-- a lookup with more bytes after it, and in other bytes
pub typed-on : (gpos kept : List ℕ) (lookup flag : ℕ) (bytes more : List ℕ) (at : ℕ) → HasTyped gpos kept lookup flag bytes at →
    HasTyped gpos kept lookup flag (bytes ++ more) at
typed-on gpos kept lookup flag bytes more at h = record {
  offsets = h.offsets;
  subtables = h.subtables;
  parts = h.parts;
  few = h.few;
  fit = h.fit;
  type = h.type;
  small = h.small;
  there = holds-on more h.there;
}

pub typed-in : (gpos kept : List ℕ) (lookup flag : ℕ) (t bytes : List ℕ) (at offset : ℕ) → Holds bytes t at → HasTyped gpos kept lookup flag bytes offset →
    HasTyped gpos kept lookup flag t (at + offset)
typed-in gpos kept lookup flag t bytes at offset h m = record {
  offsets = m.offsets;
  subtables = m.subtables;
  parts = m.parts;
  few = m.few;
  fit = m.fit;
  type = m.type;
  small = m.small;
  there = holds-in h m.there;
}

pub parts-joined : (type flag : ℕ) (offsets subtables out : List ℕ) →
    ((out ++ rule_head_text type flag (length offsets)) ++ offsets_text (6 + length offsets * 2) offsets) ++ subtables
    ≡ out ++ parts_text type flag offsets subtables
unfolding parts_text
parts-joined type flag offsets subtables out = simp append_assoc
