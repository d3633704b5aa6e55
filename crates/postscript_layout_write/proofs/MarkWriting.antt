-- Subtables that attach marks, as they are appended.
use Rattle.std.proofs.Common.{◌≡◌, sym, subst, ℕ, ◌+◌, ◌<◌, List, ◌++◌, length}
use Rattle.std.specs.Prelude.{Option}
use Rattle.std.proofs.lemmas.List.{append_assoc}
use Rattle.postscript_layout_write.specs.Attaching.{AddsAttaching, HasAttaching, HasSecondArray, IsArray, PutsAttaching, attaching_head, attaching_text, classes_of}
use Rattle.postscript_layout_write.specs.Holds.{Holds}
use Rattle.postscript_layout_write.specs.Text.{coverage_text}
use Rattle.postscript_layout_write.specs.declared.anchors.Side.TheVariants.{Marks}
use Rattle.postscript_layout_write.proofs.Holding.{holds-in, holds-last, holds-on}

-- a subtable with more bytes after it, and in other bytes
pub attaching-on : (type : ℕ) (gpos : List ℕ) (subtable : Option ℕ) (kept bytes more : List ℕ) (at : ℕ) → HasAttaching type gpos subtable kept bytes at →
    HasAttaching type gpos subtable kept (bytes ++ more) at
attaching-on type gpos subtable kept bytes more at s = record {
  marks = s.marks;
  bases = s.bases;
  first = s.first;
  second = s.second;
  small = s.small;
  first_has = s.first_has;
  second_has = s.second_has;
  fits = s.fits;
  there = holds-on more s.there;
}

pub attaching-in : (type : ℕ) (gpos : List ℕ) (subtable : Option ℕ) (kept t bytes : List ℕ) (at offset : ℕ) → Holds bytes t at →
    HasAttaching type gpos subtable kept bytes offset → HasAttaching type gpos subtable kept t (at + offset)
attaching-in type gpos subtable kept t bytes at offset h s = record {
  marks = s.marks;
  bases = s.bases;
  first = s.first;
  second = s.second;
  small = s.small;
  first_has = s.first_has;
  second_has = s.second_has;
  fits = s.fits;
  there = holds-in h s.there;
}

-- a subtable that is appended
pub adds-attaching : (type : ℕ) (gpos : List ℕ) (subtable : Option ℕ) (kept marks bases first second old new : List ℕ) → length kept < 65536 →
    IsArray Marks gpos subtable kept marks first → HasSecondArray type gpos subtable kept marks bases second →
    PutsAttaching (classes_of gpos subtable) marks bases first second old new → AddsAttaching type gpos subtable kept old new
adds-attaching type gpos subtable kept marks bases first second old new small first_has second_has puts = record {
  more = attaching_text (classes_of gpos subtable) marks bases first second;
  bytes = puts.text;
  has = record {
    marks = marks;
    bases = bases;
    first = first;
    second = second;
    small = small;
    first_has = first_has;
    second_has = second_has;
    fits = puts.fits;
    there = subst (λ (xs : List ℕ). Holds (attaching_text (classes_of gpos subtable) marks bases first second) xs (length old)) (sym puts.text)
        (holds-last old (attaching_text (classes_of gpos subtable) marks bases first second));
  };
}

-- texts that are appended one after the other
pub attaching-joined : (classes : ℕ) (marks bases first second : List ℕ) (out : List ℕ) →
    ((((out ++ attaching_head classes (length marks) (length bases) (length first)) ++ coverage_text marks) ++ coverage_text bases) ++ first) ++ second
    ≡ out ++ attaching_text classes marks bases first second
unfolding attaching_text
attaching-joined classes marks bases first second out = simp append_assoc
