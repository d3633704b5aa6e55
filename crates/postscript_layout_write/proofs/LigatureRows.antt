-- Ligatures that are collected.
use Rattle.std.proofs.Common.{◌≡◌, sym, subst, inl, inr, ℕ, ◌+◌, ◌≤◌, ◌<◌, List, [], ◌∷◌, ◌++◌, length, length-append, get_or, arith}
use Rattle.std.specs.Prelude.{None, Some, Option}
use Rattle.std.specs.List.{Contains}
use Rattle.std.proofs.lemmas.List.{get_or_append_left, get_or_push}
use Rattle.std.proofs.lemmas.List.Elements.{Contains-append_left, Contains-push}
use Rattle.postscript_layout.specs.Numbers.{word}
use Rattle.postscript_layout_write.specs.Attaching.{AddsLigature, AreLigatures, HasLigature, HasLigatureOf, classes_of, ligature_at}
use Rattle.postscript_layout_write.proofs.Firsts.{nat_cases}
use Rattle.postscript_layout_write.proofs.Rows.{cells-in, cells-on}

ligature-on : (gpos : List ℕ) (ligature : Option ℕ) (classes : ℕ) (bytes more : List ℕ) (at : ℕ) → HasLigatureOf gpos ligature classes bytes at →
    HasLigatureOf gpos ligature classes (bytes ++ more) at
ligature-on gpos None classes bytes more at h = h
ligature-on gpos (Some ligature) classes bytes more at h = record {
  cells = h.cells;
  are = h.are;
  has = cells-on 0 (word gpos ligature) h.cells bytes more at h.has;
}

pub ligatures-less : (gpos : List ℕ) (subtable : Option ℕ) (kept : List ℕ) (x : ℕ) (glyphs offsets bytes : List ℕ) →
    AreLigatures gpos subtable kept x glyphs offsets bytes → ligature_at gpos subtable (get_or kept x 0) ≡ None →
    AreLigatures gpos subtable kept (x + 1) glyphs offsets bytes
ligatures-less gpos subtable kept x glyphs offsets bytes are none = record {
  same = are.same;
  fit = λ k less. (let small = are.fit k less in omega (arith, small));
  each = are.each;
  all = λ y less. elim (nat_cases y x) [
    | inl early ↦ are.all y early
    | inr late ↦ (let same : x ≡ y = omega (arith, less, late) in inl (subst (λ z. ligature_at gpos subtable (get_or kept z 0) ≡ None) same none))
  ];
}

pub ligatures-more : (gpos : List ℕ) (subtable : Option ℕ) (kept : List ℕ) (x ligature : ℕ) (text glyphs offsets bytes newglyphs newoffsets newbytes : List ℕ) →
    AreLigatures gpos subtable kept x glyphs offsets bytes → ligature_at gpos subtable (get_or kept x 0) ≡ Some ligature →
    HasLigature gpos ligature (classes_of gpos subtable) text 0 → AddsLigature x text glyphs offsets bytes newglyphs newoffsets newbytes →
    AreLigatures gpos subtable kept (x + 1) newglyphs newoffsets newbytes
ligatures-more gpos subtable kept x ligature text glyphs offsets bytes newglyphs newoffsets newbytes are is has adds =
    subst (λ (xs : List ℕ). AreLigatures gpos subtable kept (x + 1) xs newoffsets newbytes) (sym adds.glyphs_are)
    (subst (λ (xs : List ℕ). AreLigatures gpos subtable kept (x + 1) (glyphs ++ x ∷ []) xs newbytes) (sym adds.offsets_are)
    (record {
      same = (let same = are.same in omega (arith, same, length-append glyphs (x ∷ []), length-append offsets (adds.place ∷ [])));
      fit = λ k less. elim (nat_cases k (length glyphs)) [
        | inl early ↦ subst (λ w. w < x + 1) (sym (get_or_append_left glyphs (x ∷ []) 0 k early)) (let small = are.fit k early in omega (arith, small))
        | inr late ↦ subst (λ w. w < x + 1) (sym (get_or_push glyphs x 0 k (last k less late))) (omega arith)
      ];
      each = λ k less. elim (nat_cases k (length glyphs)) [
        | inl early ↦ subst (λ w. HasLigatureOf gpos (ligature_at gpos subtable (get_or kept w 0)) (classes_of gpos subtable) newbytes (get_or (offsets ++ adds.place ∷ []) k 0))
            (sym (get_or_append_left glyphs (x ∷ []) 0 k early))
            (subst (λ w. HasLigatureOf gpos (ligature_at gpos subtable (get_or kept (get_or glyphs k 0) 0)) (classes_of gpos subtable) newbytes w)
            (sym (get_or_append_left offsets (adds.place ∷ []) 0 k (let same = are.same in omega (arith, same, early))))
            (subst (λ (xs : List ℕ). HasLigatureOf gpos (ligature_at gpos subtable (get_or kept (get_or glyphs k 0) 0)) (classes_of gpos subtable) xs (get_or offsets k 0)) (sym adds.placed.bytes)
            (ligature-on gpos (ligature_at gpos subtable (get_or kept (get_or glyphs k 0) 0)) (classes_of gpos subtable) bytes adds.placed.more (get_or offsets k 0) (are.each k early))))
        | inr late ↦ subst (λ w. HasLigatureOf gpos (ligature_at gpos subtable (get_or kept w 0)) (classes_of gpos subtable) newbytes (get_or (offsets ++ adds.place ∷ []) k 0))
            (sym (get_or_push glyphs x 0 k (last k less late)))
            (subst (λ w. HasLigatureOf gpos (ligature_at gpos subtable (get_or kept x 0)) (classes_of gpos subtable) newbytes w)
            (sym (get_or_push offsets adds.place 0 k (let same = are.same in let l = last k less late in omega (arith, same, l))))
            (subst (λ (o : Option ℕ). HasLigatureOf gpos o (classes_of gpos subtable) newbytes adds.place) (sym is) (record {
              cells = has.cells;
              are = has.are;
              has = cells-in 0 (word gpos ligature) has.cells newbytes text adds.place adds.placed.there has.has;
            })))
      ];
      all = λ y less. elim (nat_cases y x) [
        | inl early ↦ elim (are.all y early) [
          | inl none ↦ inl none
          | inr there ↦ inr (Contains-append_left glyphs (x ∷ []) y there)
        ]
        | inr late ↦ (let same : x ≡ y = omega (arith, less, late) in inr (subst (λ w. Contains (glyphs ++ x ∷ []) w) same (Contains-push glyphs x)))
      ];
    }))
  where
    last : (k : ℕ) → k < length (glyphs ++ x ∷ []) → length glyphs ≤ k → length glyphs ≡ k
    last k less late = omega (arith, less, late, length-append glyphs (x ∷ []))
