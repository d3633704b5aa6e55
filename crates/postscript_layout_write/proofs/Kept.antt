-- The lists of a table that was written are read as before.
use Rattle.std.proofs.Common.{◌≡◌, refl, sym, ap, subst, ◌∙◌, ℕ, ◌+◌, ◌-◌, ◌*◌, ◌≤◌, ◌<◌, List, [], ◌++◌, length, length-append, length-drop, get_or, take, drop, arith}
use Rattle.std.specs.Prelude.{slice_range}
use Rattle.std.proofs.lemmas.List.{length-take-le}
use Rattle.std.proofs.Math.Seq.{drop-append_seam, take-append_seam}
use Rattle.postscript_layout.specs.Numbers.{word}
use Rattle.postscript_layout_write.specs.Holds.{Holds}
use Rattle.postscript_layout_write.specs.Kerning.{KeepsLists}
use Rattle.postscript_layout_write.specs.Pairs.{lookup_at, lookups_of}
use Rattle.postscript_layout_write.specs.ScriptLists.{ListsEnd}
use Rattle.postscript_layout_write.specs.Sets.{AreOffsets}
use Rattle.postscript_layout_write.specs.Text.{front_text, list_text, offsets_text, uint16}
use Rattle.postscript_layout_write.proofs.Holding.{holds-first, holds-last, holds-second, holds-word, length-uint16}
use Rattle.postscript_layout_write.proofs.Reading.{length-offsets, offsets-read}

-- a text is the bytes from its offset on
slice-held : (text bytes : List ℕ) (at : ℕ) → Holds text bytes at → take (length text) (drop at bytes) ≡ text
slice-held text bytes at h = ap (λ xs. take (length text) (drop at xs)) h.is
    ∙ ap (λ n. take (length text) (drop n (h.front ++ (text ++ h.behind)))) (sym h.place)
    ∙ ap (take (length text)) (drop-append_seam h.front (text ++ h.behind)) ∙ take-append_seam text h.behind

length-slice : (xs : List ℕ) (a b : ℕ) → a ≤ b → b ≤ length xs → length (slice_range xs a b) ≡ b - a
length-slice xs a b less within = length-take-le (b - a) (drop a xs) (let d = length-drop a xs in omega (arith, d, within, less))

module _ (old new offsets bytes : List ℕ) (end : ℕ) (lists : ListsEnd old end) (small : end < 65536) (within : end ≤ length old)
    (is : new ≡ front_text old end ++ list_text offsets bytes) (few : length offsets ≤ 32766) (fit : AreOffsets (2 + length offsets * 2) offsets) where
  header : 10 ≤ end
  header = lists.header

  front-held : Holds (front_text old end) new 0
  front-held = record { front = []; behind = list_text offsets bytes; is = is; place = refl }

  length-four : length (slice_range old 4 8) ≡ 4
  length-four = (let far = header in length-slice old 4 8 (omega arith) (omega (arith, far, within)))

  after-version : Holds (uint16 0 ++ (slice_range old 4 8 ++ (uint16 end ++ slice_range old 10 end))) new 2
  unfolding front_text
  after-version = holds-second (uint16 1) _ 2 (length-uint16 1) front-held

  four-held : Holds (slice_range old 4 8 ++ (uint16 end ++ slice_range old 10 end)) new 4
  four-held = holds-second (uint16 0) _ 2 (length-uint16 0) after-version

  end-held : Holds (uint16 end ++ slice_range old 10 end) new 8
  end-held = holds-second (slice_range old 4 8) _ 4 length-four four-held

  tables-held : Holds (slice_range old 10 end) new 10
  tables-held = holds-second (uint16 end) (slice_range old 10 end) 2 (length-uint16 end) end-held

  pub list-at : word new 8 ≡ end
  list-at = holds-word end small (holds-first (uint16 end) (slice_range old 10 end) end-held)

  first-at : word new 0 ≡ 1
  unfolding front_text
  first-at = holds-word 1 (omega arith) (holds-first (uint16 1) _ front-held)

  length-front : length (front_text old end) ≡ end
  unfolding front_text
  length-front = (let far = header in
      let a = length-append (uint16 1) (uint16 0 ++ (slice_range old 4 8 ++ (uint16 end ++ slice_range old 10 end))) in
      let b = length-append (uint16 0) (slice_range old 4 8 ++ (uint16 end ++ slice_range old 10 end)) in
      let c = length-append (slice_range old 4 8) (uint16 end ++ slice_range old 10 end) in
      let d = length-append (uint16 end) (slice_range old 10 end) in
      let e = length-slice old 10 end far within in let f = length-four in
      omega (arith, a, b, c, d, e, f, length-uint16 1, length-uint16 0, length-uint16 end, far))

  list-held : Holds (list_text offsets bytes) new end
  list-held = subst (λ n. Holds (list_text offsets bytes) new n) length-front
      (subst (λ (xs : List ℕ). Holds (list_text offsets bytes) xs (length (front_text old end))) (sym is) (holds-last (front_text old end) (list_text offsets bytes)))

  pub keeps-lists : KeepsLists old new
  keeps-lists = record {
    version = (first-at, holds-word 0 (omega arith) (holds-first (uint16 0) _ after-version));
    offsets = ap (λ n. take n (drop 4 new)) (sym length-four) ∙ slice-held (slice_range old 4 8) new 4 (holds-first (slice_range old 4 8) _ four-held);
    end = subst (ListsEnd old) (sym list-at) lists;
    tables = ap (λ n. slice_range new 10 n) list-at
        ∙ ap (λ n. take n (drop 10 new)) (sym (length-slice old 10 end header within)) ∙ slice-held (slice_range old 10 end) new 10 tables-held
        ∙ ap (λ n. slice_range old 10 n) (sym list-at);
  }

  pub many-read : word new end ≡ length offsets
  unfolding list_text
  many-read = holds-word (length offsets) (omega (arith, few)) (holds-first (uint16 (length offsets)) _ list-held)

  rest-held : Holds (offsets_text (2 + length offsets * 2) offsets ++ bytes) new (end + 2)
  unfolding list_text
  rest-held = holds-second (uint16 (length offsets)) _ 2 (length-uint16 (length offsets)) list-held

  pub lookups-held : Holds bytes new (end + 2 + length offsets * 2)
  lookups-held = holds-second (offsets_text (2 + length offsets * 2) offsets) bytes (length offsets * 2) (length-offsets (2 + length offsets * 2) offsets) rest-held

  pub place-read : (i : ℕ) → i < length offsets → lookup_at new i ≡ end + 2 + length offsets * 2 + get_or offsets i 0
  place-read i less = (let at = offsets-read new (end + 2) (2 + length offsets * 2) offsets i less fit
      (holds-first (offsets_text (2 + length offsets * 2) offsets) bytes rest-held) in
      ap (λ n. n + word new (n + 2 + i * 2)) list-at ∙ ap (λ n. end + n) at ∙ omega arith)

  pub count-held : lookups_of new ≡ length offsets
  count-held = ap (word new) list-at ∙ many-read
