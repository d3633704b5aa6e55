-- The records of parts, one after the other.
use Rattle.std.proofs.Common.{◌≡◌, ℕ, ◌+◌, ◌*◌, ◌<◌, List, [], ◌∷◌, ◌++◌, length, length-append, append-nil, flat_map, sum_by, get_or, replicate, take, arith, refl, sym, ap, subst, ◌∙◌}
use Rattle.std.proofs.lemmas.List.{append_assoc, length-replicate, take_more}
use Rattle.postscript_sequences.specs.Rows.{AreRows, AreRowsOf, Holds, IsAt, IsPlaced, IsPut, IsRowOf, IsWritten, absent, absent_at, added, no_row, row, there_at}
use Rattle.postscript_sequences.specs.Sizes.{tables_size}
use Rattle.postscript_sequences.specs.Text.{defaults_text, head_text, row_text}
use Rattle.postscript_sequences.specs.declared.parts.Part.{Part}
use Rattle.postscript_sequences.specs.declared.writing.Row.{Row}
use Rattle.postscript_sequences.proofs.Kept.{same_count}
use Rattle.postscript_sequences.proofs.Reading.{length_items, length_head, length_row}

pub holds_on : {text bytes : List ℕ} {offset : ℕ} (more : List ℕ) → Holds text bytes offset → Holds text (bytes ++ more) offset
holds_on {text = text} more h = record {
  front = h.front;
  behind = h.behind ++ more;
  is = ap (λ xs. xs ++ more) h.is ∙ append_assoc h.front (text ++ h.behind) more ∙ ap (λ xs. h.front ++ xs) (append_assoc text h.behind more);
  place = h.place;
}

pub holds_last : (bytes text : List ℕ) → Holds text (bytes ++ text) (length bytes)
holds_last bytes text = record { front = bytes; behind = []; is = ap (λ xs. bytes ++ xs) (sym (append-nil text)); place = refl }

pub at_on : {X : Type 0} (items : List X) (text bytes : List ℕ) (offset : ℕ) (more : List ℕ) → IsAt items text bytes offset →
    IsAt items text (bytes ++ more) offset
at_on items text bytes offset more (absent_at none zero) = absent_at none zero
at_on items text bytes offset more (there_at few some small holds) = there_at few some small (holds_on more holds)

pub row_on : (bytes more : List ℕ) (one : Part) (own : Row) → IsRowOf bytes one own → IsRowOf (bytes ++ more) one own
row_on bytes more one own h = record {
  selector = h.selector;
  defaults = at_on _ _ bytes own.defaults more h.defaults;
  mapped = at_on _ _ bytes own.mapped more h.mapped;
}

pub rows_on : (bytes more : List ℕ) (parts : List Part) (rows : List Row) → AreRows bytes parts rows → AreRows (bytes ++ more) parts rows
rows_on bytes more _ _ no_row = no_row
rows_on bytes more _ _ (row parts rows one own are is) = row parts rows one own (rows_on bytes more parts rows are) (row_on bytes more one own is)

-- a table that is added
pub placed_more : {X : Type 0} (base : ℕ) (items : List X) (text old new : List ℕ) (offset : ℕ) → IsPlaced base items text old new offset →
    (more : List ℕ) × (new ≡ old ++ more)
placed_more base items text old new offset (absent none same zero) = ([], same ∙ sym (append-nil old))
placed_more base items text old new offset (added few small is all) = (text, all)

pub placed_at : {X : Type 0} (base : ℕ) (items : List X) (text old new : List ℕ) (offset : ℕ) (front : List ℕ) → 0 < base →
    length front ≡ base → IsPlaced base items text old new offset → IsAt items text (front ++ new) offset
placed_at base items text old new offset front some long (absent none same zero) = absent_at none zero
placed_at base items text old new offset front some long (added few small is all) =
    let whole : (front ++ old) ++ text ≡ front ++ new = append_assoc front old text ∙ ap (λ xs. front ++ xs) (sym all) in
    let at : length (front ++ old) ≡ offset = omega (arith, length-append front old, long, is) in
    there_at few (omega (arith, some, is)) small
    (subst (λ k. Holds text (front ++ new) k) at (subst (λ xs. Holds text xs (length (front ++ old))) whole (holds_last (front ++ old) text)))

pub front_more : (front old new : List ℕ) (more : List ℕ) → new ≡ old ++ more → front ++ new ≡ (front ++ old) ++ more
front_more front old new more is = ap (λ xs. front ++ xs) is ∙ sym (append_assoc front old more)

-- one part more
pub rows_more : (base : ℕ) (parts : List Part) (k : ℕ) (one : Part) (rows all : List Row) (own : Row) (old new : List ℕ) → 0 < base →
    k < length parts → one ≡ get_or parts k one → AreRowsOf base (take k parts) rows old → IsPut base one old new own → all ≡ rows ++ own ∷ [] →
    AreRowsOf base (take (k + 1) parts) all new
rows_more base parts k one rows all own old new some less here are put is front long =
    let first = placed_more base _ _ old put.middle own.defaults put.defaults in
    let second = placed_more base _ _ put.middle new own.mapped put.mapped in
    let a : AreRows (front ++ new) (take k parts) rows =
    subst (λ xs. AreRows xs (take k parts) rows) (sym (front_more front put.middle new second.0 second.1))
    (rows_on (front ++ put.middle) second.0 (take k parts) rows
    (subst (λ xs. AreRows xs (take k parts) rows) (sym (front_more front old put.middle first.0 first.1))
    (rows_on (front ++ old) first.0 (take k parts) rows (are front long)))) in
    let b : IsRowOf (front ++ new) one own = record {
      selector = put.selector;
      defaults = subst (λ xs. IsAt one.defaults.items (defaults_text one.defaults.items) xs own.defaults) (sym (front_more front put.middle new second.0 second.1))
          (at_on _ _ (front ++ put.middle) own.defaults second.0 (placed_at base _ _ old put.middle own.defaults front some long put.defaults));
      mapped = placed_at base _ _ put.middle new own.mapped front some long put.mapped;
    } in
    let same : take (k + 1) parts ≡ take k parts ++ one ∷ [] = take_more parts k one less ∙ ap (λ x. take k parts ++ x ∷ []) (sym here) in
    subst (λ xs. AreRows (front ++ new) xs all) (sym same) (subst (λ xs. AreRows (front ++ new) (take k parts ++ one ∷ []) xs) (sym is)
    (row (take k parts) rows one own a b))

pub no_rows : (base : ℕ) (rows : List Row) (tables : List ℕ) → rows ≡ [] → AreRowsOf base [] rows tables
no_rows base rows tables is front long = subst (λ xs. AreRows (front ++ tables) [] xs) (sym is) no_row

-- the bytes of a subtable
pub written_is : (parts : List Part) (rows : List Row) (tables out head body bytes : List ℕ) (base count size : ℕ) → AreRowsOf base parts rows tables →
    length tables ≡ sum_by tables_size parts → count ≡ length parts → count < 4294967296 → base ≡ 10 + count * 11 → size ≡ base + length tables → size < 4294967296 → out ≡ [] →
    head ≡ out ++ head_text size count → body ≡ head ++ flat_map row_text rows → bytes ≡ body ++ tables → IsWritten parts bytes
written_is parts rows tables out head body bytes base count size are full counted few begins sized small none first next all =
    let same = same_count (replicate base 0 ++ tables) parts rows (are (replicate base 0) (length-replicate base 0)) in
    let start : head ≡ head_text size count = first ∙ ap (λ xs. xs ++ head_text size count) none in
    let a : length head ≡ 10 = ap length start ∙ length_head size count in
    let b = length_items row_text 11 length_row rows in
    let long : length body ≡ base = omega (arith, ap length next, length-append head (flat_map row_text rows), a, b, same, counted, begins) in
    let end : size ≡ length bytes = omega (arith, ap length all, length-append body tables, long, sized) in
    let rows_now : count ≡ length rows = omega (arith, same, counted) in
    record {
      rows = rows;
      tables = tables;
      are = subst (λ xs. AreRows xs parts rows) (sym all) (are body long);
      few = omega (arith, few, rows_now);
      short = omega (arith, small, end);
      size = omega (arith, end, sized, begins, counted, full);
      is = all ∙ ap (λ xs. xs ++ tables) (next ∙ ap (λ xs. xs ++ flat_map row_text rows) start)
          ∙ append_assoc (head_text size count) (flat_map row_text rows) tables
          ∙ ap (λ n. head_text n count ++ (flat_map row_text rows ++ tables)) end
          ∙ ap (λ n. head_text (length bytes) n ++ (flat_map row_text rows ++ tables)) rows_now;
    }
