-- A new table of vertical origins.
use Rattle.std.proofs.Common.{◌≡◌, sym, ap, subst, ◌∙◌, inl, inr, ℕ, ◌+◌, ◌*◌, ◌/◌, ◌<◌, ◌≤◌, List, [], ◌++◌, length, length-append, get_or, arith}
use Rattle.std.specs.Prelude.{◌↔◌}
use Rattle.postscript_vertical.specs.Listed.{AreListed, IsTable, glyph_in, y_in}
use Rattle.postscript_vertical.specs.Numbers.{PutsPair, word}
use Rattle.postscript_vertical.specs.Origins.{HasOrigins, HasRecord, IsOrigin, KeepsOrigins, default_of, glyph_at, records_in, y_at}
use Rattle.postscript_vertical.proofs.Words.{word-after, word-before}

-- the header, and the records
pub table-is : (first head records new : List ℕ) (default count : ℕ) → PutsPair 1 0 [] first → PutsPair default count first head →
    count ≡ length records / 4 → new ≡ head ++ records → IsTable default records new
table-is first head records new default count one two counted text =
    let four : length first ≡ 4 = one.size in
    let four_more = two.size in
    let eight : length head ≡ 8 = omega (arith, four, four_more) in
    let at : (offset : ℕ) → offset + 2 ≤ 8 → word new offset ≡ word head offset =
    λ offset within. ap (λ (xs : List ℕ). word xs offset) text ∙ word-before head records offset (omega (arith, eight, within)) in
    record {
      size = let long = ap length text ∙ length-append head records in omega (arith, long, eight);
      major = at 0 (omega arith) ∙ two.same 0 (omega (arith, four)) ∙ one.first_put;
      minor = at 2 (omega arith) ∙ two.same 2 (omega (arith, four)) ∙ one.second_put;
      is_default = at 4 (omega arith) ∙ ap (word head) (sym four) ∙ two.first_put;
      number = at 6 (omega arith) ∙ ap (λ (n : ℕ). word head (n + 2)) (sym four) ∙ two.second_put ∙ counted;
      same = λ offset. ap (λ (xs : List ℕ). word xs (8 + offset)) text ∙ word-after head records 8 offset eight;
    }

pub keeps : (old origins records new : List ℕ) (default : ℕ) → HasOrigins old → AreListed old origins (length origins) records →
    default ≡ default_of old → IsTable default records new → KeepsOrigins old origins new
keeps old origins records new default read listed is_default table = record {
  old_read = read;
  new_read = record {
    header = let size = table.size in omega (arith, size);
    version = table.major;
    room = let size = table.size in let long = listed.size in omega (arith, size, long, count);
    ascending = λ j k order less.
        let rise = listed.ascending j k order (omega (arith, less, count)) in
        let first = glyph j in
        let second = glyph k in
        omega (arith, rise, first, second);
  };
  minor = table.minor;
  size = let size = table.size in let long = listed.size in omega (arith, size, long, count);
  default = table.is_default ∙ is_default;
  records = λ i y. (there i y, λ has. back i y has.0 has.1);
}
  where
    count : records_in new ≡ listed.count
    count = let number = table.number in let long = listed.size in omega (arith, number, long)

    glyph : (k : ℕ) → glyph_at new k ≡ glyph_in records k
    glyph k = table.same (k * 4)

    y_of : (k : ℕ) → y_at new k ≡ y_in records k
    y_of k = ap (word new) (let on : 8 + k * 4 + 2 ≡ 8 + (k * 4 + 2) = omega arith in on) ∙ table.same (k * 4 + 2)

    there : (i y : ℕ) → HasRecord new i y → (i < length origins) × HasRecord old (get_or origins i 0) y
    there i y has =
        let within = has.within in
        let is = listed.only has.k (omega (arith, within, count)) in
        let same : glyph_in records has.k ≡ i = sym (glyph has.k) ∙ has.is_glyph in
        let small = is.small in (
          omega (arith, small, same),
          subst (HasRecord old (get_or origins i 0)) (sym (y_of has.k) ∙ has.is_y)
              (subst (λ (n : ℕ). HasRecord old (get_or origins n 0) (y_in records has.k)) same is.has),
        )

    back : (i y : ℕ) → i < length origins → HasRecord old (get_or origins i 0) y → HasRecord new i y
    back i y less has =
        let is = listed.all i y less has in
        let within = is.within in
        record { k = is.k; within = omega (arith, within, count); is_glyph = glyph is.k ∙ is.is_glyph; is_y = y_of is.k ∙ is.is_y }

-- the vertical origin of a new glyph is that of its origin
pub placed : (old origins new : List ℕ) → KeepsOrigins old origins new → (i y : ℕ) → i < length origins →
    (IsOrigin new i y ↔ IsOrigin old (get_or origins i 0) y)
placed old origins new keep i y less = (there, back)
  where
    there : IsOrigin new i y → IsOrigin old (get_or origins i 0) y
    there (inl has) = inl ((keep.records i y).0 has).1
    there (inr (none, is)) = inr (λ z has. none z ((keep.records i z).1 (less, has)), is ∙ keep.default)

    back : IsOrigin old (get_or origins i 0) y → IsOrigin new i y
    back (inl has) = inl ((keep.records i y).1 (less, has))
    back (inr (none, is)) = inr (λ z has. none z ((keep.records i z).0 has).1, is ∙ sym keep.default)
