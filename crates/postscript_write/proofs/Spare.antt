-- A font that is read and is not too large has room for what is written of it.
use Rattle.std.proofs.Common.{◌≡◌, refl, ℕ, ℤ, pos, negsuc, ◌+◌, ◌-◌, ◌*◌, ◌^◌, ◌<◌, ◌==◌, nat_lt, if◌then◌else◌, List, [], ◌∷◌, length, get_or, Option, Some, None, Bool, true, false, inl, inr, arith, rules}
use Rattle.std.specs.Prelude.{All, flat_map}
use Rattle.std.specs.Option.{option_and_then, unwrap_or}
use Rattle.std.proofs.lemmas.Bool.{cases_lt}
use Rattle.std.proofs.lemmas.Bool.Decides.{nat_tests}
use Rattle.std.proofs.lemmas.List.Elements.{All-append, All-cons, All-nil}
use Rattle.postscript_base.specs.Compact1.Decimal.{to_i32}
use Rattle.postscript_base.specs.Compact1.Defaults.{first_of, look}
use Rattle.postscript_base.specs.Compact1.Dictionary.{Dictionary}
use Rattle.postscript_base.specs.Index.Lent.{items_of}
use Rattle.postscript_base.specs.declared.compact1.operator.Operator.{Operator}
use Rattle.postscript_type2.specs.Program.Routines.{texts}
use Rattle.postscript_view.specs.Value.{view_shown}
use Rattle.postscript_view.specs.declared.font.FontView.{FontView}
use Rattle.postscript_write.specs.Pieces.{place_at}
use Rattle.postscript_write.specs.Dictionaries.{IsHeld, IsWritable}
use Rattle.postscript_write.specs.Parts.{naming}
use Rattle.postscript_write.specs.Renumbered.{new_identifier, renamed, renamed_if}
use Rattle.postscript_write.specs.Room.{HasRoom, IsRead}
use Rattle.postscript_write.specs.Selected.{AreLow}
use Rattle.postscript_write.specs.Sizes.{IsLarge, bytes_in}
use Rattle.postscript_write.specs.Strings.{identifier_from, identifier_in}
use Rattle.postscript_write.specs.declared.layout.Glyphs.{Glyphs}
use Rattle.postscript_write.specs.declared.strings.Strings.{Strings}
use Rattle.postscript_write.proofs.Counts.{names_few, parts_few, strings_few}
use Rattle.postscript_write.proofs.Little.{AreLittle}

from_low : (z : Option ℤ) (n : ℕ) → identifier_from z ≡ Some n → n < 2 ^ 16
from_low None n is = absurd (cc)
from_low (Some (negsuc m)) n is = absurd (cc)
from_low (Some (pos m)) n is = by (nat_lt m 65536) refl is
  where
    by : (b : Bool) → nat_lt m 65536 ≡ b → (if b then Some m else None) ≡ Some n → n < 2 ^ 16
    by true test some = let same : m ≡ n = cc in grind (arith, nat_tests)
    by false test some = absurd (cc)

identifier_low : (map : Dictionary) (operator : Operator) (n : ℕ) → identifier_in map operator ≡ Some n → n < 2 ^ 16
unfolding identifier_in
identifier_low map operator n is = from_low (option_and_then to_i32 (first_of (look map operator))) n is

-- a new identifier has few bits
new_low : (strings : Strings) (old most : ℕ) → old < 2 ^ 16 →
    ((number new : ℕ) → get_or strings.renumbered.items number None ≡ Some new → new < most) → most < 2 ^ 31 →
    new_identifier strings old < 2 ^ 31
new_low strings old most few new less = by (nat_lt old 391)
  where
    of : (found : Option ℕ) → get_or strings.renumbered.items (old - 391) None ≡ found → unwrap_or found old < 2 ^ 31
    of None is = omega (arith, few)
    of (Some other) is = let small = new (old - 391) other is in omega (arith, small, less)

    by : (b : Bool) → (if b then old else unwrap_or (get_or strings.renumbered.items (old - 391) None) old) < 2 ^ 31
    by true = omega (arith, few)
    by false = of (get_or strings.renumbered.items (old - 391) None) refl

renamed_held : (operator : Operator) (old new : ℕ) → IsWritable operator → new < 2 ^ 31 → All IsHeld (renamed operator old new)
renamed_held operator old new is less = by (new == old)
  where
    by : (b : Bool) → All IsHeld (if b then [] else place_at operator new ∷ [])
    by true = All-nil IsHeld
    by false = All-cons IsHeld _ [] (is, (less, tt)) (All-nil IsHeld)

if_held : (strings : Strings) (map : Dictionary) (operator : Operator) (most : ℕ) → IsWritable operator →
    ((number new : ℕ) → get_or strings.renumbered.items number None ≡ Some new → new < most) → most < 2 ^ 31 →
    All IsHeld (renamed_if strings operator (identifier_in map operator))
if_held strings map operator most is new less = by (identifier_in map operator) refl
  where
    by : (old : Option ℕ) → identifier_in map operator ≡ old → All IsHeld (renamed_if strings operator old)
    by None named = All-nil IsHeld
    by (Some old) named =
        renamed_held operator old (new_identifier strings old) is
        (new_low strings old most (identifier_low map operator old named) new less)

AreWritable : List Operator → Type 0
AreWritable [] = Unit {0}
AreWritable (operator ∷ operators) = IsWritable operator × AreWritable operators

all_held : (strings : Strings) (map : Dictionary) (operators : List Operator) (most : ℕ) → AreWritable operators →
    ((number new : ℕ) → get_or strings.renumbered.items number None ≡ Some new → new < most) → most < 2 ^ 31 →
    All IsHeld (flat_map (λ operator. renamed_if strings operator (identifier_in map operator)) operators)
unfolding AreWritable
all_held strings map [] most are new less = All-nil IsHeld
all_held strings map (operator ∷ operators) most are new less =
    All-append IsHeld (renamed_if strings operator (identifier_in map operator))
    (flat_map (λ operator. renamed_if strings operator (identifier_in map operator)) operators)
    (if_held strings map operator most are.0 new less) (all_held strings map operators most are.1 new less)

naming_held : AreWritable naming
unfolding AreWritable
naming_held = (
  search rules,
  (
    search rules,
    (search rules, (search rules, (search rules, (search rules, (search rules, (search rules, (search rules, tt))))))),
  ),
)

pub has_room : (font : FontView) (glyphs : Glyphs) (codes : List (List ℕ)) → IsRead font → AreLow font.bytes.now → length codes < 2 ^ 16 →
    (IsLarge font.bytes.now (view_shown font) codes → ⊥) → AreLittle font glyphs → HasRoom font glyphs codes
has_room font glyphs codes read low few small little =
    let names = names_few font read low in
    let strings = strings_few font read low in
    let many = little.strings.many in
    let bytes = little.strings.bytes in
    let encoding = little.encoding in
    let select = little.select in
    let char_set = little.char_set in
    let sum : 4 * length font.bytes.now + bytes_in (items_of font.names) + bytes_in
    (items_of font.strings) + bytes_in codes < 2000000000 = not_large in
    record {
      few_names = names;
      few_strings = omega (arith, many, strings);
      few_codes = few;
      few_parts = parts_few font read low;
      renamed = all_held glyphs.strings font.dictionary naming
          (391 + length (texts glyphs.strings.texts.items)) naming_held little.strings.new (omega (arith, many, strings));
      all = omega (arith, names, strings, many, bytes, few, encoding, select, char_set, sum);
    }
  where
    not_large : 4 * length font.bytes.now + bytes_in (items_of font.names) + bytes_in (items_of font.strings) + bytes_in codes < 2000000000
    not_large =
        elim (cases_lt (4 * length font.bytes.now + bytes_in (items_of font.names) + bytes_in (items_of font.strings) + bytes_in codes)
        2000000000) [
          | inl less ↦ less
          | inr large ↦ absurd (small large)
        ]
