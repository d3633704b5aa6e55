-- The same as tests. Only private contracts and proofs use these definitions.
use Rattle.std.specs.Prelude.{ℕ, Bool, true, false, ◌==◌, ◌&&◌, ◌||◌, List, [], ◌∷◌, ◌++◌, length, nat_eq, nat_lt, flat_map}
use Rattle.std.specs.List.{filter, list_all, list_any}
use Rattle.postscript_shaping.specs.Characters.{is_arabic_form, is_attached, is_mirrored, is_right_to_left}
use Rattle.postscript_shaping.specs.Parts.{compatible, letters, parts, rest}

abbrev pub has : (chars : List ℕ) → (char : ℕ) → Bool
has chars char = list_any (λ y. nat_eq y char) chars

abbrev pub has_all : (chars wanted : List ℕ) → Bool
has_all chars wanted = list_all (has chars) wanted

abbrev pub has_any : (chars wanted : List ℕ) → Bool
has_any chars wanted = list_any (has chars) wanted

abbrev pub is_inserted : (some attached : Bool) → (char : ℕ) → Bool
is_inserted some attached char = (some && (char == 0x20)) || (attached && (char == 0x25cc))

abbrev pub mirrors : (kept : List ℕ) → Bool
mirrors kept = list_any is_right_to_left kept && list_any is_mirrored kept

abbrev pub is_some : List ℕ → Bool
is_some [] = false
is_some (x ∷ xs) = true

abbrev pub is_arabic : (own : List ℕ) → (char : ℕ) → Bool
is_arabic own char = is_arabic_form char && (is_some (compatible char) && has_all own (compatible char))

-- `own` has the kept characters and their parts
abbrev pub is_form : (kept own : List ℕ) → (char : ℕ) → Bool
is_form kept own char = is_inserted (is_some kept) (list_any is_attached kept) char || ((mirrors kept && is_mirrored char) || is_arabic own char)

-- the kept characters, and their forms in the font
abbrev pub base : (mapped kept own : List ℕ) → List ℕ
base mapped kept own = kept ++ filter (is_form kept own) mapped

abbrev pub with_parts : (chars : List ℕ) → List ℕ
with_parts chars = chars ++ flat_map parts chars

abbrev pub compose : (mapped chars : List ℕ) → Bool
compose mapped chars = list_any (λ char. has_any chars (rest (parts char))) mapped

abbrev pub has_parts : (chars : List ℕ) → (char : ℕ) → Bool
has_parts chars char = is_some (parts char) && has_all chars (parts char)

abbrev pub is_long : (char : ℕ) → Bool
is_long char = nat_lt 2 (length (letters char))

abbrev pub is_some_of : (whole char : ℕ) → Bool
is_some_of whole char = nat_lt (length (letters char)) (length (letters whole)) && has_all (letters whole) (letters char)

abbrev pub is_between : (long : List ℕ) → (char : ℕ) → Bool
is_between long char = is_some (letters char) && list_any (λ whole. is_some_of whole char) long

abbrev pub is_composed : (composes : Bool) → (known long : List ℕ) → (char : ℕ) → Bool
is_composed composes known long char = has known char || ((composes && has_parts known char) || is_between long char)
