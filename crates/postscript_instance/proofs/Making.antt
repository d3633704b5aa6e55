-- The whole table, if it is not too large.
use Rattle.std.proofs.Common.{◌≡◌, refl, sym, ap, subst, ◌∙◌, inl, inr, ℕ, ◌+◌, ◌^◌, ◌<◌, ◌≤◌, List, [], ◌∷◌, length, length-append, get_or, Option, Some, None, Bor, Vec, Result, Ok, Err, arith}
use Rattle.std.specs.List.{concat}
use Rattle.std.specs.Option.{MatchOption}
use Rattle.std.specs.Prelude.{IfOk}
use Rattle.std.specs.declared.alloc.Global.{Global}
use Rattle.std.proofs.lemmas.List.{length-map}
use Rattle.std.proofs.lemmas.List.Sums.{sum_by-cons}
use Rattle.postscript_base.specs.Compact1.Decimal.{Decimal}
use Rattle.postscript_cff2.specs.Shown.{view_shown}
use Rattle.postscript_cff2.specs.declared.font.Font.{Font}
use Rattle.postscript_type2.specs.Program.Routines.{texts}
use Rattle.postscript_write.proofs.Places.{nat_cases}
use Rattle.postscript_instance.specs.Encoded.{HasRoom, IsKeyedBytes, IsNamedBytes}
use Rattle.postscript_instance.specs.Rooms.{IsTooLarge, codes_size, glyphs_size}
use Rattle.postscript_instance.specs.Whole.{AreCustom, IsKeyedTable, IsMatrixOf, IsNamedTable, IsTableNamed, IsWhole, adobe, identity}
use Rattle.postscript_instance.specs.declared.naming.Identifiers.{Identifiers}
use Rattle.postscript_instance.specs.declared.naming.Naming.{Naming}
use Rattle.postscript_instance.proofs.Laying.{keyed-table, matrix-dict, named-table}

pub if-ok : {A E : Type 0} (P Q : A → Type 0) (r : Result A E) → ((x : A) → P x → Q x) → IfOk r P → IfOk r Q
if-ok P Q (Ok x) weaker is = weaker x is
if-ok P Q (Err e) weaker is = tt

-- how many bytes texts have
size-concat : (codes : List (Vec ℕ Global)) → codes_size codes ≡ length (concat (texts codes))
size-concat [] = refl
size-concat (code ∷ codes) =
    sum_by-cons (λ (code : Vec ℕ Global). length code.items) code codes ∙ ap (λ n. length code.items + n) (size-concat codes)
    ∙ sym (length-append code.items (concat (texts codes)))

-- the only text
pub only-one : (xs : List (Vec ℕ Global)) (x : Vec ℕ Global) → length xs ≡ 1 → x ≡ get_or xs 0 x → texts xs ≡ x.items ∷ []
only-one [] x one is = absurd (omega (arith, one))
only-one (y ∷ []) x one is = ap (λ (v : Vec ℕ Global). v.items ∷ []) (sym is)
only-one (y ∷ z ∷ xs) x one is = absurd (omega (arith, one))

module _ (font : Font) (naming : Naming) (codes privates : List (Vec ℕ Global)) (matrix : List ℕ)
    (small : IsTooLarge font naming codes privates matrix → ⊥) where
  pub few-codes : length codes < 65536
  few-codes = elim (nat_cases (length codes) 65536) [
    | inl less ↦ less
    | inr many ↦ absurd (small (inl many))
  ]

  pub sum-within : length naming.font.now + glyphs_size naming.glyphs + length (concat (texts codes)) + length (concat (texts privates))
      + length matrix < 2000000000
  sum-within = elim (nat_cases (length naming.font.now + glyphs_size naming.glyphs + codes_size codes + codes_size privates + length matrix)
      2000000000) [
        | inl less ↦ omega (arith, less, size-concat codes, size-concat privates)
        | inr many ↦ absurd (small (inr (inr many)))
      ]

  pub few-dictionaries : naming.glyphs ≡ None → length (view_shown font).font_dictionaries ≤ 256
  few-dictionaries none = elim (nat_cases 256 (length (view_shown font).font_dictionaries)) [
    | inl many ↦ absurd (small (inr (inl (subst (λ names. MatchOption names (256 < length (view_shown font).font_dictionaries)
        (λ names. 64609 < length names.now)) (sym none) many))))
    | inr few ↦ few
  ]

  pub has-room : naming.glyphs ≡ None → length (texts privates) ≡ length (view_shown font).font_dictionaries →
      HasRoom naming.font.now matrix codes privates
  has-room none counted = record {
    few_codes = omega (arith, few-codes);
    few_privates = omega (arith, few-dictionaries none, counted, length-map privates (λ (v : Vec ℕ Global). v.items));
    small = omega (arith, sum-within, ap glyphs_size none);
  }

pub keyed-whole : (font : Font) (naming : Naming) (matrix : List ℕ) (m : Option (List Decimal)) (codes privates : List (Vec ℕ Global))
    (out : List ℕ) → IsKeyedBytes font naming.font.now matrix codes privates out → HasRoom naming.font.now matrix codes privates →
    IsMatrixOf font.dictionary.bytes.now matrix m → length privates ≡ length (view_shown font).font_dictionaries → naming.glyphs ≡ None →
    IsWhole font naming (texts codes) (texts privates) out
keyed-whole font naming matrix m codes privates out b room is counted none = record {
  matrix_bytes = matrix;
  matrix = m;
  is_matrix = is;
  parts = subst (λ names. MatchOption names (IsKeyedTable m naming.font.now (adobe ∷ identity ∷ []) (texts codes) (texts privates) out)
      (λ names. IsTableNamed names.now m naming.font.now (texts codes) (texts privates) out)) (sym none)
      (keyed-table font naming.font.now matrix m codes privates out b room (matrix-dict font.dictionary.bytes.now matrix m is) counted);
}

pub named-whole : (font : Font) (naming : Naming) (names : Bor (List (Bor (List ℕ)))) (matrix : List ℕ) (m : Option (List Decimal))
    (ids : Identifiers) (codes privates : List (Vec ℕ Global)) (private out : List ℕ) →
    IsNamedBytes naming.font.now matrix ids codes private out → length codes < 2 ^ 16 → length ids.strings.items < 2 ^ 16 →
    length ids.numbers.items ≡ length codes →
    length naming.font.now + length (concat (texts ids.strings.items)) + length (concat (texts codes)) + length private + length matrix < 2000000000 →
    IsMatrixOf font.dictionary.bytes.now matrix m → AreCustom names.now (texts ids.strings.items) → texts privates ≡ private ∷ [] →
    naming.glyphs ≡ Some names → IsWhole font naming (texts codes) (texts privates) out
named-whole font naming names matrix m ids codes privates private out b few_codes few_strings counted sum is are_custom one is_names = record {
  matrix_bytes = matrix;
  matrix = m;
  is_matrix = is;
  parts = subst (λ names. MatchOption names (IsKeyedTable m naming.font.now (adobe ∷ identity ∷ []) (texts codes) (texts privates) out)
      (λ names. IsTableNamed names.now m naming.font.now (texts codes) (texts privates) out)) (sym is_names) (
        texts ids.strings.items,
        are_custom,
        subst (λ own. IsNamedTable m naming.font.now (texts ids.strings.items) (texts codes) own out) (sym one)
            (named-table naming.font.now matrix m ids codes private out b few_codes few_strings counted sum
            (matrix-dict font.dictionary.bytes.now matrix m is)),
      );
}
