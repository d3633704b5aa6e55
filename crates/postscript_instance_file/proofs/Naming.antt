-- The records that a static font keeps.
use Rattle.std.proofs.Common.{◌≡◌, subst, sym, ◌∙◌, ℕ, ◌<◌, ◌≤◌, List, [], ◌∷◌, Option, arith}
use Rattle.std.specs.List.{Contains}
use Rattle.postscript_instance_file.specs.Names.{IsKept, NamesVariation, replaced}
use Rattle.postscript_text.specs.NameTables.{Has, IsRecordAt}
use Rattle.postscript_text.specs.declared.names.Record.{Record}
use Rattle.postscript_variation.specs.declared.axes.Axes.{Axes}

-- a record is kept or not by its fields
pub same-kept : (axes : Option Axes) (table : List ℕ) (i : ℕ) (one other : Record) → IsRecordAt table i one → IsRecordAt table i other →
    IsKept axes one → IsKept axes other
same-kept axes table i one other x y kept =
    let identifier = x.identifier ∙ sym y.identifier in
    record {
      language = subst (λ (n : ℕ). n < 0x8000) (x.language ∙ sym y.language) kept.language;
      other = subst (λ (n : ℕ). Has replaced n → ⊥) identifier kept.other;
      own = subst (λ (n : ℕ). 256 ≤ n → NamesVariation axes n → ⊥) identifier kept.own;
    }

-- the only element of a list
pub only : {X : Type 0} (x y : X) → Contains (x ∷ []) y → x ≡ y
only x y h = let below = h.1 in let first : h.0 ≡ 0 = omega (arith, below) in cc
