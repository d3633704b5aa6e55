-- Items that are dictionaries, defined without a parser (Technical Note 5176, "Top DICT INDEX").
use Rattle.std.specs.Prelude.{◌≡◌, ◌≢◌, ◌⊎◌, ℕ, List, [], ◌∷◌}
use Rattle.postscript_base.specs.Compact1.Dictionary.{Dictionary}
use Rattle.postscript_base.specs.Compact1.DictionaryLaw.{IsDictionary, IsRefused}
use Rattle.postscript_base.specs.Refusal.{Refusal}
use Rattle.postscript_base.specs.Tape.Outcome.{Got, Fault, Past}
use Rattle.postscript_compact1.specs.Kinds.{maps_of}

-- each item is the dictionary in the list of maps
abbrev pub AreDictionaries : List (List ℕ) → List Dictionary → Type 0
AreDictionaries [] [] = Unit {0}
AreDictionaries (item ∷ items) (map ∷ maps) = IsDictionary item 0 map × AreDictionaries items maps
AreDictionaries [] (map ∷ maps) = ⊥
AreDictionaries (item ∷ items) [] = ⊥

-- an item is rejected with this error, and those before it are dictionaries
abbrev pub HasRefused : List (List ℕ) → Refusal → Type 0
HasRefused [] refusal = ⊥
HasRefused (item ∷ items) refusal = IsRefused item 0 refusal ⊎ ((map : Dictionary) × IsDictionary item 0 map × HasRefused items refusal)

-- A law: reading returns these maps exactly if they are the dictionaries of the items. It fails exactly with the error of the first item
-- that is not a dictionary. It does not move.
pub record ReadsItems : Type 0 where
  pub all : (items : List (List ℕ)) (maps : List Dictionary) (bytes : List ℕ) (place : ℕ) → AreDictionaries items maps →
      maps_of items bytes place ≡ Got maps place
  pub only : (items : List (List ℕ)) (maps : List Dictionary) (bytes : List ℕ) (place next : ℕ) →
      maps_of items bytes place ≡ Got maps next → AreDictionaries items maps × (next ≡ place)
  pub refused : (items : List (List ℕ)) (refusal : Refusal) (bytes : List ℕ) (place : ℕ) → HasRefused items refusal →
      maps_of items bytes place ≡ Fault refusal
  pub refused_only : (items : List (List ℕ)) (refusal : Refusal) (bytes : List ℕ) (place : ℕ) →
      maps_of items bytes place ≡ Fault refusal → HasRefused items refusal
  pub never_past : (items : List (List ℕ)) (bytes : List ℕ) (place : ℕ) → maps_of items bytes place ≢ Past
