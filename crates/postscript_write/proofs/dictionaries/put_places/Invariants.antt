use Rattle.std.proofs.Common.{◌≡◌, ◌+◌, ◌<◌, ℕ, get_or, List, ◌++◌, length, map, take}
use Rattle.postscript_base.specs.Compact1.DictionaryLaw.{OperationsAt}
use Rattle.postscript_base.specs.Compact1.Operation.{Operation}
use Rattle.postscript_write.specs.Dictionaries.{IsHeld, operation_of}
use Rattle.postscript_write.specs.DictionarySizes.{places_size}
use Rattle.postscript_write.specs.declared.dictionaries.Place.{Place}
use Rattle.postscript_write.proofs.dictionaries.put_places.Given as goal

abbrev pub invariant-loop-place : goal.invariant-loop-place
invariant-loop-place l = record {
  more : (operations : List Operation) → OperationsAt l.fn.out.items 0 operations (length l.fn.out.items) →
      OperationsAt l.out.items 0 (operations ++ map operation_of (take l.place-index l.places)) (length l.out.items);
  held : (k : ℕ) (d : Place) → k < l.place-index → IsHeld (get_or l.places k d);
  sized : length l.out.items ≡ length l.fn.out.items + places_size (take l.place-index l.places);
}
