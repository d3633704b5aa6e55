use Rattle.std.proofs.Common.{◌≡◌, ℕ, ◌+◌, ◌<◌, ◌^◌, None, [], length, get_or}
use Rattle.std.specs.Prelude.{All}
use Rattle.postscript_base.specs.Compact1.Dictionary.{Dictionary}
use Rattle.postscript_base.specs.Compact1.DictionaryLaw.{IsDictionary}
use Rattle.postscript_base.specs.Index.Lent.{items_of}
use Rattle.postscript_write.specs.Dictionaries.{IsHeld}
use Rattle.postscript_write.specs.DictionarySizes.{HasSize}
use Rattle.postscript_write.specs.Once.{IsToldOnce}
use Rattle.postscript_write.specs.Privates.{IsFontDictionary, place_of_private, private_offset, privates_text}
use Rattle.postscript_type2.specs.Program.Routines.{texts}
use Rattle.postscript_write.proofs.layout.placed_dictionaries.Given as goal

-- those so far, and where the next private dictionary begins
abbrev pub invariant-loop-i : goal.invariant-loop-i
invariant-loop-i l = record {
  many : length l.all.items ≡ l.i;
  offset : l.start + length (privates_text l.privates) < 2 ^ 64 → l.offset ≡ private_offset l.start l.privates l.i;
  each : l.start + length (privates_text l.privates) < 2 ^ 64 → (k : ℕ) → k < l.i → (old : Dictionary) →
      IsDictionary (get_or (items_of l.sources) k []) 0 old →
      IsFontDictionary old (get_or l.privates k None) (private_offset l.start l.privates k) (get_or (texts l.all.items) k []);
  held : l.start + length (privates_text l.privates) < 2 ^ 64 → (k : ℕ) → k < l.i →
      All IsHeld (place_of_private (get_or l.privates k None) (private_offset l.start l.privates k));
  once : (k : ℕ) → k < l.i → IsToldOnce (get_or (texts l.all.items) k []);
  sized : (k : ℕ) → k < l.i → HasSize (get_or (items_of l.sources) k []) (place_of_private (get_or l.privates k None) 0)
      (length (get_or (texts l.all.items) k []));
}
