use Rattle.std.proofs.Common.{◌≡◌, ℕ, ◌<◌, ◌≤◌, Some, None, length, take, get_or, slice_get}
use Rattle.std.specs.List.{sum_by}
use Rattle.std.specs.Option.{unwrap_or}
use Rattle.postscript_base.specs.Compact1.Defaults.{first_two_of, look}
use Rattle.postscript_base.specs.declared.compact1.operator.Operator.TheVariants as operators
use Rattle.postscript_view.specs.Layout.{AreParts}
use Rattle.postscript_view.specs.Contents.{PrivateDict}
use Rattle.postscript_view.specs.Value.{parts_shown}
use Rattle.postscript_write.specs.Privates.{IsOwnPrivate, private_text, privates_text}
use Rattle.postscript_write.proofs.Few.{named_size}
use Rattle.postscript_write.proofs.layout.own_privates.Given as goal

-- those so far
abbrev pub invariant-loop-i : goal.invariant-loop-i
invariant-loop-i l = record {
  many : length l.privates.items ≡ l.i;
  each : AreParts l.font.bytes.now l.font.dictionary (parts_shown l.font.parts.items) → (k : ℕ) → k < l.i → (part : PrivateDict) →
      slice_get (parts_shown l.font.parts.items) k ≡ Some part → IsOwnPrivate part (get_or l.privates.items k None);
  named : (k : ℕ) → k < l.i → (part : PrivateDict) → slice_get (parts_shown l.font.parts.items) k ≡ Some part →
      get_or l.privates.items k None ≡ None →
      first_two_of (look (unwrap_or part.font l.font.dictionary) operators.Private) ≡ None;
  sized : length (privates_text l.privates.items) ≤ sum_by (named_size l.font.dictionary) (take l.i l.font.parts.items);
  within : (k : ℕ) → k < l.i → length (private_text (get_or l.privates.items k None)) ≤ length l.font.bytes.now;
}
