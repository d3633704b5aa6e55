-- Lookups of rules as they are written. Only contracts of private functions and proofs name this.
use Rattle.std.specs.Prelude.{◌≡◌, ℕ, Bool, ◌+◌, ◌*◌, ◌<◌, ◌≤◌, List, [], ◌++◌, true, false, length, slice_index, if◌then◌else◌}
use Rattle.postscript_layout.specs.Numbers.{word}
use Rattle.postscript_layout_write.specs.Contexts.{contexts_at}
use Rattle.postscript_layout_write.specs.Coverages.{HasChained, HaveContexts, PutsChained}
use Rattle.postscript_layout_write.specs.Flags.{set_of}
use Rattle.postscript_layout_write.specs.Holds.{Holds}
use Rattle.postscript_layout_write.specs.Pairs.{flag_of, lookup_at, lookups_of}
use Rattle.postscript_layout_write.specs.Reverses.{reverses_at}
use Rattle.postscript_layout_write.specs.Rules.{is_kept, type_at}
use Rattle.postscript_layout_write.specs.RuleSets.{AreRuleSets, HasRuleLookup, PutsRules}
use Rattle.postscript_layout_write.specs.Scopes.{mark_set_text}
use Rattle.postscript_layout_write.specs.Sequences.{Context}
use Rattle.postscript_layout_write.specs.Sets.{AreOffsets}
use Rattle.postscript_layout_write.specs.Substituting.{keeps, keeps_contexts, keeps_reverses, new_flag, new_rules, rules_at}
use Rattle.postscript_layout_write.specs.Text.{list_text}

-- the type that is written for a lookup at an offset: its own, if that is kept, or else 1
abbrev pub new_type : List ℕ → (lookup : ℕ) → ℕ
new_type gsub lookup = if is_kept (type_at gsub lookup) then type_at gsub lookup else 1

-- lookup i is at an offset, with its rules, or with its contexts or its reverse chaining subtables if it keeps these
pub data HasNewLookup (whole : Bool) (gsub chosen kept : List ℕ) (i : ℕ) (bytes : List ℕ) (offset : ℕ) : Type 0 where
  has_rules : keeps_contexts whole gsub chosen i (lookup_at gsub i) ≡ false → keeps_reverses whole gsub chosen i (lookup_at gsub i) ≡ false →
      HasRuleLookup (new_type gsub (lookup_at gsub i)) (new_flag whole (flag_of gsub i)) (set_of gsub (lookup_at gsub i)) (new_rules whole gsub chosen kept i) bytes offset →
      HasNewLookup whole gsub chosen kept i bytes offset
  has_contexts : keeps_contexts whole gsub chosen i (lookup_at gsub i) ≡ true →
      HasChained false 6 (new_flag whole (flag_of gsub i)) (set_of gsub (lookup_at gsub i)) (contexts_at gsub kept (lookup_at gsub i) (type_at gsub (lookup_at gsub i))) bytes offset →
      HasNewLookup whole gsub chosen kept i bytes offset
  has_reverses : keeps_reverses whole gsub chosen i (lookup_at gsub i) ≡ true →
      HasChained true 8 (new_flag whole (flag_of gsub i)) (set_of gsub (lookup_at gsub i)) (reverses_at gsub kept (lookup_at gsub i)) bytes offset →
      HasNewLookup whole gsub chosen kept i bytes offset

-- the first lookups are there
pub record HasRuleLookups (whole : Bool) (gsub chosen kept : List ℕ) (count : ℕ) (offsets bytes : List ℕ) : Type 0 where
  pub many : length offsets ≡ count
  pub each : (i : ℕ) → i < count → HasNewLookup whole gsub chosen kept i bytes (slice_index offsets i)

-- the contexts of a lookup at an offset are appended as a lookup of a type
pub record PutsSubtables (reverse : Bool) (type : ℕ) (contexts : List Context) (whole : Bool) (gsub : List ℕ) (lookup : ℕ) (old new : List ℕ) : Type 0 where
  pub offsets : List ℕ
  pub subtables : List ℕ
  pub have : HaveContexts reverse contexts offsets subtables
  pub set_small : set_of gsub lookup < 65536
  pub begins : Holds (mark_set_text (new_flag whole (word gsub (lookup + 2))) (set_of gsub lookup)) subtables 0
  pub puts : PutsChained type (new_flag whole (word gsub (lookup + 2))) offsets subtables old new

abbrev pub PutsContexts : (whole : Bool) → (gsub kept : List ℕ) → (lookup : ℕ) → (old new : List ℕ) → Type 0
PutsContexts whole gsub kept lookup old new = PutsSubtables false 6 (contexts_at gsub kept lookup (type_at gsub lookup)) whole gsub lookup old new

abbrev pub PutsReverses : (whole : Bool) → (gsub kept : List ℕ) → (lookup : ℕ) → (old new : List ℕ) → Type 0
PutsReverses whole gsub kept lookup old new = PutsSubtables true 8 (reverses_at gsub kept lookup) whole gsub lookup old new

-- the rules of a lookup at an offset are appended as a lookup
pub record PutsOwnRules (whole : Bool) (gsub chosen kept : List ℕ) (lookup i : ℕ) (old new : List ℕ) : Type 0 where
  pub firsts : List ℕ
  pub numbers : List ℕ
  pub sets : List ℕ
  pub are : AreRuleSets (new_type gsub lookup) (λ x. if keeps whole gsub chosen i lookup then rules_at gsub kept lookup x else []) (length kept) firsts numbers sets
  pub puts : PutsRules (new_type gsub lookup) (new_flag whole (word gsub (lookup + 2))) (set_of gsub lookup) firsts numbers sets old new

-- lookup i at an offset is appended
pub data PutsNext (whole : Bool) (gsub chosen kept : List ℕ) (lookup i : ℕ) (old new : List ℕ) : Type 0 where
  puts_rules : keeps_contexts whole gsub chosen i lookup ≡ false → keeps_reverses whole gsub chosen i lookup ≡ false →
      PutsOwnRules whole gsub chosen kept lookup i old new → PutsNext whole gsub chosen kept lookup i old new
  puts_contexts : keeps_contexts whole gsub chosen i lookup ≡ true → PutsContexts whole gsub kept lookup old new → PutsNext whole gsub chosen kept lookup i old new
  puts_reverses : keeps_reverses whole gsub chosen i lookup ≡ true → PutsReverses whole gsub kept lookup old new → PutsNext whole gsub chosen kept lookup i old new

-- a lookup list is appended
pub record PutsRuleList (whole : Bool) (gsub chosen kept : List ℕ) (old new : List ℕ) : Type 0 where
  pub offsets : List ℕ
  pub bytes : List ℕ
  pub are : HasRuleLookups whole gsub chosen kept (lookups_of gsub) offsets bytes
  pub few : length offsets ≤ 32766
  pub fit : AreOffsets (2 + length offsets * 2) offsets
  pub text : new ≡ old ++ list_text offsets bytes
