-- Contexts by glyphs and by classes (OpenType 1.9, "OpenType Layout Common Table Formats", "Sequence context format 1: simple glyph contexts", "Sequence
-- context format 2: class-based glyph contexts", and the same of chained contexts; ISO/IEC 14496-22, 6.2). A subtable has sets of rules. The coverage index
-- or the class of a first glyph selects one set, and its rules are tried in order. A rule has a number for each further position: a glyph or a class.
use Rattle.std.specs.Prelude.{ℕ, Bool, false, ◌+◌, ◌-◌, ◌*◌, ◌==◌, List, [], ◌∷◌, Option, None, Some, map, if◌then◌else◌}
use Rattle.std.specs.List.{range_with_len}
use Rattle.postscript_layout.specs.Numbers.{word, words}
use Rattle.postscript_layout.specs.Substitutions.{coverage_of}
use Rattle.postscript_layout_write.specs.First.{all_below}
use Rattle.postscript_layout_write.specs.Ranges.{class_of, coverage_index}
use Rattle.postscript_layout_write.specs.Sequences.{Context, if_applies, kept_by}
use Rattle.postscript_layout_write.specs.declared.contexts.Parts.{Parts}
use Rattle.postscript_layout_write.specs.declared.labels.Role.{Role}
use Rattle.postscript_layout_write.specs.declared.labels.Role.TheVariants.{After, Before, Input, Start}

-- the class of a glyph by a class definition table at an offset; without a table, each glyph is in class 0
abbrev pub class_by : List ℕ → (subtable offset glyph : ℕ) → ℕ
class_by gsub subtable offset glyph = if offset == 0 then 0 else class_of gsub (subtable + offset) glyph

-- the number of a glyph in a rule: the glyph (format 1), or its class (format 2); a field has the offset of the class definition table
abbrev pub number_of : List ℕ → (subtable field glyph : ℕ) → ℕ
number_of gsub subtable field glyph = if word gsub subtable == 1 then glyph else class_by gsub subtable (word gsub (subtable + field)) glyph

-- the field for the positions of the input: a context that is not chained (type 5) has one class definition table
abbrev pub input_field : (type : ℕ) → ℕ
input_field type = if type == 5 then 4 else 6

-- the rules that are tried for a glyph with coverage index i: set i (format 1), or the set of its class (format 2)
abbrev pub start_of : List ℕ → (type subtable : ℕ) → (index : Option ℕ) → (glyph : ℕ) → Option ℕ
start_of gsub type subtable None glyph = None
start_of gsub type subtable (Some i) glyph = Some (if word gsub subtable == 1 then i else number_of gsub subtable (input_field type) glyph)

-- the label of a glyph: the index of the set of rules that begin with it, or its number in one of the arrays of a rule
abbrev pub label_of : List ℕ → (type subtable : ℕ) → Role → (glyph : ℕ) → Option ℕ
label_of gsub type subtable Start glyph = start_of gsub type subtable (coverage_index gsub (coverage_of gsub subtable) glyph) glyph
label_of gsub type subtable Before glyph = Some (number_of gsub subtable 4 glyph)
label_of gsub type subtable Input glyph = Some (number_of gsub subtable (input_field type) glyph)
label_of gsub type subtable After glyph = Some (number_of gsub subtable 8 glyph)

abbrev pub is_label : (label : Option ℕ) → (number : ℕ) → Bool
is_label None number = false
is_label (Some label) number = label == number

-- the kept glyphs with a label, as new numbers
abbrev pub labelled : (gsub kept : List ℕ) → (type subtable : ℕ) → Role → (number : ℕ) → List ℕ
labelled gsub kept type subtable role number = kept_by kept (λ glyph. is_label (label_of gsub type subtable role glyph) number)

-- the sets of glyphs of an array of `count` numbers
abbrev pub labelled_at : (gsub kept : List ℕ) → (type subtable : ℕ) → Role → (array count : ℕ) → List (List ℕ)
labelled_at gsub kept type subtable role array count =
    map (λ p. labelled gsub kept type subtable role (word gsub (array + p * 2))) (range_with_len 0 count)

-- A rule that is not chained has the lengths of the input and of the actions, one array of numbers, and the actions. The input begins with the first
-- glyph, for which there is no number.
abbrev pub plain_rule : List ℕ → (rule : ℕ) → Parts
plain_rule gsub rule = record {
  before_at = 0;
  before = 0;
  input_at = rule + 4;
  input = word gsub rule - 1;
  after_at = 0;
  after = 0;
  actions_at = rule + 4 + (word gsub rule - 1) * 2;
  actions = word gsub (rule + 2);
}

-- In a chained rule, three arrays of numbers are one after the other, each after its length, and the actions follow.
abbrev pub input_of : List ℕ → (rule : ℕ) → ℕ
input_of gsub rule = rule + 2 + word gsub rule * 2

abbrev pub after_of : List ℕ → (rule : ℕ) → ℕ
after_of gsub rule = input_of gsub rule + 2 + (word gsub (input_of gsub rule) - 1) * 2

abbrev pub actions_of : List ℕ → (rule : ℕ) → ℕ
actions_of gsub rule = after_of gsub rule + 2 + word gsub (after_of gsub rule) * 2

abbrev pub chained_rule : List ℕ → (rule : ℕ) → Parts
chained_rule gsub rule = record {
  before_at = rule + 2;
  before = word gsub rule;
  input_at = input_of gsub rule + 2;
  input = word gsub (input_of gsub rule) - 1;
  after_at = after_of gsub rule + 2;
  after = word gsub (after_of gsub rule);
  actions_at = actions_of gsub rule + 2;
  actions = word gsub (actions_of gsub rule);
}

-- the parts of a rule of type 5, or of type 6
abbrev pub rule_parts : List ℕ → (type rule : ℕ) → Parts
rule_parts gsub type rule = if type == 5 then plain_rule gsub rule else chained_rule gsub rule

-- the context of a rule of set i
abbrev pub rule_context : (gsub kept : List ℕ) → (type subtable i : ℕ) → Parts → Context
rule_context gsub kept type subtable i parts = record {
  before = labelled_at gsub kept type subtable Before parts.before_at parts.before;
  input = labelled gsub kept type subtable Start i ∷ labelled_at gsub kept type subtable Input parts.input_at parts.input;
  after = labelled_at gsub kept type subtable After parts.after_at parts.after;
  actions = words gsub parts.actions_at (parts.actions * 2);
}

-- the number of sets of rules of a subtable is at an offset, and their offsets follow; a set may be missing
abbrev pub sets_of : List ℕ → (type subtable : ℕ) → ℕ
sets_of gsub type subtable = subtable + (if word gsub subtable == 1 then 4 else (if type == 5 then 6 else 10))

abbrev pub set_by : (subtable offset : ℕ) → Option ℕ
set_by subtable offset = if offset == 0 then None else Some (subtable + offset)

abbrev pub set_of : List ℕ → (type subtable i : ℕ) → Option ℕ
set_of gsub type subtable i = set_by subtable (word gsub (sets_of gsub type subtable + 2 + i * 2))

-- rule r of a set
abbrev pub rule_of : List ℕ → (set r : ℕ) → ℕ
rule_of gsub set r = set + word gsub (set + 2 + r * 2)

-- the contexts of the first `count` rules of set i that can apply
abbrev pub rules_below : (gsub kept : List ℕ) → (type subtable i set count : ℕ) → List Context
rules_below gsub kept type subtable i set count =
    all_below (λ r. if_applies (rule_context gsub kept type subtable i (rule_parts gsub type (rule_of gsub set r)))) count

abbrev pub rules_in : (gsub kept : List ℕ) → (type subtable i : ℕ) → (set : Option ℕ) → List Context
rules_in gsub kept type subtable i None = []
rules_in gsub kept type subtable i (Some set) = rules_below gsub kept type subtable i set (word gsub set)

-- The contexts of the first `count` sets of rules that can apply. Each glyph begins the rules of at most one set, so the first context that fits is the
-- first rule of that set that fits.
abbrev pub sets_below : (gsub kept : List ℕ) → (type subtable count : ℕ) → List Context
sets_below gsub kept type subtable count = all_below (λ i. rules_in gsub kept type subtable i (set_of gsub type subtable i)) count

abbrev pub by_rules : (gsub kept : List ℕ) → (type subtable : ℕ) → List Context
by_rules gsub kept type subtable = sets_below gsub kept type subtable (word gsub (sets_of gsub type subtable))
