-- A font that is written has the names that it was to have.
use Rattle.std.proofs.Common.{◌≡◌, ◌⊎◌, ◌↔◌, refl, sym, ap, subst, ◌∙◌, inl, inr, ℕ, zero, suc, ◌+◌, ◌-◌, ◌<◌, List, [], length, get_or, Option, Some, None, Bool, true, false, nat_lt, if◌then◌else◌, Vec, arith}
use Rattle.std.specs.Option.{is_some, unwrap_or}
use Rattle.std.proofs.lemmas.List.{get_or_default}
use Rattle.std.specs.Prelude.{All, Any, MatchBool}
use Rattle.std.specs.declared.alloc.Global.{Global}
use Rattle.postscript_base.specs.Compact1.Defaults.{look}
use Rattle.postscript_base.specs.Index.Lent.{items_of}
use Rattle.postscript_base.specs.declared.compact1.operator.Operator.{Operator}
use Rattle.postscript_base.specs.declared.compact1.operator.Operator.TheVariants.{ROS}
use Rattle.postscript_type2.specs.Program.Routines.{texts}
use Rattle.postscript_view.specs.CharSets.{IsCharSetOf}
use Rattle.postscript_view.specs.Contents.{View}
use Rattle.postscript_view.specs.Naming.{Names}
use Rattle.postscript_view.specs.Value.{view_shown}
use Rattle.postscript_view.specs.declared.char_set.CharSetView.{CharSetView}
use Rattle.postscript_view.specs.declared.font.FontView.{FontView}
use Rattle.postscript_write.specs.Glyphs.{Sources}
use Rattle.postscript_write.specs.Identified.{AreIdentified, AreNamesFor, AreSourcesFor, KeepNumbers}
use Rattle.postscript_write.specs.LaidOut.{IsLaidOutOf, SelectsExactly}
use Rattle.postscript_write.specs.Room.{IsRead}
use Rattle.postscript_write.specs.Naming.{SameName, SameNames}
use Rattle.postscript_write.specs.NewStrings.{HasNew}
use Rattle.postscript_write.specs.Numbered.{AreAll, AreCut, AreStringsFor, IsCharSetFor, IsSetFor, items_if}
use Rattle.postscript_write.specs.Own.{IsOwnCharSet}
use Rattle.postscript_write.specs.Parts.{IsAmong, SameAt, naming}
use Rattle.postscript_write.specs.ReadBack.{HasNames, keeps_strings}
use Rattle.postscript_write.specs.Renumbered.{new_identifier}
use Rattle.postscript_write.specs.Strings.{AreNamedAs, IsNamedAs, IsNeeded, KeepsStrings, NamesSame, SameString, identifier_in}
use Rattle.postscript_write.specs.Written.{IsPutTogether}
use Rattle.postscript_write.specs.declared.layout.Glyphs.{Glyphs}
use Rattle.postscript_write.specs.declared.strings.Strings.{Strings}
use Rattle.postscript_write.proofs.CharSetAgain.{AreListed, IsKept, IsListed, NameAlike, set_kept, set_listed}
use Rattle.postscript_write.proofs.Likeness.{same_name_by}
use Rattle.postscript_write.proofs.LaidOut.{laid_out}
use Rattle.postscript_write.proofs.NamedAgain.{same_operands}
use Rattle.postscript_write.proofs.ReadAgain.{one_view}
use Rattle.postscript_view.specs.Layout.{IsLaidOut}
use Rattle.postscript_write.proofs.NoByteBeside.{dictionary_is, set_last, set_look}
use Rattle.postscript_write.proofs.Put.{name_apart, named, set_held, set_late, set_place, set_text, tables_stand}
use Rattle.postscript_write.proofs.TablesStand.{TablesStand}
use Rattle.postscript_write.proofs.Operators.{among}
use Rattle.postscript_write.proofs.StringsAgain.{glyph_has, new_low, operator_same, string_again, string_needed}

-- glyphs that keep their numbers keep their names
pub names_kept : (old new : CharSetView) (sources : Sources) (glyphs : ℕ) → KeepNumbers sources glyphs → NameAlike old new →
    SameNames old sources new
names_kept old new sources glyphs keep alike i less = by (get_or sources i None) refl
  where
    by : (source : Option ℕ) → get_or sources i None ≡ source → SameName old source new i
    by None e = λ identifier. alike i identifier
    by (Some glyph) e =
        λ identifier. subst (λ g. Names old g identifier ↔ Names new i identifier) (sym (keep.each i glyph less e)) (alike i identifier)

module _ (old new : CharSetView) (sources : Sources) (identifiers : List ℕ) (strings : Strings)
    (of : AreIdentified old sources identifiers) (listed : IsListed strings identifiers new) where
  abbrev source : ℕ → Option ℕ
  source i = get_or sources i None

  -- what a glyph is made of, and the identifiers that name both
  pub record AreBoth (i : ℕ) : Type 0 where
    pub glyph : ℕ
    pub was : ℕ
    pub is : source i ≡ Some glyph
    pub names : Names old glyph was
    pub again : Names new i (new_identifier strings was)
    pub from : (was ≡ 0) ⊎ ((k : ℕ) × (k < length identifiers) × (get_or identifiers k 0 ≡ was))

  pub both : (i : ℕ) → i < length sources → AreBoth i
  both zero less =
      let first = of.first in record { glyph = first.0; was = 0; is = first.1; names = first.2; again = listed.first; from = inl refl }
  both (suc i) less =
      let many = of.many in
      let within : i < length identifiers = omega (arith, less, many) in
      let one = of.each i within in
      let e : i + 1 ≡ suc i = omega arith in
      record {
        glyph = one.0;
        was = get_or identifiers i 0;
        is = ap source (sym e) ∙ one.1;
        names = one.2;
        again = subst (λ n. Names new n (new_identifier strings (get_or identifiers i 0))) e
            ((listed.each i (new_identifier strings (get_or identifiers i 0)) within).1 refl);
        from = inr (i, within, refl);
      }

  -- where strings keep their identifiers, glyphs have the same ones
  pub names_listed : ((identifier : ℕ) → new_identifier strings identifier ≡ identifier) → SameNames old sources new
  names_listed stay i less =
      let b = both i less in
      same_name_by old new (source i) b.glyph i b.was (new_identifier strings b.was) b.is b.names b.again (sym (stay b.was))

  -- where they are cut, both name the same string
  pub named_as : (old_strings new_strings : List (List ℕ)) →
      ((identifier : ℕ) → (identifier ≡ 0) ⊎ ((k : ℕ) × (k < length identifiers) × (get_or identifiers k 0 ≡ identifier)) →
      SameString old_strings identifier new_strings (new_identifier strings identifier)) → AreNamedAs old old_strings sources new
      new_strings
  named_as old_strings new_strings same i less =
      let b = both i less in
      subst (λ s. IsNamedAs old old_strings s new new_strings i) (sym b.is)
      (b.was, new_identifier strings b.was, b.names, b.again, same b.was b.from)

-- where no string has a new identifier, each keeps its own
stay : (strings : Strings) (identifier : ℕ) → strings.renumbered.items ≡ [] → new_identifier strings identifier ≡ identifier
stay strings identifier none =
    ap (λ xs. if nat_lt identifier 391 then identifier else unwrap_or (get_or xs (identifier - 391) None) identifier) none
    ∙ by (nat_lt identifier 391)
  where
    by : (b : Bool) → (if b then identifier else unwrap_or (get_or {A = Option ℕ} [] (identifier - 391) None) identifier) ≡ identifier
    by true = refl
    by false = refl

all_naming : (P : Operator → Type 0) → ((operator : Operator) → IsAmong operator naming → P operator) → All P naming
all_naming P of k d less =
    of (get_or naming k d) (among naming (get_or naming k d) (k, less, get_or_default naming k (get_or naming k d) d less))

module _ {font : FontView} {glyphs : Glyphs} {codes : List (List ℕ)} {out : List ℕ} (w : IsPutTogether font glyphs codes out)
    (t : TablesStand font glyphs (named w) out) (old : CharSetView) (sources : Sources)
    (is : IsCharSetOf old font.bytes.now font.dictionary (length (items_of font.char_strings))) where
  kept_set : IsOwnCharSet font.bytes.now font.dictionary (length (items_of font.char_strings)) (items_if glyphs.char_set) →
      IsKept old out t.new (length (items_of font.char_strings))
  kept_set own =
      set_kept old font.bytes.now out font.dictionary t.new (length (items_of font.char_strings)) glyphs.char_set (set_place w) is
      (set_look w t) (set_held w) (set_late w) (set_text w) (set_last w t) own

  listed_set : (identifiers : List ℕ) → IsSetFor glyphs.strings identifiers (items_if glyphs.char_set) →
      length codes ≡ 1 + length identifiers →
      ((i : ℕ) → i < length identifiers → new_identifier glyphs.strings (get_or identifiers i 0) < 65536) → AreListed glyphs.strings
      identifiers out t.new (length codes)
  listed_set identifiers own many low =
      set_listed font.bytes glyphs.strings identifiers out font.dictionary t.new (length codes) glyphs.char_set (set_place w)
      (set_look w t) (set_held w) (set_late w) (set_text w) own many low

  -- the operators keep their operands, where strings keep their identifiers
  operators_kept : glyphs.strings.renumbered.items ≡ [] → SameAt naming font.dictionary t.new
  operators_kept none =
      all_naming (λ operator. look t.new operator ≡ look font.dictionary operator) (λ operator among.
      same_operands glyphs.strings font.dictionary t.named t.new (named w) (name_apart w) t.renamed t.placed operator among
      (λ identifier e. stay glyphs.strings identifier none))

  module _ (view : View) (map_is : view.tables.dictionary ≡ t.new) (codes_are : view.char_strings ≡ codes)
      (strings_are : view.tables.strings ≡ texts glyphs.strings.texts.items) where
    to_new : (set : CharSetView) → IsCharSetOf set out view.tables.dictionary (length view.char_strings) →
        IsCharSetOf set out t.new (length codes)
    to_new set has =
        subst (λ m. IsCharSetOf set out m (length codes)) map_is
        (subst (λ (cs : List (List ℕ)). IsCharSetOf set out view.tables.dictionary (length cs)) codes_are has)

    from_new : (set : CharSetView) → IsCharSetOf set out t.new (length codes) →
        IsCharSetOf set out view.tables.dictionary (length view.char_strings)
    from_new set has =
        subst (λ m. IsCharSetOf set out m (length view.char_strings)) (sym map_is)
        (subst (λ (cs : List (List ℕ)). IsCharSetOf set out t.new (length cs)) (sym codes_are) has)

    -- strings that all stay
    strings_kept : AreAll font glyphs.strings → (new : CharSetView) → SameNames old sources new →
        KeepsStrings sources (view_shown font) old view new
    strings_kept all new names = record {
      strings = strings_are ∙ all.texts_are;
      operators = subst (λ m. SameAt naming font.dictionary m) (sym map_is) (operators_kept all.stay);
      glyphs = names;
    }

    back_kept : KeepNumbers sources (length (items_of font.char_strings)) → length codes ≡ length sources → AreAll font glyphs.strings →
        IsOwnCharSet font.bytes.now font.dictionary (length (items_of font.char_strings))
        (items_if glyphs.char_set) → HasNames true sources (view_shown font) old out view
    back_kept keep many all own =
        let kept = kept_set own in
        let same : length (items_of font.char_strings) ≡ length codes = sym keep.many ∙ sym many in
        record {
          set = kept.some.0;
          is = from_new kept.some.0 (subst (λ n. IsCharSetOf kept.some.0 out t.new n) same kept.some.1);
          same = λ set has.
              strings_kept all set (names_kept old set sources (length (items_of font.char_strings)) keep
              (kept.alike set (subst (λ n. IsCharSetOf set out t.new n) (sym same) (to_new set has))));
        }

    -- identifiers are listed, and all strings stay
    back_listed : (identifiers : List ℕ) → AreIdentified old sources identifiers → length codes ≡ length sources →
        AreAll font glyphs.strings → IsSetFor glyphs.strings identifiers (items_if glyphs.char_set) →
        HasNames true sources (view_shown font) old out view
    back_listed identifiers of many all own =
        let same = λ (identifier : ℕ). stay glyphs.strings identifier all.stay in
        let listed = listed_set identifiers own (many ∙ of.many)
        (λ i less. subst (λ n. n < 65536) (sym (same (get_or identifiers i 0))) (of.low i less)) in
        record {
          set = listed.some.0;
          is = from_new listed.some.0 listed.some.1;
          same = λ set has. strings_kept all set
              (names_listed old set sources identifiers glyphs.strings of (listed.names set (to_new set has)) same);
        }

    -- identifiers are listed, and strings are cut to those that are named
    back_cut : (identifiers : List ℕ) → AreIdentified old sources identifiers → length codes ≡ length sources →
        AreCut font identifiers glyphs.strings → IsSetFor glyphs.strings identifiers (items_if glyphs.char_set) →
        HasNames false sources (view_shown font) old out view
    back_cut identifiers of many cut own =
        let map = font.dictionary in
        let was : List (List ℕ) = items_of font.strings in
        let now : List (List ℕ) = texts glyphs.strings.texts.items in
        let listed = listed_set identifiers own (many ∙ of.many)
        (λ i less. new_low map identifiers was now glyphs.strings cut.renumbered cut.named of.low (get_or identifiers i 0)
        (of.low i less)) in
        record {
          set = listed.some.0;
          is = from_new listed.some.0 listed.some.1;
          same = λ set has.
              let names = listed.names set (to_new set has) in
              record {
                operators = all_naming (NamesSame (view_shown font).tables view.tables) (λ operator among.
                    operator_same map identifiers was now glyphs.strings cut.renumbered cut.named of.low t.named t.new (named w) (name_apart w)
                    t.renamed t.placed (view_shown font).tables view.tables operator refl refl map_is strings_are among);
                glyphs = named_as old set sources identifiers glyphs.strings of names was view.tables.strings (λ identifier from.
                    subst (λ (ss : List (List ℕ)). SameString was identifier ss (new_identifier glyphs.strings identifier))
                    (sym strings_are)
                    (string_again was now glyphs.strings cut.renumbered identifier
                    (λ number at within. named_from identifiers of cut identifier from number at within)));
                needed = λ number less. needed_by identifiers of many cut set names number
                    (subst (λ (ss : List (List ℕ)). number < length ss) strings_are less);
              };
        }
      where
        named_from : (identifiers : List ℕ) → AreIdentified old sources identifiers → AreCut font identifiers glyphs.strings →
            (identifier : ℕ) → (identifier ≡ 0) ⊎ ((k : ℕ) × (k < length identifiers) × (get_or identifiers k 0 ≡ identifier)) →
            (number : ℕ) → identifier ≡ 391 + number → number < length
            (items_of font.strings) → HasNew glyphs.strings.renumbered.items number
        named_from identifiers of cut identifier (inl none) number at within = absurd (omega (arith, none, at))
        named_from identifiers of cut identifier (inr one) number at within =
            glyph_has font.dictionary identifiers (items_of font.strings)
            (texts glyphs.strings.texts.items) glyphs.strings cut.renumbered cut.named of.low one.0 one.1 number (one.2 ∙ at) within

        needed_by : (identifiers : List ℕ) → AreIdentified old sources identifiers → length codes ≡ length sources →
            AreCut font identifiers glyphs.strings → (set : CharSetView) → IsListed glyphs.strings identifiers set →
            (number : ℕ) → number < length (texts glyphs.strings.texts.items) → IsNeeded view set number
        needed_by identifiers of many cut set names number less =
            elim (string_needed font.dictionary identifiers (items_of font.strings)
            (texts glyphs.strings.texts.items) glyphs.strings cut.renumbered cut.named of.low t.named t.new (named w) (name_apart w) t.renamed
            t.placed number less) [
              | inl any ↦ inl (subst (λ m. Any (λ operator. identifier_in m operator ≡ Some (391 + number)) naming) (sym map_is) any)
              | inr one ↦ inr (
                one.0 + 1,
                (let within = one.1 in let all = of.many in omega (arith, within, many, all, ap length codes_are)),
                (names.each one.0 (391 + number) one.1).1 one.2,
              )
            ]

-- what is written has the names that it was to have
pub names_back : (font : FontView) (glyphs : Glyphs) (codes : List (List ℕ)) (out : List ℕ) → IsPutTogether font glyphs codes out →
    IsRead font → SelectsExactly font glyphs → (kept : Bool) (sources : Sources) (identifiers : Option (Vec ℕ Global))
    (set : CharSetView) →
    IsCharSetOf set font.bytes.now font.dictionary
    (length (items_of font.char_strings)) → AreNamesFor kept font set sources identifiers glyphs → length codes ≡ length
    sources → (new : View) → IsLaidOut out 0 new →
    HasNames (keeps_strings kept font.dictionary) sources (view_shown font) set out new
names_back font glyphs codes out w read exactly kept sources identifiers set is names many new laid =
    subst (HasNames (keeps_strings kept font.dictionary) sources (view_shown font) set out)
    (sym (one_view out own.view new own.laid laid))
    (by kept identifiers names.sources_are names.strings names.char_set)
  where
    own : IsLaidOutOf font glyphs codes out
    own = laid_out font glyphs codes out w read exactly

    t : TablesStand font glyphs (named w) out
    t = tables_stand w read.laid.tables

    by : (kept : Bool) (identifiers : Option (Vec ℕ Global)) →
        AreSourcesFor kept set (length (items_of font.char_strings)) sources identifiers → AreStringsFor font identifiers glyphs.strings →
        IsCharSetFor font identifiers glyphs →
        HasNames (keeps_strings kept font.dictionary) sources (view_shown font) set out own.view
    by true None keep strings own_set =
        back_kept w t set sources is own.view
        (sym (dictionary_is w t own.view own.laid)) own.char_strings own.strings keep many strings own_set
    by true (Some identifiers) never strings own_set = absurd never
    by false None never strings own_set = absurd never
    by false (Some identifiers) of strings own_set = cases (is_some (look font.dictionary ROS)) strings
      where
        cases : (b : Bool) → MatchBool b (AreAll font glyphs.strings) (AreCut font identifiers.items glyphs.strings) →
            HasNames b sources (view_shown font) set out own.view
        cases true all =
            back_listed w t set sources is own.view
            (sym (dictionary_is w t own.view own.laid)) own.char_strings own.strings identifiers.items of many all
            own_set
        cases false cut =
            back_cut w t set sources is own.view
            (sym (dictionary_is w t own.view own.laid)) own.char_strings own.strings identifiers.items of many cut
            own_set
