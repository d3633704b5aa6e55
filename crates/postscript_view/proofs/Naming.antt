-- Identifiers of glyphs, by runs and by ranges.
use Rattle.std.proofs.Common.{◌≡◌, ℕ, ◌+◌, ◌-◌, ◌/◌, ◌<◌, ◌≤◌, List, length, Option, Some, None, Bor, inl, inr, subst, arith}
use Rattle.std.proofs.lemmas.Bool.Decides.{nat_tests}
use Rattle.std.proofs.lemmas.Option.{slice_get_past}
use Rattle.postscript_compact1.specs.CharSets.Predefined.{identifier_of, identifiers, runs_of}
use Rattle.postscript_compact1.specs.declared.char_set.CharSet.TheVariants as sets
use Rattle.postscript_view.specs.CharSet.{covered, first_of, more_of, IsNamed, IsFirstOfRanges}
use Rattle.std.specs.Prelude.{IfSome, IfNone, option_map}
use Rattle.postscript_view.specs.Naming.{Names, NamesFrom, NamesBehind}
use Rattle.postscript_view.specs.Strings.{HasName, HasString, string_of}
use Rattle.postscript_view.specs.Contents.{View}
use Rattle.postscript_view.specs.declared.char_set.CharSetView.{CharSetView}
use Rattle.postscript_view.specs.declared.char_set.Identifiers.{Identifiers}
use Rattle.postscript_view.specs.declared.char_set.Identifiers.TheVariants.{ISOAdobe, Expert, ExpertSubset, Listed, Ranges1, Ranges2}
use Rattle.postscript_view.proofs.Covering.{covered_more}
use Rattle.postscript_view.proofs.Selecting.{risen}

pub past_expert : (glyph : ℕ) → 165 < glyph → identifier_of (runs_of sets.Expert) glyph ≡ None
unfolding identifier_of
past_expert glyph h =
    let past = slice_get_past (identifiers (runs_of sets.Expert)) (glyph - 1) (omega (arith, h)) in
    grind (arith, nat_tests, past)

pub past_expert_subset : (glyph : ℕ) → 86 < glyph → identifier_of (runs_of sets.ExpertSubset) glyph ≡ None
unfolding identifier_of
past_expert_subset glyph h =
    let past = slice_get_past (identifiers (runs_of sets.ExpertSubset)) (glyph - 1) (omega (arith, h)) in
    grind (arith, nat_tests, past)

rises : (ranges : List ℕ) (size i j : ℕ) → i ≤ j → covered ranges size i ≤ covered ranges size j
rises ranges size i j h = risen (covered ranges size) j (λ k there. omega (arith, covered_more ranges size k)) i j h (omega arith)

-- the range that covers a glyph is the only one
only : (ranges : List ℕ) (size r glyph identifier : ℕ) → covered ranges size r ≤ glyph →
    glyph < covered ranges size r + (more_of ranges size r + 1) → (named : IsNamed ranges size glyph identifier) → named.range ≡ r
only ranges size r glyph identifier from to named =
    let q = named.range in
    let not_low : q < r → ⊥ =
    λ below. let up =
    rises ranges size (q + 1) r (omega (arith, below)) in absurd (omega (arith, up, covered_more ranges size q, from, named.to)) in
    let not_high : r < q → ⊥ =
    λ below. let up =
    rises ranges size (r + 1) q (omega (arith, below)) in absurd (omega (arith, up, covered_more ranges size r, to, named.from)) in
    omega (arith, not_low, not_high)

-- so that it names the glyph
pub named_by : (ranges : List ℕ) (size r glyph identifier : ℕ) → covered ranges size r ≤ glyph →
    glyph < covered ranges size r + (more_of ranges size r + 1) → IsNamed ranges size glyph identifier
    → identifier + covered ranges size r ≡ first_of ranges size r + glyph
named_by ranges size r glyph identifier from to named =
    subst (λ q. identifier + covered ranges size q ≡ first_of ranges size q + glyph)
    (only ranges size r glyph identifier from to named) named.named

-- a glyph behind all ranges has no identifier
pub unnamed : (ranges : List ℕ) (size n glyph identifier : ℕ) → length ranges / (2 + size) ≤ n → covered ranges size n ≤ glyph →
    IsNamed ranges size glyph identifier → ⊥
unnamed ranges size n glyph identifier all behind named =
    let there = named.there in
    let up = rises ranges size (named.range + 1) n (omega (arith, all, there)) in
    absurd (omega (arith, up, covered_more ranges size named.range, named.to, behind))

-- a range that has not the identifier leaves it unused
pub extended : (ranges : List ℕ) (size r identifier g : ℕ) → g ≡ covered ranges size r →
    ((other : ℕ) → other < g → IsNamed ranges size other identifier → ⊥)
    → (first_of ranges size r ≤ identifier → identifier ≤ first_of ranges size r + more_of ranges size r → ⊥)
    → (other : ℕ) → other < g + (more_of ranges size r + 1) → IsNamed ranges size other identifier → ⊥
extended ranges size r identifier g is before outside other there named =
    let not_before : other < g → ⊥ = λ below. before other below named in
    let from : covered ranges size r ≤ other = omega (arith, not_before, is) in
    let h = named_by ranges size r other identifier from (omega (arith, there, is)) named in
    outside (omega (arith, h, from)) (omega (arith, h, from, there, is))

-- in the range that has it, no glyph before its place has it
earlier : (ranges : List ℕ) (size r identifier g : ℕ) → g ≡ covered ranges size r →
    ((other : ℕ) → other < g → IsNamed ranges size other identifier → ⊥)
    → first_of ranges size r ≤ identifier → identifier ≤ first_of ranges size r + more_of ranges size r
    → (other : ℕ) → other < g + (identifier - first_of ranges size r) → IsNamed ranges size other identifier → ⊥
earlier ranges size r identifier g is before low high other there named =
    let not_before : other < g → ⊥ = λ below. before other below named in
    let from : covered ranges size r ≤ other = omega (arith, not_before, is) in
    let h = named_by ranges size r other identifier from (omega (arith, there, is, low, high)) named in
    absurd (omega (arith, h, from, there, is, low))

pub found_at : (o : Option ℕ) (ranges : List ℕ) (size r identifier glyphs g step : ℕ) → step ≡ identifier - first_of ranges size r →
    r < length ranges / (2 + size) → identifier < 65536 → g ≡ covered ranges size r
    → ((other : ℕ) → other < g → IsNamed ranges size other identifier → ⊥) → first_of ranges size r ≤ identifier → identifier ≤ first_of
    ranges size r + more_of ranges size r
    → IfSome o (λ found. (found ≡ g + step) × (found < glyphs)) → IfSome o (λ found. IsFirstOfRanges ranges size identifier glyphs found)
found_at None ranges size r identifier glyphs g step stepped inside small is before low high h = tt
found_at (Some found) ranges size r identifier glyphs g step stepped inside small is before low high h =
    let place = h.0 in
    record {
      there = h.1;
      names = record {
        range = r;
        there = inside;
        from = omega (arith, place, is, stepped);
        to = omega (arith, place, is, low, high, stepped);
        small = small;
        named = omega (arith, place, is, low, stepped);
      };
      none_before = λ other below named. earlier ranges size r identifier g is before low high other
          (omega (arith, below, place, stepped)) named;
    }

pub none_at : (o : Option ℕ) (ranges : List ℕ) (size r identifier glyphs g step : ℕ) → step ≡ identifier - first_of ranges size r →
    g ≡ covered ranges size r
    → ((other : ℕ) → other < g → IsNamed ranges size other identifier → ⊥) → first_of ranges size r ≤ identifier → identifier ≤ first_of
    ranges size r + more_of ranges size r
    → IfNone o (glyphs ≤ g + step) → IfNone o ((glyph : ℕ) → glyph < glyphs → IsNamed ranges size glyph identifier → ⊥)
none_at (Some found) ranges size r identifier glyphs g step stepped is before low high h = tt
none_at None ranges size r identifier glyphs g step stepped is before low high h =
    λ glyph below named. earlier ranges size r identifier g is before low high glyph (omega (arith, below, h, stepped)) named

ranges_once : (ranges : List ℕ) (size g a b : ℕ) → IsNamed ranges size g a → IsNamed ranges size g b → a ≡ b
ranges_once ranges size g a b x y =
    let h = named_by ranges size y.range g a y.from y.to x in
    omega (arith, h, y.named)

behind_once : (set : Identifiers) (g a b : ℕ) → NamesBehind set g a → NamesBehind set g b → a ≡ b
behind_once ISOAdobe g a b x y = omega (arith, x.0, y.0)
behind_once Expert g a b x y = cc
behind_once ExpertSubset g a b x y = cc
behind_once (Listed identifiers) g a b x y = cc
behind_once (Ranges1 ranges) g a b x y = ranges_once ranges.now 1 g a b x y
behind_once (Ranges2 ranges) g a b x y = ranges_once ranges.now 2 g a b x y

-- a glyph has one identifier
once : (set : Identifiers) (g a b : ℕ) → NamesFrom set g a → NamesFrom set g b → a ≡ b
once set g a b (inl x) (inl y) = omega (arith, x.1, y.1)
once set g a b (inl x) (inr y) = absurd (omega (arith, x.0, y.0))
once set g a b (inr x) (inl y) = absurd (omega (arith, x.0, y.0))
once set g a b (inr x) (inr y) = behind_once set (g - 1) a b x.1 y.1

pub named_once : (set : CharSetView) (g a b : ℕ) → Names set g a → Names set g b → a ≡ b
named_once set g a b x y = once set.identifiers g a b x.told y.told

-- one more glyph that has not the identifier
pub one_more : (set : CharSetView) (identifier g : ℕ) → ((other : ℕ) → other < g → Names set other identifier → ⊥) →
    (Names set g identifier → ⊥) → (other : ℕ) → other < g + 1 → Names set other identifier → ⊥
one_more set identifier g before here other below names =
    let not_before : other < g → ⊥ = λ h. before other h names in
    let same : other ≡ g = omega (arith, below, not_before) in
    here (subst (λ k. Names set k identifier) same names)

-- where the identifier of a glyph has no string, the set tells none
pub string_none : (o : Option (Bor (List ℕ))) (set : CharSetView) (strings : List (List ℕ)) (glyph identifier : ℕ) →
    Names set glyph identifier → option_map (λ string. string.now) o ≡ string_of strings identifier
    → IfNone o ((name : List ℕ) → HasString set strings glyph name → ⊥)
string_none (Some name) set strings glyph identifier names is = tt
string_none None set strings glyph identifier names is = λ name h.
    let same : h.0 ≡ identifier = named_once set glyph h.0 identifier h.1 names in
    let string = h.2 in
    absurd (cc)

-- the set tells one string for a glyph
pub one_string : (set : CharSetView) (strings : List (List ℕ)) (glyph : ℕ) (a b : List ℕ) → HasString set strings glyph a →
    HasString set strings glyph b → a ≡ b
one_string set strings glyph a b x y =
    let same : x.0 ≡ y.0 = named_once set glyph x.0 y.0 x.1 y.1 in
    let one = x.2 in
    let other = y.2 in
    cc

-- one more glyph that has not the name
pub one_more_name : (font : View) (set : CharSetView) (name : List ℕ) (g : ℕ) →
    ((other : ℕ) → other < g → HasName font set other name → ⊥) → (HasName font set g name → ⊥)
    → (other : ℕ) → other < g + 1 → HasName font set other name → ⊥
one_more_name font set name g before here other below has =
    let not_before : other < g → ⊥ = λ h. before other h has in
    let same : other ≡ g = omega (arith, below, not_before) in
    here (subst (λ k. HasName font set k name) same has)

-- so that the glyph has no name
pub name_none : (o : Option (Bor (List ℕ))) (font : View) (set : CharSetView) (glyph : ℕ) →
    IfNone o ((string : List ℕ) → HasString set font.tables.strings glyph string → ⊥) →
    IfNone o ((name : List ℕ) → HasName font set glyph name → ⊥)
name_none (Some name) font set glyph h = tt
name_none None font set glyph h = λ name has. h name has.string

-- a glyph has one name
pub one_name : (font : View) (set : CharSetView) (glyph : ℕ) (a b : List ℕ) → HasName font set glyph a → HasName font set glyph b → a ≡ b
one_name font set glyph a b x y = one_string set font.tables.strings glyph a b x.string y.string

-- no glyph past the last has a name
pub no_more_names : (font : View) (set : CharSetView) (name : List ℕ) (n : ℕ) → length font.char_strings ≤ n →
    ((other : ℕ) → other < n → HasName font set other name → ⊥) → (glyph : ℕ) → HasName font set glyph name → ⊥
no_more_names font set name n all before glyph has = let there = has.there in before glyph (omega (arith, there, all)) has
