-- How many tables have a tag.
use Rattle.std.proofs.Common.{◌≡◌, ◌≢◌, refl, sym, ap, ◌∙◌, subst, inl, inr, ℕ, zero, suc, ◌+◌, ◌<◌, ◌≤◌, List, [], ◌∷◌, ◌++◌, Bool, true, false, length, drop, get_or, arith}
use Rattle.std.specs.Prelude.{◌==◌, map, if◌then◌else◌, Result, Ok, Err, IfErr, Vec}
use Rattle.std.specs.declared.alloc.Global.{Global}
use Rattle.std.proofs.lemmas.Bool.{cases_lt, eq-eqb, eqb-true}
use Rattle.std.proofs.lemmas.List.{at_drop_all, at_drop_more}
use Rattle.std.specs.List.Sorted.{IsPermutation}
use Rattle.std.proofs.lemmas.List.Sorted.{sum_by-IsPermutation}
use Rattle.std.proofs.lemmas.List.Sums.{sum_by-append, sum_by-cons}
use Rattle.postscript_sfnt.specs.Lent.{HasNoTable}
use Rattle.postscript_sfnt.specs.declared.file.FontFile.{FontFile}
use Rattle.postscript_sfnt_write.specs.Tables.{IsGiven, TagsRise}
use Rattle.postscript_sfnt_write.specs.declared.file.Table.{Table}
use Rattle.postscript_files.specs.Copies.{HasTwice, NoFileOf, tagged}
use Rattle.postscript_files.specs.Listed.{AreParts, CountsCopied, CountsGiven, NoFileOfParts, made_tags}
use Rattle.postscript_files.specs.Subsets.{IsTwice, given_tag, times}
use Rattle.postscript_files.specs.declared.choice.Choice.{Choice}
use Rattle.postscript_files.specs.declared.choice.Given.{Given}
use Rattle.postscript_files.specs.declared.error.Error.{Error}
use Rattle.postscript_files.specs.declared.error.Error.TheVariants.{Cut, File, Font, Memory, MissingCharacter, MissingTable, NoAdvances, NoMap, Overlap, SameTag, TooLarge}
use Rattle.postscript_files.specs.declared.subset.Made.{Made}

-- 1 if a number is this one
abbrev one_if : (x n : ℕ) → ℕ
one_if x n = if x == n then 1 else 0

abbrev has_tag : ℕ → Table → ℕ
has_tag tag t = if t.tag == tag then 1 else 0

pub tagged-more : (tables : List Table) (u : Table) (tag : ℕ) →
    tagged (tables ++ u ∷ []) tag ≡ tagged tables tag + (if u.tag == tag then 1 else 0)
tagged-more tables u tag =
    let all = sum_by-append (has_tag tag) tables (u ∷ []) in
    let one = sum_by-cons (has_tag tag) u [] in omega (arith, all, one)

-- a table with the tag counts
counted : (tag : ℕ) (u : Table) → u.tag ≡ tag → has_tag tag u ≡ 1
counted tag u same = ap (λ b. if b then 1 else 0) (eq-eqb u.tag tag same)

-- the first table has another tag, or it counts once
other-tagged : (u : Table) (us : List Table) (tag : ℕ) → (u.tag == tag) ≡ false → tagged (u ∷ us) tag ≡ tagged us tag
other-tagged u us tag other =
    let all = sum_by-cons (has_tag tag) u us in
    let none : has_tag tag u ≡ 0 = ap (λ b. if b then 1 else 0) other in omega (arith, all, none)

once-tagged : (u : Table) (us : List Table) (tag : ℕ) → u.tag ≡ tag → tagged us tag ≡ 0 → tagged (u ∷ us) tag ≤ 1
once-tagged u us tag same none =
    let all = sum_by-cons (has_tag tag) u us in
    let one = counted tag u same in omega (arith, all, one, none)

-- no table has the tag
none-tagged : (tables : List Table) (tag : ℕ) → ((k : ℕ) (t : Table) → IsGiven tables k t → t.tag ≡ tag → ⊥) → tagged tables tag ≡ 0
none-tagged [] tag none = refl
none-tagged (u ∷ us) tag none = by (u.tag == tag) refl (none-tagged us tag (λ k t h same. none (suc k) t h same))
  where
    by : (b : Bool) → (u.tag == tag) ≡ b → tagged us tag ≡ 0 → tagged (u ∷ us) tag ≡ 0
    by true e rest = absurd (none 0 u refl (eqb-true u.tag tag e))
    by false e rest = other-tagged u us tag e ∙ rest

-- one table, and then two, with the tag
some-tagged : (tables : List Table) (i : ℕ) (u : Table) (tag : ℕ) → IsGiven tables i u → u.tag ≡ tag → 1 ≤ tagged tables tag
some-tagged [] i u tag h same = absurd (cc)
some-tagged (v ∷ vs) zero u tag h same =
    let e : v ≡ u = cc in
    let is = counted tag v (ap (λ (t : Table). t.tag) e ∙ same) in
    let all = sum_by-cons (has_tag tag) v vs in omega (arith, is, all)
some-tagged (v ∷ vs) (suc i) u tag h same =
    let rest = some-tagged vs i u tag h same in
    let all = sum_by-cons (has_tag tag) v vs in omega (arith, rest, all)

two-tagged : (tables : List Table) (i : ℕ) (a b : Table) (tag : ℕ) → IsGiven tables i a → IsGiven tables (suc i) b → a.tag ≡ tag →
    b.tag ≡ tag → 2 ≤ tagged tables tag
two-tagged [] i a b tag h k x y = absurd (cc)
two-tagged (v ∷ vs) zero a b tag h k x y =
    let e : v ≡ a = cc in
    let is = counted tag v (ap (λ (t : Table). t.tag) e ∙ x) in
    let rest = some-tagged vs zero b tag k y in
    let all = sum_by-cons (has_tag tag) v vs in omega (arith, is, rest, all)
two-tagged (v ∷ vs) (suc i) a b tag h k x y =
    let rest = two-tagged vs i a b tag h k x y in
    let all = sum_by-cons (has_tag tag) v vs in omega (arith, rest, all)

pub twice-tagged : (tables : List Table) (tag : ℕ) → HasTwice tables tag → 2 ≤ tagged tables tag
twice-tagged tables tag h =
    let next : h.2.i + 1 ≡ suc h.2.i = omega arith in
    let second : IsGiven h.0 (suc h.2.i) h.2.b = subst (λ k. IsGiven h.0 k h.2.b) next h.2.second in
    let two = two-tagged h.0 h.2.i h.2.a h.2.b tag h.2.first second h.2.of_first h.2.of_second in
    let same = sum_by-IsPermutation (has_tag tag) tables h.0 h.1 in omega (arith, two, same)

-- each tag is there once
pub no-twice : (tables : List Table) (tag : ℕ) →
    ((i j : ℕ) (a b : Table) → i < j → IsGiven tables i a → IsGiven tables j b → a.tag ≢ b.tag) → tagged tables tag ≤ 1
no-twice [] tag once = omega arith
no-twice (u ∷ us) tag once =
    by (u.tag == tag) refl (no-twice us tag (λ i j a b less x y. once (suc i) (suc j) a b (omega (arith, less)) x y))
  where
    by : (b : Bool) → (u.tag == tag) ≡ b → tagged us tag ≤ 1 → tagged (u ∷ us) tag ≤ 1
    by false e rest = let same = other-tagged u us tag e in omega (arith, same, rest)
    by true e rest =
        let named = eqb-true u.tag tag e in
        once-tagged u us tag named (none-tagged us tag (λ k t h same. once 0 (suc k) u t (omega arith) refl h (named ∙ sym same)))

-- tags that rise are there once, in any order of the tables
once-moved : (tables sorted : List Table) → IsPermutation tables sorted → TagsRise sorted → (tag : ℕ) → tagged tables tag ≤ 1
once-moved tables sorted moved rise tag =
    let same = sum_by-IsPermutation (has_tag tag) tables sorted moved in
    let once = no-twice sorted tag (λ i j a b less x y. let up = rise i j a b less x y in omega (arith, up)) in
    omega (arith, once, same)

pub if-once : (r : Result (Vec ℕ Global) Error) (tables sorted : List Table) → IsPermutation tables sorted → TagsRise sorted →
    IfErr r (λ e. e ≡ TooLarge → (tag : ℕ) → tagged tables tag ≤ 1)
if-once (Ok file) tables sorted moved rise = tt
if-once (Err e) tables sorted moved rise = λ same tag. once-moved tables sorted moved rise tag

-- the given tables, one after the other
pub given-counts : (given : List Given) (i : ℕ) (d : Given) (first old new : List Table) → i < length given →
    ((tag : ℕ) → tagged new tag ≡ tagged old tag + (if (get_or given i d).tag == tag then 1 else 0)) →
    ((tag : ℕ) → tagged old tag + times (map given_tag (drop i given)) tag ≡ tagged first tag + times (map given_tag given) tag) →
    (tag : ℕ) → tagged new tag + times (map given_tag (drop (i + 1) given)) tag ≡ tagged first tag + times (map given_tag given) tag
given-counts given i d first old new there put before tag =
    let step = at_drop_more (λ gs. times (map given_tag gs) tag) given i d there in
    let p = put tag in
    let b = before tag in omega (arith, step, p, b)

pub given-end : (given : List Given) (i : ℕ) (first last : List Table) → length given ≤ i →
    ((tag : ℕ) → tagged last tag + times (map given_tag (drop i given)) tag ≡ tagged first tag + times (map given_tag given) tag) →
    CountsGiven given first last
given-end given i first last past all tag =
    let end = at_drop_all (λ gs. times (map given_tag gs) tag) given i past in
    let a = all tag in omega (arith, end, a)

-- the copied tables, one after the other
pub copied-counts : (file : FontFile) (tags : List ℕ) (i : ℕ) (first old new : List Table) → i < length tags →
    CountsCopied file (get_or tags i 0 ∷ []) old new →
    ((tag : ℕ) → tagged old tag + times (drop i tags) tag ≤ tagged first tag + times tags tag) →
    (tag : ℕ) → tagged new tag + times (drop (i + 1) tags) tag ≤ tagged first tag + times tags tag
copied-counts file tags i first old new there put before tag =
    let step = at_drop_more (λ xs. times xs tag) tags i 0 there in
    let p = put.most tag in
    let b = before tag in omega (arith, step, p, b)

pub copied-end : (tags : List ℕ) (i : ℕ) (first last : List Table) → length tags ≤ i →
    ((tag : ℕ) → tagged last tag + times (drop i tags) tag ≤ tagged first tag + times tags tag) →
    (tag : ℕ) → tagged last tag ≤ tagged first tag + times tags tag
copied-end tags i first last past all tag =
    let end = at_drop_all (λ xs. times xs tag) tags i past in
    let a = all tag in omega (arith, end, a)

pub copy-counts : (file : FontFile) (tag : ℕ) (old new : List Table) → (HasNoTable file tag → ⊥) →
    ((t : ℕ) → tagged new t ≡ tagged old t + (if tag == t then 1 else 0)) → CountsCopied file (tag ∷ []) old new
copy-counts file tag old new has put = record {
  none = λ t none. by (tag == t) t none refl;
  most = λ t. let p = put t in omega (arith, p);
}
  where
    by : (b : Bool) (t : ℕ) → HasNoTable file t → (tag == t) ≡ b → tagged new t ≡ tagged old t
    by true t none e = absurd (has (subst (HasNoTable file) (sym (eqb-true tag t e)) none))
    by false t none e = let p = put t in let q : one_if tag t ≡ 0 = ap (λ b. if b then 1 else 0) e in omega (arith, p, q)

pub no-copy : (file : FontFile) (tag : ℕ) (tables : List Table) → CountsCopied file (tag ∷ []) tables tables
no-copy file tag tables = record { none = λ t none. refl; most = λ t. omega arith }

is-twice : (choice : Choice) (old : FontFile) (first second third : List Table) (tag : ℕ) →
    ((t : ℕ) → tagged first t ≡ times made_tags t) → CountsGiven choice.given.now first second →
    CountsCopied old choice.copied.now second third → 2 ≤ tagged third tag → IsTwice choice old tag
is-twice choice old first second third tag made given copied two =
    let a = made tag in
    let b = given tag in
    let c = copied.most tag in
    elim (cases_lt (tagged second tag) (tagged third tag)) [
      | inl more ↦ inr (λ none. let e = copied.none tag none in omega (arith, e, more), omega (arith, a, b, c, two))
      | inr same ↦ inl (omega (arith, a, b, same, two))
    ]

not-parts : (e : Error) (choice : Choice) (old : FontFile) (font : List ℕ) (made : Made) (first second third : List Table) →
    ((t : ℕ) → tagged first t ≡ times made_tags t) → CountsGiven choice.given.now first second →
    CountsCopied old choice.copied.now second third → AreParts choice old font made third → NoFileOf e third →
    (e ≡ TooLarge → (tag : ℕ) → tagged third tag ≤ 1) → NoFileOfParts choice old font made e
not-parts Memory choice old font made first second third six given copied it h once = tt
not-parts TooLarge choice old font made first second third six given copied it h once = (third, it, once refl, h)
not-parts (SameTag tag) choice old font made first second third six given copied it h once =
    is-twice choice old first second third tag six given copied (twice-tagged third tag h)
not-parts (File e) choice old font made first second third six given copied it h once = absurd h
not-parts (MissingTable tag) choice old font made first second third six given copied it h once = absurd h
not-parts NoMap choice old font made first second third six given copied it h once = absurd h
not-parts NoAdvances choice old font made first second third six given copied it h once = absurd h
not-parts (MissingCharacter char) choice old font made first second third six given copied it h once = absurd h
not-parts (Font e) choice old font made first second third six given copied it h once = absurd h
not-parts Overlap choice old font made first second third six given copied it h once = absurd h
not-parts Cut choice old font made first second third six given copied it h once = absurd h

pub if-not-parts : (r : Result (Vec ℕ Global) Error) (choice : Choice) (old : FontFile) (font : List ℕ) (made : Made)
    (first second third all : List Table) → all ≡ third → ((t : ℕ) → tagged first t ≡ times made_tags t) →
    CountsGiven choice.given.now first second → CountsCopied old choice.copied.now second third → AreParts choice old font made third →
    IfErr r (λ e. NoFileOf e all) → IfErr r (λ e. e ≡ TooLarge → (tag : ℕ) → tagged all tag ≤ 1) →
    IfErr r (λ e. NoFileOfParts choice old font made e)
if-not-parts (Ok file) choice old font made first second third all same six given copied it h once = tt
if-not-parts (Err e) choice old font made first second third all same six given copied it h once =
    not-parts e choice old font made first second third six given copied it (subst (NoFileOf e) same h)
    (subst (λ (ts : List Table). e ≡ TooLarge → (tag : ℕ) → tagged ts tag ≤ 1) same once)
