-- Tables of a face that are copied.
use Rattle.std.proofs.Common.{◌≡◌, ◌≢◌, refl, sym, ap, ◌∙◌, subst, inl, inr, ℕ, zero, suc, ◌+◌, ◌<◌, ◌≤◌, List, [], ◌∷◌, ◌++◌, length, drop, get_or, arith, length-append}
use Rattle.std.specs.Prelude.{◌⊎◌, Result, Ok, Err, IfOk, IfErr, Vec}
use Rattle.std.specs.declared.alloc.Global.{Global}
use Rattle.std.specs.List.{sum_by}
use Rattle.std.proofs.lemmas.Bool.{cases_eq, cases_lt}
use Rattle.std.proofs.lemmas.Option.{slice_get-get_or, slice_get_within}
use Rattle.postscript_sfnt.specs.Directory.{IsFirstOf}
use Rattle.postscript_sfnt.specs.Lent.{HasNoTable, IsFaceOf, IsTableOf, tables_of, tag_of}
use Rattle.postscript_sfnt.specs.declared.file.FontFile.{FontFile}
use Rattle.postscript_sfnt_write.specs.Tables.{IsGiven}
use Rattle.postscript_sfnt_write.specs.declared.file.Table.{Table}
use Rattle.postscript_files.specs.Copies.{HasAll, HasCopy, IsFileOf, NoFileOf}
use Rattle.postscript_files.specs.Faces.{cff_tag}
use Rattle.postscript_files.specs.Flats.{AreStaying, IsFlatFont, IsFlatOf, IsFlatRefusedBy, NoFlatOf, Stays, StayingHaveMore, dsig_tag}
use Rattle.postscript_files.proofs.Twice.{no-twice, twice-tagged}
use Rattle.postscript_files.specs.Others.{AreListedTo, AreOthers, Has, HasOthers, IsFileWith, IsUnwritten}
use Rattle.postscript_files.specs.declared.error.Error.{Error}
use Rattle.postscript_files.specs.declared.error.Error.TheVariants.{Cut, File, Font, Memory, MissingCharacter, MissingTable, NoAdvances, NoMap, Overlap, SameTag, TooLarge}
use Rattle.postscript_files.specs.declared.error.Error.TheVariants as errors
use Rattle.postscript_write.specs.declared.error.Error.{Error as Refusal}

one-record : (bytes : List ℕ) (start count tag i j : ℕ) → IsFirstOf bytes start count tag i → IsFirstOf bytes start count tag j → i ≡ j
one-record bytes start count tag i j x y = elim (cases_eq i j) [
  | inl same ↦ same
  | inr other ↦ elim (cases_lt i j) [
    | inl less ↦ absurd (y.first i less x.names)
    | inr more ↦ absurd (x.first j (omega (arith, more, other)) y.names)
  ]
]

-- a face has one table of a tag
pub one-table : (file : FontFile) (tag : ℕ) (a b : List ℕ) → IsTableOf file tag a → IsTableOf file tag b → a ≡ b
one-table file tag a b x y =
    let same = one-record file.bytes.now file.start file.count tag x.i y.i x.chosen y.chosen in
    cc

pub has-table : (file : FontFile) (tag : ℕ) (table : List ℕ) → IsTableOf file tag table → HasNoTable file tag → ⊥
has-table file tag table is none = none is.i is.chosen.listed is.chosen.names

pub given-front : (tables more : List Table) (k : ℕ) (t : Table) → IsGiven tables k t → IsGiven (tables ++ more) k t
given-front [] more k t h = absurd (cc)
given-front (u ∷ us) more zero t h = h
given-front (u ∷ us) more (suc k) t h = given-front us more k t h

pub given-last : (tables : List Table) (t : Table) → IsGiven (tables ++ t ∷ []) (length tables) t
given-last [] t = refl
given-last (u ∷ us) t = given-last us t

pub given-cases : (tables : List Table) (u : Table) (k : ℕ) (t : Table) → IsGiven (tables ++ u ∷ []) k t →
    IsGiven tables k t ⊎ ((k ≡ length tables) × (u ≡ t))
given-cases [] u zero t h = let e : u ≡ t = cc in inr (refl, e)
given-cases [] u (suc k) t h = absurd (cc)
given-cases (v ∷ vs) u zero t h = inl h
given-cases (v ∷ vs) u (suc k) t h = elim (given-cases vs u k t h) [
  | inl there ↦ inl there
  | inr last ↦ inr (ap suc last.0, last.1)
]

pub has-more : (tables : List Table) (u : Table) (tag : ℕ) → Has tables tag → Has (tables ++ u ∷ []) tag
has-more tables u tag h = (h.0, h.1, given-front tables (u ∷ []) h.0 h.1 h.2, h.3)

pub has-last : (tables : List Table) (u : Table) → Has (tables ++ u ∷ []) u.tag
has-last tables u = (length tables, u, given-last tables u, refl)

pub others-more : (file : FontFile) (font : List ℕ) (tables : List Table) (u : Table) → AreOthers file font tables → Stays u.tag →
    IsTableOf file u.tag u.bytes.now → (Has tables u.tag → ⊥) → AreOthers file font (tables ++ u ∷ [])
others-more file font tables u it stays is none = record {
  first = λ t h. elim (given-cases tables u 0 t h) [
    | inl there ↦ it.first t there
    | inr last ↦ let s = it.some in let e = last.0 in absurd (omega (arith, s, e))
  ];
  some = let n = length-append tables (u ∷ []) in let s = it.some in omega (arith, n, s);
  rest = λ k t some h. elim (given-cases tables u k t h) [
    | inl there ↦ it.rest k t some there
    | inr last ↦ subst (λ (v : Table). Stays v.tag × IsTableOf file v.tag v.bytes.now) last.1 (stays, is)
  ];
  once = λ i j a b less x y. elim (given-cases tables u j b y) [
    | inl there ↦ elim (given-cases tables u i a x) [
      | inl here ↦ it.once i j a b less here there
      | inr last ↦ absurd (let w = slice_get_within tables j b there in let e = last.0 in omega (arith, w, e, less))
    ]
    | inr last ↦ elim (given-cases tables u i a x) [
      | inl here ↦ λ same. none (i, a, here, same ∙ sym (ap (λ (t : Table). t.tag) last.1))
      | inr end ↦ absurd (let e = last.0 in let f = end.0 in omega (arith, e, f, less))
    ]
  ];
}

pub others-first : (file : FontFile) (font : List ℕ) (u : Table) → u.tag ≡ cff_tag → u.bytes.now ≡ font → AreOthers file font (u ∷ [])
others-first file font u a b = record {
  first = λ t h. let e : u ≡ t = cc in subst (λ (v : Table). (v.tag ≡ cff_tag) × (v.bytes.now ≡ font)) e (a, b);
  some = omega arith;
  rest = λ k t some h. absurd (let p = slice_get_within (u ∷ []) k t h in omega (arith, some, p));
  once = λ i j a b less x y. absurd (let p = slice_get_within (u ∷ []) j b y in omega (arith, less, p));
}

abbrev empty : Table
empty = record { tag = 0; bytes = record { ref_ptr = (0, 0); now = [] } }

first-there : (file : FontFile) (font : List ℕ) (tables : List Table) → AreOthers file font tables →
    (t : Table) × IsGiven tables 0 t × (t.tag ≡ cff_tag) × (t.bytes.now ≡ font)
first-there file font tables it =
    let given : IsGiven tables 0 (get_or tables 0 empty) = slice_get-get_or tables 0 empty it.some in
    let is = it.first (get_or tables 0 empty) given in
    (get_or tables 0 empty, given, is.0, is.1)

-- a tag that is not in the list is not `CFF `
pub stays-so : (file : FontFile) (font : List ℕ) (tables : List Table) (tag : ℕ) → AreOthers file font tables → tag ≢ dsig_tag →
    (Has tables tag → ⊥) → Stays tag
stays-so file font tables tag it other none =
    let f = first-there file font tables it in
    (λ same. none (0, f.0, f.1, f.2 ∙ sym same), other)

pub copy-of : (new : FontFile) (t : Table) (tag : ℕ) (table : List ℕ) → t.tag ≡ tag → t.bytes.now ≡ table →
    HasCopy new t.tag t.bytes.now → HasCopy new tag table
copy-of new t tag table a b h =
    subst (λ (xs : List ℕ). HasCopy new tag xs) b (subst (λ n. HasCopy new n t.bytes.now) a h)

others-in : (old : FontFile) (font : List ℕ) (tables : List Table) (new : FontFile) → AreOthers old font tables →
    AreListedTo old (tables_of old) tables → HasAll new tables → HasOthers old font new
others-in old font tables new it listed all = record {
  has =
      let f = first-there old font tables it in
      let copy : HasCopy new cff_tag font = copy-of new f.0 cff_tag font f.2 f.3 (all.each 0 f.0 f.1) in
      let other : cff_tag ≢ 0x68656164 = λ e. omega (arith, e) in
      subst (λ (xs : List ℕ). IsTableOf new cff_tag xs) (copy.2.same other) copy.1;
  others = λ tag table stays is.
      let named : tag_of old is.i ≡ tag = is.chosen.names.named in
      let there = listed is.i is.chosen.listed (λ e. stays.1 (sym named ∙ e)) table
      (subst (λ n. IsTableOf old n table) (sym named) is) in
      let same : there.1.tag ≡ tag = there.3 ∙ named in
      elim (cases_eq there.0 0) [
        | inl front ↦ absurd (stays.0 (sym same ∙ (it.first there.1 (subst (λ k. IsGiven tables k there.1) front there.2)).0))
        | inr behind ↦
            let of-old = (it.rest there.0 there.1 (omega (arith, behind)) there.2).1 in
            let bytes = one-table old tag there.1.bytes.now table (subst (λ n. IsTableOf old n there.1.bytes.now) same of-old) is in
            copy-of new there.1 tag table same bytes (all.each there.0 there.1 there.2)
      ];
  only = λ i below.
      let is = all.only i below in
      elim (cases_eq is.0 0) [
        | inl front ↦ inl (sym is.3 ∙ (it.first is.1 (subst (λ k. IsGiven tables k is.1) front is.2)).0)
        | inr behind ↦
            let rest = it.rest is.0 is.1 (omega (arith, behind)) is.2 in
            inr (
              subst Stays is.3 rest.0,
              λ none.
                  has-table old is.1.tag is.1.bytes.now rest.1 (subst (HasNoTable old) (sym is.3) none),
            )
      ];
}

pub file-with : (old : FontFile) (font : List ℕ) (tables : List Table) (bytes : List ℕ) → AreOthers old font tables →
    AreListedTo old (tables_of old) tables → IsFileOf tables bytes → IsFileWith old font bytes
file-with old font tables bytes it listed file = record {
  opens = (length tables, file.opens);
  sound = file.sound it.some;
  is = λ new read. others-in old font tables new it listed (file.has new read);
}

pub listed-more : (file : FontFile) (i tag : ℕ) (tables more : List Table) → tag ≡ tag_of file i → AreListedTo file i tables →
    ((t : ℕ) → Has tables t → Has more t) → (tag ≢ dsig_tag → (table : List ℕ) → IsTableOf file tag table → Has more tag) →
    AreListedTo file (i + 1) more
listed-more file i tag tables more is before kept here k below other table h = elim (cases_eq k i) [
  | inl same ↦
      let e : tag_of file k ≡ tag = ap (tag_of file) same ∙ sym is in
      subst (Has more) (sym e) (here (λ d. other (e ∙ d)) table (subst (λ n. IsTableOf file n table) e h))
  | inr apart ↦ kept (tag_of file k) (before k (omega (arith, below, apart)) other table h)
]

pub if-file-with : (r : Result (Vec ℕ Global) Error) (old : FontFile) (font : List ℕ) (tables given : List Table) → given ≡ tables →
    AreOthers old font tables → AreListedTo old (tables_of old) tables → IfOk r (λ file. IsFileOf given file.items) →
    IfOk r (λ file. IsFileWith old font file.items)
if-file-with (Ok file) old font tables given same it listed is =
    file-with old font tables file.items it listed (subst (λ (xs : List Table). IsFileOf xs file.items) same is)
if-file-with (Err e) old font tables given same it listed is = tt

-- the tables after the first one are those that stay
pub are-staying : (old : FontFile) (font : List ℕ) (u : Table) (us : List Table) → AreOthers old font (u ∷ us) →
    AreListedTo old (tables_of old) (u ∷ us) → AreStaying old us
are-staying old font u us it listed = record {
  each = λ i t h. it.rest (suc i) t (omega arith) h;
  all = λ tag table stays is.
      let named : tag_of old is.i ≡ tag = is.chosen.names.named in
      let there = listed is.i is.chosen.listed (λ e. stays.1 (sym named ∙ e)) table
      (subst (λ n. IsTableOf old n table) (sym named) is) in
      after tag stays there.0 there.1 there.2 (there.3 ∙ named);
  once = λ i j a b less x y. it.once (suc i) (suc j) a b (omega (arith, less)) x y;
}
  where
    after : (tag : ℕ) → Stays tag → (k : ℕ) (t : Table) → IsGiven (u ∷ us) k t → t.tag ≡ tag →
        (i : ℕ) × (v : Table) × IsGiven us i v × (v.tag ≡ tag)
    after tag stays zero t h same = absurd (stays.0 (sym same ∙ (it.first t h).0))
    after tag stays (suc k) t h same = (k, t, h, same)

-- these tables have more bytes than a number
pub have-more : (old : FontFile) (font : List ℕ) (tables : List Table) (most sum : ℕ) → AreOthers old font tables →
    AreListedTo old (tables_of old) tables → sum ≤ sum_by (λ (t : Table). length t.bytes.now) (drop 1 tables) → most < sum →
    StayingHaveMore old most
have-more old font [] most sum it listed small more = absurd (let s = it.some in omega (arith, s))
have-more old font (u ∷ us) most sum it listed small more =
    record { tables = us; are = are-staying old font u us it listed; more = omega (arith, small, more) }

unwritten : (e : Error) (old : FontFile) (most : ℕ) (font : List ℕ) (tables : List Table) → AreOthers old font tables →
    AreListedTo old (tables_of old) tables → NoFileOf e tables → IsUnwritten old most font e
unwritten Memory old most font tables it listed h = tt
unwritten TooLarge old most font [] it listed h = absurd (let s = it.some in omega (arith, s))
unwritten TooLarge old most font (u ∷ us) it listed h = record {
  first = u;
  rest = us;
  named = (it.first u refl).0;
  is = (it.first u refl).1;
  stay = are-staying old font u us it listed;
  too_large = h;
}
unwritten (SameTag tag) old most font tables it listed h =
    let two = twice-tagged tables tag h in let one = no-twice tables tag it.once in absurd (omega (arith, two, one))
unwritten Overlap old most font tables it listed h = absurd h
unwritten (File e) old most font tables it listed h = absurd h
unwritten (MissingTable tag) old most font tables it listed h = absurd h
unwritten NoMap old most font tables it listed h = absurd h
unwritten NoAdvances old most font tables it listed h = absurd h
unwritten (MissingCharacter char) old most font tables it listed h = absurd h
unwritten (Font e) old most font tables it listed h = absurd h
unwritten Cut old most font tables it listed h = absurd h

pub if-unwritten : (r : Result (Vec ℕ Global) Error) (old : FontFile) (most : ℕ) (font : List ℕ) (tables given : List Table) →
    given ≡ tables → AreOthers old font tables → AreListedTo old (tables_of old) tables → IfErr r (λ e. NoFileOf e given) →
    IfErr r (λ e. IsUnwritten old most font e)
if-unwritten (Ok file) old most font tables given same it listed h = tt
if-unwritten (Err e) old most font tables given same it listed h =
    unwritten e old most font tables it listed (subst (NoFileOf e) same h)

pub unlisted : (e : Error) (old : FontFile) (most : ℕ) (font : List ℕ) →
    (e ≡ errors.Memory) ⊎ ((e ≡ errors.Overlap) × StayingHaveMore old most) → IsUnwritten old most font e
unlisted e old most font h = elim h [
  | inl a ↦ subst (IsUnwritten old most font) (sym a) tt
  | inr b ↦ subst (IsUnwritten old most font) (sym b.0) b.1
]

pub flat-so : (r : Result (Vec ℕ Global) Error) (bytes : List ℕ) (number : ℕ) (old : FontFile) (cff font given : List ℕ) →
    IsFaceOf bytes number old → IsTableOf old cff_tag cff → IsFlatFont cff font → given ≡ font →
    IfOk r (λ file. IsFileWith old given file.items) → IfOk r (λ file. IsFlatOf bytes number file.items)
flat-so (Ok file) bytes number old cff font given read table flat same is = record {
  old = old;
  was = read;
  opens = is.opens;
  sound = is.sound;
  is = λ new made.
      let h = is.is new made in
      record {
        was = cff;
        is = font;
        had = table;
        has = subst (λ (xs : List ℕ). IsTableOf new cff_tag xs) same h.has;
        font = flat;
        others = h.others;
        only = h.only;
      };
}
flat-so (Err e) bytes number old cff font given read table flat same is = tt

not-flat : (e : Error) (bytes : List ℕ) (number : ℕ) (old : FontFile) (cff font : List ℕ) → IsFaceOf bytes number old →
    IsTableOf old cff_tag cff → IsFlatFont cff font → IsUnwritten old (length bytes) font e → NoFlatOf bytes number e
not-flat Memory bytes number old cff font read table flat h = tt
not-flat TooLarge bytes number old cff font read table flat h = (old, read, (cff, font, table, flat, h))
not-flat Overlap bytes number old cff font read table flat h = (old, read, h)
not-flat (SameTag tag) bytes number old cff font read table flat h = absurd h
not-flat (File e) bytes number old cff font read table flat h = absurd h
not-flat (MissingTable tag) bytes number old cff font read table flat h = absurd h
not-flat NoMap bytes number old cff font read table flat h = absurd h
not-flat NoAdvances bytes number old cff font read table flat h = absurd h
not-flat (MissingCharacter char) bytes number old cff font read table flat h = absurd h
not-flat (Font e) bytes number old cff font read table flat h = absurd h
not-flat Cut bytes number old cff font read table flat h = absurd h

pub if-not-flat : (r : Result (Vec ℕ Global) Error) (bytes : List ℕ) (number : ℕ) (old : FontFile) (cff font given : List ℕ) →
    IsFaceOf bytes number old → IsTableOf old cff_tag cff → IsFlatFont cff font → given ≡ font →
    IfErr r (λ e. IsUnwritten old (length bytes) given e) → IfErr r (λ e. NoFlatOf bytes number e)
if-not-flat (Ok file) bytes number old cff font given read table flat same h = tt
if-not-flat (Err e) bytes number old cff font given read table flat same h =
    not-flat e bytes number old cff font read table flat (subst (λ (xs : List ℕ). IsUnwritten old (length bytes) xs e) same h)

pub no-cff-so : (bytes : List ℕ) (number : ℕ) (old : FontFile) (e : Error) → IsFaceOf bytes number old →
    (e ≡ errors.MissingTable cff_tag) × HasNoTable old cff_tag → NoFlatOf bytes number e
no-cff-so bytes number old e read h = subst (NoFlatOf bytes number) (sym h.0) (refl, (old, read, h.1))

pub no-font-so : (bytes : List ℕ) (number : ℕ) (old : FontFile) (cff : List ℕ) (e : Error) → IsFaceOf bytes number old →
    IsTableOf old cff_tag cff → (fault : Refusal) × (e ≡ errors.Font fault) × IsFlatRefusedBy cff fault → NoFlatOf bytes number e
no-font-so bytes number old cff e read table h = subst (NoFlatOf bytes number) (sym h.1) (old, read, (cff, table, h.2))
