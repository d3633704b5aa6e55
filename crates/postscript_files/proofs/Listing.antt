-- Tables that are put into a list.
use Rattle.std.proofs.Common.{◌≡◌, ◌≢◌, refl, sym, ap, ◌∙◌, subst, inl, inr, ℕ, ◌+◌, List, [], ◌∷◌, ◌++◌, length, get_or, arith}
use Rattle.std.specs.Prelude.{Some, slice_get, Result, Ok, Err, IfOk, Vec}
use Rattle.std.specs.declared.alloc.Global.{Global}
use Rattle.std.proofs.lemmas.Bool.{cases_eq}
use Rattle.std.proofs.lemmas.List.{get_or_default}
use Rattle.std.proofs.lemmas.Option.{slice_get_within}
use Rattle.postscript_sfnt.specs.Lent.{HasNoTable, IsTableOf}
use Rattle.postscript_sfnt.specs.declared.file.FontFile.{FontFile}
use Rattle.postscript_sfnt_write.specs.declared.file.Table.{Table}
use Rattle.postscript_files.specs.Copies.{HasAll, HasCopy, IsFileOf, IsListed, tagged}
use Rattle.postscript_files.specs.Faces.{cff_tag, cmap_tag, hhea_tag, hmtx_tag, maxp_tag, post_tag}
use Rattle.postscript_files.specs.Listed.{Adds, AreCopiedTo, AreGivenTo, AreMade, AreParts, HasParts, IsFileOfParts, Puts}
use Rattle.postscript_files.specs.Subsets.{IsCopied, IsExpected, IsGivenTag}
use Rattle.postscript_files.specs.declared.choice.Choice.{Choice}
use Rattle.postscript_files.specs.declared.choice.Given.{Given}
use Rattle.postscript_files.specs.declared.error.Error.{Error}
use Rattle.postscript_files.specs.declared.subset.Made.{Made}
use Rattle.postscript_files.proofs.Twice.{tagged-more}
use Rattle.postscript_files.proofs.Others.{copy-of, given-cases, given-front, given-last, has-table, one-table}

pub puts : (old : List Table) (u : Table) → Puts old u.tag u.bytes.now (old ++ u ∷ [])
puts old u = record {
  adds = record {
    kept = λ tag bytes h. (h.0, h.1, given-front old (u ∷ []) h.0 h.1 h.2, h.3, h.4);
    only = λ tag h. elim (given-cases old u h.0 h.1 h.2) [
      | inl there ↦ inl (h.0, h.1, there, h.3)
      | inr last ↦ inr (sym h.3 ∙ ap (λ (t : Table). t.tag) (sym last.1))
    ];
  };
  times = λ t. tagged-more old u t;
  there = (length old, u, given-last old u, refl, refl);
}

pub adds-none : (tables : List Table) (P : ℕ → Type 0) → Adds tables P tables
adds-none tables P = record { kept = λ tag bytes h. h; only = λ tag h. inl h }

-- more tables whose tags have the property
pub adds-more : (first old new : List Table) (P Q : ℕ → Type 0) → Adds first P old → ((tag : ℕ) → Q tag → P tag) → Adds old Q new →
    Adds first P new
adds-more first old new P Q it all more = record {
  kept = λ t b h. more.kept t b (it.kept t b h);
  only = λ t h. elim (more.only t h) [
    | inl before ↦ it.only t before
    | inr q ↦ inr (all t q)
  ];
}

pub given-more : (given : List Given) (i : ℕ) (table : Given) (old new : List Table) → slice_get given i ≡ Some table →
    Puts old table.tag table.bytes.items new → AreGivenTo given i old → AreGivenTo given (i + 1) new
given-more given i table old new is put before k one below h = elim (cases_eq k i) [
  | inl same ↦
      let both : Some table ≡ Some one = sym is ∙ ap (slice_get given) (sym same) ∙ h in
      let e : table ≡ one = cc in
      subst (λ (g : Given). IsListed new g.tag g.bytes.items) e put.there
  | inr other ↦ put.adds.kept one.tag one.bytes.items (before k one (omega (arith, below, other)) h)
]

pub copied-more : (file : FontFile) (tags : List ℕ) (i : ℕ) (old new : List Table) →
    ((tag : ℕ) (bytes : List ℕ) → IsListed old tag bytes → IsListed new tag bytes) →
    ((table : List ℕ) → IsTableOf file (get_or tags i 0) table → IsListed new (get_or tags i 0) table) →
    AreCopiedTo file tags i old → AreCopiedTo file tags (i + 1) new
copied-more file tags i old new kept here before k table below h = elim (cases_eq k i) [
  | inl same ↦
      let e : get_or tags k 0 ≡ get_or tags i 0 = ap (λ j. get_or tags j 0) same in
      subst (λ t. IsListed new t table) (sym e) (here table (subst (λ t. IsTableOf file t table) e h))
  | inr other ↦ kept (get_or tags k 0) table (before k table (omega (arith, below, other)) h)
]

-- a table that is put has its bytes, and one that the face lacks has none
pub copy-there : (file : FontFile) (tag : ℕ) (bytes : List ℕ) (old new : List Table) → IsTableOf file tag bytes → Puts old tag bytes new →
    (table : List ℕ) → IsTableOf file tag table → IsListed new tag table
copy-there file tag bytes old new is put table h =
    subst (λ (b : List ℕ). IsListed new tag b) (one-table file tag bytes table is h) put.there

pub copy-adds : (file : FontFile) (tag : ℕ) (bytes : List ℕ) (old new : List Table) → IsTableOf file tag bytes → Puts old tag bytes new →
    Adds old (λ t. (t ≡ tag) × (HasNoTable file t → ⊥)) new
copy-adds file tag bytes old new is put = record {
  kept = put.adds.kept;
  only = λ t h. elim (put.adds.only t h) [
    | inl before ↦ inl before
    | inr same ↦ inr (same, λ none. has-table file tag bytes is (subst (HasNoTable file) same none))
  ];
}

-- the list of the six tables, one put after the other
pub made-six : (font : List ℕ) (made : Made) (a b c d e f g : List Table) → a ≡ [] → Puts a cff_tag font b →
    Puts b cmap_tag made.cmap.items c → Puts c hhea_tag made.hhea.items d → Puts d hmtx_tag made.hmtx.items e →
    Puts e maxp_tag made.maxp.items f → Puts f post_tag made.post.items g → AreMade font made g
made-six font made a b c d e f g empty p q r s t u = record {
  cff = u.adds.kept _ _ (t.adds.kept _ _ (s.adds.kept _ _ (r.adds.kept _ _ (q.adds.kept _ _ p.there))));
  cmap = u.adds.kept _ _ (t.adds.kept _ _ (s.adds.kept _ _ (r.adds.kept _ _ q.there)));
  hhea = u.adds.kept _ _ (t.adds.kept _ _ (s.adds.kept _ _ r.there));
  hmtx = u.adds.kept _ _ (t.adds.kept _ _ s.there);
  maxp = u.adds.kept _ _ t.there;
  post = u.there;
  times = λ tag.
      let none = ap (λ ts. tagged ts tag) empty in
      let p' = p.times tag in
      let q' = q.times tag in
      let r' = r.times tag in
      let s' = s.times tag in
      let t' = t.times tag in
      let u' = u.times tag in
      omega (arith, none, p', q', r', s', t', u');
  only = λ tag h. elim (u.adds.only tag h) [
    | inr is ↦ inr is
    | inl h ↦ elim (t.adds.only tag h) [
      | inr is ↦ inl (inr (inr (inr (inr is))))
      | inl h ↦ elim (s.adds.only tag h) [
        | inr is ↦ inl (inr (inr (inr (inl is))))
        | inl h ↦ elim (r.adds.only tag h) [
          | inr is ↦ inl (inr (inr (inl is)))
          | inl h ↦ elim (q.adds.only tag h) [
            | inr is ↦ inl (inr (inl is))
            | inl h ↦ elim (p.adds.only tag h) [
              | inr is ↦ inl (inl is)
              | inl h ↦
                  let within = slice_get_within a h.0 h.1 h.2 in
                  let n = ap length empty in absurd (omega (arith, within, n))
            ]
          ]
        ]
      ]
    ]
  ];
}

-- a table that is listed is in the file
copied-in : (tables : List Table) (new : FontFile) (tag : ℕ) (bytes : List ℕ) → HasAll new tables → IsListed tables tag bytes →
    HasCopy new tag bytes
copied-in tables new tag bytes all h = copy-of new h.1 tag bytes h.3 h.4 (all.each h.0 h.1 h.2)

made-in : (tables : List Table) (new : FontFile) (tag : ℕ) (bytes : List ℕ) → tag ≢ 0x68656164 → HasAll new tables →
    IsListed tables tag bytes → IsTableOf new tag bytes
made-in tables new tag bytes other all h =
    let copy = copied-in tables new tag bytes all h in
    subst (λ (xs : List ℕ). IsTableOf new tag xs) (copy.2.same other) copy.1

-- the tables that are made, given and copied
pub parts : (choice : Choice) (old : FontFile) (font : List ℕ) (made : Made) (first second third : List Table) →
    AreMade font made first → Adds first (IsGivenTag choice.given.now) second →
    AreGivenTo choice.given.now (length choice.given.now) second → Adds second (IsCopied old choice.copied.now) third →
    AreCopiedTo old choice.copied.now (length choice.copied.now) third → AreParts choice old font made third
parts choice old font made first second third six more given rest copied = record {
  cff = rest.kept _ _ (more.kept _ _ six.cff);
  cmap = rest.kept _ _ (more.kept _ _ six.cmap);
  hhea = rest.kept _ _ (more.kept _ _ six.hhea);
  hmtx = rest.kept _ _ (more.kept _ _ six.hmtx);
  maxp = rest.kept _ _ (more.kept _ _ six.maxp);
  post = rest.kept _ _ (more.kept _ _ six.post);
  copied = λ tag table asked is.
      let e : get_or choice.copied.now asked.0 0 ≡ tag = get_or_default choice.copied.now asked.0 0 tag asked.1 ∙ asked.2 in
      subst (λ t. IsListed third t table) e (copied asked.0 table asked.1 (subst (λ t. IsTableOf old t table) (sym e) is));
  given = λ i table is.
      rest.kept table.tag table.bytes.items (given i table (slice_get_within choice.given.now i table is) is);
  only = λ i table is. elim (rest.only table.tag (i, table, is, refl)) [
    | inr was ↦ inr (inr (inl was))
    | inl h ↦ elim (more.only table.tag h) [
      | inr was ↦ inr (inr (inr was))
      | inl h ↦ elim (six.only table.tag h) [
        | inl was ↦ inl was
        | inr was ↦ inr (inl was)
      ]
    ]
  ];
}

-- a file of these tables
has-parts : (choice : Choice) (old : FontFile) (font : List ℕ) (made : Made) (tables : List Table) (new : FontFile) →
    AreParts choice old font made tables → HasAll new tables → HasParts choice old font made new
has-parts choice old font made tables new it all = record {
  cff = made-in tables new cff_tag font (λ e. omega (arith, e)) all it.cff;
  cmap = made-in tables new cmap_tag made.cmap.items (λ e. omega (arith, e)) all it.cmap;
  hhea = made-in tables new hhea_tag made.hhea.items (λ e. omega (arith, e)) all it.hhea;
  hmtx = made-in tables new hmtx_tag made.hmtx.items (λ e. omega (arith, e)) all it.hmtx;
  maxp = made-in tables new maxp_tag made.maxp.items (λ e. omega (arith, e)) all it.maxp;
  post = made-in tables new post_tag made.post.items (λ e. omega (arith, e)) all it.post;
  copied = λ tag table asked is. copied-in tables new tag table all (it.copied tag table asked is);
  given = λ i table is. copied-in tables new table.tag table.bytes.items all (it.given i table is);
  only = λ i below. let is = all.only i below in subst (IsExpected choice old) is.3 (it.only is.0 is.1 is.2);
}

pub if-parts : (r : Result (Vec ℕ Global) Error) (choice : Choice) (old : FontFile) (font : List ℕ) (made : Made)
    (tables all : List Table) → all ≡ tables → AreParts choice old font made tables → IfOk r (λ file. IsFileOf all file.items) →
    IfOk r (λ file. IsFileOfParts choice old font made file.items)
if-parts (Ok file) choice old font made tables all same it is = record {
  opens = (length all, is.opens);
  sound =
      let within = slice_get_within tables it.cff.0 it.cff.1 it.cff.2 in
      let as_many = ap length same in
      is.sound (omega (arith, within, as_many));
  is = λ new read. has-parts choice old font made tables new it (subst (HasAll new) same (is.has new read));
}
if-parts (Err e) choice old font made tables all same it is = tt
