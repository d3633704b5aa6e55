-- A new `name` table gets one more record.
use Rattle.std.proofs.Common.{◌≡◌, inl, inr, refl, sym, ap, subst, ◌∙◌, ℕ, ◌*◌, List, [], ◌∷◌, ◌++◌, length, append_assoc, append-nil, flat_map, length-append, arith}
use Rattle.std.specs.List.{Contains}
use Rattle.std.specs.Prelude.{Err, IfNone, IfOk, IfSome, MatchOption, None, Ok, Option, Result, Some}
use Rattle.std.proofs.lemmas.List.Elements.{Contains-append_cases, Contains-append_left, Contains-append_right}
use Rattle.postscript_text.specs.NameTables.{AreStored, Holds, IsIn, IsLike, nothing, own, row, shared, texts_at, word}
use Rattle.postscript_text.specs.Places.{HasNoPlace, HasPlace, IsPlaced, added, found}
use Rattle.postscript_text.specs.declared.names.NameTable.{NameTable}
use Rattle.postscript_text.specs.declared.names.Record.{Record}

-- the only element of a list
only : {X : Type 0} (x y : X) → Contains (x ∷ []) y → x ≡ y
only x y h = let below = h.1 in let first : h.0 ≡ 0 = omega (arith, below) in cc

last : {X : Type 0} (xs : List X) (x : X) → Contains (xs ++ x ∷ []) x
last xs x = Contains-append_right xs (x ∷ []) x (0, omega arith, refl)

-- a text stays where it is
in-more : (texts more : List ℕ) (offset : ℕ) (text : List ℕ) → IsIn texts offset text → IsIn (texts ++ more) offset text
in-more texts more offset text h = (
  h.0,
  h.1 ++ more,
  ap (λ (xs : List ℕ). xs ++ more) h.2 ∙ append_assoc h.0 (text ++ h.1) more ∙ ap (λ (xs : List ℕ). h.0 ++ xs) (append_assoc text h.1 more),
  h.3,
)

abbrev key : Record → (place : ℕ) → ℕ × ℕ × ℕ
key entry place = (entry.start, length entry.text.now, place)

-- a record like one before it
more-known : (old table : NameTable) (records : List Record) (entry : Record) (place : ℕ) → Holds old records → HasPlace old entry place →
    table.texts.items ≡ old.texts.items → table.places.items ≡ old.places.items →
    table.records.items ≡ old.records.items ++ row entry place → Holds table (records ++ entry ∷ [])
more-known old table records entry place h there same places rows =
    let other = h.known _ _ _ there in
    let stored = shared records old.records.items old.texts.items entry other.0 place h.stored other.1 (other.2, other.3) other.4 in
    record {
      stored =
          subst (λ (xs : List ℕ). AreStored (records ++ entry ∷ []) table.records.items xs) (sym same)
          (subst (λ (xs : List ℕ). AreStored (records ++ entry ∷ []) xs old.texts.items) (sym rows) stored);
      listed = λ r is. elim (Contains-append_cases records (entry ∷ []) r is) [
        | inl before ↦
            let at = h.listed r before in
            (at.0, subst (λ (xs : List (ℕ × ℕ × ℕ)). Contains xs (key r at.0)) (sym places) at.1)
        | inr now ↦ (
          place,
          subst (λ (r : Record). Contains table.places.items (key r place)) (only entry r now)
              (subst (λ (xs : List (ℕ × ℕ × ℕ)). Contains xs (key entry place)) (sym places) there),
        )
      ];
      known = λ start size at is.
          let one = h.known start size at (subst (λ (xs : List (ℕ × ℕ × ℕ)). Contains xs (start, size, at)) places is) in (
            one.0,
            Contains-append_left records (entry ∷ []) one.0 one.1,
            one.2,
            one.3,
            subst (λ (xs : List ℕ). IsIn xs at one.0.text.now) (sym same) one.4,
          );
    }

-- a record with a new text
more-added : (old table : NameTable) (records : List Record) (entry : Record) (place : ℕ) → Holds old records → HasNoPlace old entry →
    place ≡ length old.texts.items → table.texts.items ≡ old.texts.items ++ entry.text.now →
    table.places.items ≡ old.places.items ++ key entry place ∷ [] → table.records.items ≡ old.records.items ++ row entry place →
    Holds table (records ++ entry ∷ [])
more-added old table records entry place h absent end texts places rows =
    let fresh : (other : Record) → Contains records other → IsLike other entry → ⊥ = λ other is like.
    let at = h.listed other is in
    absent at.0 (subst (λ (start : ℕ). Contains old.places.items (start, length entry.text.now, at.0)) like.0
    (subst (λ (size : ℕ). Contains old.places.items (other.start, size, at.0)) like.1 at.1)) in
    let stored = own records old.records.items old.texts.items entry h.stored fresh in
    let rows' : table.records.items ≡ old.records.items ++ row entry (length old.texts.items) =
    rows ∙ ap (λ (n : ℕ). old.records.items ++ row entry n) end in
    record {
      stored =
          subst (λ (xs : List ℕ). AreStored (records ++ entry ∷ []) table.records.items xs) (sym texts)
          (subst (λ (xs : List ℕ). AreStored (records ++ entry ∷ []) xs (old.texts.items ++ entry.text.now)) (sym rows') stored);
      listed = λ r is. elim (Contains-append_cases records (entry ∷ []) r is) [
        | inl before ↦
            let at = h.listed r before in (
              at.0,
              subst (λ (xs : List (ℕ × ℕ × ℕ)). Contains xs (key r at.0)) (sym places)
                  (Contains-append_left old.places.items (key entry place ∷ []) (key r at.0) at.1),
            )
        | inr now ↦ (
          place,
          subst (λ (r : Record). Contains table.places.items (key r place)) (only entry r now)
              (subst (λ (xs : List (ℕ × ℕ × ℕ)). Contains xs (key entry place)) (sym places) (last old.places.items (key entry place))),
        )
      ];
      known = λ start size at is.
          elim (Contains-append_cases old.places.items (key entry place ∷ []) (start, size, at)
          (subst (λ (xs : List (ℕ × ℕ × ℕ)). Contains xs (start, size, at)) places is)) [
            | inl before ↦
                let one = h.known start size at before in (
                  one.0,
                  Contains-append_left records (entry ∷ []) one.0 one.1,
                  one.2,
                  one.3,
                  subst (λ (xs : List ℕ). IsIn xs at one.0.text.now) (sym texts)
                      (in-more old.texts.items entry.text.now at one.0.text.now one.4),
                )
            | inr now ↦
                let is = only (key entry place) (start, size, at) now in (
                  entry,
                  last records entry,
                  ap (λ (e : ℕ × ℕ × ℕ). e.0) is,
                  ap (λ (e : ℕ × ℕ × ℕ). e.1) is,
                  (
                    old.texts.items,
                    [],
                    texts ∙ ap (λ (xs : List ℕ). old.texts.items ++ xs) (sym (append-nil entry.text.now)),
                    sym (ap (λ (e : ℕ × ℕ × ℕ). e.2) is) ∙ end,
                  ),
                )
          ];
    }

-- a record is added
pub more : (old placed table : NameTable) (records : List Record) (entry : Record) (place : ℕ) → Holds old records →
    IsPlaced old entry place placed → table.texts ≡ placed.texts → table.places ≡ placed.places →
    table.records.items ≡ placed.records.items ++ row entry place → Holds table (records ++ entry ∷ [])
more old placed table records entry place h is texts places rows = elim is [
  | found there same ↦
      more-known old table records entry place h there (ap (λ v. v.items) (texts ∙ ap (λ (t : NameTable). t.texts) same))
      (ap (λ v. v.items) (places ∙ ap (λ (t : NameTable). t.places) same))
      (rows ∙ ap (λ (t : NameTable). t.records.items ++ row entry place) same)
  | added absent end kept text entries ↦
      more-added old table records entry place h absent end (ap (λ v. v.items) texts ∙ text) (ap (λ v. v.items) places ∙ entries)
      (rows ∙ ap (λ v. v.items ++ row entry place) kept)
]

-- each record has twelve bytes
pub counted : (records : List Record) (rows texts : List ℕ) → AreStored records rows texts → length rows ≡ length records * 12
counted records rows texts nothing = refl
counted records rows texts (own before old text entry stored fresh) =
    let all = counted before old text stored in
    let rows = length-append old (row entry (length text)) in
    let records = length-append before (entry ∷ []) in
    omega (arith, all, rows, records)
counted records rows texts (shared before old text entry other offset stored is like there) =
    let all = counted before old text stored in
    let rows = length-append old (row entry offset) in
    let records = length-append before (entry ∷ []) in
    omega (arith, all, rows, records)

pub empty : (table : NameTable) → table.records.items ≡ [] → table.texts.items ≡ [] → table.places.items ≡ [] → Holds table []
empty table rows texts places = record {
  stored =
      subst (λ (xs : List ℕ). AreStored [] table.records.items xs) (sym texts)
      (subst (λ (xs : List ℕ). AreStored [] xs []) (sym rows) nothing);
  listed = λ r is. let below = is.1 in absurd (omega (arith, below));
  known = λ start size at is.
      let none = subst (λ (xs : List (ℕ × ℕ × ℕ)). Contains xs (start, size, at)) places is in
      let below = none.1 in
      absurd (omega (arith, below));
}

-- the parts of a table
pub joined : (count : ℕ) (t2 t1 t0 t d1 d2 rows texts : List ℕ) (len begin : ℕ) → t2 ≡ t1 ++ d2 → t1 ≡ t0 ++ d1 →
    t0 ≡ t ++ flat_map word (0 ∷ len ∷ begin ∷ []) → t ≡ [] → d1 ≡ rows → d2 ≡ texts → len ≡ count → begin ≡ texts_at count →
    t2 ≡ flat_map word (0 ∷ count ∷ texts_at count ∷ []) ++ (rows ++ texts)
joined count t2 t1 t0 t d1 d2 rows texts len begin a b c d e f g h =
    let head : List ℕ = flat_map word (0 ∷ count ∷ texts_at count ∷ []) in
    a
    ∙ ap (λ (xs : List ℕ). xs ++ d2)
    (b
    ∙ ap (λ (xs : List ℕ). xs ++ d1)
    (c ∙ ap (λ (xs : List ℕ). xs ++ flat_map word (0 ∷ len ∷ begin ∷ [])) d ∙ ap (λ (n : ℕ). flat_map word (0 ∷ n ∷ begin ∷ [])) g
    ∙ ap (λ (n : ℕ). flat_map word (0 ∷ count ∷ n ∷ [])) h))
    ∙ append_assoc head d1 d2
    ∙ ap (λ (xs : List ℕ). head ++ (xs ++ d2)) e
    ∙ ap (λ (xs : List ℕ). head ++ (rows ++ xs)) f

-- a table that is made, and one that is not
pub some-of : {V E : Type 0} (r : Result (Option V) E) (A : Type 0) (B C : V → Type 0) → ((v : V) → B v → C v) →
    IfOk r (λ made. MatchOption made A B) → IfOk r (λ made. IfSome made C)
some-of (Ok (Some v)) A B C f h = f v h
some-of (Ok None) A B C f h = tt
some-of (Err e) A B C f h = tt

pub none-of : {V E : Type 0} (r : Result (Option V) E) (A D : Type 0) (B : V → Type 0) → (A → D) → IfOk r (λ made. MatchOption made A B) →
    IfOk r (λ made. IfNone made D)
none-of (Ok (Some v)) A D B f h = tt
none-of (Ok None) A D B f h = f h
none-of (Err e) A D B f h = tt
