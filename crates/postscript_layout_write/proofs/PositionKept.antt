-- Lookups of a positioning table that were written are read as before, and the whole table.
use Rattle.std.proofs.Common.{◌≡◌, refl, sym, ap, subst, ◌∙◌, ℕ, ◌+◌, ◌*◌, ◌≤◌, ◌<◌, ◌==◌, ◌&&◌, List, [], ◌++◌, length, get_or, arith, Bool, true, false}
use Rattle.std.specs.Prelude.{Option, None, Some, is_none, nat_eq, nat_lt, if◌then◌else◌}
use Rattle.std.specs.List.{range_with_len}
use Rattle.postscript_layout.specs.Numbers.{word, long}
use Rattle.postscript_layout_write.specs.First.{first_some}
use Rattle.postscript_layout_write.specs.Flags.{set_of, uses_set}
use Rattle.postscript_layout_write.specs.Lookups.{HasLookups, HasPosition, Keeps, has_contexts, has_pairs, has_typed}
use Rattle.postscript_layout_write.specs.Pieces.{HasLookup}
use Rattle.postscript_layout_write.specs.Sequences.{Context}
use Rattle.postscript_layout_write.specs.Cursive.{by_lookup as connection_by_lookup, by_subtables as connections_by}
use Rattle.postscript_layout_write.specs.Ligatures.{by_lookup as ligature_by_lookup, by_subtables as ligatures_by}
use Rattle.postscript_layout_write.specs.Coverages.{HasChained}
use Rattle.postscript_layout_write.specs.Marks.{attaches, by_subtables, type_at, typed_at}
use Rattle.postscript_layout_write.specs.Marks.{by_lookup as attached_by}
use Rattle.postscript_layout_write.specs.Pairs.{by_lookup, by_part, lookup_at, lookups_of, or_nothing, pairs_at}
use Rattle.postscript_layout_write.specs.PositionContexts.{all_have_formats, contexts_at, contexts_by, is_context, is_contextual, same_type}
use Rattle.postscript_layout_write.specs.Positions.{has_no_pairs, is_kept_type}
use Rattle.postscript_layout_write.specs.Scopes.{leaves_out, new_flag, new_pair, takes_contexts, takes_type}
use Rattle.postscript_layout_write.specs.ScriptLists.{ListsEnd}
use Rattle.postscript_layout_write.specs.Singles.{by_lookup as single_by_lookup, by_subtables as singles_by}
use Rattle.postscript_layout_write.specs.Sets.{AreOffsets}
use Rattle.postscript_layout_write.specs.Text.{front_text, list_text}
use Rattle.postscript_layout_write.specs.Values.{nothing}
use Rattle.postscript_layout_write.specs.declared.scope.Scope.{Scope}
use Rattle.postscript_layout_write.specs.declared.scope.Scope.TheVariants.{Flags, Marks, Pairs}
use Rattle.postscript_layout_write.specs.declared.values.Adjustment.{Adjustment}
use Rattle.postscript_layout_write.proofs.ContextReading.{applying-context, flag-read as chained-flag, kept-context, positions-read, set-read as chained-set, type-eight, type-read as chained-type}
use Rattle.postscript_layout_write.proofs.Firsts.{Found, first-cases, first-none, none_found, some_found}
use Rattle.postscript_layout_write.proofs.Kept.{count-held, keeps-lists, lookups-held, place-read}
use Rattle.postscript_layout_write.proofs.PieceReading.{flag-read, lookup-read, set-read, type-read}
use Rattle.postscript_layout_write.proofs.Placing.{position-in}
use Rattle.postscript_layout_write.proofs.TypedKept.{components-attached, connections-kept, kept-alone, marks-attached, singles-kept, type-not, typed-flag, typed-set, typed-type, word-type}

and-left : (a b : Bool) → (a && b) ≡ true → a ≡ true
and-left true b is = refl
and-left false b is = absurd (cc)

and-right : (a b : Bool) → (a && b) ≡ true → b ≡ true
and-right true b is = is
and-right false b is = absurd (cc)

-- what keeps its type has a kept type, and no pairs
is-kept : (scope : Scope) (gpos : List ℕ) (lookup : ℕ) → takes_type scope gpos lookup ≡ true → is_kept_type (type_at gpos lookup) ≡ true
is-kept Pairs gpos lookup takes = absurd (cc)
is-kept Marks gpos lookup takes = and-left (is_kept_type (type_at gpos lookup)) (nat_lt (word gpos (lookup + 2)) 16)
    (and-left (is_kept_type (type_at gpos lookup) && nat_lt (word gpos (lookup + 2)) 16) (has_no_pairs gpos lookup) takes)
is-kept Flags gpos lookup takes = and-left (is_kept_type (type_at gpos lookup)) (has_no_pairs gpos lookup) takes

without-pairs : (scope : Scope) (gpos : List ℕ) (lookup : ℕ) → takes_type scope gpos lookup ≡ true → has_no_pairs gpos lookup ≡ true
without-pairs Pairs gpos lookup takes = absurd (cc)
without-pairs Marks gpos lookup takes = and-right (is_kept_type (type_at gpos lookup) && nat_lt (word gpos (lookup + 2)) 16) (has_no_pairs gpos lookup) takes
without-pairs Flags gpos lookup takes = and-right (is_kept_type (type_at gpos lookup)) (has_no_pairs gpos lookup) takes

-- what keeps its contexts has contexts, and no pairs
is-contextual : (scope : Scope) (gpos : List ℕ) (lookup : ℕ) → takes_contexts scope gpos lookup ≡ true → is_contextual gpos lookup ≡ true
is-contextual Pairs gpos lookup takes = absurd (cc)
is-contextual Marks gpos lookup takes = and-left (is_contextual gpos lookup) (nat_lt (word gpos (lookup + 2)) 16)
    (and-left (is_contextual gpos lookup && nat_lt (word gpos (lookup + 2)) 16) (has_no_pairs gpos lookup) takes)
is-contextual Flags gpos lookup takes = and-left (is_contextual gpos lookup) (has_no_pairs gpos lookup) takes

is-context : (scope : Scope) (gpos : List ℕ) (lookup : ℕ) → takes_contexts scope gpos lookup ≡ true → is_context (type_at gpos lookup) ≡ true
is-context scope gpos lookup takes = and-left (is_context (type_at gpos lookup)) (all_have_formats gpos lookup (type_at gpos lookup))
    (is-contextual scope gpos lookup takes)

contexts-alone : (scope : Scope) (gpos : List ℕ) (lookup : ℕ) → takes_contexts scope gpos lookup ≡ true → has_no_pairs gpos lookup ≡ true
contexts-alone Pairs gpos lookup takes = absurd (cc)
contexts-alone Marks gpos lookup takes = and-right (is_contextual gpos lookup && nat_lt (word gpos (lookup + 2)) 16) (has_no_pairs gpos lookup) takes
contexts-alone Flags gpos lookup takes = and-right (is_contextual gpos lookup) (has_no_pairs gpos lookup) takes

-- no lookup keeps its type and its contexts
not-typed : (scope : Scope) (gpos : List ℕ) (lookup : ℕ) → takes_contexts scope gpos lookup ≡ true → takes_type scope gpos lookup ≡ false
not-typed scope gpos lookup takes = by (takes_type scope gpos lookup) refl
  where
    by : (b : Bool) → takes_type scope gpos lookup ≡ b → b ≡ false
    by true own = (let wrong : true ≡ false = sym (is-context scope gpos lookup takes) ∙ kept-alone (type_at gpos lookup) (is-kept scope gpos lookup own) in absurd (cc))
    by false own = refl

-- a lookup without pairs adjusts none
none-if : {X : Type 0} (f : ℕ → Option X) (n : ℕ) → is_none (first_some f n) ≡ true → (k : ℕ) → k < n → f k ≡ None
none-if f n none k less = by (first_some f n) (first-cases f n) none
  where
    by : (o : Option _) → Found f n o → is_none o ≡ true → f k ≡ None
    by _ (none_found each) is = each k less
    by _ (some_found i x within at) is = absurd (cc)

no-pairs : (gpos : List ℕ) (lookup first second : ℕ) → ((j : ℕ) → j < word gpos (lookup + 4) → pairs_at gpos lookup j ≡ None) →
    by_lookup gpos lookup first second ≡ nothing
no-pairs gpos lookup first second none = ap or_nothing (first-none (λ j. by_part gpos (pairs_at gpos lookup j) first second) (word gpos (lookup + 4))
    (λ j less. ap (λ (p : Option ℕ). by_part gpos p first second) (none j less)))

if-nothing : (a b : Bool) (x : Adjustment) → x ≡ nothing → (if a then (if b then nothing else x) else nothing) ≡ nothing
if-nothing true true x is = refl
if-nothing true false x is = is
if-nothing false b x is = refl

old-nothing : (scope : Scope) (gpos kept : List ℕ) (lookup x y : ℕ) → has_no_pairs gpos lookup ≡ true → new_pair scope gpos kept lookup x y ≡ nothing
old-nothing scope gpos kept lookup x y none = if-nothing (nat_lt x (length kept) && nat_lt y (length kept)) (leaves_out scope (word gpos (lookup + 2)))
    (by_lookup gpos lookup (get_or kept x 0) (get_or kept y 0))
    (no-pairs gpos lookup (get_or kept x 0) (get_or kept y 0)
    (none-if (λ j. pairs_at gpos lookup j) (word gpos (lookup + 4)) none))

-- a lookup of another type has no pairs
other-type : (t : List ℕ) (l j : ℕ) → nat_eq (word t l) 2 ≡ false → nat_eq (word t l) 9 ≡ false → pairs_at t l j ≡ None
other-type t l j two nine =
    let part = l + word t (l + 6 + j * 2) in
    ap (λ (b : Bool). if b then Some part else (if word t l == 9 then (if word t (part + 2) == 2 then Some (part + long t (part + 4)) else None) else None)) two
    ∙ ap (λ (b : Bool). if b then (if word t (part + 2) == 2 then Some (part + long t (part + 4)) else None) else None) nine

-- what a lookup says
module _ (scope : Scope) (gpos kept : List ℕ) (lookup : ℕ) (t : List ℕ) (l : ℕ) where
  pairs-said : HasPosition scope gpos kept lookup t l → (x y : ℕ) → by_lookup t l x y ≡ new_pair scope gpos kept lookup x y
  pairs-said (has_pairs never none p) x y = lookup-read (new_flag scope (word gpos (lookup + 2))) (set_of gpos lookup) (new_pair scope gpos kept lookup) t l p x y
  pairs-said (has_typed takes m) x y =
      let is = is-kept scope gpos lookup takes in
      let type = word-type gpos kept lookup (new_flag scope (word gpos (lookup + 2))) t l m is in
      no-pairs t l x y (λ j less. other-type t l j (ap (λ k. nat_eq k 2) type ∙ type-not (type_at gpos lookup) 2 is refl)
      (ap (λ k. nat_eq k 9) type ∙ type-not (type_at gpos lookup) 9 is refl))
      ∙ sym (old-nothing scope gpos kept lookup x y (without-pairs scope gpos lookup takes))
  pairs-said (has_contexts takes m) x y =
      let type = chained-type t l 8 (new_flag scope (word gpos (lookup + 2))) (set_of gpos lookup) (contexts_by gpos kept lookup (type_at gpos lookup)) m in
      no-pairs t l x y (λ j less. other-type t l j (ap (λ k. nat_eq k 2) type) (ap (λ k. nat_eq k 9) type))
      ∙ sym (old-nothing scope gpos kept lookup x y (contexts-alone scope gpos lookup takes))

  flag-said : HasPosition scope gpos kept lookup t l → word t (l + 2) ≡ new_flag scope (word gpos (lookup + 2))
  flag-said (has_pairs never none p) = flag-read (new_flag scope (word gpos (lookup + 2))) (set_of gpos lookup) (new_pair scope gpos kept lookup) t l p
  flag-said (has_typed takes m) = typed-flag gpos kept lookup (new_flag scope (word gpos (lookup + 2))) t l m
  flag-said (has_contexts takes m) = chained-flag t l 8 (new_flag scope (word gpos (lookup + 2))) (set_of gpos lookup) (contexts_by gpos kept lookup (type_at gpos lookup)) m

  set-said : HasPosition scope gpos kept lookup t l → uses_set (new_flag scope (word gpos (lookup + 2))) ≡ true → set_of t l ≡ set_of gpos lookup
  set-said (has_pairs never none p) = set-read (new_flag scope (word gpos (lookup + 2))) (set_of gpos lookup) (new_pair scope gpos kept lookup) t l p
  set-said (has_typed takes m) = typed-set gpos kept lookup (new_flag scope (word gpos (lookup + 2))) t l m
  set-said (has_contexts takes m) = chained-set t l 8 (new_flag scope (word gpos (lookup + 2))) (set_of gpos lookup) (contexts_by gpos kept lookup (type_at gpos lookup)) m

  type-said : HasPosition scope gpos kept lookup t l → takes_type scope gpos lookup ≡ true → type_at t l ≡ type_at gpos lookup
  type-said (has_pairs never none p) takes = (let wrong : true ≡ false = sym takes ∙ never in absurd (cc))
  type-said (has_typed takes m) _ = typed-type gpos kept lookup (new_flag scope (word gpos (lookup + 2))) t l m (is-kept scope gpos lookup takes)
  type-said (has_contexts takes m) own = (let wrong : true ≡ false = sym own ∙ not-typed scope gpos lookup takes in absurd (cc))

  eight : HasChained false 8 (new_flag scope (word gpos (lookup + 2))) (set_of gpos lookup) (contexts_by gpos kept lookup (type_at gpos lookup)) t l → type_at t l ≡ 8
  eight m = type-eight t l (new_flag scope (word gpos (lookup + 2))) (set_of gpos lookup) (contexts_by gpos kept lookup (type_at gpos lookup)) m

  two : HasLookup (new_flag scope (word gpos (lookup + 2))) (set_of gpos lookup) (new_pair scope gpos kept lookup) t l → type_at t l ≡ 2
  two p = type-read (new_flag scope (word gpos (lookup + 2))) (set_of gpos lookup) (new_pair scope gpos kept lookup) t l p

  -- a lookup that does not keep its type has no subtables but of pairs
  untyped : {X : Type 0} (b : Bool) (old : Option X) → takes_type scope gpos lookup ≡ false → None ≡ (if takes_type scope gpos lookup && b then old else None)
  untyped b old never = sym (ap (λ (a : Bool). if a && b then old else None) never)

  typed : {X : Type 0} (b : Bool) (old : Option X) → takes_type scope gpos lookup ≡ true →
      (if b then old else None) ≡ (if takes_type scope gpos lookup && b then old else None)
  typed b old takes = sym (ap (λ (a : Bool). if a && b then old else None) takes)

  singles-said : HasPosition scope gpos kept lookup t l → (x : ℕ) → single_by_lookup t l x
      ≡ (if takes_type scope gpos lookup && nat_lt x (length kept) then single_by_lookup gpos lookup (get_or kept x 0) else None)
  singles-said (has_pairs never none p) x = ap (λ k. if k == 1 then singles_by t l x else None) (two p)
      ∙ untyped (nat_lt x (length kept)) (single_by_lookup gpos lookup (get_or kept x 0)) never
  singles-said (has_typed takes m) x = singles-kept gpos kept lookup (new_flag scope (word gpos (lookup + 2))) t l m (is-kept scope gpos lookup takes) x
      ∙ typed (nat_lt x (length kept)) (single_by_lookup gpos lookup (get_or kept x 0)) takes
  singles-said (has_contexts takes m) x = ap (λ k. if k == 1 then singles_by t l x else None) (eight m)
      ∙ untyped (nat_lt x (length kept)) (single_by_lookup gpos lookup (get_or kept x 0)) (not-typed scope gpos lookup takes)

  connections-said : HasPosition scope gpos kept lookup t l → (x y : ℕ) → connection_by_lookup t l x y
      ≡ (if takes_type scope gpos lookup && (nat_lt x (length kept) && nat_lt y (length kept)) then connection_by_lookup gpos lookup (get_or kept x 0) (get_or kept y 0) else None)
  connections-said (has_pairs never none p) x y = ap (λ k. if k == 3 then connections_by t l x y else None) (two p)
      ∙ untyped (nat_lt x (length kept) && nat_lt y (length kept)) (connection_by_lookup gpos lookup (get_or kept x 0) (get_or kept y 0)) never
  connections-said (has_typed takes m) x y =
      connections-kept gpos kept lookup (new_flag scope (word gpos (lookup + 2))) t l m (is-kept scope gpos lookup takes) x y
      ∙ typed (nat_lt x (length kept) && nat_lt y (length kept)) (connection_by_lookup gpos lookup (get_or kept x 0) (get_or kept y 0)) takes
  connections-said (has_contexts takes m) x y = ap (λ k. if k == 3 then connections_by t l x y else None) (eight m)
      ∙ untyped (nat_lt x (length kept) && nat_lt y (length kept)) (connection_by_lookup gpos lookup (get_or kept x 0) (get_or kept y 0)) (not-typed scope gpos lookup takes)

  marks-said : HasPosition scope gpos kept lookup t l → (x y : ℕ) → attached_by t l x y
      ≡ (if takes_type scope gpos lookup && (nat_lt x (length kept) && nat_lt y (length kept)) then attached_by gpos lookup (get_or kept x 0) (get_or kept y 0) else None)
  marks-said (has_pairs never none p) x y = ap (λ k. if attaches k then by_subtables t l k x y else None) (two p)
      ∙ untyped (nat_lt x (length kept) && nat_lt y (length kept)) (attached_by gpos lookup (get_or kept x 0) (get_or kept y 0)) never
  marks-said (has_typed takes m) x y = marks-attached gpos kept lookup (new_flag scope (word gpos (lookup + 2))) t l m (is-kept scope gpos lookup takes) x y
      ∙ typed (nat_lt x (length kept) && nat_lt y (length kept)) (attached_by gpos lookup (get_or kept x 0) (get_or kept y 0)) takes
  marks-said (has_contexts takes m) x y = ap (λ k. if attaches k then by_subtables t l k x y else None) (eight m)
      ∙ untyped (nat_lt x (length kept) && nat_lt y (length kept)) (attached_by gpos lookup (get_or kept x 0) (get_or kept y 0)) (not-typed scope gpos lookup takes)

  components-said : HasPosition scope gpos kept lookup t l → (x y component : ℕ) → ligature_by_lookup t l x y component
      ≡ (if takes_type scope gpos lookup && (nat_lt x (length kept) && nat_lt y (length kept))
      then ligature_by_lookup gpos lookup (get_or kept x 0) (get_or kept y 0) component else None)
  components-said (has_pairs never none p) x y component = ap (λ k. if k == 5 then ligatures_by t l x y component else None) (two p)
      ∙ untyped (nat_lt x (length kept) && nat_lt y (length kept)) (ligature_by_lookup gpos lookup (get_or kept x 0) (get_or kept y 0) component) never
  components-said (has_typed takes m) x y component =
      components-attached gpos kept lookup (new_flag scope (word gpos (lookup + 2))) t l m (is-kept scope gpos lookup takes) x y component
      ∙ typed (nat_lt x (length kept) && nat_lt y (length kept)) (ligature_by_lookup gpos lookup (get_or kept x 0) (get_or kept y 0) component) takes
  components-said (has_contexts takes m) x y component = ap (λ k. if k == 5 then ligatures_by t l x y component else None) (eight m)
      ∙ untyped (nat_lt x (length kept) && nat_lt y (length kept)) (ligature_by_lookup gpos lookup (get_or kept x 0) (get_or kept y 0) component)
      (not-typed scope gpos lookup takes)

  -- a lookup of another type has no contexts
  no-contexts : (s glyphs : List ℕ) (at type : ℕ) → type_at s at ≡ type → is_context type ≡ false → contexts_at s glyphs at ≡ []
  no-contexts s glyphs at type is never = ap (λ k. if is_context k && all_have_formats s at k then contexts_by s glyphs at k else []) is
      ∙ ap (λ (b : Bool). if b && all_have_formats s at type then contexts_by s glyphs at type else []) never

  if-empty : (b : Bool) (xs : List Context) → xs ≡ [] → [] ≡ (if b then xs else [])
  if-empty true xs none = sym none
  if-empty false xs none = refl

  contexts-said : HasPosition scope gpos kept lookup t l →
      contexts_at t (range_with_len 0 (length kept)) l ≡ (if takes_contexts scope gpos lookup then contexts_at gpos kept lookup else [])
  contexts-said (has_pairs never none p) = no-contexts t (range_with_len 0 (length kept)) l 2 (two p) refl
      ∙ sym (ap (λ (b : Bool). if b then contexts_at gpos kept lookup else []) none)
  contexts-said (has_typed takes m) =
      let is = is-kept scope gpos lookup takes in
      no-contexts t (range_with_len 0 (length kept)) l (type_at gpos lookup)
      (typed-type gpos kept lookup (new_flag scope (word gpos (lookup + 2))) t l m is) (kept-alone (type_at gpos lookup) is)
      ∙ if-empty (takes_contexts scope gpos lookup) (contexts_at gpos kept lookup)
      (no-contexts gpos kept lookup (type_at gpos lookup) refl (kept-alone (type_at gpos lookup) is))
  contexts-said (has_contexts takes m) =
      positions-read t l (new_flag scope (word gpos (lookup + 2))) (set_of gpos lookup) (contexts_by gpos kept lookup (type_at gpos lookup)) m (length kept)
      (kept-context gpos kept (same_type (type_at gpos lookup)) (typed_at gpos lookup (type_at gpos lookup)) (word gpos (lookup + 4)))
      (applying-context gpos kept (same_type (type_at gpos lookup)) (typed_at gpos lookup (type_at gpos lookup)) (word gpos (lookup + 4)))
      ∙ sym (ap (λ (b : Bool). if b then contexts_by gpos kept lookup (type_at gpos lookup) else []) (is-contextual scope gpos lookup takes))
      ∙ sym (ap (λ (b : Bool). if b then contexts_at gpos kept lookup else []) takes)

module _ (old new offsets bytes : List ℕ) (end : ℕ) (lists : ListsEnd old end) (small : end < 65536) (within : end ≤ length old)
    (is : new ≡ front_text old end ++ list_text offsets bytes) (few : length offsets ≤ 32766) (fit : AreOffsets (2 + length offsets * 2) offsets)
    (kept : List ℕ) where
  held : (scope : Scope) → HasLookups scope old kept (lookups_of old) offsets bytes → (i : ℕ) → i < lookups_of old →
      HasPosition scope old kept (lookup_at old i) new (lookup_at new i)
  held scope has i less = subst (HasPosition scope old kept (lookup_at old i) new)
      (sym (place-read old new offsets bytes end lists small within is few fit i (let many = has.many in omega (arith, less, many))))
      (position-in scope old kept (lookup_at old i) new bytes (end + 2 + length offsets * 2) (get_or offsets i 0)
      (lookups-held old new offsets bytes end lists small within is few fit) (has.each i less))

  all-held : (scope : Scope) → HasLookups scope old kept (lookups_of old) offsets bytes → lookups_of new ≡ lookups_of old
  all-held scope has = count-held old new offsets bytes end lists small within is few fit ∙ has.many

  pub keeps : (scope : Scope) → HasLookups scope old kept (lookups_of old) offsets bytes → Keeps scope old kept new
  keeps Pairs has = record {
    lists = keeps-lists old new offsets bytes end lists small within is few fit;
    lookups = all-held Pairs has;
    flags = λ i less. flag-said Pairs old kept (lookup_at old i) new (lookup_at new i) (held Pairs has i less);
    pairs = λ i x y less. pairs-said Pairs old kept (lookup_at old i) new (lookup_at new i) (held Pairs has i less) x y;
  }
  keeps Marks has = record {
    kerning = record {
      lists = keeps-lists old new offsets bytes end lists small within is few fit;
      lookups = all-held Marks has;
      flags = λ i less. flag-said Marks old kept (lookup_at old i) new (lookup_at new i) (held Marks has i less);
      pairs = λ i x y less. pairs-said Marks old kept (lookup_at old i) new (lookup_at new i) (held Marks has i less) x y;
    };
    types = λ i less takes. type-said Marks old kept (lookup_at old i) new (lookup_at new i) (held Marks has i less) takes;
    singles = λ i x less. singles-said Marks old kept (lookup_at old i) new (lookup_at new i) (held Marks has i less) x;
    connections = λ i x y less. connections-said Marks old kept (lookup_at old i) new (lookup_at new i) (held Marks has i less) x y;
    marks = λ i x y less. marks-said Marks old kept (lookup_at old i) new (lookup_at new i) (held Marks has i less) x y;
    ligatures = λ i x y component less. components-said Marks old kept (lookup_at old i) new (lookup_at new i) (held Marks has i less) x y component;
    contexts = λ i less. contexts-said Marks old kept (lookup_at old i) new (lookup_at new i) (held Marks has i less);
  }
  keeps Flags has = record {
    lists = keeps-lists old new offsets bytes end lists small within is few fit;
    lookups = all-held Flags has;
    flags = λ i less. flag-said Flags old kept (lookup_at old i) new (lookup_at new i) (held Flags has i less);
    sets = λ i less uses. set-said Flags old kept (lookup_at old i) new (lookup_at new i) (held Flags has i less) uses;
    pairs = λ i x y less. pairs-said Flags old kept (lookup_at old i) new (lookup_at new i) (held Flags has i less) x y;
    types = λ i less takes. type-said Flags old kept (lookup_at old i) new (lookup_at new i) (held Flags has i less) takes;
    singles = λ i x less. singles-said Flags old kept (lookup_at old i) new (lookup_at new i) (held Flags has i less) x;
    connections = λ i x y less. connections-said Flags old kept (lookup_at old i) new (lookup_at new i) (held Flags has i less) x y;
    marks = λ i x y less. marks-said Flags old kept (lookup_at old i) new (lookup_at new i) (held Flags has i less) x y;
    ligatures = λ i x y component less. components-said Flags old kept (lookup_at old i) new (lookup_at new i) (held Flags has i less) x y component;
    contexts = λ i less. contexts-said Flags old kept (lookup_at old i) new (lookup_at new i) (held Flags has i less);
  }
