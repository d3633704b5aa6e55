-- The operations of a dictionary, ROS first.
use Rattle.std.proofs.Common.{◌≡◌, ◌≢◌, ◌⊎◌, refl, sym, ap, subst, ◌∙◌, inl, inr, ℕ, ◌+◌, ◌-◌, ◌≤◌, List, [], ◌∷◌, ◌++◌, length, length-append, length-take, take, drop, Option, Some, None, arith}
use Rattle.std.specs.List.{Contains}
use Rattle.std.specs.Option.{option_or}
use Rattle.std.specs.FinMap.{get}
use Rattle.std.proofs.lemmas.List.{append-nil, map-append}
use Rattle.std.proofs.lemmas.List.Elements.{Contains-append_cases}
use Rattle.postscript_base.specs.Tape.Outcome.{Got}
use Rattle.postscript_base.specs.Compact1.Dictionary.{Dictionary, dictionary_of}
use Rattle.postscript_base.specs.Compact1.DictionaryLaw.{IsDictionary, OperationsAt, last_of}
use Rattle.postscript_base.specs.Compact1.Operation.{Operation, operation}
use Rattle.postscript_base.specs.declared.compact1.operator.Operator.{Operator}
use Rattle.postscript_base.specs.declared.compact1.operator.Operator.TheVariants.{BaseFontBlend, BaseFontName, BlueFuzz, BlueScale, BlueShift, BlueValues, CIDCount, CIDFontRevision, CIDFontType, CIDFontVersion, CharSet, CharStringType, CharStrings, Copyright, DefaultWidthX, Encoding, ExpansionFactor, FDArray, FDSelect, FamilyBlues, FamilyName, FamilyOtherBlues, FontBBox, FontMatrix, FontName, ForceBold, FullName, InitialRandomSeed, IsFixedPitch, ItalicAngle, LanguageGroup, NominalWidthX, Notice, OtherBlues, PaintType, PostScript, Private, ROS, StdHW, StdVW, StemSnapH, StemSnapV, StrokeWidth, Subrs, SyntheticBase, UIDBase, UnderlinePosition, UnderlineThickness, UniqueID, Version, Weight, XUID}
use Rattle.postscript_base.proofs.DictionaryIs.{get_last}
use Rattle.postscript_write.specs.LeftOut.{IsLeftText, IsWithout, operators_in}
use Rattle.postscript_write.specs.LeftOut.IsLeftText.{ends, keeps, leaves}
use Rattle.postscript_write.specs.Once.{AreDistinct, HasNoLaterRos, IsMoved, TellsRosFirst}
use Rattle.postscript_write.specs.declared.dictionaries.TheConstants.{NOT_ROS}
use Rattle.postscript_write.proofs.Locality.{operations_local}
use Rattle.postscript_write.proofs.Moving.{operation_moved}
use Rattle.postscript_write.proofs.OperationsStand.{writes_operations}
use Rattle.postscript_write.proofs.Once.{left_among, left_distinct, one_run, stops_at}
use Rattle.postscript_write.proofs.Operators.{among, none_among}
use Rattle.postscript_write.proofs.Placing.{left_last, left_none}
use Rattle.postscript_write.proofs.PlacesNamed.{last_append}
use Rattle.postscript_write.proofs.WholeEnd.{one_map}
use Rattle.postscript_write.proofs.Without.{contains_here, contains_next, reached, same_got}

is_ros_or : (q : Operator) → (q ≡ ROS) ⊎ Contains NOT_ROS q
is_ros_or ROS = inl refl
is_ros_or Version = inr (0, omega arith, refl)
is_ros_or Notice = inr (1, omega arith, refl)
is_ros_or FullName = inr (2, omega arith, refl)
is_ros_or FamilyName = inr (3, omega arith, refl)
is_ros_or Weight = inr (4, omega arith, refl)
is_ros_or FontBBox = inr (5, omega arith, refl)
is_ros_or BlueValues = inr (6, omega arith, refl)
is_ros_or OtherBlues = inr (7, omega arith, refl)
is_ros_or FamilyBlues = inr (8, omega arith, refl)
is_ros_or FamilyOtherBlues = inr (9, omega arith, refl)
is_ros_or StdHW = inr (10, omega arith, refl)
is_ros_or StdVW = inr (11, omega arith, refl)
is_ros_or UniqueID = inr (12, omega arith, refl)
is_ros_or XUID = inr (13, omega arith, refl)
is_ros_or CharSet = inr (14, omega arith, refl)
is_ros_or Encoding = inr (15, omega arith, refl)
is_ros_or CharStrings = inr (16, omega arith, refl)
is_ros_or Private = inr (17, omega arith, refl)
is_ros_or Subrs = inr (18, omega arith, refl)
is_ros_or DefaultWidthX = inr (19, omega arith, refl)
is_ros_or NominalWidthX = inr (20, omega arith, refl)
is_ros_or Copyright = inr (21, omega arith, refl)
is_ros_or IsFixedPitch = inr (22, omega arith, refl)
is_ros_or ItalicAngle = inr (23, omega arith, refl)
is_ros_or UnderlinePosition = inr (24, omega arith, refl)
is_ros_or UnderlineThickness = inr (25, omega arith, refl)
is_ros_or PaintType = inr (26, omega arith, refl)
is_ros_or CharStringType = inr (27, omega arith, refl)
is_ros_or FontMatrix = inr (28, omega arith, refl)
is_ros_or StrokeWidth = inr (29, omega arith, refl)
is_ros_or BlueScale = inr (30, omega arith, refl)
is_ros_or BlueShift = inr (31, omega arith, refl)
is_ros_or BlueFuzz = inr (32, omega arith, refl)
is_ros_or StemSnapH = inr (33, omega arith, refl)
is_ros_or StemSnapV = inr (34, omega arith, refl)
is_ros_or ForceBold = inr (35, omega arith, refl)
is_ros_or LanguageGroup = inr (36, omega arith, refl)
is_ros_or ExpansionFactor = inr (37, omega arith, refl)
is_ros_or InitialRandomSeed = inr (38, omega arith, refl)
is_ros_or SyntheticBase = inr (39, omega arith, refl)
is_ros_or PostScript = inr (40, omega arith, refl)
is_ros_or BaseFontName = inr (41, omega arith, refl)
is_ros_or BaseFontBlend = inr (42, omega arith, refl)
is_ros_or CIDFontVersion = inr (43, omega arith, refl)
is_ros_or CIDFontRevision = inr (44, omega arith, refl)
is_ros_or CIDFontType = inr (45, omega arith, refl)
is_ros_or CIDCount = inr (46, omega arith, refl)
is_ros_or UIDBase = inr (47, omega arith, refl)
is_ros_or FDArray = inr (48, omega arith, refl)
is_ros_or FDSelect = inr (49, omega arith, refl)
is_ros_or FontName = inr (50, omega arith, refl)

not_itself : Contains NOT_ROS ROS → ⊥
not_itself has = none_among ROS NOT_ROS refl (among NOT_ROS ROS has)

-- operations behind others
operations_moved : (front bytes : List ℕ) (place next : ℕ) (os : List Operation) → OperationsAt bytes place os next →
    OperationsAt (front ++ bytes) (length front + place) os (length front + next)
operations_moved front bytes place next [] h = ap (λ n. length front + n) h
operations_moved front bytes place next (o ∷ os) h =
    (length front + h.0, operation_moved front bytes place h.0 o h.1, operations_moved front bytes h.0 next os h.2)

chained : (bytes : List ℕ) (place middle next : ℕ) (xs ys : List Operation) → OperationsAt bytes place xs middle →
    OperationsAt bytes middle ys next → OperationsAt bytes place (xs ++ ys) next
chained bytes place middle next [] ys h more = subst (λ p. OperationsAt bytes p ys next) h more
chained bytes place middle next (x ∷ xs) ys h more = (h.0, h.1, chained bytes h.0 middle next xs ys h.2 more)

joined : (a b : List ℕ) (xs ys : List Operation) → OperationsAt a 0 xs (length a) → OperationsAt b 0 ys (length b) →
    OperationsAt (a ++ b) 0 (xs ++ ys) (length (a ++ b))
joined a b xs ys one two =
    let first = (operations_local a [] b 0 (length a) xs
    (subst (λ bs. OperationsAt bs 0 xs (length a)) (sym (append-nil a)) one) (omega arith)).1 in
    let second : OperationsAt (a ++ b) (length a) ys (length (a ++ b)) = subst (λ n. OperationsAt (a ++ b) (length a) ys n)
    (sym (length-append a b))
    (subst (λ p. OperationsAt (a ++ b) p ys (length a + length b)) (omega arith) (operations_moved a b 0 (length b) ys two)) in
    chained (a ++ b) 0 (length a) (length (a ++ b)) xs ys first second

-- both are left of the same operations
one_all : (text a b : List ℕ) (p q : List Operator) (v : IsWithout text p a) (w : IsWithout text q b) → w.0 ≡ v.0
one_all text a b p q v w = one_run text 0 w.2 v.2 w.0 v.0 w.3 (stops_at text w.2 w.4) v.3 (stops_at text v.2 v.4)

-- ROS is in the first part
ros_there : (text a b : List ℕ) (left_out : List Operator) (v : IsWithout text NOT_ROS a) (w : IsWithout text left_out b) →
    Contains left_out ROS → last_of (v.1 ++ w.1) ROS ≡ last_of v.0 ROS
ros_there text a b left_out v w has =
    last_append v.1 w.1 ROS
    ∙ ap (λ x. option_or x (last_of v.1 ROS)) (left_none left_out w.0 w.1 ROS w.5 has)
    ∙ left_last NOT_ROS v.0 v.1 ROS v.5 not_itself

or_none : {A : Type 0} (x : Option A) → option_or x None ≡ x
or_none None = refl
or_none (Some a) = refl

-- and any other operator in the second
other_there : (text a b : List ℕ) (left_out : List Operator) (v : IsWithout text NOT_ROS a) (w : IsWithout text left_out b) →
    (q : Operator) → Contains NOT_ROS q → last_of (v.1 ++ w.1) q ≡ last_of w.1 q
other_there text a b left_out v w q other =
    last_append v.1 w.1 q ∙ ap (option_or (last_of w.1 q)) (left_none NOT_ROS v.0 v.1 q v.5 other) ∙ or_none (last_of w.1 q)

differ : (q : Operator) → Contains NOT_ROS q → q ≡ ROS → ⊥
differ q other is = not_itself (subst (Contains NOT_ROS) is other)

pub moved : (text a b : List ℕ) (left_out : List Operator) (old : Dictionary) → IsWithout text NOT_ROS a → IsWithout text left_out b →
    Contains left_out ROS → IsDictionary text 0 old → (new : Dictionary) × IsDictionary (a ++ b) 0 new × IsMoved left_out old new
moved text a b left_out old v w has is = (
  dictionary_of (v.1 ++ w.1),
  writes_operations.all (a ++ b) (v.1 ++ w.1) (joined a b v.1 w.1 v.6 w.6),
  record { gone = gone; stays = λ q stay. stays q stay (is_ros_or q) },
)
  where
    was : (q : Operator) → last_of v.0 q ≡ get old q
    was q = sym (ap (λ d. get d q) (one_map text old v.0 v.2 is v.3 v.4) ∙ get_last v.0 q)

    gone : (q : Operator) → Contains left_out q → q ≢ ROS → get (dictionary_of (v.1 ++ w.1)) q ≡ None
    gone q out other = by (is_ros_or q)
      where
        by : (q ≡ ROS) ⊎ Contains NOT_ROS q → get (dictionary_of (v.1 ++ w.1)) q ≡ None
        by (inl same) = absurd (other same)
        by (inr among) = get_last (v.1 ++ w.1) q ∙ other_there text a b left_out v w q among ∙ left_none left_out w.0 w.1 q w.5 out

    stays : (q : Operator) → (Contains left_out q → q ≡ ROS) → (q ≡ ROS) ⊎ Contains NOT_ROS q →
        get (dictionary_of (v.1 ++ w.1)) q ≡ get old q
    stays q stay (inl same) =
        subst (λ o. get (dictionary_of (v.1 ++ w.1)) o ≡ get old o) (sym same)
        (get_last (v.1 ++ w.1) ROS ∙ ros_there text a b left_out v w has ∙ was ROS)
    stays q stay (inr among) =
        get_last (v.1 ++ w.1) q ∙ other_there text a b left_out v w q among
        ∙ left_last left_out w.0 w.1 q w.5 (λ out. differ q among (stay out))
        ∙ ap (λ (os : List Operation). last_of os q) (one_all text a b NOT_ROS left_out v w) ∙ was q

-- only ROS is left where all others are left out
only_ros : (text a : List ℕ) (v : IsWithout text NOT_ROS a) (q : Operator) → Contains (operators_in v.1) q → q ≡ ROS
only_ros text a v q has = elim (is_ros_or q) [
  | inl same ↦ same
  | inr other ↦ absurd ((left_among NOT_ROS v.0 v.1 q v.5 has).1 other)
]

pub tells_ros_first : (text a b : List ℕ) (left_out : List Operator) → IsWithout text NOT_ROS a → IsWithout text left_out b →
    Contains left_out ROS → TellsRosFirst (a ++ b)
tells_ros_first text a b left_out v w has = (
  v.1 ++ w.1,
  joined a b v.1 w.1 v.6 w.6,
  subst HasNoLaterRos (sym (map-append (λ (o : Operation). o.0) v.1 w.1)) (first v.1 (only_ros text a v) (left_distinct NOT_ROS v.0 v.1 v.5)),
)
  where
    none_later : Contains (operators_in w.1) ROS → ⊥
    none_later is = (left_among left_out w.0 w.1 ROS w.5 is).1 has

    none_at_all : (qs : List Operator) → (Contains qs ROS → ⊥) → HasNoLaterRos qs
    none_at_all [] never = tt
    none_at_all (q ∷ qs) never = λ later. never (contains_next q qs ROS later)

    first : (left : List Operation) → ((q : Operator) → Contains (operators_in left) q → q ≡ ROS) → AreDistinct (operators_in left) →
        HasNoLaterRos (operators_in left ++ operators_in w.1)
    first [] all once = none_at_all (operators_in w.1) none_later
    first (o ∷ left) all once = λ later. elim (Contains-append_cases (operators_in left) (operators_in w.1) ROS later) [
      | inl early ↦ once.0 (subst (Contains (operators_in left)) (sym (all o.0 (contains_here o.0 (operators_in left)))) early)
      | inr late ↦ none_later late
    ]

-- what is left without some operators, and without all others, has no more bytes together
parted : (text : List ℕ) (p q : List Operator) → ((o : Operator) → Contains p o ⊎ Contains q o) → (place other : ℕ) (a b : List ℕ) →
    place ≡ other → place ≤ length text → IsLeftText text p place a → IsLeftText text q other b → place + length a + length b ≤ length text
parted text p q all _ _ _ _ at within (ends place stops) (ends other again) = omega (arith, within)
parted text p q all _ _ _ b at within (ends place stops) (keeps other next o rest _ got out h e) =
    absurd (stops o next (subst (λ p. operation text p ≡ Got o next) (sym at) got))
parted text p q all _ _ _ b at within (ends place stops) (leaves other next o _ got is h) =
    absurd (stops o next (subst (λ p. operation text p ≡ Got o next) (sym at) got))
parted text p q all _ _ a _ at within (keeps place next o rest _ got out h e) (ends other stops) =
    absurd (stops o next (subst (λ p. operation text p ≡ Got o next) at got))
parted text p q all _ _ a _ at within (leaves place next o _ got is h) (ends other stops) =
    absurd (stops o next (subst (λ p. operation text p ≡ Got o next) at got))
parted text p q all _ _ a b at within (keeps place next o rest _ got out h e) (keeps other after x more _ got2 out2 h2 e2) =
    let same = same_got o x next after (sym (subst (λ p. operation text p ≡ Got o next) at got) ∙ got2) in
    absurd (elim (all o.0) [
      | inl mine ↦ out (inl mine)
      | inr theirs ↦ out2 (inl (subst (λ (y : Operation). Contains q y.0) same.0 theirs))
    ])
parted text p q all _ _ a b at within (leaves place next o _ got is h) (leaves other after x _ got2 is2 h2) =
    let same = same_got o x next after (sym (subst (λ p. operation text p ≡ Got o next) at got) ∙ got2) in
    let goes = reached text place next o got in
    let up = goes.0 in
    let less = parted text p q all next after a b same.1 goes.1 h h2 in
    omega (arith, less, up)
parted text p q all _ _ a b at within (keeps place next o rest _ got out h e) (leaves other after x _ got2 is2 h2) =
    let same = same_got o x next after (sym (subst (λ p. operation text p ≡ Got o next) at got) ∙ got2) in
    let goes = reached text place next o got in
    let up = goes.0 in
    let less = parted text p q all next after rest b same.1 goes.1 h h2 in
    let long : length a ≡ length (take (next - place) (drop place text)) + length rest =
    ap length e ∙ length-append (take (next - place) (drop place text)) rest in
    omega (arith, less, up, long, length-take (next - place) (drop place text))
parted text p q all _ _ a b at within (leaves place next o _ got is h) (keeps other after x more _ got2 out2 h2 e2) =
    let same = same_got o x next after (sym (subst (λ p. operation text p ≡ Got o next) at got) ∙ got2) in
    let goes = reached text place next o got in
    let up = goes.0 in
    let less = parted text p q all next after a more same.1 goes.1 h h2 in
    let long : length b ≡ length (take (after - other) (drop other text)) + length more =
    ap length e2 ∙ length-append (take (after - other) (drop other text)) more in
    let step = same.1 in
    omega (arith, less, up, at, step, long, length-take (after - other) (drop other text))

pub both_within : (text a b : List ℕ) (left_out : List Operator) → Contains left_out ROS → IsLeftText text NOT_ROS 0 a →
    IsLeftText text left_out 0 b → length (a ++ b) ≤ length text
both_within text a b left_out has one two =
    omega (arith, length-append a b, parted text NOT_ROS left_out each 0 0 a b refl (omega arith) one two)
  where
    each : (o : Operator) → Contains NOT_ROS o ⊎ Contains left_out o
    each o = elim (is_ros_or o) [
      | inl same ↦ inr (subst (Contains left_out) (sym same) has)
      | inr other ↦ inl other
    ]
