-- The places that a dictionary names are of different operators, and none is of ROS.
use Rattle.std.proofs.Common.{◌≡◌, take, refl, sym, subst, ◌∙◌, inl, inr, ℕ, ◌+◌, List, [], ◌∷◌, ◌++◌, length, map, drop, Bool, true, false, Option, Some, None, Vec, if◌then◌else◌, arith}
use Rattle.std.specs.List.{Contains}
use Rattle.std.specs.declared.alloc.Global.{Global}
use Rattle.postscript_base.specs.Compact1.Dictionary.{Dictionary}
use Rattle.postscript_base.specs.declared.compact1.operator.Operator.{Operator}
use Rattle.postscript_base.specs.declared.compact1.operator.Operator.TheVariants.{CharSet, Encoding, ROS}
use Rattle.postscript_view.specs.declared.font.FontView.{FontView}
use Rattle.postscript_write.specs.LaidOut.{StandardIsAlone}
use Rattle.postscript_write.specs.Numbered.{IsEncodingFor}
use Rattle.postscript_write.specs.Once.{AreDistinct}
use Rattle.postscript_write.specs.Pieces.{Piece, is_listed, listed_set, named_places, piece_if, pieces_of, place_of, places, ranges_set, text_of}
use Rattle.postscript_write.specs.Renumbered.{all_renamed}
use Rattle.postscript_write.specs.declared.dictionaries.Place.{Place}
use Rattle.postscript_write.specs.declared.layout.Glyphs.{Glyphs}
use Rattle.postscript_write.specs.declared.strings.Strings.{Strings}
use Rattle.postscript_write.proofs.Operators.{among, is_none_of, none_among}
use Rattle.postscript_write.proofs.Pieces.{are_distinct, is_other}
use Rattle.postscript_write.proofs.Placing.{some_last}
use Rattle.postscript_write.proofs.PlacesNamed.{not_renamed}
use Rattle.postscript_write.proofs.Without.{contains_cases, contains_next}

-- the place of a piece, where it is named
abbrev named_if : Bool → Piece → (offset : ℕ) → List Place
named_if named piece offset =
    if named then record {
      operator = piece.operator;
      size = if piece.counted then Some (length piece.text) else None;
      offset = offset;
    } ∷ [] else []

each_of : (x y : Bool) → (if x then y else false) ≡ true → (x ≡ true) × (y ≡ true)
each_of true y e = (refl, e)
each_of false y e = absurd (cc)

pub ros_not_renamed : (strings : Strings) (names : Dictionary) →
    Contains (map (λ place. place.operator) (all_renamed strings names)) ROS → ⊥
ros_not_renamed strings names has = some_last (all_renamed strings names) ROS has (not_renamed strings names ROS refl)

-- an operator that is none of these is not among them
pub not_among : (q : Operator) (others : List Operator) → is_none_of q others ≡ true → Contains others q → ⊥
not_among q others none has = none_among q others none (among others q has)

abbrev of_places : List Place → List Operator
of_places places = map (λ place. place.operator) places

abbrev of_pieces : List Piece → List Operator
of_pieces pieces = map (λ piece. piece.operator) pieces

-- the operators of places are among those of pieces
place_among : (ps : List Piece) (start : ℕ) (q : Operator) → Contains (of_places (places start ps)) q → Contains (of_pieces ps) q
place_among [] start q has = let less = has.1 in absurd (omega (arith, less))
place_among (p ∷ ps) start q has = by p.named has (place_among ps (start + length p.text) q)
  where
    rest : List Place
    rest = places (start + length p.text) ps

    by : (b : Bool) → Contains (of_places (named_if b p start ++ rest)) q → (Contains (of_places rest) q → Contains (of_pieces ps) q) →
        Contains (of_pieces (p ∷ ps)) q
    by true has before = elim (contains_cases p.operator (of_places rest) q has) [
      | inl is ↦ (0, omega arith, is)
      | inr later ↦ contains_next p.operator (of_pieces ps) q (before later)
    ]
    by false has before = contains_next p.operator (of_pieces ps) q (before has)

distinct_places : (ps : List Piece) (start : ℕ) → are_distinct ps ≡ true → AreDistinct (of_places (places start ps))
distinct_places [] start e = tt
distinct_places (p ∷ ps) start e =
    let both = each_of (is_other p.operator ps) (are_distinct ps) e in
    by p.named both.0 (distinct_places ps (start + length p.text) both.1)
  where
    rest : List Place
    rest = places (start + length p.text) ps

    by : (b : Bool) → is_other p.operator ps ≡ true → AreDistinct (of_places rest) → AreDistinct (of_places (named_if b p start ++ rest))
    by true other before =
        (λ has. not_among p.operator (of_pieces ps) other (place_among ps (start + length p.text) p.operator has), before)
    by false other before = before

-- the pieces of a font, given those of its charset: an unnamed one has no place
abbrev with_sets : (first last : Piece) → Glyphs → (char_strings privates dictionaries : List ℕ) (single : Bool) → List Piece
with_sets first last glyphs char_strings privates dictionaries single =
    let pieces : List Piece = pieces_of glyphs char_strings single privates dictionaries in
    take 2 pieces ++ (first ∷ (take 3 (drop 3 pieces) ++ last ∷ []))

abbrev no_piece : Piece
no_piece = record { operator = ROS; named = false; counted = false; text = [] }

distinct_all : (glyphs : Glyphs) (start : ℕ) (char_strings privates dictionaries : List ℕ) (single : Bool) (char_set : Option (Vec ℕ Global)) →
    AreDistinct (of_places (places start (with_sets (piece_if CharSet (listed_set char_set)) (piece_if CharSet (ranges_set char_set))
    glyphs char_strings privates dictionaries single)))
distinct_all glyphs start char_strings privates dictionaries single None =
    distinct_places (with_sets (piece_if CharSet None) no_piece glyphs char_strings privates dictionaries single) start refl
distinct_all glyphs start char_strings privates dictionaries single (Some text) = by (is_listed text.items)
  where
    by : (b : Bool) → AreDistinct (of_places (places start (with_sets (piece_if CharSet (if b then Some text else None))
        (piece_if CharSet (if b then None else Some text)) glyphs char_strings privates dictionaries single)))
    by true = distinct_places (with_sets (piece_if CharSet (Some text)) no_piece glyphs char_strings privates dictionaries single) start refl
    by false = distinct_places (with_sets no_piece (piece_if CharSet (Some text)) glyphs char_strings privates dictionaries single) start refl

-- the places that the dictionary of a font names
pub distinct_named : (glyphs : Glyphs) (start : ℕ) (char_strings privates dictionaries : List ℕ) (single : Bool) → StandardIsAlone glyphs →
    AreDistinct (map (λ place. place.operator)
    (named_places glyphs.standard start (pieces_of glyphs char_strings single privates dictionaries)))
distinct_named glyphs start char_strings privates dictionaries single alone = by glyphs.standard refl
  where
    ps : List Piece
    ps = pieces_of glyphs char_strings single privates dictionaries

    others : List Piece
    others = drop 1 ps

    all : AreDistinct (map (λ place. place.operator) (places start ps))
    all = distinct_all glyphs start char_strings privates dictionaries single glyphs.char_set

    by : (b : Bool) → glyphs.standard ≡ b → AreDistinct (map (λ place. place.operator) (named_places glyphs.standard start ps))
    by false e = subst (λ b. AreDistinct (map (λ place. place.operator) (named_places b start ps))) (sym e) all
    by true e =
        subst (λ b. AreDistinct (map (λ place. place.operator) (named_places b start ps))) (sym e) (
          λ has. not_among Encoding (map (λ piece. piece.operator) others) refl
              (place_among others (start + length (text_of glyphs.encoding)) Encoding
              (subst (λ encoding. Contains (map (λ place. place.operator)
              (place_of (piece_if Encoding encoding) start ++ places (start + length (text_of glyphs.encoding)) others)) Encoding)
              (alone e) has)),
          all,
        )

-- none is of ROS
pub ros_not_named : (standard : Bool) (start : ℕ) (glyphs : Glyphs) (char_strings privates dictionaries : List ℕ) (single : Bool) →
    Contains (map (λ place. place.operator)
    (named_places standard start (pieces_of glyphs char_strings single privates dictionaries))) ROS → ⊥
ros_not_named true start glyphs char_strings privates dictionaries single has =
    let ps : List Piece = pieces_of glyphs char_strings single privates dictionaries in
    elim (contains_cases Encoding (map (λ place. place.operator) (places start ps)) ROS has) [
      | inl never ↦ cc
      | inr later ↦ not_among ROS (map (λ piece. piece.operator) ps) refl (place_among ps start ROS later)
    ]
ros_not_named false start glyphs char_strings privates dictionaries single has =
    let ps : List Piece = pieces_of glyphs char_strings single privates dictionaries in
    not_among ROS (map (λ piece. piece.operator) ps) refl (place_among ps start ROS has)

-- the standard encoding gives way to no other one
pub stands_alone : (font : FontView) (identifiers : Option (Vec ℕ Global)) (glyphs : Glyphs) → IsEncodingFor font identifiers glyphs →
    StandardIsAlone glyphs
stands_alone font None glyphs own e = let never : false ≡ true = sym own.1 ∙ e in absurd (cc)
stands_alone font (Some identifiers) glyphs own e = own.0
