-- What has the same length wherever the parts stand.
use Rattle.std.proofs.Common.{◌≡◌, refl, sym, ap, ◌∙◌, ℕ, suc, ◌+◌, ◌*◌, ◌<◌, List, [], ◌∷◌, length, length-append, map, get_or, Option, Some, None, Bool, true, false, Vec, arith}
use Rattle.std.specs.List.{concat}
use Rattle.std.specs.Prelude.{IsSome}
use Rattle.std.specs.Option.{is_none}
use Rattle.std.specs.declared.alloc.Global.{Global}
use Rattle.postscript_base.specs.Compact1.Dictionary.{Dictionary}
use Rattle.postscript_base.specs.declared.compact1.operator.Operator.TheVariants.{FDArray}
use Rattle.postscript_write.specs.Pieces.{Piece, named_places, places, standard_place}
use Rattle.postscript_write.specs.ArrangedText.{AreSizedFor, dictionaries_text, tables_text}
use Rattle.postscript_write.specs.DictionarySizes.{HasSize}
use Rattle.postscript_write.specs.Index.{index_text, offset_behind, size_of}
use Rattle.postscript_write.specs.Privates.{AreSized, place_of_private}
use Rattle.postscript_write.specs.declared.dictionaries.Place.{Place}
use Rattle.postscript_write.specs.declared.layout.Private.{Private}
use Rattle.postscript_write.proofs.Arranged.{named_opened}
use Rattle.postscript_write.proofs.IndexStands.{behind_is, length-index_text}
use Rattle.postscript_write.proofs.Pieces.{all_alike, bare, together}
use Rattle.postscript_write.proofs.TablesStand.{tables_length}
use Rattle.postscript_write.proofs.Without.{one_size}

same_concat : (xs ys : List (List ℕ)) → length xs ≡ length ys →
    ((k : ℕ) → k < length xs → length (get_or xs k []) ≡ length (get_or ys k [])) → length (concat xs) ≡ length (concat ys)
same_concat [] [] many each = refl
same_concat [] (y ∷ ys) many each = absurd (omega arith)
same_concat (x ∷ xs) [] many each = absurd (omega arith)
same_concat (x ∷ xs) (y ∷ ys) many each =
    let first = each 0 (omega arith) in
    let rest = same_concat xs ys (omega arith) (λ k h. each (suc k) (omega (arith, h))) in
    omega (arith, length-append x (concat xs), length-append y (concat ys), first, rest)

-- indices of as many items, in as many bytes
same_index : (xs ys : List (List ℕ)) → length xs ≡ length ys → length (concat xs) ≡ length (concat ys) →
    length (index_text xs) ≡ length (index_text ys)
same_index [] [] many bytes = refl
same_index [] (y ∷ ys) many bytes = absurd (omega arith)
same_index (x ∷ xs) [] many bytes = absurd (omega arith)
same_index (x ∷ xs) (y ∷ ys) many bytes =
    let behind : offset_behind 1 (x ∷ xs) ≡ offset_behind 1 (y ∷ ys) = behind_is 1 (x ∷ xs) ∙ ap (λ n. 1 + n) bytes
    ∙ sym (behind_is 1 (y ∷ ys)) in
    length-index_text x xs
    ∙ ap (λ n. 3 + (n + 1) * size_of (offset_behind 1 (x ∷ xs)) + length (concat (x ∷ xs))) many
    ∙ ap (λ b. 3 + (length (y ∷ ys) + 1) * size_of b + length (concat (x ∷ xs))) behind
    ∙ ap (λ n. 3 + (length (y ∷ ys) + 1) * size_of (offset_behind 1 (y ∷ ys)) + n) bytes
    ∙ sym (length-index_text y ys)

pub same_single : (x y : List ℕ) → length x ≡ length y → length (index_text (x ∷ [])) ≡ length (index_text (y ∷ []))
same_single x y same = same_index (x ∷ []) (y ∷ []) refl (omega (arith, length-append x [], length-append y [], same))

same_sized : (items : List (List ℕ)) (privates : List (Option Private)) (xs ys : List (List ℕ)) → AreSized items privates xs →
    AreSized items privates ys → length (index_text xs) ≡ length (index_text ys)
same_sized items privates xs ys a b =
    same_index xs ys (a.many ∙ sym b.many) (same_concat xs ys (a.many ∙ sym b.many) (λ k h.
    let less : k < length items = omega (arith, h, a.many) in
    one_size (get_or items k []) (place_of_private (get_or privates k None) 0) (place_of_private (get_or privates k None) 0) _ _
    (a.each k less) (b.each k less) refl refl))

pub one_length : (bytes : List ℕ) (map : Dictionary) (privates : List (Option Private)) (xs ys : List (List ℕ)) →
    AreSizedFor bytes map privates xs → AreSizedFor bytes map privates ys → length (index_text xs) ≡ length (index_text ys)
one_length bytes map privates xs ys a b =
    let same : a.0 ≡ b.0 = named_opened bytes map FDArray a.1.0 a.1.2.0 a.0 b.0 a.1.1 a.1.2.2 b.1 in
    same_sized b.0 privates xs ys (rw same at a.2) b.2

pub some_text : (select : Option (Vec ℕ Global)) (ds : List (List ℕ)) → is_none select ≡ false → index_text ds ≡ dictionaries_text select ds
some_text (Some s) ds h = refl
some_text None ds h = absurd (cc)

pub none_text : (select : Option (Vec ℕ Global)) → is_none select ≡ true → (dictionaries_text select [] ≡ []) × (IsSome select → ⊥)
none_text (Some s) h = absurd (cc)
none_text None h = (refl, λ some. absurd (cc))

pub same_text : (bytes : List ℕ) (map : Dictionary) (privates : List (Option Private)) (select : Option (Vec ℕ Global))
    (xs ys : List (List ℕ)) →
    (IsSome select → AreSizedFor bytes map privates xs) → (IsSome select → AreSizedFor bytes map privates ys) → length
    (dictionaries_text select xs) ≡ length (dictionaries_text select ys)
same_text bytes map privates None xs ys a b = refl
same_text bytes map privates (Some s) xs ys a b = one_length bytes map privates xs ys (a refl) (b refl)

-- the tables have one length, wherever the pieces stand
pub same_tables : (names strings : List (List ℕ)) (dictionary : List ℕ) (standard : Bool) (ps qs : List Piece) (m n : ℕ)
    (first second : List ℕ) → map bare ps ≡ map bare qs →
    HasSize dictionary (named_places standard m ps) (length first) → HasSize dictionary (named_places standard n qs) (length second) →
    length (tables_text names first strings) ≡ length (tables_text names second strings)
same_tables names strings dictionary standard ps qs m n first second same a b =
    let front : List Place = standard_place standard in
    let alike = together front front (places m ps) (places n qs) (record { names = refl; sizes = refl }) (all_alike ps qs m n same) in
    let single = same_single first second (one_size dictionary (named_places standard m ps) (named_places standard n qs) (length first)
    (length second) a b alike.names alike.sizes) in
    omega (arith, tables_length names strings first, tables_length names strings second, single)
