use Rattle.std.proofs.Common.{◌≡◌, sym, ap, subst, ◌∙◌, ℕ, ◌+◌, ◌^◌, ◌<◌, List, ◌++◌, length, map, Vec}
use Rattle.std.specs.Prelude.{All}
use Rattle.std.specs.declared.alloc.Global.{Global}
use Rattle.std.proofs.lemmas.Result.{err_from_is_err_and}
use Rattle.postscript_base.specs.Index.Lent.{items_of}
use Rattle.postscript_type2.specs.Program.Routines.{texts}
use Rattle.postscript_write.specs.ArrangedText.{tables_text}
use Rattle.postscript_write.specs.Dictionaries.{IsHeld, IsWithPlaces}
use Rattle.postscript_write.specs.DictionarySizes.{HasSize, places_size}
use Rattle.postscript_write.specs.Index.{FitsIndex}
use Rattle.postscript_write.specs.Once.{KeepsOrder}
use Rattle.postscript_write.specs.Pieces.{Piece, named_places, piece_shown, pieces_text}
use Rattle.postscript_write.specs.declared.dictionaries.Place.{Place}
use Rattle.postscript_write.proofs.layout.tables_of.Goals as goal

pub returns-clause-tables : goal.returns-clause-tables
returns-clause-tables c =
    let names : List (List ℕ) = items_of c.args.font.now.names in
    let dictionary : List ℕ = c.args.dictionary.now in
    let pieces : List Piece = map piece_shown c.args.pieces.now in
    let put = c.in_ok-put_tables.ensures.text in
    let places : c.args.start + length (pieces_text pieces) < 2 ^ 64 →
    c.deref-2.result.now ≡ named_places c.args.glyphs.now.standard c.args.start pieces =
    λ small. c.deref-2.ensures.value ∙ c.in_ok-places.ensures.places small in
    record {
      placed = put.0;
      text = put.1 ∙ ap (λ xs. xs ++ tables_text names put.0 (texts c.deref.result.now)) c.new-out.ensures.items
          ∙ ap (λ ts. tables_text names put.0 (texts ts)) c.deref.ensures.value;
      places = λ small. subst (λ ps. IsWithPlaces dictionary ps put.0) (places small) put.2.placed;
      sized = λ small. subst (λ ps. HasSize dictionary ps (length put.0)) (places small) put.2.sized;
      order = λ small. subst (λ ps. KeepsOrder dictionary ps put.0) (places small) put.2.order;
      held = λ small. subst (All IsHeld) (places small) c.in_ok-put_tables.ensures.held;
      names_fit = c.in_ok-put_tables.ensures.names_fit;
      dictionary_fits = put.2.fits;
      strings_fit = subst (λ ts. FitsIndex (texts ts)) c.deref.ensures.value c.in_ok-put_tables.ensures.strings_fit;
    }

pub returns-in_err-put_tables-clause-refused : goal.returns-in_err-put_tables-clause-refused
returns-in_err-put_tables-clause-refused c =
    let error = err_from_is_err_and c.from_residual-in_err-put_tables.result c.from_residual-in_err-put_tables.ensures.1 in
    rw (error.1, error.2) (λ other some end held few names strings.
    let places = sym (c.deref-2.ensures.value ∙ c.in_ok-places.ensures.places end) in
    c.in_err-put_tables.ensures.refused other (subst (All IsHeld) places held) some
    (subst (λ (ps : List Place). length c.args.dictionary.now + places_size ps < 2 ^ 31) places few) names
    (subst (λ (ts : List (Vec ℕ Global)). FitsIndex (texts ts)) (sym c.deref.ensures.value) strings))
