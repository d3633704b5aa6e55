use Rattle.std.proofs.Common.{◌≡◌, refl, sym, ◌∙◌, ap, subst, ◌++◌, ◌+◌, ◌<◌, ◌≤◌, ◌^◌, List, ℕ, length, length-append, map, arith}
use Rattle.std.proofs.lemmas.Result.{err_from_is_err_and}
use Rattle.postscript_base.specs.Index.Lent.{items_of}
use Rattle.postscript_type2.specs.Program.Routines.{texts}
use Rattle.postscript_write.specs.ArrangedText.{AreTablesOf, NamePrivates, dictionaries_text, is_single, pieces_for}
use Rattle.postscript_write.specs.Pieces.{Piece, piece_shown, pieces_of, pieces_text}
use Rattle.postscript_write.specs.Privates.{privates_text}
use Rattle.postscript_write.specs.declared.layout.Glyphs.{Glyphs}
use Rattle.postscript_write.proofs.Lengths.{same_tables, same_text}
use Rattle.postscript_write.proofs.Pieces.{all_end, texts_in}
use Rattle.postscript_write.proofs.Within.{RefusesTables, end_within, tables_end, tables_written}
use Rattle.postscript_write.proofs.layout.put_together.Goals as goal

alike : (glyphs : Glyphs) (char_strings : List ℕ) {single same : _} {a b d e : List ℕ} → single ≡ same → a ≡ b → d ≡ e →
    pieces_of glyphs char_strings single a d ≡ pieces_of glyphs char_strings same b e
alike glyphs char_strings {same = same} {a = a} {b = b} {d = d} x y z =
    ap (λ n. pieces_of glyphs char_strings n a d) x ∙ ap (λ n. pieces_of glyphs char_strings same n d) y
    ∙ ap (pieces_of glyphs char_strings same b) z

pub returns-clause-put : goal.returns-clause-put
returns-clause-put c =
    let font = c.args.font.now in
    let glyphs = c.args.glyphs.now in
    let char_strings = c.args.char_strings.now in
    let privates = c.args.privates.now in
    let dictionary = c.args.dictionary.now in
    let start : ℕ = c.len-start.result in
    let first = c.in_ok-draft.ensures.text in
    let second = c.in_ok-array.ensures.text in
    let sketch : List Piece = pieces_for glyphs char_strings privates first.0 in
    let pieces : List Piece = pieces_for glyphs char_strings privates second.0 in
    let draft = subst (λ ps. AreTablesOf font dictionary glyphs ps 0 c.in_ok-tables.tables.items)
    (c.pieces_of-pieces.ensures ∙ alike glyphs char_strings c.names_private-single.ensures
    (c.deref.ensures.value ∙ c.in_ok-text.ensures.text) (c.deref-2.ensures.value ∙ first.1)) c.in_ok-tables.ensures.tables in
    let pieces_are : map piece_shown c.pieces_of-pieces-2.result ≡ pieces = c.pieces_of-pieces-2.ensures
    ∙ alike glyphs char_strings c.names_private-single.ensures (c.deref-3.ensures.value ∙ c.in_ok-text.ensures.text)
    (c.deref-4.ensures.value ∙ second.1) in
    let put = subst (λ ps. AreTablesOf font dictionary glyphs ps start c.in_ok-out.out.items) pieces_are c.in_ok-out.ensures.tables in
    let text = c.in_ok-put_pieces.ensures.text ∙ ap (λ ps. c.in_ok-out.out.items ++ pieces_text ps) pieces_are in
    let long = ap length text ∙ length-append c.in_ok-out.out.items (pieces_text pieces) in
    let same = same_text font.bytes.now font.dictionary privates glyphs.select first.0 second.0 first.3 second.3 in
    let begins : start ≡ length c.in_ok-tables.tables.items = omega (arith, c.len-start.ensures, c.in_ok-tables.tables.ok.0) in
    let few = c.in_ok-tables.tables.small in
    let small = c.put_pieces.new.out.small in
    let room = c.put_pieces.new.out.ok.0 in
    let low : 0 + length (pieces_text sketch) < 2 ^ 64 = omega (arith, all_end (texts_in sketch) 0, all_end (texts_in pieces) 0, same, long, small, room) in
    let fits : start + length (pieces_text pieces) < 2 ^ 64 = omega (arith, long, begins, few, small, room, c.in_ok-tables.tables.ok.0) in
    let end = all_end (texts_in pieces) start in
    let place = c.private_place-place.ensures (omega (arith, end, fits)) in
    record {
      dictionaries = second.0;
      placed = put.placed;
      start = start;
      begins = sym (same_tables (items_of font.names) (texts glyphs.strings.texts.items) dictionary glyphs.standard sketch pieces 0 start
          draft.placed put.placed refl (draft.sized low) (put.sized fits)) ∙ sym (ap length draft.text) ∙ sym begins;
      text = text ∙ ap (λ xs. xs ++ pieces_text pieces) put.text;
      small = omega (arith, small, room);
      names_fit = put.names_fit;
      dictionary_fits = put.dictionary_fits;
      strings_fit = put.strings_fit;
      dictionaries_fit = second.4;
      places = put.places fits;
      order = put.order fits;
      held = put.held fits;
      private_places = subst (λ n. NamePrivates font.bytes.now font.dictionary glyphs.select privates n second.0) place
          (second.2 (omega (arith, place, end, fits)));
    }

pub returns-in_err-draft-clause-refused : goal.returns-in_err-draft-clause-refused
returns-in_err-draft-clause-refused c =
    let error = err_from_is_err_and c.from_residual-in_err-draft.result c.from_residual-in_err-draft.ensures.1 in
    rw (error.1, error.2) (λ other read selects codes room few own some long.
    let privates = few.privates in
    let all = room.all in
    c.in_err-draft.ensures.refused other read selects room.few_parts own (omega (arith, privates, all)))

pub returns-in_err-tables-clause-refused : goal.returns-in_err-tables-clause-refused
returns-in_err-tables-clause-refused c =
    let error = err_from_is_err_and c.from_residual-in_err-tables.result c.from_residual-in_err-tables.ensures.1 in
    let font = c.args.font.now in
    let glyphs = c.args.glyphs.now in
    let privates = c.args.privates.now in
    let first = c.in_ok-draft.ensures.text in
    let are = c.pieces_of-pieces.ensures ∙ alike glyphs c.args.char_strings.now c.names_private-single.ensures
    (c.deref.ensures.value ∙ c.in_ok-text.ensures.text) (c.deref-2.ensures.value ∙ first.1) in
    rw (error.1, error.2) (λ other read selects codes room few own some long.
    tables_written font glyphs codes c.args.char_strings.now (is_single glyphs.select privates) (privates_text privates)
    (dictionaries_text glyphs.select first.0) c.args.dictionary.now 0 room few
    (omega (arith, ap length first.1, c.in_ok-draft.ensures.few read selects room.few_parts)) long (omega arith) some
    (subst (λ ps. RefusesTables font glyphs c.args.dictionary.now ps 0) are (c.in_err-tables.ensures.refused other)))

pub returns-in_err-array-clause-refused : goal.returns-in_err-array-clause-refused
returns-in_err-array-clause-refused c =
    let error = err_from_is_err_and c.from_residual-in_err-array.result c.from_residual-in_err-array.ensures.1 in
    let font = c.args.font.now in
    let glyphs = c.args.glyphs.now in
    let privates = c.args.privates.now in
    let single = is_single glyphs.select privates in
    let first = c.in_ok-draft.ensures.text in
    let array : List ℕ = dictionaries_text glyphs.select first.0 in
    let sketch : List Piece = pieces_for glyphs c.args.char_strings.now privates first.0 in
    let draft = subst (λ ps. AreTablesOf font c.args.dictionary.now glyphs ps 0 c.in_ok-tables.tables.items)
    (c.pieces_of-pieces.ensures ∙ alike glyphs c.args.char_strings.now c.names_private-single.ensures
    (c.deref.ensures.value ∙ c.in_ok-text.ensures.text) (c.deref-2.ensures.value ∙ first.1)) c.in_ok-tables.ensures.tables in
    rw (error.1, error.2) (λ other read selects codes room few own some long.
    let less : length array ≤ 21000000 = omega (arith, ap length first.1, c.in_ok-draft.ensures.few read selects room.few_parts) in
    let begins = tables_end font glyphs codes c.args.char_strings.now single (privates_text privates) array c.args.dictionary.now 0 room few less
    long (omega arith) c.in_ok-tables.tables.items draft in
    let end = end_within font glyphs codes c.args.char_strings.now single (privates_text privates) array c.args.dictionary.now
    c.len-start.result room few less long (omega (arith, begins, c.len-start.ensures, c.in_ok-tables.tables.ok.0)) in
    let all = all_end (texts_in sketch) c.len-start.result in
    let place = c.private_place-place.ensures (omega (arith, all, end)) in
    c.in_err-array.ensures.refused other read selects room.few_parts own (omega (arith, place, all, end)))

pub returns-in_err-out-clause-refused : goal.returns-in_err-out-clause-refused
returns-in_err-out-clause-refused c =
    let error = err_from_is_err_and c.from_residual-in_err-out.result c.from_residual-in_err-out.ensures.1 in
    let font = c.args.font.now in
    let glyphs = c.args.glyphs.now in
    let privates = c.args.privates.now in
    let single = is_single glyphs.select privates in
    let first = c.in_ok-draft.ensures.text in
    let second = c.in_ok-array.ensures.text in
    let draft = subst (λ ps. AreTablesOf font c.args.dictionary.now glyphs ps 0 c.in_ok-tables.tables.items)
    (c.pieces_of-pieces.ensures ∙ alike glyphs c.args.char_strings.now c.names_private-single.ensures
    (c.deref.ensures.value ∙ c.in_ok-text.ensures.text) (c.deref-2.ensures.value ∙ first.1)) c.in_ok-tables.ensures.tables in
    let are = c.pieces_of-pieces-2.ensures ∙ alike glyphs c.args.char_strings.now c.names_private-single.ensures
    (c.deref-3.ensures.value ∙ c.in_ok-text.ensures.text) (c.deref-4.ensures.value ∙ second.1) in
    rw (error.1, error.2) (λ other read selects codes room few own some long.
    let begins = tables_end font glyphs codes c.args.char_strings.now single (privates_text privates) (dictionaries_text glyphs.select first.0)
    c.args.dictionary.now 0 room few (omega (arith, ap length first.1, c.in_ok-draft.ensures.few read selects room.few_parts)) long
    (omega arith) c.in_ok-tables.tables.items draft in
    tables_written font glyphs codes c.args.char_strings.now single (privates_text privates) (dictionaries_text glyphs.select second.0)
    c.args.dictionary.now c.len-start.result room few
    (omega (arith, ap length second.1, c.in_ok-array.ensures.few read selects room.few_parts)) long
    (omega (arith, begins, c.len-start.ensures, c.in_ok-tables.tables.ok.0)) some
    (subst (λ ps. RefusesTables font glyphs c.args.dictionary.now ps c.len-start.result) are (c.in_err-out.ensures.refused other)))
