use Rattle.std.proofs.Common.{◌<◌, ◌^◌, sym, ap, subst, ◌∙◌, length, get_or, arith}
use Rattle.postscript_type2.specs.Program.Routines.{texts}
use Rattle.postscript_view.specs.Contents.{View}
use Rattle.postscript_view.specs.Value.{view_shown}
use Rattle.postscript_write.proofs.Counts.{numbers_low}
use Rattle.postscript_write.proofs.Distinct.{stands_alone}
use Rattle.postscript_write.proofs.GivenBack.{codes_back, given, their_numbers}
use Rattle.postscript_write.proofs.Identifying.{few_for}
use Rattle.postscript_write.proofs.LaidOut.{laid_out}
use Rattle.postscript_write.proofs.Little.{are_little}
use Rattle.postscript_write.proofs.NamesBack.{names_back}
use Rattle.postscript_write.proofs.NoByteBeside.{dictionary_is}
use Rattle.postscript_write.proofs.Put.{tables_stand}
use Rattle.postscript_write.proofs.ReadAgain.{font_as, keep_them, one_view}
use Rattle.postscript_write.proofs.SetStands.{set_there, unnamed_there}
use Rattle.postscript_write.proofs.Spare.{has_room}
use Rattle.postscript_write.proofs.WholeAgain.{stays_whole}
use Rattle.postscript_write.proofs.WrittenBack.{as_written, codes_there, other_codes_there}
use Rattle.postscript_write.specs.Fonts.{NamesItsParts}
use Rattle.postscript_write.specs.Given.{AreGiven}
use Rattle.postscript_write.specs.GivenNumbers.{AreTheirNumbers}
use Rattle.postscript_write.specs.Numbered.{AreGlyphsFor}
use Rattle.postscript_write.specs.ReadBack.{HasCharSetText}
use Rattle.postscript_write.specs.Room.{HasRoom}
use Rattle.postscript_write.proofs.whole.put_together.Goals as goal

pub number_glyphs-requires-clause-set : goal.number_glyphs-requires-clause-set
number_glyphs-requires-clause-set c = (c.args.from.now.set.now, c.requires.set)

pub number_glyphs-requires-clause-encoding : goal.number_glyphs-requires-clause-encoding
number_glyphs-requires-clause-encoding c = (c.args.from.now.encoding.now, c.requires.encoding)

pub returns-in-Ok-clause-made : goal.returns-in-Ok-clause-made
returns-in-Ok-clause-made c =
    let from = c.args.from.now in
    let font = from.font.now in
    let numbers = from.numbers.now in
    let codes = texts from.codes.now in
    let sources = from.sources.now in
    let identifiers = c.args.identifiers.now in
    let glyphs = c.in_ok-glyphs.glyphs in
    let found = c.in_ok-glyphs.ensures in
    let few = c.requires.few in
    let as_many = c.requires.numbers.many in
    let many = c.requires.codes.many in
    let are : AreGlyphsFor font numbers identifiers glyphs =
    record {
      exactly =
          found.selects;
      select = found.select;
      strings = found.strings;
      char_set = found.char_set;
      encoding = found.encoding;
    } in
    let low = numbers_low font.bytes.now (view_shown font) sources numbers c.requires.low c.requires.numbers in
    let less : length numbers < 2 ^ 16 = omega (arith, few, as_many) in
    let all : AreGiven font glyphs (length codes) =
    subst (AreGiven font glyphs) (as_many ∙ sym many)
    (given font glyphs numbers from.retain_gids from.set.now sources identifiers c.requires.sources as_many low less are) in
    let their : AreTheirNumbers font glyphs (length codes) numbers =
    their_numbers font glyphs numbers from.retain_gids from.set.now sources identifiers
    (length codes) c.requires.sources c.requires.numbers many low less found.select in
    let w = c.in-Ok.ensures.written in
    let t = tables_stand w c.requires.read.laid.tables in
    let laid = laid_out font glyphs codes c.in-Ok.flat.items w c.requires.read found.selects in (
      laid.view,
      record {
        laid = laid.laid;
        written = as_written font glyphs codes c.in-Ok.flat.items w c.requires.read found.selects all numbers their laid.view laid.laid;
        names = names_back font glyphs codes c.in-Ok.flat.items w c.requires.read found.selects from.retain_gids sources identifiers
            from.set.now c.requires.set
            (record { sources_are = c.requires.sources; strings = found.strings; char_set = found.char_set }) many laid.view laid.laid;
        same_codes =
            codes_back font glyphs from.retain_gids from.set.now _ sources identifiers from.encoding.now c.in-Ok.flat.items
            laid.view.tables.dictionary c.requires.sources found.encoding
            (codes_there w t laid.view laid.laid from.encoding.now c.requires.encoding)
            (other_codes_there w t laid.view laid.laid from.encoding.now c.requires.encoding);
        unnamed = subst NamesItsParts (dictionary_is w t laid.view laid.laid) (unnamed_there w t found.selects);
      },
    )

pub returns-in-Ok-clause-font : goal.returns-in-Ok-clause-font
returns-in-Ok-clause-font c =
    let from = c.args.from.now in
    let made = returns-in-Ok-clause-made c in (
      made.0,
      made.1.laid,
      font_as from.sources.now from.font.now.bytes.now (view_shown from.font.now) from.set.now from.encoding.now from.numbers.now
          (texts from.codes.now) c.in-Ok.flat.items made.0 c.requires.encoding
          from.retain_gids (keep_them from.retain_gids from.set.now _ from.sources.now c.args.identifiers.now c.requires.sources)
          c.requires.set c.requires.numbers c.requires.codes made.1,
    )

pub returns-in-Ok-clause-whole : goal.returns-in-Ok-clause-whole
returns-in-Ok-clause-whole c =
    let made = returns-in-Ok-clause-made c in
    (made.0, made.1.laid, made.1.written.whole)

pub returns-in-Ok-clause-once : goal.returns-in-Ok-clause-once
returns-in-Ok-clause-once c =
    let from = c.args.from.now in
    let font = from.font.now in
    let found = c.in_ok-glyphs.ensures in
    let glyphs = c.in_ok-glyphs.glyphs in
    let laid = laid_out font glyphs (texts from.codes.now) c.in-Ok.flat.items c.in-Ok.ensures.written c.requires.read found.selects in
    record {
      font = laid.view;
      laid = laid.laid;
      dictionary = laid.dictionary_once (stands_alone font c.args.identifiers.now glyphs found.encoding);
      font_dictionaries = laid.dictionaries_once;
    }

pub returns-in-Ok-clause-ros : goal.returns-in-Ok-clause-ros
returns-in-Ok-clause-ros c =
    let from = c.args.from.now in
    let laid = laid_out from.font.now c.in_ok-glyphs.glyphs (texts from.codes.now) c.in-Ok.flat.items c.in-Ok.ensures.written c.requires.read
    c.in_ok-glyphs.ensures.selects in
    (laid.view, laid.laid, laid.ros)

pub returns-in-Ok-clause-selects : goal.returns-in-Ok-clause-selects
returns-in-Ok-clause-selects c =
    let from = c.args.from.now in
    let made = returns-in-Ok-clause-made c in
    let numbers = from.numbers.now in
    let counted = c.requires.numbers.many in
    let many = c.requires.codes.many in (
      made.0,
      made.1.laid,
      λ keyed glyph less.
          let there : glyph < length numbers = omega (arith, less, ap length made.1.written.char_strings, many, counted) in
          (get_or numbers glyph 0, made.1.written.selected keyed glyph there, (made.1.written.parts glyph there).there),
    )

pub returns-in-Ok-clause-codes : goal.returns-in-Ok-clause-codes
returns-in-Ok-clause-codes c = λ new is.
    let made = returns-in-Ok-clause-made c in
    ap (λ (v : View). v.char_strings) (sym (one_view c.in-Ok.flat.items new made.0 is made.1.laid)) ∙ made.1.written.char_strings

pub returns-in-Ok-clause-lenient : goal.returns-in-Ok-clause-lenient
unfolding returns-in-Ok-clause-made
returns-in-Ok-clause-lenient c = λ was.
    let from = c.args.from.now in
    let font = from.font.now in
    let found = c.in_ok-glyphs.ensures in
    let made = returns-in-Ok-clause-made c in
    let glyphs = c.in_ok-glyphs.glyphs in
    let w = c.in-Ok.ensures.written in
    let t = tables_stand w c.requires.read.laid.tables in
    let laid = laid_out font glyphs (texts from.codes.now) c.in-Ok.flat.items w c.requires.read found.selects in
    stays_whole font glyphs from.retain_gids from.set.now from.sources.now c.args.identifiers.now from.encoding.now
    from.numbers.now (texts from.codes.now) c.in-Ok.flat.items laid.view
    c.requires.read c.requires.encoding c.requires.sources c.requires.codes found.strings found.char_set made.1 laid.strings
    (subst (λ map. HasCharSetText font.dictionary glyphs.char_set c.in-Ok.flat.items map) (dictionary_is w t laid.view laid.laid)
    (set_there w t)) was

pub returns-clause-memory : goal.returns-clause-memory
returns-clause-memory c =
    let font = c.args.from.now.font.now in
    let numbers = c.args.from.now.numbers.now in
    let codes = texts c.args.from.now.codes.now in
    let glyphs = c.in_ok-glyphs.glyphs in
    let found = c.in_ok-glyphs.ensures in
    let few = c.requires.few in
    let as_many = c.requires.numbers.many in
    let many = c.requires.codes.many in
    let are : AreGlyphsFor font numbers c.args.identifiers.now glyphs =
    record {
      exactly =
          found.selects;
      select = found.select;
      strings = found.strings;
      char_set = found.char_set;
      encoding = found.encoding;
    } in
    let less : length codes < 2 ^ 16 = omega (arith, few, many) in
    let listed = few_for c.args.from.now.retain_gids c.args.from.now.set.now _ c.args.from.now.sources.now c.args.identifiers.now
    c.requires.sources few in
    let room : HasRoom font glyphs codes = has_room font glyphs codes c.requires.read c.requires.low less c.requires.small
    (are_little font numbers c.args.identifiers.now glyphs (omega (arith, few, as_many)) listed are) in
    c.of_memory.ensures.memory (λ other. c.in-Err.ensures.refused other c.requires.read found.selects.0 room)
