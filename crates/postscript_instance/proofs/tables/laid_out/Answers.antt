use Rattle.std.proofs.Common.{◌∙◌, ◌∷◌, [], ℕ, Vec, ap, subst, sym, length, length-append, arith}
use Rattle.std.specs.List.{concat}
use Rattle.std.specs.declared.alloc.Global.{Global}
use Rattle.std.proofs.lemmas.List.{length-map}
use Rattle.std.proofs.lemmas.List.Elements.{All-head}
use Rattle.std.specs.Prelude.{All}
use Rattle.postscript_type2.specs.Program.Routines.{texts}
use Rattle.postscript_instance.specs.Encoded.{IsFontOf, IsKeyedBytes, IsNamedBytes}
use Rattle.postscript_instance.specs.Rooms.{glyphs_size}
use Rattle.postscript_instance.specs.Whole.{IsPrivate, IsWhole}
use Rattle.postscript_instance.proofs.Fonts.{keyed-font, named-font}
use Rattle.postscript_instance.proofs.Laying.{matrix-dict}
use Rattle.postscript_instance.proofs.Making.{few-codes, has-room, if-ok, keyed-whole, named-whole, only-one, sum-within}
use Rattle.postscript_instance.proofs.tables.laid_out.Goals as goal

pub laid_out_by_names-requires-clause-small : goal.laid_out_by_names-requires-clause-small
laid_out_by_names-requires-clause-small c =
    let sum = sum-within c.args.font.now c.args.naming.now c.args.codes.now c.args.privates.now c.args.matrix.now c.requires.room in
    let counted = rw c.in-Some.is at c.requires.counted in
    let many = length-map c.args.privates.now (λ (v : Vec ℕ Global). v.items) in
    let parts = c.requires.parts.0 in
    let one = only-one c.args.privates.now c.index-privates-0.result (omega (arith, many, parts, counted.1)) c.index-privates-0.is in
    omega (
      arith,
      sum,
      ap glyphs_size c.in-Some.is,
      c.in_ok-identifiers-in-Some.ensures.small,
      ap length c.deref.ensures.value,
      ap (λ xs. length (concat xs)) one,
      length-append c.index-privates-0.result.items [],
    )

pub laid_out_by_numbers-requires-clause-room : goal.laid_out_by_numbers-requires-clause-room
laid_out_by_numbers-requires-clause-room c =
    has-room c.args.font.now c.args.naming.now c.args.codes.now c.args.privates.now c.args.matrix.now c.requires.room c.in-None.is
    c.requires.parts.0

pub returns-in_ok-identifiers-in-Some-clause-font : goal.returns-in_ok-identifiers-in-Some-clause-font
returns-in_ok-identifiers-in-Some-clause-font c =
    let sum = sum-within c.args.font.now c.args.naming.now c.args.codes.now c.args.privates.now c.args.matrix.now c.requires.room in
    let few = few-codes c.args.font.now c.args.naming.now c.args.codes.now c.args.privates.now c.args.matrix.now c.requires.room in
    let counted = rw c.in-Some.is at c.requires.counted in
    let many = length-map c.args.privates.now (λ (v : Vec ℕ Global). v.items) in
    let parts = c.requires.parts.0 in
    let ids = c.in_ok-identifiers-in-Some.identifiers in
    let made = c.in_ok-identifiers-in-Some.ensures in
    let one = only-one c.args.privates.now c.index-privates-0.result (omega (arith, many, parts, counted.1)) c.index-privates-0.is
    ∙ ap (λ xs. xs ∷ []) (sym c.deref.ensures.value) in
    let private = c.deref.result.now in
    let is_private = All-head IsPrivate private [] (subst (All IsPrivate) one c.requires.parts.1) in
    if-ok (λ (out : Vec ℕ Global). IsNamedBytes c.args.naming.now.font.now c.args.matrix.now ids c.args.codes.now private out.items)
    (λ (out : Vec ℕ Global). IsFontOf c.args.font.now c.args.naming.now (texts c.args.codes.now) out.items) c.laid_out_by_names.result
    (λ out b. named-font c.args.font.now c.args.naming.now c.in-Some.names c.args.matrix.now c.requires.matrix.0 ids c.args.codes.now private
    out.items b (omega (arith, few)) (omega (arith, few, counted.0, made.few)) counted.0
    (omega (arith, sum, ap glyphs_size c.in-Some.is, made.small, ap (λ xs. length (concat xs)) one, length-append private []))
    (matrix-dict c.args.font.now.dictionary.bytes.now c.args.matrix.now c.requires.matrix.0 c.requires.matrix.1) is_private made.identified
    counted.1 c.requires.have c.in-Some.is) c.laid_out_by_names.ensures.bytes

pub returns-in_ok-identifiers-in-Some-clause-whole : goal.returns-in_ok-identifiers-in-Some-clause-whole
returns-in_ok-identifiers-in-Some-clause-whole c =
    let sum = sum-within c.args.font.now c.args.naming.now c.args.codes.now c.args.privates.now c.args.matrix.now c.requires.room in
    let few = few-codes c.args.font.now c.args.naming.now c.args.codes.now c.args.privates.now c.args.matrix.now c.requires.room in
    let counted = rw c.in-Some.is at c.requires.counted in
    let many = length-map c.args.privates.now (λ (v : Vec ℕ Global). v.items) in
    let parts = c.requires.parts.0 in
    let ids = c.in_ok-identifiers-in-Some.identifiers in
    let made = c.in_ok-identifiers-in-Some.ensures in
    let identified = made.identified in
    let one = only-one c.args.privates.now c.index-privates-0.result (omega (arith, many, parts, counted.1)) c.index-privates-0.is
    ∙ ap (λ xs. xs ∷ []) (sym c.deref.ensures.value) in
    let private = c.deref.result.now in
    if-ok (λ (out : Vec ℕ Global). IsNamedBytes c.args.naming.now.font.now c.args.matrix.now ids c.args.codes.now private out.items)
    (λ (out : Vec ℕ Global). IsWhole c.args.font.now c.args.naming.now (texts c.args.codes.now) (texts c.args.privates.now) out.items)
    c.laid_out_by_names.result
    (λ out b. named-whole c.args.font.now c.args.naming.now c.in-Some.names c.args.matrix.now c.requires.matrix.0 ids c.args.codes.now
    c.args.privates.now private out.items b (omega (arith, few)) (omega (arith, few, counted.0, made.few))
    (identified.counted ∙ counted.0)
    (omega (arith, sum, ap glyphs_size c.in-Some.is, made.small, ap (λ xs. length (concat xs)) one, length-append private []))
    c.requires.matrix.1 made.are one c.in-Some.is) c.laid_out_by_names.ensures.bytes

pub returns-in-None-clause-font : goal.returns-in-None-clause-font
returns-in-None-clause-font c =
    let many = length-map c.args.privates.now (λ (v : Vec ℕ Global). v.items) in
    let room = has-room c.args.font.now c.args.naming.now c.args.codes.now c.args.privates.now c.args.matrix.now c.requires.room c.in-None.is
    c.requires.parts.0 in
    if-ok (λ (out : Vec ℕ Global). IsKeyedBytes c.args.font.now c.args.naming.now.font.now c.args.matrix.now c.args.codes.now
    c.args.privates.now out.items)
    (λ (out : Vec ℕ Global). IsFontOf c.args.font.now c.args.naming.now (texts c.args.codes.now) out.items) c.laid_out_by_numbers.result
    (λ out b. keyed-font c.args.font.now c.args.naming.now c.args.matrix.now c.requires.matrix.0 c.args.codes.now c.args.privates.now out.items b
    room (matrix-dict c.args.font.now.dictionary.bytes.now c.args.matrix.now c.requires.matrix.0 c.requires.matrix.1)
    (sym many ∙ c.requires.parts.0) c.requires.parts.1 c.in-None.is) c.laid_out_by_numbers.ensures.bytes

pub returns-in-None-clause-whole : goal.returns-in-None-clause-whole
returns-in-None-clause-whole c =
    let many = length-map c.args.privates.now (λ (v : Vec ℕ Global). v.items) in
    let room = has-room c.args.font.now c.args.naming.now c.args.codes.now c.args.privates.now c.args.matrix.now c.requires.room c.in-None.is
    c.requires.parts.0 in
    if-ok (λ (out : Vec ℕ Global). IsKeyedBytes c.args.font.now c.args.naming.now.font.now c.args.matrix.now c.args.codes.now
    c.args.privates.now out.items)
    (λ (out : Vec ℕ Global). IsWhole c.args.font.now c.args.naming.now (texts c.args.codes.now) (texts c.args.privates.now) out.items)
    c.laid_out_by_numbers.result
    (λ out b. keyed-whole c.args.font.now c.args.naming.now c.args.matrix.now c.requires.matrix.0 c.args.codes.now c.args.privates.now
    out.items b room c.requires.matrix.1 (sym many ∙ c.requires.parts.0) c.in-None.is) c.laid_out_by_numbers.ensures.bytes
