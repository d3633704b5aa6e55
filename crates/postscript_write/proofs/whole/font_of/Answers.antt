use Rattle.std.specs.declared.alloc.Global.{Global}
use Rattle.std.proofs.Common.{◌∙◌, sym, ap, List, Vec, ℕ, [], subst, inl, inr, length, get_or, arith}
use Rattle.std.proofs.lemmas.Result.{err_from_is_err_and}
use Rattle.postscript_type2.specs.Program.Routines.{texts}
use Rattle.postscript_view.specs.Value.{view_shown}
use Rattle.postscript_write.specs.Glyphs.{AreCodesOf}
use Rattle.postscript_write.specs.Refusals.{IsFirstLong, NeedsNoName}
use Rattle.postscript_write.specs.Sizes.{AreShort, IsLarge}
use Rattle.postscript_write.specs.Steps.{IsNotNumbered, RefusedBy}
use Rattle.postscript_write.proofs.Making.{if_err, if_ok, if_ok_both, memory_refused, names_none, not_numbered, too_large}
use Rattle.postscript_write.proofs.LongGlyphs.{empty_one, too_long}
use Rattle.postscript_write.proofs.Rests.{texts_many}
use Rattle.postscript_write.proofs.whole.font_of.Goals as goal

pub returns-in_err-set-clause-refused : goal.returns-in_err-set-clause-refused
returns-in_err-set-clause-refused c =
    let error = err_from_is_err_and c.from_residual.result c.from_residual.ensures.1 in
    rw (error.1, error.2) (λ n. inl (record { none = λ has. c.in_err-set.ensures.none has.0 has.1; why = c.in_err-set.ensures.why }))

pub returns-in_err-encoding-clause-refused : goal.returns-in_err-encoding-clause-refused
returns-in_err-encoding-clause-refused c =
    let error = err_from_is_err_and c.from_residual-in_err-encoding.result c.from_residual-in_err-encoding.ensures.1 in
    rw (error.1, error.2) (λ n. inr (record { none = λ has. c.in_err-encoding.ensures.none has.0 has.1; why = c.in_err-encoding.ensures.why }))

pub returns-clause-refused : goal.returns-clause-refused
returns-clause-refused c =
    if_err c.put_together.result
    (λ e memory. memory_refused c.args.font.now.bytes.now (view_shown c.args.font.now) c.args.sources.now e memory)
    c.put_together.ensures.memory

pub returns-then-is_large-clause-refused : goal.returns-then-is_large-clause-refused
returns-then-is_large-clause-refused c =
    let font = view_shown c.args.font.now in
    let bytes = c.args.font.now.bytes.now in
    let sources = c.args.sources.now in
    let numbers = c.in_ok-numbers.numbers.items in
    let flats = texts c.in_ok-codes.codes.items in
    let codes : AreCodesOf font sources numbers flats = subst
    (λ (ns : List ℕ). AreCodesOf font sources ns flats) c.deref.ensures.value c.in_ok-codes.ensures.codes in
    too_large bytes font sources numbers flats c.in_ok-numbers.ensures.numbers codes
    (subst (λ (cs : List (Vec ℕ Global)). IsLarge bytes font (texts cs)) c.deref-3.ensures.value c.if-is_large.ensures)

pub long_glyph-requires-clause-many : goal.long_glyph-requires-clause-many
long_glyph-requires-clause-many c =
    let many = c.in_ok-codes.ensures.codes.many in
    omega (arith, many, ap length c.deref-2.ensures.value, texts_many c.in_ok-codes.codes.items)

pub long_glyph-requires-clause-empty : goal.long_glyph-requires-clause-empty
long_glyph-requires-clause-empty c = λ i less none.
    ap (λ (cs : List (Vec ℕ Global)). length (get_or (texts cs) i [])) c.deref-2.ensures.value
    ∙ empty_one (view_shown c.args.font.now) c.args.sources.now c.deref.result.now (texts c.in_ok-codes.codes.items) c.in_ok-codes.ensures.codes i
    less none

pub returns-in-Some-clause-refused : goal.returns-in-Some-clause-refused
returns-in-Some-clause-refused c =
    too_long c.args.font.now.bytes.now (view_shown c.args.font.now) c.args.sources.now c.in_ok-numbers.numbers.items
    (texts c.in_ok-codes.codes.items) c.in-Some.glyph c.in_ok-numbers.ensures.numbers
    (subst (λ (ns : List ℕ). AreCodesOf (view_shown c.args.font.now) c.args.sources.now ns (texts c.in_ok-codes.codes.items))
    c.deref.ensures.value c.in_ok-codes.ensures.codes)
    (subst (λ (cs : List (Vec ℕ Global)). IsFirstLong c.args.sources.now (texts cs) c.in-Some.glyph) c.deref-2.ensures.value
    (rw c.in-Some.is at c.long_glyph.ensures.long))

pub returns-clause-short : goal.returns-clause-short
returns-clause-short c =
    let short : AreShort (texts c.in_ok-codes.codes.items) = subst (λ (cs : List (Vec ℕ Global)). AreShort (texts cs)) c.deref-2.ensures.value
    c.in_default.ensures.short in
    if_ok_both c.put_together.result (λ flat made codes. (
      made.0,
      made.1,
      subst AreShort (sym (codes made.0 made.1 ∙ ap (λ (cs : List (Vec ℕ Global)). texts cs) c.deref-5.ensures.value)) short,
    )) c.put_together.ensures.font c.put_together.ensures.codes

pub returns-clause-small : goal.returns-clause-small
returns-clause-small c =
    let font = view_shown c.args.font.now in
    let bytes = c.args.font.now.bytes.now in
    let codes : List (List ℕ) = texts c.in_ok-codes.codes.items in
    let small : IsLarge bytes font codes → ⊥ = subst
    (λ (cs : List (Vec ℕ Global)). IsLarge bytes font (texts cs) → ⊥) c.deref-3.ensures.value c.if-is_large.ensures in
    if_ok c.put_together.result
    (λ flat are new laid large. small
    (subst (IsLarge bytes font) (are new laid ∙ ap (λ (cs : List (Vec ℕ Global)). texts cs) c.deref-5.ensures.value) large))
    c.put_together.ensures.codes

pub returns-in_err-set-clause-names : goal.returns-in_err-set-clause-names
returns-in_err-set-clause-names c =
    let error = err_from_is_err_and c.from_residual.result c.from_residual.ensures.1 in
    rw (error.1, error.2) (λ kept. tt)

pub returns-in_err-encoding-clause-names : goal.returns-in_err-encoding-clause-names
returns-in_err-encoding-clause-names c =
    let error = err_from_is_err_and c.from_residual-in_err-encoding.result c.from_residual-in_err-encoding.ensures.1 in
    rw (error.1, error.2) (λ kept. tt)

pub returns-in_err-numbers-clause-names : goal.returns-in_err-numbers-clause-names
returns-in_err-numbers-clause-names c =
    let error = err_from_is_err_and c.from_residual-in_err-numbers.result c.from_residual-in_err-numbers.ensures.1 in
    rw (error.1, error.2) (λ kept. names_none (IsNotNumbered c.args.font.now.bytes.now (view_shown c.args.font.now) c.args.sources.now) (λ glyph h. h) _
    c.in_err-numbers.ensures.refused)

pub returns-in_err-numbers-clause-refused : goal.returns-in_err-numbers-clause-refused
returns-in_err-numbers-clause-refused c =
    let error = err_from_is_err_and c.from_residual-in_err-numbers.result c.from_residual-in_err-numbers.ensures.1 in
    rw (error.1, error.2) (not_numbered c.args.font.now.bytes.now (view_shown c.args.font.now) c.args.sources.now _ c.in_err-numbers.ensures.refused)

pub returns-in_err-codes-clause-names : goal.returns-in_err-codes-clause-names
returns-in_err-codes-clause-names c =
    let error = err_from_is_err_and c.from_residual-in_err-codes.result c.from_residual-in_err-codes.ensures.1 in
    rw (error.1, error.2) (λ kept. names_none (RefusedBy (view_shown c.args.font.now) c.args.sources.now c.deref.result.now) (λ glyph h. h) _
    c.in_err-codes.ensures.refused)

pub returns-clause-names : goal.returns-clause-names
returns-clause-names c = if_err c.put_together.result (λ e memory kept. subst NeedsNoName (sym memory) tt) c.put_together.ensures.memory
