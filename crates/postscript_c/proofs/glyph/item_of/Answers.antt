use Rattle.std.proofs.Common.{ℕ, subst, sym, arith}
use Rattle.postscript_base.specs.Index.Lent.{items_of}
use Rattle.postscript_c.specs.CidParts.{HasNumber}
use Rattle.postscript_c.proofs.Selecting.{item-found, no-item}
use Rattle.postscript_c.proofs.glyph.item_of.Goals as goal

pub returns-clause-found : goal.returns-clause-found
returns-clause-found c =
    let items = items_of c.args.dictionaries.now in
    let numbered = subst (λ (n : ℕ). HasNumber c.args.bytes.now c.args.font.now n c.args.glyph c.in-Some.fd) c.len.ensures
    c.in-Some.ensures.found in
    item-found c.args.bytes.now c.args.font.now items c.args.glyph c.in-Some.fd c.get.result (omega arith) numbered c.get.ensures

pub returns-clause-none : goal.returns-clause-none
returns-clause-none c =
    let items = items_of c.args.dictionaries.now in
    let numbered = subst (λ (n : ℕ). HasNumber c.args.bytes.now c.args.font.now n c.args.glyph c.in-Some.fd) c.len.ensures
    c.in-Some.ensures.found in
    no-item c.args.bytes.now c.args.font.now items c.args.glyph c.in-Some.fd c.get.result numbered c.get.ensures

pub returns-in_default-clause-none : goal.returns-in_default-clause-none
returns-in_default-clause-none c = λ item has.
    c.in_default.ensures.none has.fd
    (subst (λ (n : ℕ). HasNumber c.args.bytes.now c.args.font.now n c.args.glyph has.fd) (sym c.len.ensures) has.numbered)
