use Rattle.std.proofs.Common.{ap, [], ◌∷◌, length, length-append, arith}
use Rattle.postscript_base.specs.Index.Lent.{items_of}
use Rattle.postscript_write.proofs.Identifying.{identified, named_before, one_more_told}
use Rattle.postscript_write.proofs.Making.{nameless}
use Rattle.postscript_write.proofs.numbering.identifiers_of.Goals as goal

pub returns-in-Err-clause-refused : goal.returns-in-Err-clause-refused
returns-in-Err-clause-refused c =
    nameless c.args.font.now c.args.set.now c.args.sources.now c.loop-i.i c.in-Err.e c.requires.set (omega arith)
    (named_before c.args.set.now c.args.sources.now c.loop-i.identifiers.items c.loop-i.i c.loop-i.invariant.each) c.in-Err.ensures.refused

pub loop-i-preserved : goal.loop-i-preserved
loop-i-preserved c =
    let now = c.loop-i.invariant in
    let past = c.loop-i.auto.i in
    let many = now.many in
    record {
      many = omega (
        arith,
        ap length c.in_ok-push.ensures.items,
        many,
        past,
        length-append c.loop-i.identifiers.items (c.in-Ok.identifier ∷ []),
      );
      each = one_more_told c.args.set.now c.args.sources.now c.loop-i.identifiers.items c.push.new.self.items c.in-Ok.identifier
          c.loop-i.i past c.loop-i-test.true c.requires.renewed many c.in_ok-push.ensures.items c.in-Ok.ensures.named c.in-Ok.ensures.low
          now.each;
    }

pub returns-clause-identified : goal.returns-clause-identified
returns-clause-identified c =
    let now = c.loop-i.invariant in
    let some = c.requires.renewed.some in
    let end = c.loop-i.auto.i-end (omega (arith, some)) in
    identified c.args.set.now c.args.font.now.bytes.now c.args.font.now.dictionary
    (length (items_of c.args.font.now.char_strings)) c.args.sources.now c.loop-i.identifiers.items c.loop-i.i
    c.requires.set c.requires.renewed c.requires.there c.loop-i-test.false end c.loop-i.auto.i now.many now.each
