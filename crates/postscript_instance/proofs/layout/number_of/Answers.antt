use Rattle.std.proofs.Common.{◌≡◌, Some, rules, arith}
use Rattle.postscript_instance.proofs.Dicts.{has-number, is-number}
use Rattle.postscript_instance.proofs.layout.number_of.Goals as goal

pub unwrap-requires : goal.unwrap-requires
unwrap-requires c = has-number c.args.font.now c.args.glyph c.number.result c.number.ensures.none c.requires.has

pub overflow_cast-result : goal.overflow_cast-result
overflow_cast-result c =
    let is : c.number.result ≡ Some c.unwrap.result = search rules in
    let has = is-number c.args.font.now c.args.glyph c.number.result c.unwrap.result is c.number.ensures.found c.requires.has in
    let few = c.requires.few in
    omega (arith, few, has.1)

pub returns : goal.returns
returns c =
    let is : c.number.result ≡ Some c.unwrap.result = search rules in
    is-number c.args.font.now c.args.glyph c.number.result c.unwrap.result is c.number.ensures.found c.requires.has
