use Rattle.std.proofs.Common.{◌≡◌, ◌∙◌, sym, ap, subst, ℕ, ◌<◌, List, [], ◌∷◌, ◌++◌, length, length-append, get_or, None, rules, arith, below_more}
use Rattle.std.proofs.lemmas.List.{get_or_default}
use Rattle.std.proofs.lemmas.Result.{err_from_is_err_and}
use Rattle.std.specs.Prelude.{All}
use Rattle.postscript_base.specs.Compact1.Dictionary.{Dictionary}
use Rattle.postscript_base.specs.Compact1.DictionaryLaw.{IsDictionary}
use Rattle.postscript_base.specs.Index.Lent.{items_of}
use Rattle.postscript_write.specs.Dictionaries.{IsHeld}
use Rattle.postscript_write.specs.DictionarySizes.{HasSize}
use Rattle.postscript_write.specs.Once.{IsToldOnce}
use Rattle.postscript_write.specs.Privates.{IsFontDictionary, IsSomeDictionary, place_of_private, private_offset}
use Rattle.postscript_write.proofs.Agree.{text_more}
use Rattle.postscript_write.proofs.Rests.{texts_many}
use Rattle.postscript_write.proofs.Arranged.{held, is_next}
use Rattle.postscript_write.proofs.layout.placed_dictionaries.Goals as goal

pub returns-in_err-font_dictionary-clause-refused : goal.returns-in_err-font_dictionary-clause-refused
returns-in_err-font_dictionary-clause-refused c =
    let error = err_from_is_err_and c.from_residual-in_err-font_dictionary.result c.from_residual-in_err-font_dictionary.ensures.1 in
    let at = rw c.in_ok-private.ensures.ok_part at c.get.ensures.lookup in
    let next = is_next c.args.privates.now c.loop-i.i c.in_ok-private.private.now at.3.0 at.1 in
    rw (error.1, error.2) (λ other all many few.
    let so_far = c.loop-i.invariant.offset (omega (arith, few)) in
    let one = subst IsSomeDictionary (sym c.item.ensures) (all c.loop-i.i c.item.result.now (omega (arith, c.len-i-end.ensures))) in
    c.in_err-font_dictionary.ensures.refused other
    (held c.in_ok-private.private.now c.loop-i.offset (omega (arith, next.more, next.within, so_far, few))) one.0 one.1)

pub loop-i-preserved : goal.loop-i-preserved
loop-i-preserved c =
    let items : List (List ℕ) = items_of c.args.sources.now in
    let privates = c.args.privates.now in
    let private = c.in_ok-private.private.now in
    let font = c.in_ok-font_dictionary.field-0 in
    let at = rw c.in_ok-private.ensures.ok_part at c.get.ensures.lookup in
    let next = is_next privates c.loop-i.i private at.3.0 at.1 in
    let less : c.loop-i.i < length items = omega (arith, c.len-i-end.ensures) in
    let item_is : get_or items c.loop-i.i [] ≡ c.item.result.now = get_or_default items c.loop-i.i [] c.item.result.now less
    ∙ sym c.item.ensures in
    let private_is : private ≡ get_or privates c.loop-i.i None = at.1 ∙ get_or_default privates c.loop-i.i private None at.3.0 in
    let many = c.loop-i.invariant.many in
    let more : c.push.new.self.items ≡ c.loop-i.all.items ++ font ∷ [] = search rules in
    let long = ap length more ∙ length-append c.loop-i.all.items (font ∷ []) in
    record {
      many = omega (arith, many, long);
      offset = λ fits. let so_far = c.loop-i.invariant.offset fits in omega (arith, next.more, next.within, so_far, fits);
      each = λ fits.
          text_more (λ k text. (old : Dictionary) → IsDictionary (get_or items k []) 0 old → IsFontDictionary old (get_or privates k None)
          (private_offset c.args.start privates k) text) c.loop-i.all.items c.push.new.self.items font c.loop-i.i many more
          (λ old is.
          subst (λ p. IsFontDictionary old p (private_offset c.args.start privates c.loop-i.i) font.items) private_is
          (subst (λ n. IsFontDictionary old private n font.items) (c.loop-i.invariant.offset fits)
          (c.in_ok-font_dictionary.ensures.placed old (subst (λ (bs : List ℕ). IsDictionary bs 0 old) item_is is))))
          (c.loop-i.invariant.each fits);
      held = λ fits.
          below_more (λ k. All IsHeld (place_of_private (get_or privates k None) (private_offset c.args.start privates k))) c.loop-i.i
          (c.loop-i.invariant.held fits)
          (subst (λ p. All IsHeld (place_of_private p (private_offset c.args.start privates c.loop-i.i))) private_is
          (subst (λ n. All IsHeld (place_of_private private n)) (c.loop-i.invariant.offset fits) c.in_ok-font_dictionary.ensures.held));
      once = text_more (λ k text. IsToldOnce text) c.loop-i.all.items c.push.new.self.items font c.loop-i.i many more
          c.in_ok-font_dictionary.ensures.once c.loop-i.invariant.once;
      sized =
          text_more (λ k text. HasSize (get_or items k []) (place_of_private (get_or privates k None) 0) (length text)) c.loop-i.all.items
          c.push.new.self.items font c.loop-i.i many more
          (subst (λ p. HasSize (get_or items c.loop-i.i []) (place_of_private p 0) (length font.items)) private_is
          (subst (λ (bs : List ℕ). HasSize bs (place_of_private private 0) (length font.items))
          (sym item_is) c.in_ok-font_dictionary.ensures.sized))
          c.loop-i.invariant.sized;
    }

pub returns-clause-placed : goal.returns-clause-placed
returns-clause-placed c = λ fits.
    let many = c.loop-i.invariant.many in
    let past = c.loop-i-test.false in
    let ends = c.len-i-end.ensures in
    let least = c.loop-i.auto.i-end in
    record {
      many = texts_many c.loop-i.all.items ∙ omega (arith, many, past, ends, least);
      each = λ k old less is. c.loop-i.invariant.each fits k (omega (arith, less, past, ends, least)) old is;
      once = λ k less. c.loop-i.invariant.once k (omega (arith, less, past, ends, least));
      held = λ k less. c.loop-i.invariant.held fits k (omega (arith, less, past, ends, least));
    }

pub returns-clause-sized : goal.returns-clause-sized
returns-clause-sized c =
    let many = c.loop-i.invariant.many in
    let past = c.loop-i-test.false in
    let ends = c.len-i-end.ensures in
    let least = c.loop-i.auto.i-end in
    record {
      many = texts_many c.loop-i.all.items ∙ omega (arith, many, past, ends, least);
      each = λ k less. c.loop-i.invariant.sized k (omega (arith, less, past, ends, least));
    }
