use Rattle.std.proofs.Common.{◌≡◌, ◌∙◌, ◌++◌, ◌∷◌, [], ◌<◌, ◌≤◌, get_or, sym, ap, subst, rules, Some, None, length, length-append, slice_get, arith}
use Rattle.std.proofs.lemmas.List.{length-map, take_all}
use Rattle.std.proofs.lemmas.List.Sums.{sum_by_more}
use Rattle.std.proofs.lemmas.Grind.{flat_map-append}
use Rattle.std.specs.List.{sum_by}
use Rattle.std.specs.Option.{unwrap_or}
use Rattle.postscript_base.specs.Compact1.Defaults.{look, first_two_of}
use Rattle.postscript_base.specs.declared.compact1.operator.Operator.TheVariants as operators
use Rattle.postscript_view.specs.Sizes.{size_named}
use Rattle.std.proofs.lemmas.Option.{slice_get_within}
use Rattle.std.proofs.lemmas.Result.{err_from_is_err_and}
use Rattle.postscript_view.specs.Layout.{IsPart}
use Rattle.postscript_view.specs.Contents.{PrivateDict}
use Rattle.postscript_view.specs.Value.{part_shown, parts_shown}
use Rattle.postscript_write.specs.Privates.{IsOwnPrivate, private_text, privates_text}
use Rattle.postscript_write.proofs.Few.{named_size, privates_few}
use Rattle.postscript_write.proofs.Agree.{one_more}
use Rattle.postscript_write.proofs.Likeness.{shown_at}
use Rattle.postscript_write.proofs.Privates.{each_part}
use Rattle.postscript_write.proofs.layout.own_privates.Goals as goal

pub returns-in_err-private-clause-refused : goal.returns-in_err-private-clause-refused
returns-in_err-private-clause-refused c =
    let error = err_from_is_err_and c.from_residual.result c.from_residual.ensures.1 in
    let font = c.args.font.now in
    let shown = part_shown c.index.result.now in
    let less : c.loop-i.i < length font.parts.items = omega (arith, c.len-i-end.ensures) in
    rw (error.1, error.2) (λ other are.
    c.in_err-private.ensures.refused other shown.font shown
    (subst (λ m. IsPart font.bytes.now m shown.font shown) (sym c.naming_dictionary-dictionary.ensures)
    (each_part font.bytes.now font.dictionary (parts_shown font.parts.items) c.loop-i.i shown are
    (shown_at font.parts.items c.loop-i.i c.index.result.now less (search rules)))))

pub loop-i-preserved : goal.loop-i-preserved
loop-i-preserved c =
    let font = c.args.font.now in
    let shown = part_shown c.index.result.now in
    let less : c.loop-i.i < length font.parts.items = omega (arith, c.len-i-end.ensures) in
    let at = shown_at font.parts.items c.loop-i.i c.index.result.now less (search rules) in
    let so_far = c.loop-i.invariant in
    let many = so_far.many in
    let more : c.push.new.self.items ≡ c.loop-i.privates.items ++ c.in_ok-private.private ∷ [] = search rules in
    let long = ap length more ∙ length-append c.loop-i.privates.items (c.in_ok-private.private ∷ []) in
    record {
      many = omega (arith, many, long);
      each = λ are.
          one_more None (λ k private. (part : PrivateDict) → slice_get
          (parts_shown font.parts.items) k ≡ Some part → IsOwnPrivate part private) c.loop-i.privates.items c.push.new.self.items
          c.in_ok-private.private c.loop-i.i many more
          (λ part there.
          let both : Some shown ≡ Some part = sym at ∙ there in
          let same : shown ≡ part = cc in
          subst (λ (p : PrivateDict). IsOwnPrivate p c.in_ok-private.private) same (c.in_ok-private.ensures.own shown.font shown
          (subst (λ m. IsPart font.bytes.now m shown.font shown) (sym c.naming_dictionary-dictionary.ensures)
          (each_part font.bytes.now font.dictionary (parts_shown font.parts.items) c.loop-i.i shown are at))))
          (so_far.each are);
      named =
          one_more None (λ k private. (part : PrivateDict) → slice_get
          (parts_shown font.parts.items) k ≡ Some part → private ≡ None → first_two_of
          (look (unwrap_or part.font font.dictionary) operators.Private) ≡ None) c.loop-i.privates.items c.push.new.self.items
          c.in_ok-private.private c.loop-i.i many more
          (λ part there none.
          let both : Some shown ≡ Some part = sym at ∙ there in
          let same : shown ≡ part = cc in
          subst (λ (p : PrivateDict). first_two_of (look (unwrap_or p.font font.dictionary) operators.Private) ≡ None) same
          (subst (λ m. first_two_of (look m operators.Private) ≡ None) c.naming_dictionary-dictionary.ensures
          (c.in_ok-private.ensures.named none)))
          so_far.named;
      sized =
          let text = ap privates_text more ∙ flat_map-append private_text c.loop-i.privates.items (c.in_ok-private.private ∷ []) in
          let both = ap length text
          ∙ length-append (privates_text c.loop-i.privates.items) (privates_text (c.in_ok-private.private ∷ [])) in
          let one = length-append (private_text c.in_ok-private.private) [] in
          let sum = sum_by_more (named_size font.dictionary) font.parts.items c.loop-i.i c.index.result.now less in
          let is : c.index.result.now ≡ get_or font.parts.items c.loop-i.i c.index.result.now = search rules in
          let own = ap (named_size font.dictionary) is in
          let named = ap (λ m. size_named (first_two_of (look m operators.Private))) c.naming_dictionary-dictionary.ensures in
          let before = so_far.sized in
          let most = c.in_ok-private.ensures.sized in
          omega (arith, both, one, sum, own, named, before, most);
      within = one_more None (λ k private. length (private_text private) ≤ length font.bytes.now) c.loop-i.privates.items
          c.push.new.self.items c.in_ok-private.private c.loop-i.i many more c.in_ok-private.ensures.within so_far.within;
    }

pub returns-clause-own : goal.returns-clause-own
returns-clause-own c = λ are.
    let font = c.args.font.now in
    let so_far = c.loop-i.invariant in
    let many = so_far.many in
    let long : length (parts_shown font.parts.items) ≡ length font.parts.items = length-map font.parts.items part_shown in
    let past = c.loop-i-test.false in
    let ends = c.len-i-end.ensures in
    let least = c.loop-i.auto.i-end in
    record {
      many = omega (arith, many, long, past, ends, least);
      each = λ k part at. let within = slice_get_within (parts_shown font.parts.items) k part at in
          so_far.each are k (omega (arith, within, long, past, ends, least)) part at;
    }

pub returns-clause-few : goal.returns-clause-few
returns-clause-few c = λ read.
    let font = c.args.font.now in
    let so_far = c.loop-i.invariant in
    let many = so_far.many in
    let sized = so_far.sized in
    let past = c.loop-i-test.false in
    let ends = c.len-i-end.ensures in
    let least = c.loop-i.auto.i-end in
    let all = ap (sum_by (named_size font.dictionary)) (take_all c.loop-i.i font.parts.items (omega (arith, past, ends, least))) in
    privates_few font.bytes.now font.dictionary font.parts.items c.loop-i.privates.items read.laid.parts read.few
    (omega (arith, many, past, ends, least)) (omega (arith, sized, all))
    (λ k less. so_far.within k (omega (arith, less, past, ends, least)))

pub returns-clause-named : goal.returns-clause-named
returns-clause-named c = λ k part at none.
    let so_far = c.loop-i.invariant in
    let font = c.args.font.now in
    let long : length (parts_shown font.parts.items) ≡ length font.parts.items = length-map font.parts.items part_shown in
    let past = c.loop-i-test.false in
    let ends = c.len-i-end.ensures in
    let least = c.loop-i.auto.i-end in
    let within = slice_get_within (parts_shown font.parts.items) k part at in
    so_far.named k (omega (arith, within, long, past, ends, least)) part at none
