use Rattle.std.proofs.Common.{◌≡◌, ◌∙◌, ◌∷◌, [], ◌++◌, ap, length, arith}
use Rattle.std.proofs.lemmas.List.{length-map}
use Rattle.postscript_type2.specs.Program.Routines.{texts}
use Rattle.postscript_write.specs.ArrangedText.{tables_text}
use Rattle.postscript_write.proofs.Room.{they_fit}
use Rattle.postscript_instance.specs.Encoded.{named_places, named_text}
use Rattle.postscript_instance.specs.declared.layout.Places.{Places}
use Rattle.postscript_instance.proofs.Bytes.{named-bytes, named-small}
use Rattle.postscript_instance.proofs.layout.laid_out_by_names.Goals as goal

abbrev none : Places
none = record { char_set = 0; select = 0; char_strings = 0; private = 0; array = 0 }

pub char_strings_of-requires : goal.char_strings_of-requires
char_strings_of-requires c =
    let codes = c.args.codes.now in
    let few = c.requires.few_codes in
    let small = c.requires.small in
    they_fit (texts codes) (omega (arith, few, length-map codes (λ v. v.items))) (omega (arith, small))

pub named_places-places-requires : goal.named_places-places-requires
named_places-places-requires c =
    let head = c.in_ok-named_head.ensures.text
    ∙ ap (λ xs. tables_text (c.args.name.now ∷ []) (named_text c.args.matrix.now (length c.args.private.now) none) (texts xs))
    c.deref.ensures.value in
    let small = named-small c.args.name.now c.args.matrix.now c.args.identifiers.now c.args.codes.now c.args.private.now c.in_ok-set.set.items
    c.in_ok-named_head.field-0.items none c.requires.few_codes c.requires.few_strings c.requires.counted c.requires.small
    c.in_ok-set.ensures.set head in
    omega (
      arith,
      small,
      c.len-start.ensures,
      ap length c.deref-2.ensures.value,
      ap length (c.deref-3.ensures.value ∙ c.in_ok-char_strings.ensures.text),
    )

pub named_head-requires-2-clause-places : goal.named_head-requires-2-clause-places
named_head-requires-2-clause-places c =
    let head = c.in_ok-named_head.ensures.text
    ∙ ap (λ xs. tables_text (c.args.name.now ∷ []) (named_text c.args.matrix.now (length c.args.private.now) none) (texts xs))
    c.deref.ensures.value in
    let small = named-small c.args.name.now c.args.matrix.now c.args.identifiers.now c.args.codes.now c.args.private.now c.in_ok-set.set.items
    c.in_ok-named_head.field-0.items none c.requires.few_codes c.requires.few_strings c.requires.counted c.requires.small
    c.in_ok-set.ensures.set head in
    let start = c.len-start.ensures in
    let d1 = ap length c.deref-2.ensures.value in
    let d2 = ap length (c.deref-3.ensures.value ∙ c.in_ok-char_strings.ensures.text) in
    let is = c.named_places-places.ensures in
    record {
      char_set = omega (arith, small, start, ap (λ (p : Places). p.char_set) is);
      select = omega (arith, ap (λ (p : Places). p.select) is);
      char_strings = omega (arith, small, start, d1, ap (λ (p : Places). p.char_strings) is);
      private = omega (arith, small, start, d1, d2, ap (λ (p : Places). p.private) is);
      array = omega (arith, ap (λ (p : Places). p.array) is);
    }

pub returns-clause-bytes : goal.returns-clause-bytes
returns-clause-bytes c =
    let name = c.args.name.now in
    let matrix = c.args.matrix.now in
    let private = c.args.private.now in
    let set = c.in_ok-set.set.items in
    let start = c.len-start.result in
    let long : start ≡ length c.in_ok-named_head.field-0.items = omega (arith, c.len-start.ensures) in
    let head = c.in_ok-named_head.ensures.text
    ∙ ap (λ xs. tables_text (name ∷ []) (named_text matrix (length private) none) (texts xs)) c.deref.ensures.value in
    let small = named-small name matrix c.args.identifiers.now c.args.codes.now private set c.in_ok-named_head.field-0.items none
    c.requires.few_codes c.requires.few_strings c.requires.counted c.requires.small c.in_ok-set.ensures.set head in
    let places = c.named_places-places.ensures ∙ ap (λ xs. named_places start xs c.deref-3.result.now) c.deref-2.ensures.value
    ∙ ap (named_places start set) c.deref-3.ensures.value in
    named-bytes name matrix c.args.identifiers.now c.args.codes.now private set c.in_ok-char_strings.char_strings.items
    c.in_ok-named_head.field-0.items start none c.named_places-places.result c.in_ok-out.out.items c.extend_from_slice.new.self.items
    c.extend_from_slice-2.new.self.items c.extend_from_slice-3.new.self.items c.in_ok-set.ensures.set c.in_ok-char_strings.ensures.text
    head long places (omega (arith, small, long))
    (c.in_ok-out.ensures.text
    ∙ ap (λ xs. tables_text (name ∷ []) (named_text matrix (length private) c.named_places-places.result) (texts xs)) c.deref-4.ensures.value)
    (c.in_ok-extend_from_slice.ensures.items ∙ ap (λ xs. c.in_ok-out.out.items ++ xs) c.deref-5.ensures.value)
    (c.in_ok-extend_from_slice-2.ensures.items ∙ ap (λ xs. c.extend_from_slice.new.self.items ++ xs) c.deref-6.ensures.value)
    c.in_ok-extend_from_slice-3.ensures.items
