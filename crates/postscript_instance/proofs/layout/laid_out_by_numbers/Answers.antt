use Rattle.std.proofs.Common.{◌≡◌, ◌∙◌, ◌++◌, ap, subst, sym, length, arith}
use Rattle.std.proofs.lemmas.List.{length-map}
use Rattle.postscript_type2.specs.Program.Routines.{texts}
use Rattle.postscript_write.specs.Index.{FitsIndex, index_text}
use Rattle.postscript_write.proofs.Room.{they_fit}
use Rattle.postscript_instance.specs.Encoded.{keyed_places}
use Rattle.postscript_instance.specs.declared.layout.Places.{Places}
use Rattle.postscript_instance.proofs.Bytes.{keyed-bytes, keyed-small}
use Rattle.postscript_instance.proofs.Laying.{dicts-fit}
use Rattle.postscript_instance.proofs.layout.laid_out_by_numbers.Goals as goal

abbrev none : Places
none = record { char_set = 0; select = 0; char_strings = 0; private = 0; array = 0 }

pub char_strings_of-requires : goal.char_strings_of-requires
char_strings_of-requires c =
    let codes = c.args.codes.now in
    let few = c.requires.room.few_codes in
    let small = c.requires.room.small in
    they_fit (texts codes) (omega (arith, few, length-map codes (λ v. v.items))) (omega (arith, small))

pub keyed_places-places-requires : goal.keyed_places-places-requires
keyed_places-places-requires c =
    let small = keyed-small c.args.font.now c.args.name.now c.args.matrix.now c.args.codes.now c.args.privates.now c.in_ok-set.set.items
    c.in_ok-select.select.items c.in_ok-keyed_head.field-0.items none c.requires.room c.in_ok-set.ensures.set c.in_ok-select.ensures.select
    c.in_ok-keyed_head.ensures.text in
    omega (
      arith,
      small,
      c.len-start.ensures,
      ap length c.deref.ensures.value,
      ap length c.deref-2.ensures.value,
      ap length (c.deref-3.ensures.value ∙ c.in_ok-char_strings.ensures.text),
      ap length (c.deref-4.ensures.value ∙ c.in_ok-private.ensures.text),
    )

pub dictionaries-requires : goal.dictionaries-requires
dictionaries-requires c =
    let small = keyed-small c.args.font.now c.args.name.now c.args.matrix.now c.args.codes.now c.args.privates.now c.in_ok-set.set.items
    c.in_ok-select.select.items c.in_ok-keyed_head.field-0.items none c.requires.room c.in_ok-set.ensures.set c.in_ok-select.ensures.select
    c.in_ok-keyed_head.ensures.text in
    omega (
      arith,
      small,
      c.len-start.ensures,
      ap length c.deref.ensures.value,
      ap length c.deref-2.ensures.value,
      ap length (c.deref-3.ensures.value ∙ c.in_ok-char_strings.ensures.text),
      ap (λ (p : Places). p.private) c.keyed_places-places.ensures,
    )

pub keyed_head-requires-2-clause-places : goal.keyed_head-requires-2-clause-places
keyed_head-requires-2-clause-places c =
    let small = keyed-small c.args.font.now c.args.name.now c.args.matrix.now c.args.codes.now c.args.privates.now c.in_ok-set.set.items
    c.in_ok-select.select.items c.in_ok-keyed_head.field-0.items none c.requires.room c.in_ok-set.ensures.set c.in_ok-select.ensures.select
    c.in_ok-keyed_head.ensures.text in
    let start = c.len-start.ensures in
    let d1 = ap length c.deref.ensures.value in
    let d2 = ap length c.deref-2.ensures.value in
    let d3 = ap length (c.deref-3.ensures.value ∙ c.in_ok-char_strings.ensures.text) in
    let d4 = ap length (c.deref-4.ensures.value ∙ c.in_ok-private.ensures.text) in
    let is = c.keyed_places-places.ensures in
    record {
      char_set = omega (arith, small, start, ap (λ (p : Places). p.char_set) is);
      select = omega (arith, small, start, d1, ap (λ (p : Places). p.select) is);
      char_strings = omega (arith, small, start, d1, d2, ap (λ (p : Places). p.char_strings) is);
      private = omega (arith, small, start, d1, d2, d3, ap (λ (p : Places). p.private) is);
      array = omega (arith, small, start, d1, d2, d3, d4, ap (λ (p : Places). p.array) is);
    }

pub put_index-requires : goal.put_index-requires
put_index-requires c =
    let privates = c.args.privates.now in
    let few = c.requires.room.few_privates in
    subst FitsIndex (sym (ap texts c.deref-9.ensures.value ∙ c.in_ok-array.ensures.are))
    (dicts-fit (texts privates) c.keyed_places-places.result.private (omega (arith, few, length-map privates (λ v. v.items))))

pub returns-clause-bytes : goal.returns-clause-bytes
returns-clause-bytes c =
    let set = c.in_ok-set.set.items in
    let select = c.in_ok-select.select.items in
    let cs = c.in_ok-char_strings.char_strings.items in
    let ps = c.in_ok-private.private.items in
    let start = c.len-start.result in
    let long : start ≡ length c.in_ok-keyed_head.field-0.items = omega (arith, c.len-start.ensures) in
    let small = keyed-small c.args.font.now c.args.name.now c.args.matrix.now c.args.codes.now c.args.privates.now set select
    c.in_ok-keyed_head.field-0.items none c.requires.room c.in_ok-set.ensures.set c.in_ok-select.ensures.select
    c.in_ok-keyed_head.ensures.text in
    let places = c.keyed_places-places.ensures
    ∙ ap (λ xs. keyed_places start xs c.deref-2.result.now c.deref-3.result.now c.deref-4.result.now) c.deref.ensures.value
    ∙ ap (λ xs. keyed_places start set xs c.deref-3.result.now c.deref-4.result.now) c.deref-2.ensures.value
    ∙ ap (λ xs. keyed_places start set select xs c.deref-4.result.now) c.deref-3.ensures.value
    ∙ ap (keyed_places start set select cs) c.deref-4.ensures.value in
    keyed-bytes c.args.font.now c.args.name.now c.args.matrix.now c.args.codes.now c.args.privates.now set select cs ps
    c.in_ok-keyed_head.field-0.items start none c.keyed_places-places.result (texts c.in_ok-array.array.items) c.in_ok-out.out.items
    c.extend_from_slice.new.self.items c.extend_from_slice-2.new.self.items c.extend_from_slice-3.new.self.items
    c.extend_from_slice-4.new.self.items c.put_index.new.out.items c.in_ok-set.ensures.set c.in_ok-select.ensures.select
    c.in_ok-char_strings.ensures.text c.in_ok-private.ensures.text c.in_ok-keyed_head.ensures.text long places
    (omega (arith, small, long)) c.in_ok-array.ensures.are c.in_ok-out.ensures.text
    (c.in_ok-extend_from_slice.ensures.items ∙ ap (λ xs. c.in_ok-out.out.items ++ xs) c.deref-5.ensures.value)
    (c.in_ok-extend_from_slice-2.ensures.items ∙ ap (λ xs. c.extend_from_slice.new.self.items ++ xs) c.deref-6.ensures.value)
    (c.in_ok-extend_from_slice-3.ensures.items ∙ ap (λ xs. c.extend_from_slice-2.new.self.items ++ xs) c.deref-7.ensures.value)
    (c.in_ok-extend_from_slice-4.ensures.items ∙ ap (λ xs. c.extend_from_slice-3.new.self.items ++ xs) c.deref-8.ensures.value)
    (c.in_ok-put_index.ensures.text ∙ ap (λ xs. c.extend_from_slice-4.new.self.items ++ index_text (texts xs)) c.deref-9.ensures.value)
