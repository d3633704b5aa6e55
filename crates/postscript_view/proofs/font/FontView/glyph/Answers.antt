use Rattle.std.proofs.Common.{◌≡◌, ◌<◌, ◌≤◌, length, inl, refl, sym, ap, subst, ltb-true, arith, Some, slice_get}
use Rattle.std.proofs.lemmas.Option.{slice_get_past, slice_get_read}
use Rattle.postscript_base.specs.Index.Lent.{items_of}
use Rattle.postscript_view.proofs.font.FontView.glyph.Goals as goal

pub returns-in_default-clause-none : goal.returns-in_default-clause-none
returns-in_default-clause-none c = λ code part h. c.in_default.ensures.none h.number h.has_number

pub returns-in_default-clause-alone : goal.returns-in_default-clause-alone
returns-in_default-clause-alone c = λ part one.
    let parts = c.args.self.now.parts.items in
    let codes = items_of c.args.self.now.char_strings in
    let single : length parts ≡ 1 = ap length one in
    let not_there : c.args.i < length codes → ⊥ =
    λ there. c.in_default.ensures.none 0
    (record { glyph_there = there; part_there = omega (arith, single); selected = inl (single, refl) }) in
    let past : length codes ≤ c.args.i = omega (arith, not_there) in
    (sym (slice_get_past codes c.args.i past), tt)

pub returns-clause-found : goal.returns-clause-found
returns-clause-found c =
    let number = c.in-Some.number in
    let part = c.in-Some-Some.part.now in
    let lookup = c.in-Some-Some.ensures'.lookup in
    record {
      number = number;
      has_number = c.in-Some.ensures.found;
      has_part = subst (λ parts. slice_get parts number ≡ Some part) c.deref.ensures.value
          (slice_get_read _ _ number part refl (ltb-true _ _ (sym lookup.0)) lookup.1);
      has_code = sym c.in-Some-Some.ensures;
    }
