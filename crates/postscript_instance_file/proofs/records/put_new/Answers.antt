use Rattle.std.proofs.Common.{◌≡◌, ◌∙◌, ◌++◌, ◌∷◌, [], inl, inr, ap, refl, subst, sym, ℕ, List, map, take, append_assoc, get_or, arith}
use Rattle.std.proofs.lemmas.List.{map-append, map_more}
use Rattle.std.proofs.lemmas.List.Elements.{Contains-append_cases}
use Rattle.postscript_instance_file.specs.Names.{IsInEnglish}
use Rattle.postscript_instance_file.specs.declared.records.Text.{Text}
use Rattle.postscript_instance_file.proofs.Naming.{only}
use Rattle.postscript_text.specs.declared.names.Record.{Record}
use Rattle.postscript_instance_file.proofs.records.put_new.Goals as goal

pub loop-text-preserved : goal.loop-text-preserved
loop-text-preserved c =
    let so_far = c.loop-text.invariant in
    let text = c.text-item.result in
    let entry : Record = record {
      platform = 3;
      encoding = 1;
      language = 0x409;
      identifier = text.identifier;
      start = c.loop-text.place;
      text = c.as_slice.result;
    } in
    let of_entry = λ (entry : Record). entry.identifier in
    let of_text = λ (text : Text). text.identifier in
    let item : get_or c.args.texts.now c.loop-text.text-index text ≡ text = sym c.text-item.is in
    let more = map_more of_text c.args.texts.now c.loop-text.text-index text (omega arith) in (
      so_far.0 ++ entry ∷ [],
      c.in_ok-push.ensures.items ∙ ap (λ (xs : List Record). xs ++ entry ∷ []) so_far.1 ∙ append_assoc c.args.records.now.items so_far.0 (entry ∷ []),
      map-append of_entry so_far.0 (entry ∷ []) ∙ ap (λ (xs : List ℕ). xs ++ text.identifier ∷ []) so_far.2
          ∙ sym (more ∙ ap (λ (one : Text). map of_text (take c.loop-text.text-index c.args.texts.now) ++ one.identifier ∷ []) item),
      λ one is. elim (Contains-append_cases so_far.0 (entry ∷ []) one is) [
        | inl before ↦ so_far.3 one before
        | inr now ↦ subst IsInEnglish (only entry one now) (refl, refl, refl)
      ],
    )
