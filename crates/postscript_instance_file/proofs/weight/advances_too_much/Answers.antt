use Rattle.std.proofs.Common.{◌≡◌, subst, ap, sym, ◌∙◌, ℕ, ◌+◌, ◌*◌, rules}
use Rattle.postscript_base.specs.Index.{number_at}
use Rattle.postscript_instance_file.specs.Faces.{hvar_tag}
use Rattle.postscript_instance_file.specs.Weights.{HasWideData, axes_in}
use Rattle.postscript_instance_file.proofs.Weighing.{no-wide, not-false, one-table, same-stores}
use Rattle.postscript_variation.specs.Lent.{IsStoreAt}
use Rattle.postscript_instance_file.proofs.weight.advances_too_much.Goals as goal

pub returns-in-Ok-read : goal.returns-in-Ok-read
returns-in-Ok-read c =
    let face = c.args.face.now in
    let hvar = c.in-Some.hvar.now in
    let is_store : IsStoreAt hvar (number_at hvar 4 4) c.in-Ok-read.store =
    subst (λ (place : ℕ). IsStoreAt hvar place c.in-Ok-read.store) c.in-Ok.ensures.exact.1 c.in-Ok-read.ensures.exact in
    let sums : c.sums_of.result ≡ (axes_in face.axes + 1) * face.glyphs =
    c.sums_of.ensures ∙ ap (λ (n : ℕ). (n + 1) * face.glyphs) c.requires.are in (
      λ h. record {
        varies = search rules;
        hvar = hvar;
        table = c.in-Some.ensures;
        store = c.in-Ok-read.store;
        is_store = is_store;
        wide = subst (λ (sums : ℕ). HasWideData c.in-Ok-read.store sums) sums (c.has_wide_data.ensures.wide h);
      },
      λ many. not-false c.has_wide_data.result (λ off.
          no-wide many.store c.in-Ok-read.store c.sums_of.result
          (same-stores many.hvar hvar many.store c.in-Ok-read.store (one-table face.file hvar_tag many.hvar hvar many.table c.in-Some.ensures)
          many.is_store is_store)
          (c.has_wide_data.ensures.narrow off) (subst (λ (sums : ℕ). HasWideData many.store sums) (sym sums) many.wide)),
    )
