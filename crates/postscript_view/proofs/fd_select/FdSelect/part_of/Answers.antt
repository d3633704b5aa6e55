use Rattle.std.proofs.Common.{ℕ}
use Rattle.std.specs.Prelude.{Option, Some, None, IfNone}
use Rattle.postscript_view.proofs.fd_select.FdSelect.part_of.Goals as goal

so_none : {A B : Type 0} (o : Option ℕ) → (A → B) → IfNone o A → IfNone o B
so_none (Some fd) f h = tt
so_none None f h = f h

pub returns-clause-none : goal.returns-clause-none
returns-clause-none c =
    let select = c.args.self.now in
    so_none c.part_of.result (λ none fd. none select.bytes.now select.place select.glyphs fd select.stands) c.part_of.ensures.none_at
