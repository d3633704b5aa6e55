use Rattle.std.proofs.Common.{refl, sym, subst, List, [], ◌∷◌, arith}
use Rattle.std.specs.List.{Contains}
use Rattle.std.proofs.lemmas.List.Elements.{Contains-append_right}
use Rattle.postscript_sfnt_write.specs.declared.file.Table.{Table}
use Rattle.postscript_instance_file.proofs.instance.all_tables.Goals as goal

pub returns : goal.returns
returns c =
    let font : Table = record { tag = 0x43464620; bytes = c.args.font } in
    record {
      have = record {
        table = font;
        there =
            subst (λ (xs : List Table). Contains xs font) (sym c.in_ok-push.ensures.items)
            (Contains-append_right _ (font ∷ []) font (0, omega arith, refl));
        tag = refl;
        bytes = refl;
      };
    }
