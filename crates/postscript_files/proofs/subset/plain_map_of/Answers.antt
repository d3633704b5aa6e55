use Rattle.std.proofs.lemmas.List.{length-map}
use Rattle.std.proofs.Common.{◌≡◌, ◌∙◌, ap, arith, length, ℕ, List, subst}
use Rattle.postscript_sfnt_write.specs.Mappings.{AreTold, AreToldIn4, FitFormat4, HasOnlyFormat4, in_segments}
use Rattle.postscript_sfnt_write.specs.declared.mapping.Mapping.{Mapping}
use Rattle.postscript_files.specs.Renumbered.{AreRenumbered}
use Rattle.postscript_files.proofs.subset.plain_map_of.Goals as goal

pub returns-in-Ok-clause-map : goal.returns-in-Ok-clause-map
returns-in-Ok-clause-map c =
    let cmap = c.in-Ok.cmap.items in
    let all = c.in_ok-all.all.items in
    let same : c.deref-2.result.now ≡ all = c.deref-2.ensures.value in record {
      mappings = all;
      numbers = c.in_ok-numbers.numbers.items;
      numbered = c.in_ok-numbers.ensures.numbers;
      are = subst (λ (ns : List ℕ). AreRenumbered c.args.pairs.now ns all) c.deref.ensures.value c.in_ok-all.ensures.renumbered;
      readable = c.in-Ok.ensures.read;
      told = subst (λ (ms : List Mapping). AreTold cmap ms) same c.in-Ok.ensures.told;
      headers = c.in-Ok.ensures.headers;
      format4 = c.in-Ok.ensures.format4;
      told_in_4 = subst (λ (ms : List Mapping). AreToldIn4 cmap (in_segments ms)) same c.in-Ok.ensures.told_in_4;
      only = subst (λ (ms : List Mapping). FitFormat4 ms → HasOnlyFormat4 cmap) same c.in-Ok.ensures.only;
      records = c.in-Ok.ensures.records;
      ascend = c.in-Ok.ensures.ascend;
      closed = c.in-Ok.ensures.closed;
      size = (
          let s = c.in-Ok.ensures.size in
          let many = ap length c.in_ok-all.ensures.renumbered ∙ length-map c.args.pairs.now _ in
          omega (arith, s, many, ap length same)
          );
    }
